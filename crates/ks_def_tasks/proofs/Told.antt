-- Over bytes, a changelog tells each change of its store.
use Rattle.std.proofs.Common.{◌≡◌, ℕ, true, false, cond, Option, Some, None, nat_eq, refl}
use Rattle.ks_record.specs.Records.{Record as Rec}
use Rattle.ks_record.specs.declared.record.PartId.{PartId}
use Rattle.ks_record.specs.declared.record.TaskId.{TaskId}
use Rattle.ks_plan.specs.Plan.{Plan}
use Rattle.ks_plan.specs.declared.node.Topic.{Topic}
use Rattle.ks_plan.specs.Layout.{topic_at, reads}
use Rattle.ks_def_runs.specs.Run.{Outcome}
use Rattle.ks_def_tasks.specs.Messages.{Place, Item, Message, Store, Rules}
use Rattle.ks_def_tasks.specs.Bytes.{ByteStores, step_at, step_read, outcome_of, nothing_made, is_own_number, keep_all, records_at, message_in, store_from}
use Rattle.ks_def_tasks.specs.Tasks.{step}
use Rattle.ks_def_tasks.specs.Laws.{Tells}

-- of what a step makes of stores
record ToldBy (p : Plan) (t : TaskId) (stores : ByteStores) (n : ℕ) (o : Outcome PartId ByteStores Rec) : Type 0 where
  own : is_own_number p t.sub n ≡ true → o.store n ≡ keep_all (stores n) (records_at (record { topic = n; part = t.part }) o.made)
  other : is_own_number p t.sub n ≡ false → o.store n ≡ stores n

told_nothing : (p : Plan) (t : TaskId) (stores : ByteStores) (n : ℕ) → ToldBy p t stores n (nothing_made stores)
told_nothing p t stores n = record { own = λ e. refl; other = λ e. refl }

told_outcome : (p : Plan) (t : TaskId) (stores : ByteStores) (n : ℕ) (o : Outcome Place Store Item) → ToldBy p t stores n (outcome_of p t stores o)
told_outcome p t stores n o = record { own = λ e. rw e refl; other = λ e. rw e refl }

told_read : (rules : Rules) (p : Plan) (t : TaskId) (stores : ByteStores) (q : PartId) (topic : Topic) (time n : ℕ) (m : Option Message) →
    ToldBy p t stores n (step_read rules p t stores q topic time m)
told_read rules p t stores q topic time n None = told_nothing p t stores n
told_read rules p t stores q topic time n (Some message) = told_outcome p t stores n (step rules p t (store_from p t.sub stores) (record { topic = topic; part = q.part }) (record { message = message; time = time }))

told_at : (rules : Rules) (p : Plan) (t : TaskId) (stores : ByteStores) (q : PartId) (r : Rec) (n : ℕ) (topic : Option Topic) →
    ToldBy p t stores n (step_at rules p t stores q r topic)
told_at rules p t stores q r n None = told_nothing p t stores n
told_at rules p t stores q r n (Some topic) =
    elim (nat_eq (reads p topic) t.sub) as (λ b. ToldBy p t stores n (cond b (step_read rules p t stores q topic r.ts (message_in p topic r)) (nothing_made stores))) [
      | true ↦ told_read rules p t stores q topic r.ts n (message_in p topic r)
      | false ↦ told_nothing p t stores n
    ]

pub tells : (rules : Rules) (p : Plan) (t : TaskId) (stores : ByteStores) (q : PartId) (r : Rec) (n : ℕ) → Tells rules p t stores q r n
tells rules p t stores q r n =
    let told = told_at rules p t stores q r n (topic_at p q.topic) in
    record { own = told.own; other = told.other }
