-- Over bytes, no task makes a record for another's changelog.
use Rattle.std.proofs.Common.{◌≡◌, ℕ, true, false, cond, ◌&&◌, ◌==◌, nat_eq, List, [], ◌∷◌, Option, Some, None, refl, sym, ap, ◌∙◌}
use Rattle.std.specs.List.{filter}
use Rattle.std.proofs.lemmas.Bool.{and_parts, and_from}
use Rattle.std.proofs.lemmas.Bool.Decides.{Decides-eqb}
use Rattle.ks_record.specs.Records.{Record as Rec}
use Rattle.ks_record.specs.declared.record.PartId.{PartId}
use Rattle.ks_record.specs.declared.record.TaskId.{TaskId}
use Rattle.ks_record.specs.Parts.{same_task, same_part}
use Rattle.ks_plan.specs.Plan.{Plan}
use Rattle.ks_plan.specs.declared.node.Topic.{Topic}
use Rattle.std.specs.Prelude.{nat_lt}
use Rattle.ks_plan.specs.Layout.{topic_at, topics_of, number_of, parts_of_topic, reads}
use Rattle.ks_def_tasks.specs.Messages.{Place, Item, Message, Rules}
use Rattle.ks_def_tasks.specs.Tasks.{step, is_changelog}
use Rattle.ks_def_tasks.specs.Bytes.{ByteStores, byte_step, step_at, step_read, nothing_made, is_own, is_own_number, is_sent, spelled, part_id, records_at, message_in, store_from}
use Rattle.ks_def_tasks.proofs.Numbers.{place-is, kept_at}

module _ (p : Plan) (t u : TaskId) (n : ℕ) (apart : same_task u t ≡ false) (own : is_own_number p u.sub n ≡ true) where
  abbrev here : PartId
  here = record { topic = n; part = u.part }

  -- what the task sends goes elsewhere
  elsewhere : (x : Place × Item) → is_sent p t x ≡ true → same_part here (part_id p x.0) ≡ false
  elsewhere x sent = elim (same_part here (part_id p x.0)) as (λ b. same_part here (part_id p x.0) ≡ b → b ≡ false) [
    | true ↦ λ e. let parts = and_parts (n == number_of p x.0.topic) (u.part == x.0.part) e in here_not ((Decides-eqb n (number_of p x.0.topic)).0 parts.0) ((Decides-eqb u.part x.0.part).0 parts.1)
    | false ↦ λ e. refl
  ] refl
    where
      here_not : n ≡ number_of p x.0.topic → u.part ≡ x.0.part → true ≡ false
      here_not e f =
          let k = kept_at p u.sub n own in
          let at : topic_at p (number_of p x.0.topic) ≡ Some k.topic = ap (topic_at p) (sym e ∙ k.is) ∙ k.holds.0.0 in
          let same : k.topic ≡ x.0.topic = place-is (topics_of p) x.0.topic k.topic at in
          let log : is_changelog x.0.topic ≡ true = ap is_changelog (sym same) ∙ k.holds.0.1 in
          let mine = and_parts (is_own p t.sub x.0.topic) (x.0.part == t.part) (sym (ap (λ b. cond b (is_own p t.sub x.0.topic && (x.0.part == t.part)) (nat_lt x.0.part (parts_of_topic p x.0.topic))) log) ∙ sent) in
          let kept = and_parts (is_changelog x.0.topic) (nat_eq (reads p x.0.topic) t.sub) mine.0 in
          let sub : u.sub ≡ t.sub = sym ((Decides-eqb (reads p k.topic) u.sub).0 k.holds.1) ∙ ap (reads p) same ∙ (Decides-eqb (reads p x.0.topic) t.sub).0 kept.1 in
          let part : u.part ≡ t.part = f ∙ (Decides-eqb x.0.part t.part).0 mine.1 in
          sym (and_from (u.sub == t.sub) (u.part == t.part) ((Decides-eqb u.sub t.sub).1 sub) ((Decides-eqb u.part t.part).1 part)) ∙ apart

  none_sent : (xs : List (Place × Item)) → records_at here (spelled p (filter (is_sent p t) xs)) ≡ []
  none_sent [] = refl
  none_sent (x ∷ xs) = elim (is_sent p t x) as (λ b. is_sent p t x ≡ b → records_at here (spelled p (cond b (x ∷ filter (is_sent p t) xs) (filter (is_sent p t) xs))) ≡ []) [
    | true ↦ λ e. rw (elsewhere x e) (none_sent xs)
    | false ↦ λ e. none_sent xs
  ] refl

  alone_read : (rules : Rules) (stores : ByteStores) (q : PartId) (topic : Topic) (time : ℕ) (m : Option Message) → records_at here (step_read rules p t stores q topic time m).made ≡ []
  alone_read rules stores q topic time None = refl
  alone_read rules stores q topic time (Some message) = none_sent (step rules p t (store_from p t.sub stores) (record { topic = topic; part = q.part }) (record { message = message; time = time })).made

  alone_at : (rules : Rules) (stores : ByteStores) (q : PartId) (r : Rec) (topic : Option Topic) → records_at here (step_at rules p t stores q r topic).made ≡ []
  alone_at rules stores q r None = refl
  alone_at rules stores q r (Some topic) =
      elim (nat_eq (reads p topic) t.sub) as (λ b. records_at here (cond b (step_read rules p t stores q topic r.ts (message_in p topic r)) (nothing_made stores)).made ≡ []) [
        | true ↦ alone_read rules stores q topic r.ts (message_in p topic r)
        | false ↦ refl
      ]

  pub alone : (rules : Rules) (stores : ByteStores) (q : PartId) (r : Rec) → records_at here (byte_step rules p t stores q r).made ≡ []
  alone rules stores q r = alone_at rules stores q r (topic_at p q.topic)
