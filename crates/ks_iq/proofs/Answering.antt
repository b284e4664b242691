-- What a replica answers is a read in each journal that it follows.
use Rattle.std.proofs.Common.{◌≡◌, ℕ, ◌<◌, ◌≤◌, Bool, true, false, cond, List, length, Option, Some, None, refl, sym, ap, ap₂, subst, ◌∙◌, arith, ltb-true, ltb-false}
use Rattle.ks_history.specs.Partition.{recs, below}
use Rattle.ks_history.specs.Machine.{latest}
use Rattle.ks_history.specs.Faithful.{decided}
use Rattle.std.specs.Prelude.{Result, Ok, Err, nat_lt, IfOk}
use Rattle.ks_record.specs.Parts.{same_task}
use Rattle.ks_record.specs.declared.record.TaskId.{TaskId}
use Rattle.ks_plan.specs.Drafts.{DraftView}
use Rattle.ks_plan.specs.Plan.{plan_of, is_stream, is_windowed}
use Rattle.ks_plan.specs.Layout.{kind_at}
use Rattle.ks_plan.specs.Infos.{changelog_numbers}
use Rattle.ks_expr.specs.Eval.{Row}
use Rattle.ks_history.specs.declared.journal.Entry.{Entry}
use Rattle.ks_history.specs.Machine.{has_topic, part_of}
use Rattle.ks_history.specs.State.{Setup}
use Rattle.ks_history.specs.Follows.{ReplicaView, ReplicaFollows, IsReached}
use Rattle.ks_history.specs.History.{at}
use Rattle.ks_history.proofs.Names.{same_task-is}
use Rattle.ks_iq.specs.declared.ask.Ask.{Ask}
use Rattle.ks_iq.specs.declared.answer.Answer.{Answer}
use Rattle.ks_iq.specs.declared.fault.IqFault.{IqFault}
use Rattle.ks_iq.specs.declared.fault.IqFault.TheVariants.{Behind, WrongTask}
use Rattle.ks_plan.specs.declared.node.Topic.TheVariants.{Changelog}
use Rattle.ks_plan.specs.Layout.{number_of}
use Rattle.ks_iq.specs.Asks.{node_of, kept_at, log_of, task_of, part_of_ask, value_in, store_fault, ask_fault, if_there, if_own, if_fine, lent_answer}
use Rattle.ks_iq.specs.Reads.{IsRead, ReadsTopology}
use Rattle.ks_settle.proofs.Named.{kinds_all, own_number}

-- ---- what an answer tells
record Told (d : DraftView) (r : ReplicaView) (a : Ask) (x : Answer) : Type 0 where
  fine : ask_fault d a ≡ None
  task : r.task ≡ task_of d a
  position : x.position ≡ r.position (log_of d a)
  value : x.value ≡ value_in d a (r.stores (log_of d a))

told : (d : DraftView) (r : ReplicaView) (a : Ask) (at_least : ℕ) (x : Answer) → lent_answer d r a at_least ≡ Ok x → Told d r a x
told d r a at_least x h = by (ask_fault d a) refl h
  where
    pos : ℕ
    pos = r.position (log_of d a)

    row : Option Row
    row = value_in d a (r.stores (log_of d a))

    there : (b : Bool) → ask_fault d a ≡ None → r.task ≡ task_of d a → cond b (Err (Behind pos)) (Ok (record { value = row; position = pos })) ≡ Ok x → Told d r a x
    there true f t g = absurd cc
    there false f t g =
        let same : record { value = row; position = pos } ≡ x = cc in
        record { fine = f; task = t; position = sym (ap (λ (y : Answer). y.position) same); value = sym (ap (λ (y : Answer). y.value) same) }

    own : (b : Bool) → same_task r.task (task_of d a) ≡ b → ask_fault d a ≡ None → cond b (if_there at_least pos row) (Err (WrongTask (task_of d a))) ≡ Ok x → Told d r a x
    own true s f g = there (nat_lt pos at_least) f (same_task-is r.task (task_of d a) s) g
    own false s f g = absurd cc

    by : (o : Option IqFault) → ask_fault d a ≡ o → if_fine o (if_own r.task (task_of d a) (if_there at_least pos row)) ≡ Ok x → Told d r a x
    by None f g = own (same_task r.task (task_of d a)) refl f g
    by (Some fault) f g = absurd cc

-- a node that keeps something is one, and no stream
pub kept : (d : DraftView) (n : ℕ) (w : Bool) (start : Option ℕ) → store_fault (kept_at d n) w start ≡ None → (n < length d.nodes) × (is_stream (kind_at (plan_of d) n) ≡ false)
kept d n w start h = by (nat_lt n (length d.nodes)) (is_stream (kind_at (plan_of d) n)) refl refl h
  where
    by : (b c : Bool) → nat_lt n (length d.nodes) ≡ b → is_stream (kind_at (plan_of d) n) ≡ c → store_fault (cond b (cond c None (Some (number_of (plan_of d) (Changelog n)))) None) w start ≡ None → (n < length d.nodes) × (is_stream (kind_at (plan_of d) n) ≡ false)
    by true false x y g = (ltb-true n (length d.nodes) x, y)
    by true true x y g = absurd cc
    by false c x y g = absurd cc

-- the changelog of an ask is its task's
pub own_log : (d : DraftView) (setup : Setup) (a : Ask) → ReadsTopology d setup → ask_fault d a ≡ None → has_topic (log_of d a) (setup.plan.changelogs (task_of d a).sub) ≡ true
own_log d setup a top fine =
    let k = kept d (node_of d a) (is_windowed (kind_at (plan_of d) (node_of d a))) a.start fine in
    ap (has_topic (log_of d a)) (top.changelogs (task_of d a).sub) ∙ own_number (plan_of d) (node_of d a) (omega (arith, k.0, kinds_all d)) k.1

pub lent_reads : (d : DraftView) (setup : Setup) (journal : List Entry) (r : ReplicaView) (a : Ask) (at_least : ℕ) (x : Answer) →
    ReadsTopology d setup → ReplicaFollows setup journal r → lent_answer d r a at_least ≡ Ok x → IsRead d (at setup journal) a x
lent_reads d setup journal r a at_least x top follows h =
    let t : Told d r a x = told d r a at_least x h in
    let k = kept d (node_of d a) (is_windowed (kind_at (plan_of d) (node_of d a))) a.start t.fine in
    let own : has_topic (log_of d a) (changelog_numbers (plan_of d) (task_of d a).sub) ≡ true = own_number (plan_of d) (node_of d a) (omega (arith, k.0, kinds_all d)) k.1 in
    let there : has_topic (log_of d a) (setup.plan.changelogs r.task.sub) ≡ true = ap (has_topic (log_of d a)) (ap (λ (u : TaskId). setup.plan.changelogs u.sub) t.task ∙ top.changelogs (task_of d a).sub) ∙ own in
    let part : part_of (log_of d a) r.task ≡ part_of_ask d a = ap (part_of (log_of d a)) t.task in
    record {
      fine = t.fine;
      reached = subst (λ q. IsReached (at setup journal) (part_of_ask d a) q) (sym t.position)
          (subst (λ p. IsReached (at setup journal) p (r.position (log_of d a))) part (follows.reached (log_of d a) there));
      value = t.value ∙ ap (value_in d a) (follows.stores (log_of d a) there
          ∙ ap₂ (λ q p. latest (recs (below q (decided (at setup journal) p)))) (sym t.position) part);
    }

pub enough : (d : DraftView) (r : ReplicaView) (a : Ask) (at_least : ℕ) (x : Answer) → lent_answer d r a at_least ≡ Ok x → at_least ≤ x.position
enough d r a at_least x h = by (ask_fault d a) h
  where
    pos : ℕ
    pos = r.position (log_of d a)

    row : Option Row
    row = value_in d a (r.stores (log_of d a))

    there : (b : Bool) → nat_lt pos at_least ≡ b → cond b (Err (Behind pos)) (Ok (record { value = row; position = pos })) ≡ Ok x → at_least ≤ x.position
    there true s g = absurd cc
    there false s g = let same : record { value = row; position = pos } ≡ x = cc in subst (λ n. at_least ≤ n) (ap (λ (y : Answer). y.position) same) (ltb-false pos at_least s)

    own : (b : Bool) → cond b (if_there at_least pos row) (Err (WrongTask (task_of d a))) ≡ Ok x → at_least ≤ x.position
    own true g = there (nat_lt pos at_least) refl g
    own false g = absurd cc

    by : (o : Option IqFault) → if_fine o (if_own r.task (task_of d a) (if_there at_least pos row)) ≡ Ok x → at_least ≤ x.position
    by None g = own (same_task r.task (task_of d a)) g
    by (Some fault) g = absurd cc

-- of a call's answer
module _ (d : DraftView) (r : ReplicaView) (a : Ask) (at_least : ℕ) {E : Type 0} where
  pub all_reads : (result : Result (Result Answer IqFault) E) (setup : Setup) (journal : List Entry) → ReadsTopology d setup → ReplicaFollows setup journal r →
      IfOk result (λ x. x ≡ lent_answer d r a at_least) → IfOk result (λ x. IfOk x (IsRead d (at setup journal) a))
  all_reads (Ok (Ok x)) setup journal top follows e = lent_reads d setup journal r a at_least x top follows (sym e)
  all_reads (Ok (Err f)) setup journal top follows e = tt
  all_reads (Err z) setup journal top follows e = tt

  pub all_enough : (result : Result (Result Answer IqFault) E) → IfOk result (λ x. x ≡ lent_answer d r a at_least) → IfOk result (λ x. IfOk x (λ y. at_least ≤ y.position))
  all_enough (Ok (Ok x)) e = enough d r a at_least x (sym e)
  all_enough (Ok (Err f)) e = tt
  all_enough (Err z) e = tt
