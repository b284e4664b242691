-- What a store that is lent answers, by the place that was found.
use Rattle.std.proofs.Common.{◌≡◌, ℕ, ◌<◌, ◌≤◌, Bool, true, false, cond, List, Option, Some, None, refl, sym, ap, ap₂, ◌∙◌, lt-ltb, le-ltb}
use Rattle.std.specs.Prelude.{Result, Ok, Err, option_and_then}
use Rattle.ks_record.specs.Parts.{same_task}
use Rattle.ks_record.specs.declared.record.TaskId.{TaskId}
use Rattle.ks_def_runs.specs.Bytes.{Store}
use Rattle.ks_def_runs.specs.FinMap as fin
use Rattle.ks_plan.specs.Drafts.{DraftView, op_view}
use Rattle.ks_plan.specs.Plan.{plan_of}
use Rattle.ks_plan.specs.Layout.{kind_at}
use Rattle.ks_expr.specs.Eval.{Row}
use Rattle.ks_history.specs.Follows.{ReplicaView, TaskView}
use Rattle.ks_iq.specs.declared.ask.Ask.{Ask}
use Rattle.ks_iq.specs.declared.answer.Answer.{Answer}
use Rattle.ks_iq.specs.declared.fault.IqFault.{IqFault}
use Rattle.ks_iq.specs.declared.fault.IqFault.TheVariants.{NotClean, Behind, WrongTask}
use Rattle.ks_iq.specs.declared.place.Place.{Place}
use Rattle.ks_iq.specs.Asks.{node_of, log_of, task_of, store_key, shown_row, value_in, ask_fault, if_there, if_own, if_fine, if_clean, lent_answer, active_answer}
use Rattle.ks_iq.specs.Places.{op_row, IsPlaceOf}

abbrev pub Told : Type 0
Told = Result Answer IqFault

-- what the job has against it
bad_answer : (d : DraftView) (a : Ask) (fault : IqFault) (rest : Told) → ask_fault d a ≡ Some fault → Err fault ≡ if_fine (ask_fault d a) rest
bad_answer d a fault rest bad = sym (ap (λ o. if_fine o rest) bad)

module _ (d : DraftView) (a : Ask) (p : Place) (h : IsPlaceOf d a p) (task : TaskId) (inner : ℕ → Told) where
  -- another task's
  other_answer : same_task task p.task ≡ false → Err (WrongTask p.task) ≡ if_fine (ask_fault d a) (if_own task (task_of d a) (inner (log_of d a)))
  other_answer other =
      sym (ap (λ o. if_fine o (if_own task (task_of d a) (inner (log_of d a)))) h.fine
      ∙ (ap (λ t. if_own task t (inner (log_of d a))) (sym h.task) ∙ ap (λ b. cond b (inner (log_of d a)) (Err (WrongTask p.task))) other))

  -- its own
  own_answer : same_task task p.task ≡ true → inner p.log ≡ if_fine (ask_fault d a) (if_own task (task_of d a) (inner (log_of d a)))
  own_answer own =
      sym (ap (λ o. if_fine o (if_own task (task_of d a) (inner (log_of d a)))) h.fine
      ∙ (ap₂ (λ t l. if_own task t (inner l)) (sym h.task) (sym h.log) ∙ ap (λ b. cond b (inner p.log) (Err (WrongTask p.task))) own))

-- by the position
low : (at_least position : ℕ) (value : Option Row) → position < at_least → Err (Behind position) ≡ if_there at_least position value
low at_least position value lt = sym (ap (λ b. cond b (Err (Behind position)) (Ok (record { value = value; position = position }))) (lt-ltb position at_least lt))

high : (at_least position : ℕ) (value : Option Row) → at_least ≤ position → Ok (record { value = value; position = position }) ≡ if_there at_least position value
high at_least position value le = sym (ap (λ b. cond b (Err (Behind position)) (Ok (record { value = value; position = position }))) (le-ltb position at_least le))

behind : (at_least position at : ℕ) (value : Option Row) → position ≡ at → position < at_least → Err (Behind position) ≡ if_there at_least at value
behind at_least position at value is lt = low at_least position value lt ∙ ap (λ n. if_there at_least n value) is

far_enough : (at_least position at : ℕ) (value shown : Option Row) → position ≡ at → value ≡ shown → at_least ≤ position → Ok (record { value = value; position = position }) ≡ if_there at_least at shown
far_enough at_least position at value shown is same le = high at_least position value le ∙ ap₂ (λ n v. if_there at_least n v) is same

-- by whether the task is clean
taken_on : (clean : Bool) (answer : Told) → clean ≡ false → Err NotClean ≡ if_clean clean answer
taken_on clean answer e = sym (ap (λ b. cond b answer (Err NotClean)) e)

clean_then : (clean : Bool) (answer : Told) → clean ≡ true → answer ≡ if_clean clean answer
clean_then clean answer e = sym (ap (λ b. cond b answer (Err NotClean)) e)

-- the row of what was found
same_then : {A B : Type 0} (f g : A → Option B) (o : Option A) → ((x : A) → f x ≡ g x) → option_and_then f o ≡ option_and_then g o
same_then f g None h = refl
same_then f g (Some x) h = h x

found_row : (d : DraftView) (a : Ask) (p : Place) (store : Store) (found : Option (List ℕ)) (key : List ℕ) → IsPlaceOf d a p → found ≡ fin.get store key → key ≡ store_key a.key a.start →
    option_and_then (op_row (op_view p.node.now.op)) found ≡ value_in d a store
found_row d a p store found key h is at =
    sym (same_then (shown_row (kind_at (plan_of d) (node_of d a))) (op_row (op_view p.node.now.op)) found h.shows)
    ∙ ap (option_and_then (shown_row (kind_at (plan_of d) (node_of d a)))) (is ∙ ap (fin.get store) at)

-- ---- a replica's whole answer
pub lent_bad : (d : DraftView) (r : ReplicaView) (a : Ask) (at_least : ℕ) (fault : IqFault) → ask_fault d a ≡ Some fault → Err fault ≡ lent_answer d r a at_least
lent_bad d r a at_least fault bad = bad_answer d a fault (if_own r.task (task_of d a) (if_there at_least (r.position (log_of d a)) (value_in d a (r.stores (log_of d a))))) bad

module _ (d : DraftView) (r : ReplicaView) (a : Ask) (at_least : ℕ) (p : Place) (h : IsPlaceOf d a p) where
  abbrev inner : ℕ → Told
  inner log = if_there at_least (r.position log) (value_in d a (r.stores log))

  pub lent_other : same_task r.task p.task ≡ false → Err (WrongTask p.task) ≡ lent_answer d r a at_least
  lent_other other = other_answer d a p h r.task inner other

  pub lent_behind : same_task r.task p.task ≡ true → (position : ℕ) → position ≡ r.position p.log → position < at_least → Err (Behind position) ≡ lent_answer d r a at_least
  lent_behind own position is lt = behind at_least position (r.position p.log) (value_in d a (r.stores p.log)) is lt ∙ own_answer d a p h r.task inner own

  pub lent_value : same_task r.task p.task ≡ true → (position : ℕ) → position ≡ r.position p.log → at_least ≤ position →
      (value : Option Row) (found : Option (List ℕ)) (key : List ℕ) → value ≡ option_and_then (op_row (op_view p.node.now.op)) found → found ≡ fin.get (r.stores p.log) key → key ≡ store_key a.key a.start →
      Ok (record { value = value; position = position }) ≡ lent_answer d r a at_least
  lent_value own position is le value found key shows get at =
      far_enough at_least position (r.position p.log) value (value_in d a (r.stores p.log)) is (shows ∙ found_row d a p (r.stores p.log) found key h get at) le
      ∙ own_answer d a p h r.task inner own

-- ---- a task's
pub active_bad : (d : DraftView) (t : TaskView) (clean : Bool) (a : Ask) (at_least : ℕ) (fault : IqFault) → ask_fault d a ≡ Some fault → Err fault ≡ active_answer d t clean a at_least
active_bad d t clean a at_least fault bad = bad_answer d a fault (if_own t.task (task_of d a) (if_clean clean (if_there at_least (t.position (log_of d a)) (value_in d a (t.stores (log_of d a)))))) bad

module _ (d : DraftView) (t : TaskView) (clean : Bool) (a : Ask) (at_least : ℕ) (p : Place) (h : IsPlaceOf d a p) where
  abbrev placed : ℕ → Told
  placed log = if_there at_least (t.position log) (value_in d a (t.stores log))

  abbrev within : ℕ → Told
  within log = if_clean clean (placed log)

  pub active_other : same_task t.task p.task ≡ false → Err (WrongTask p.task) ≡ active_answer d t clean a at_least
  active_other other = other_answer d a p h t.task within other

  pub active_taken : same_task t.task p.task ≡ true → clean ≡ false → Err NotClean ≡ active_answer d t clean a at_least
  active_taken own taken = taken_on clean (placed p.log) taken ∙ own_answer d a p h t.task within own

  pub active_behind : same_task t.task p.task ≡ true → clean ≡ true → (position : ℕ) → position ≡ t.position p.log → position < at_least → Err (Behind position) ≡ active_answer d t clean a at_least
  active_behind own rests position is lt =
      behind at_least position (t.position p.log) (value_in d a (t.stores p.log)) is lt ∙ (clean_then clean (placed p.log) rests ∙ own_answer d a p h t.task within own)

  pub active_value : same_task t.task p.task ≡ true → clean ≡ true → (position : ℕ) → position ≡ t.position p.log → at_least ≤ position →
      (value : Option Row) (found : Option (List ℕ)) (key : List ℕ) → value ≡ option_and_then (op_row (op_view p.node.now.op)) found → found ≡ fin.get (t.stores p.log) key → key ≡ store_key a.key a.start →
      Ok (record { value = value; position = position }) ≡ active_answer d t clean a at_least
  active_value own rests position is le value found key shows get at =
      far_enough at_least position (t.position p.log) value (value_in d a (t.stores p.log)) is (shows ∙ found_row d a p (t.stores p.log) found key h get at) le
      ∙ (clean_then clean (placed p.log) rests ∙ own_answer d a p h t.task within own)
