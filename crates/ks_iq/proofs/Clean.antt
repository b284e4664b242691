-- What a clean task answers is a read in each journal that it follows: it is what the replica that it leaves would answer.
use Rattle.std.proofs.Common.{◌≡◌, ℕ, ◌≤◌, Bool, true, false, cond, List, Option, Some, None, refl, sym, ap, ◌∙◌}
use Rattle.std.specs.Prelude.{Result, Ok, Err, IfOk}
use Rattle.std.specs.Bool.{Decides}
use Rattle.ks_record.specs.Parts.{same_task}
use Rattle.ks_record.specs.declared.record.TaskId.{TaskId}
use Rattle.ks_def_runs.specs.Bytes.{empty_store}
use Rattle.ks_plan.specs.Drafts.{DraftView}
use Rattle.ks_history.specs.declared.journal.Entry.{Entry}
use Rattle.ks_history.specs.State.{Setup}
use Rattle.ks_history.specs.Machine.{has_topic}
use Rattle.ks_history.specs.Follows.{TaskView, TaskFollows, ReplicaFollows}
use Rattle.ks_history.specs.History.{at}
use Rattle.ks_law_restore.specs.Replicas.{rested_view}
use Rattle.ks_law_restore.proofs.Replicas.{rested_follows}
use Rattle.ks_task.specs.declared.inputs.Input.{Input}
use Rattle.ks_task.specs.Tasks.{IsClean}
use Rattle.ks_task.specs.Views.{position_in, committed_in, are_committed}
use Rattle.ks_task.proofs.Viewing.{is_clean, clean_is}
use Rattle.ks_iq.specs.declared.ask.Ask.{Ask}
use Rattle.ks_iq.specs.declared.answer.Answer.{Answer}
use Rattle.ks_iq.specs.declared.fault.IqFault.{IqFault}
use Rattle.ks_iq.specs.declared.fault.IqFault.TheVariants.{NotClean, WrongTask}
use Rattle.ks_iq.specs.Asks.{task_of, ask_fault, if_fine, lent_answer, active_answer, IsActiveAnswer}
use Rattle.ks_iq.specs.Reads.{IsRead, ReadsTopology}
use Rattle.ks_iq.proofs.Answering.{lent_reads, enough}

-- whether all is committed, by what a call tells of it
pub clean_told : (inputs : List Input) (clean : Bool) → (clean ≡ true → (topic : ℕ) → position_in inputs topic ≡ committed_in inputs topic) →
    (((topic : ℕ) → position_in inputs topic ≡ committed_in inputs topic) → clean ≡ true) → clean ≡ are_committed inputs inputs
clean_told inputs clean f g = by clean (are_committed inputs inputs) refl refl
  where
    by : (b e : Bool) → clean ≡ b → are_committed inputs inputs ≡ e → b ≡ e
    by true e x y = sym (is_clean inputs inputs (f x)) ∙ y
    by false false x y = refl
    by false true x y = sym x ∙ g (clean_is inputs y)

-- a task that took nothing since its last commit follows a journal as the replica that it leaves: only the stores of its changelogs count
clean_follows : (setup : Setup) (journal : List Entry) (v : TaskView) → TaskFollows setup journal v → ((topic : ℕ) → v.inputs topic ≡ v.kept topic) → ReplicaFollows setup journal (rested_view v)
clean_follows setup journal v follows clean = record {
  stores = λ topic own. sym (ap (λ b. cond b (v.stores topic) empty_store) own) ∙ neat.stores topic own;
  reached = follows.reached;
}
  where
    own_stores : TaskView
    own_stores = record v { stores = λ topic. cond (has_topic topic (setup.plan.changelogs v.task.sub)) (v.stores topic) empty_store }

    followed : TaskFollows setup journal own_stores
    followed = record {
      kept = follows.kept;
      committed = follows.committed;
      stable = follows.stable;
      order = follows.order;
      past = follows.past;
      reached = follows.reached;
      stores = λ topic own. ap (λ b. cond b (v.stores topic) empty_store) own ∙ follows.stores topic own;
      made = follows.made;
      late = follows.late;
    }

    neat : ReplicaFollows setup journal (rested_view own_stores)
    neat = rested_follows setup journal own_stores (followed, λ topic other. ap (λ b. cond b (v.stores topic) empty_store) other) (λ topic own. clean topic)

no_answer : {P : Type 0} (fault : Option IqFault) (own : Bool) (owner : TaskId) (x : Answer) → if_fine fault (cond own (Err NotClean) (Err (WrongTask owner))) ≡ Ok x → P
no_answer None true owner x g = absurd cc
no_answer None false owner x g = absurd cc
no_answer (Some f) own owner x g = absurd cc

module _ (d : DraftView) (v : TaskView) (a : Ask) (at_least : ℕ) where
  active_lent : (clean : Bool) (x : Answer) → active_answer d v clean a at_least ≡ Ok x → (clean ≡ true) × (lent_answer d (rested_view v) a at_least ≡ Ok x)
  active_lent true x h = (refl, h)
  active_lent false x h = no_answer (ask_fault d a) (same_task v.task (task_of d a)) (task_of d a) x h

  active_reads : (clean : Bool) (x : Answer) (setup : Setup) (journal : List Entry) → (clean ≡ true → (topic : ℕ) → v.inputs topic ≡ v.kept topic) → ReadsTopology d setup → TaskFollows setup journal v →
      active_answer d v clean a at_least ≡ Ok x → IsRead d (at setup journal) a x
  active_reads clean x setup journal rests top follows h =
      let lent = active_lent clean x h in
      lent_reads d setup journal (rested_view v) a at_least x top (clean_follows setup journal v follows (rests lent.0)) lent.1

  -- of a call's answer
  pub all_active : {E : Type 0} (result : Result (Result Answer IqFault) E) (clean : Bool) (setup : Setup) (journal : List Entry) → (clean ≡ true → (topic : ℕ) → v.inputs topic ≡ v.kept topic) → ReadsTopology d setup →
      TaskFollows setup journal v → IfOk result (λ x. x ≡ active_answer d v clean a at_least) → IfOk result (λ x. IfOk x (IsRead d (at setup journal) a))
  all_active (Ok (Ok x)) clean setup journal rests top follows e = active_reads clean x setup journal rests top follows (sym e)
  all_active (Ok (Err f)) clean setup journal rests top follows e = tt
  all_active (Err z) clean setup journal rests top follows e = tt

  -- by whether each position is the committed offset
  pub active_exact : {E : Type 0} (result : Result (Result Answer IqFault) E) (clean : Bool) → Decides clean (IsClean v) → IfOk result (λ x. x ≡ active_answer d v clean a at_least) → IfOk result (IsActiveAnswer d v a at_least)
  active_exact (Ok x) clean decides e = record { clean = clean; decides = decides; is = e }
  active_exact (Err z) clean decides e = tt

  pub active_enough : {E : Type 0} (result : Result (Result Answer IqFault) E) (clean : Bool) → IfOk result (λ x. x ≡ active_answer d v clean a at_least) → IfOk result (λ x. IfOk x (λ y. at_least ≤ y.position))
  active_enough (Ok (Ok x)) clean e = enough d (rested_view v) a at_least x (active_lent clean x (sym e)).1
  active_enough (Ok (Err f)) clean e = tt
  active_enough (Err z) clean e = tt
