-- What is wanted of a run, by its settings and its question.
use Rattle.std.proofs.Common.{◌≡◌, ℕ, Bool, true, false, cond, List, Option, Some, None, refl, sym, ap, subst, ◌∙◌}
use Rattle.std.specs.Prelude.{is_some, IfSome, option_and_then}
use Rattle.ks_plan.specs.Drafts.{DraftView}
use Rattle.ks_def_tasks.specs.Messages.{Rules}
use Rattle.ks_history.specs.declared.journal.Entry.{Entry}
use Rattle.ks_history.specs.Machine.{TaskPlan}
use Rattle.ks_cluster.specs.View.{ClusterView, state_of}
use Rattle.ks_cluster.specs.Placed.{PlacementTest}
use Rattle.ks_iq.specs.declared.ask.Ask.{Ask}
use Rattle.ks_iq.specs.declared.fault.IqFault.{IqFault}
use Rattle.ks_iq.specs.Asks.{ask_fault}
use Rattle.ks_iq.specs.Answered.{AreAnswers}
use Rattle.ks_job_source.specs.declared.rest.JobEnd.{JobEnd}
use Rattle.ks_run_workers.specs.declared.workers.Asked.{Asked}
use Rattle.ks_run_workers.specs.Asked.{AreAnswered}
use Rattle.ks_run_verdict.specs.Told.{refusal_of, wanted_in}
use Rattle.ks_run_verdict.specs.Told.Wanted.{answers}
use Rattle.ks_run_end.specs.declared.tail.Tail.{Tail}
use Rattle.ks_run_end.specs.Tails.{wanted_of, refusal_in, MayTell}
use Rattle.ks_run.specs.Tails.{tail_of}
use Rattle.ks_run.specs.Settling.{EndsBy}
use Rattle.ks_run.proofs.Kept.{asks_for}

-- ---- what the settings and the question ask for
pub wanted_is : {W : Type 0} (plan : W → TaskPlan) (d : DraftView) (c : ClusterView W) (shown : Bool) (question : Option Ask) (asked : Option Asked) → AreAnswered plan d c question asked → wanted_of (tail_of shown None asked) ≡ wanted_in shown question
wanted_is plan d c true None asked h = ap (λ o. wanted_of (tail_of true None o)) h
wanted_is plan d c false None asked h = ap (λ o. wanted_of (tail_of false None o)) h
wanted_is plan d c shown (Some ask) None h = absurd h
wanted_is plan d c shown (Some ask) (Some x) h = ap answers h.ask_is

pub may_tell : {W : Type 0} (plan : W → TaskPlan) (d : DraftView) (c : ClusterView W) (shown : Bool) (refusal : Option IqFault) (question : Option Ask) (asked : Option Asked) → AreAnswered plan d c question asked →
    IfSome question (λ a. ask_fault d a ≡ None) → MayTell d (state_of plan c) (tail_of shown refusal asked)
may_tell plan d c shown (Some fault) question asked h fine = tt
may_tell plan d c true None None asked h fine = subst (λ o. MayTell d (state_of plan c) (tail_of true None o)) (sym h) tt
may_tell plan d c false None None asked h fine = subst (λ o. MayTell d (state_of plan c) (tail_of false None o)) (sym h) tt
may_tell plan d c shown None (Some ask) None h fine = absurd h
may_tell plan d c shown None (Some ask) (Some x) h fine = (ap (ask_fault d) h.ask_is ∙ fine, h.times, subst (λ (a : Ask). AreAnswers d (state_of plan c) a 0 x.answers.items) (sym h.ask_is) h.reads)

-- what the topology has against it
pub good_question : (d : DraftView) (question : Option Ask) (refusal : Option IqFault) → refusal ≡ option_and_then (ask_fault d) question → IfSome (cond (is_some refusal) None question) (λ a. ask_fault d a ≡ None)
good_question d None refusal e = subst (λ r. IfSome (cond (is_some r) None None) (λ (a : Ask). ask_fault d a ≡ None)) (sym e) tt
good_question d (Some a) None e = sym e
good_question d (Some a) (Some fault) e = tt

pub refusal_is : (d : DraftView) (shown : Bool) (question : Option Ask) (refusal : Option IqFault) → refusal ≡ option_and_then (ask_fault d) question → refusal_of d (wanted_in shown question) ≡ refusal
refusal_is d shown question refusal e = ap (option_and_then (ask_fault d)) (asks_for shown question) ∙ sym e

pub wanted_so : {W : Type 0} (plan : W → TaskPlan) (d : DraftView) (c : ClusterView W) (shown : Bool) (question : Option Ask) (refusal : Option IqFault) (asked : Option Asked) → AreAnswered plan d c (cond (is_some refusal) None question) asked → refusal ≡ None →
    wanted_of (tail_of shown refusal asked) ≡ wanted_in shown question
wanted_so plan d c shown question None asked h e = wanted_is plan d c shown question asked h
wanted_so plan d c shown question (Some fault) asked h e = absurd (cc)

-- ---- how it ends, by what was wanted
refusal_told : (shown : Bool) (refusal : Option IqFault) (asked : Option Asked) → refusal_in (tail_of shown refusal asked) ≡ refusal
refusal_told shown (Some fault) asked = refl
refusal_told shown None (Some x) = refl
refusal_told true None None = refl
refusal_told false None None = refl

pub ends_so : {W : Type 0} (plan : W → TaskPlan) (good : W → PlacementTest) (rules : Rules) (d : DraftView) (c : ClusterView W) (e : JobEnd) (shown : Bool) (refusal : Option IqFault) (asked : Option Asked) (wanted : Tail) → wanted ≡ tail_of shown refusal asked →
    (status : ℕ) (text : List ℕ) (journal : List Entry) → EndsBy plan good rules (wanted_of wanted) d c (refusal_in wanted) e status text journal → EndsBy plan good rules (wanted_of (tail_of shown refusal asked)) d c refusal e status text journal
ends_so plan good rules d c e shown refusal asked wanted is status text journal h =
    subst (λ r. EndsBy plan good rules (wanted_of (tail_of shown refusal asked)) d c r e status text journal) (refusal_told shown refusal asked)
    (subst (λ (w : Tail). EndsBy plan good rules (wanted_of w) d c (refusal_in w) e status text journal) is h)
