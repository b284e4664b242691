-- A question of a run, and what was answered to it.
use Rattle.std.specs.Prelude.{◌≡◌, List, [], ◌∷◌, ◌++◌, length, Option, Some, None}
use Rattle.ks_plan.specs.Drafts.{DraftView}
use Rattle.ks_history.specs.declared.journal.Entry.{Entry}
use Rattle.ks_history.specs.Machine.{TaskPlan}
use Rattle.ks_cluster.specs.View.{ClusterView, state_of}
use Rattle.ks_growing.specs.Passes.{PassView}
use Rattle.ks_shared.specs.declared.state.Frame.{Frame}
use Rattle.ks_iq.specs.declared.ask.Ask.{Ask}
use Rattle.ks_run_workers.specs.declared.asking.Asker.{Asker}
use Rattle.ks_run_workers.specs.declared.workers.Asked.{Asked}
use Rattle.ks_iq.specs.Answered.{AreAnswers}

abbrev pub option_list : {A : Type 0} → Option A → List A
option_list None = []
option_list (Some x) = x ∷ []

abbrev pub asked_by : {W : Type 0} → Asker W → Asked
asked_by a = record { ask = a.ask; answers = a.answers }

-- who asks has the last pass
abbrev pub TakesLast : {W : Type 0} → Option Ask → List (PassView Entry (Frame W)) → List (PassView Entry (Frame W)) → Option (Asker W) → Type 0
TakesLast None old new asker = (new ≡ old) × (asker ≡ None)
TakesLast (Some ask) old new None = ⊥
TakesLast (Some ask) old new (Some asker) =
    (old ≡ new ++ asker.reader.pass ∷ []) × (asker.ask ≡ ask) × (asker.answers.items ≡ []) × (asker.reader.replicas.items ≡ [])

-- 16 answers, each a read of the cluster's journal, whose positions don't fall
pub record IsAnswered {W : Type 0} (plan : W → TaskPlan) (d : DraftView) (c : ClusterView W) (ask : Ask) (x : Asked) : Type 0 where
  pub ask_is : x.ask ≡ ask
  pub times : length x.answers.items ≡ 16
  pub reads : AreAnswers d (state_of plan c) ask 0 x.answers.items

abbrev pub AreAnswered : {W : Type 0} → (W → TaskPlan) → DraftView → ClusterView W → Option Ask → Option Asked → Type 0
AreAnswered plan d c None asked = asked ≡ None
AreAnswered plan d c (Some ask) None = ⊥
AreAnswered plan d c (Some ask) (Some x) = IsAnswered plan d c ask x
