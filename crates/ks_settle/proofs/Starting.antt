-- A worker that has every task, each restored.
use Rattle.std.proofs.Common.{◌≡◌, ℕ, List, sym, ap, subst, ◌∙◌}
use Rattle.ks_plan.specs.Drafts.{DraftView}
use Rattle.ks_history.specs.Machine.{TaskPlan}
use Rattle.ks_history.specs.State.{Setup}
use Rattle.ks_cluster.specs.View.{ClusterView, setup_of, state_of}
use Rattle.ks_commit.specs.declared.publisher.Publisher.{Publisher}
use Rattle.ks_commit.specs.Committed.{IsReady}
use Rattle.ks_task.specs.declared.task.Task.{Task}
use Rattle.ks_settle.specs.Drained.{MayDrain, HasTasksOf, drain_worker, AreRestored, AreResting, DrainsOn}
use Rattle.ks_settle.proofs.Publishing.{same_setup}

-- ---- the whole
pub resting_first : {W : Type 0} (plan : W → TaskPlan) (c : ClusterView W) (p : Publisher) (d : DraftView) (most : ℕ) (ts : List Task) → p.worker ≡ drain_worker → IsReady (setup_of plan c) (state_of plan c) p → AreRestored d (setup_of plan c) c.journal c.tasks most ts → AreResting plan c p d 0 ts
resting_first plan c p d most ts worker ready restored = record { worker = worker; ready = ready; names = restored.names; rest = restored.rest }

pub still_tasks : {W : Type 0} (plan : W → TaskPlan) (d : DraftView) (n : ℕ) (old new : ClusterView W) → DrainsOn n old new → HasTasksOf plan d old → HasTasksOf plan d new
still_tasks plan d n old new on of =
    let same = same_setup plan n old new on in
    record {
      well_formed = of.well_formed;
      tasks = ap (λ (s : Setup). s.tasks) same ∙ of.tasks;
      inputs = λ sub. ap (λ (s : Setup). s.plan.inputs sub) same ∙ of.inputs sub;
      changelogs = λ sub. ap (λ (s : Setup). s.plan.changelogs sub) same ∙ of.changelogs sub;
    }

pub still_may : {W : Type 0} (plan : W → TaskPlan) (n : ℕ) (old new : ClusterView W) → DrainsOn n old new → MayDrain (setup_of plan old) → MayDrain (setup_of plan new)
still_may plan n old new on may = subst MayDrain (sym (same_setup plan n old new on)) may
