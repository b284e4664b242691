use Rattle.std.proofs.Common.{◌≡◌, ◌+◌, ℕ, List, length}
use Rattle.std.specs.List.{All, filter}
use Rattle.ks_record.specs.declared.record.TaskId.{TaskId}
use Rattle.ks_plan.specs.Drafts.{DraftView}
use Rattle.ks_history.specs.declared.journal.Entry.{Entry}
use Rattle.ks_history.specs.State.{Setup}
use Rattle.ks_worker_client.specs.declared.member.Member.{Member}
use Rattle.ks_worker_state.specs.Names.{task_names, replica_names, times}
use Rattle.ks_worker_state.specs.Tasks.{IsHeldTask, is_clean_task}
use Rattle.ks_worker_turn.specs.Lists.{AreAmong}
use Rattle.ks_worker_turn.specs.Resting.{KeepsStandbys}
use Rattle.ks_worker_turn.proofs.Rested.{IsLeft}
use Rattle.ks_worker_turn.proofs.heeding.rest_tasks.Given as goal

-- what is left is the worker's, the replicas follow, and with the clean ones that are left they have the names that they are to have
abbrev pub invariant-loop-task : goal.invariant-loop-task
invariant-loop-task l = record {
  left : (d : DraftView) (setup : Setup) (journal : List Entry) (m : Member) (last : ℕ) → All (IsHeldTask d setup journal m last) l.fn.tasks.items → All (IsHeldTask d setup journal m last) l.tasks.items;
  names : (t : TaskId) → times t (replica_names l.replicas.items) + times t (task_names (filter is_clean_task l.tasks.items))
      ≡ times t (replica_names l.fn.replicas.items) + times t (task_names (filter is_clean_task l.fn.tasks.items));
  kept : KeepsStandbys l.fn.tasks.items l.fn.replicas.items l.replicas.items;
  among : AreAmong l.tasks.items l.fn.tasks.items;
  are : All (IsLeft l.fn.tasks.items l.fn.replicas.items) l.replicas.items;
}

abbrev pub decreases-loop-task : goal.decreases-loop-task
decreases-loop-task l = length l.tasks.items
