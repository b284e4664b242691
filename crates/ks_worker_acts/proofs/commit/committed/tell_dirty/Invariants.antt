use Rattle.std.proofs.Common.{◌≡◌, length}
use Rattle.std.specs.List.{All}
use Rattle.ks_plan.specs.Drafts.{DraftView}
use Rattle.ks_task.specs.Tasks.{IsTaskOf}
use Rattle.ks_worker_acts.proofs.Told.{AreToldTo}
use Rattle.ks_worker_acts.proofs.commit.committed.tell_dirty.Given as goal

-- the tasks so far were told
abbrev pub invariant-loop-i : goal.invariant-loop-i
invariant-loop-i l = record {
  count : length l.tasks.items ≡ length l.fn.tasks.items;
  told : (d : DraftView) → All (IsTaskOf d) l.fn.tasks.items → AreToldTo d l.ends l.i l.fn.tasks.items l.tasks.items;
}
