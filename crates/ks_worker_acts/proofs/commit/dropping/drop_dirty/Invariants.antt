use Rattle.std.proofs.Common.{◌≡◌, ◌++◌}
use Rattle.ks_worker_acts.specs.Works.{AreCleanOf}
use Rattle.ks_worker_acts.proofs.commit.dropping.drop_dirty.Given as goal

-- of the tasks so far the clean ones are kept
abbrev pub invariant-loop-task : goal.invariant-loop-task
invariant-loop-task l = record {
  whole : l.yielded ++ l.task-iterator.rest.items ≡ l.fn.tasks.items;
  kept : AreCleanOf l.yielded l.tasks.items;
}
