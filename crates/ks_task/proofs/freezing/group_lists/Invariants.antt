use Rattle.std.proofs.Common.{◌≡◌, [], drop}
use Rattle.ks_task.specs.Views.{grouped}
use Rattle.ks_task.proofs.freezing.group_lists.Given as goal

abbrev pub invariant-loop-place : goal.invariant-loop-place
invariant-loop-place l = grouped l.outs.items (drop l.place l.made) ≡ grouped [] l.made
