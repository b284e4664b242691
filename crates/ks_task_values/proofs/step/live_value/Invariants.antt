use Rattle.std.proofs.Common.{◌≡◌, ◌≤◌, length}
use Rattle.ks_task_values.specs.Values.{live_at}
use Rattle.ks_task_values.proofs.step.live_value.Given as goal

abbrev pub invariant-loop-rest : goal.invariant-loop-rest
invariant-loop-rest l = (length l.rest ≤ length l.live) × (live_at l.number l.rest ≡ live_at l.number l.live)

abbrev pub decreases-loop-rest : goal.decreases-loop-rest
decreases-loop-rest l = length l.rest
