use Rattle.std.proofs.Common.{◌≡◌, ◌+◌, length}
use Rattle.ks_plan.specs.Layout.{place_of}
use Rattle.ks_task_nodes.proofs.topics.topic_place.Given as goal

abbrev pub invariant-loop-rest : goal.invariant-loop-rest
invariant-loop-rest l = (l.place + place_of l.rest l.topic ≡ place_of l.all l.topic) × (l.place + length l.rest ≡ length l.all)

abbrev pub decreases-loop-rest : goal.decreases-loop-rest
decreases-loop-rest l = length l.rest
