use Rattle.std.proofs.Common.{◌≡◌, ◌++◌, take}
use Rattle.ks_worker_acts.specs.Inputs.{places_at}
use Rattle.ks_worker_acts.proofs.places.push_places.Given as goal

-- the inputs so far were added
abbrev pub invariant-loop-topic : goal.invariant-loop-topic
invariant-loop-topic l = l.places.items ≡ l.fn.places.items ++ places_at l.index (take l.topic-index l.topics)
