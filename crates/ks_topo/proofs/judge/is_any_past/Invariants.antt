use Rattle.std.proofs.Common.{◌≡◌, drop}
use Rattle.ks_plan.specs.Faults.{any_past}
use Rattle.ks_topo.proofs.judge.is_any_past.Given as goal

-- the rest of the topics decides
abbrev pub invariant-loop-topic : goal.invariant-loop-topic
invariant-loop-topic l = any_past (drop l.topic-index l.topics) ≡ any_past l.topics
