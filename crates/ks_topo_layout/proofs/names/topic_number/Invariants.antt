use Rattle.std.proofs.Common.{◌≡◌, ◌≤◌, ◌+◌, drop}
use Rattle.ks_plan.specs.Plan.{topic_number}
use Rattle.ks_topo_layout.proofs.names.topic_number.Given as goal

-- the rest decides
abbrev pub invariant-loop-own : goal.invariant-loop-own
invariant-loop-own l = record { found : l.number + topic_number (drop l.own-index l.topics) l.name ≡ topic_number l.topics l.name; count : l.number ≤ l.own-index }
