use Rattle.std.proofs.Common.{◌≡◌, ◌+◌, drop}
use Rattle.ks_plan.specs.Layout.{place_of}
use Rattle.ks_topo_layout.proofs.topics.number_of.Given as goal

-- the rest decides
abbrev pub invariant-loop-own : goal.invariant-loop-own
invariant-loop-own l = record { found : l.number + place_of (drop l.own-index l.all) l.topic ≡ place_of l.all l.topic; count : l.number ≡ l.own-index }
