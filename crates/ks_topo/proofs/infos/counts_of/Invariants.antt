use Rattle.std.proofs.Common.{◌≡◌, ◌++◌, drop, length, false}
use Rattle.ks_plan.specs.Faults.{any_past}
use Rattle.ks_topo.specs.Built.{naturals}
use Rattle.ks_topo.proofs.infos.counts_of.Given as goal

-- what was found and what the rest gives
abbrev pub invariant-loop-topic : goal.invariant-loop-topic
invariant-loop-topic l = record { found : l.counts.items ++ naturals (drop l.topic-index l.topics) ≡ naturals l.topics; within : any_past (drop l.topic-index l.topics) ≡ false; count : length l.counts.items ≡ l.topic-index }
