use Rattle.std.proofs.Common.{◌≡◌, ◌++◌, drop}
use Rattle.ks_topo_layout.specs.Wired.{numbers_in}
use Rattle.ks_topo_layout.proofs.topics.numbers_of.Given as goal

-- what was found and what the rest gives
abbrev pub invariant-loop-topic : goal.invariant-loop-topic
invariant-loop-topic l = l.numbers.items ++ numbers_in l.all (drop l.topic-index l.topics) ≡ numbers_in l.all l.topics
