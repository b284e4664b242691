use Rattle.std.proofs.Common.{◌≡◌, [], fold, drop, length}
use Rattle.ks_plan.specs.Plan.{with_topic}
use Rattle.ks_topo.proofs.infos.sort_topics.Given as goal

-- the rest onto what was found
abbrev pub invariant-loop-name : goal.invariant-loop-name
invariant-loop-name l = record { found : fold with_topic l.sorted.items (drop l.name-index l.topics) ≡ fold with_topic [] l.topics; count : length l.sorted.items ≡ l.name-index }
