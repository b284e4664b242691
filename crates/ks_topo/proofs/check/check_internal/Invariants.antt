use Rattle.std.proofs.Common.{◌≡◌, drop, map}
use Rattle.ks_plan.specs.Infos.{internal_name}
use Rattle.ks_plan.specs.Faults.{first_fitting, taken_lines, names_of_topics}
use Rattle.ks_topo.proofs.check.check_internal.Given as goal

-- the rest of the topics decides
abbrev pub invariant-loop-topic : goal.invariant-loop-topic
invariant-loop-topic l =
    first_fitting (taken_lines (names_of_topics l.topics) (map (internal_name l.app l.node) (drop l.topic-index l.topic-items)))
    ≡ first_fitting (taken_lines (names_of_topics l.topics) (map (internal_name l.app l.node) l.topic-items))
