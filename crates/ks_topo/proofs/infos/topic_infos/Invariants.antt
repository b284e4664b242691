use Rattle.std.proofs.Common.{◌≡◌, ◌++◌, map, drop}
use Rattle.ks_plan.specs.Drafts.{draft_view}
use Rattle.ks_topo.specs.Built.{wired_topic_info}
use Rattle.ks_topo.proofs.infos.topic_infos.Given as goal

-- what was found and what the rest gives
abbrev pub invariant-loop-topic : goal.invariant-loop-topic
invariant-loop-topic l = l.infos.items ++ map (wired_topic_info (draft_view l.draft) l.shape) (drop l.topic-index l.topics) ≡ map (wired_topic_info (draft_view l.draft) l.shape) l.topics
