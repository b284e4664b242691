use Rattle.std.proofs.Common.{◌≡◌, map, take}
use Rattle.ks_plan.specs.declared.node.TopicInfo.{TopicInfo}
use Rattle.ks_run_feed.proofs.producing.counts_of.Given as goal

-- the counts so far
abbrev pub invariant-loop-info : goal.invariant-loop-info
invariant-loop-info l = l.counts.items ≡ map (λ (i : TopicInfo). i.parts) (take l.info-index l.infos)
