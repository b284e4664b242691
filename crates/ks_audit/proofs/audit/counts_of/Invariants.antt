use Rattle.std.proofs.Common.{◌≡◌, ◌++◌, map, drop}
use Rattle.ks_plan.specs.declared.node.TopicInfo.{TopicInfo}
use Rattle.ks_audit.proofs.audit.counts_of.Given as goal

abbrev pub invariant-loop-info : goal.invariant-loop-info
invariant-loop-info l = l.counts.items ++ map (λ (i : TopicInfo). i.parts) (drop l.info-index l.infos) ≡ map (λ (i : TopicInfo). i.parts) l.infos
