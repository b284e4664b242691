use Rattle.std.proofs.Common.{◌∷◌, [], length, ap, ◌∙◌}
use Rattle.ks_log.proofs.Parts.{goes_on}
use Rattle.ks_cluster.proofs.StatusParts.{one_end}
use Rattle.ks_cluster.proofs.status.push_ends.Goals as goal

pub loop-part-preserved : goal.loop-part-preserved
loop-part-preserved c =
    goes_on c.loop-part.made.items c.push.new.self.items _ _ _ _ c.loop-part.invariant c.in_ok-push.ensures.items
    (one_end c.args.log.now c.args.topic c.loop-part.part c.args.count c.end.result c.loop-part-test.true (c.end.ensures ∙ ap length c.part.ensures))
