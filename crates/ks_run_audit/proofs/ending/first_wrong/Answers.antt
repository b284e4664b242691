use Rattle.std.proofs.Common.{refl, sym, ◌∙◌}
use Rattle.ks_run_audit.proofs.Ends.{behind_none, behind_next, behind_all, first_is}
use Rattle.ks_run_audit.proofs.ending.first_wrong.Goals as goal

pub loop-rest-init : goal.loop-rest-init
loop-rest-init c = behind_none c.args.tables.now c.args.lines.now c.requires

pub loop-rest-preserved : goal.loop-rest-preserved
loop-rest-preserved c =
    behind_next c.args.tables.now c.loop-rest.rest.now c.args.lines.now c.loop-rest.left.now c.in-Some.more.now c.table-item.result c.loop-rest.invariant c.in-len1-up.len_at_least c.table-item.is (rw c.in-Some.is at c.in_ok-more.ensures.some)
