use Rattle.ks_cluster.specs.View.{state_of}
use Rattle.ks_settle.specs.Rows.{op_as}
use Rattle.ks_settle.proofs.Parted.{rows_of_part}
use Rattle.ks_settle.proofs.rows.rows_in.Goals as goal

pub returns : goal.returns
returns g c =
    rows_of_part (op_as c.args.log.form) (state_of g.W.Work.plan c.args.cluster.now) c.args.log.topic c.args.part _ _ _ _ c.in_ok-rows.ensures.items c.as_slice.ensures.value c.in_ok-pairs.ensures c.in_ok-push_pairs.ensures
