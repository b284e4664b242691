use Rattle.std.proofs.Common.{◌∙◌}
use Rattle.ks_cluster.specs.View.{setup_of, state_of}
use Rattle.ks_settle_report.proofs.Settling.{settled_then, then_settled}
use Rattle.ks_settle_report.proofs.reports.report.Goals as goal

pub returns-clause-settled : goal.returns-clause-settled
returns-clause-settled g c =
    settled_then c.args.topology.now (setup_of g.W.Work.plan c.args.cluster.now) (state_of g.W.Work.plan c.args.cluster.now) c.requires.of c.pending-pending.result c.as_slice.result.now
    c.pending-pending.ensures (c.as_slice.ensures.value ∙ c.in_ok-lags.ensures) c.is_settled-settled.result c.is_settled-settled.ensures

pub returns-clause-unsettled : goal.returns-clause-unsettled
returns-clause-unsettled g c =
    then_settled c.args.topology.now (setup_of g.W.Work.plan c.args.cluster.now) (state_of g.W.Work.plan c.args.cluster.now) c.requires.of c.pending-pending.result c.as_slice.result.now
    c.pending-pending.ensures (c.as_slice.ensures.value ∙ c.in_ok-lags.ensures) c.is_settled-settled.result c.is_settled-settled.ensures
