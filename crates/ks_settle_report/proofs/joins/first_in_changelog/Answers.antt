use Rattle.std.proofs.Common.{◌≡◌, ◌∙◌, sym, refl}
use Rattle.std.proofs.lemmas.Result.{IfOk-weaker}
use Rattle.ks_topo.specs.Topologies.{draft_of}
use Rattle.ks_cluster.specs.View.{setup_of, state_of}
use Rattle.ks_settle_report.specs.Hashed.{row_hash}
use Rattle.ks_settle_report.proofs.LeftSides.{is_part, first_is}
use Rattle.ks_settle_report.proofs.joins.first_in_changelog.Goals as goal

pub first_in_parts-requires-clause-parts : goal.first_in_parts-requires-clause-parts
first_in_parts-requires-clause-parts g c κs within =
    is_part (draft_of c.args.topology.now) c.args.place c.node_at-node.result.now c.node_at-node.ensures c.requires.changelog c.in-Some.topic c.in-Some.is (setup_of g.W.Work.plan c.args.cluster.now) c.requires.counts

pub returns : goal.returns
returns g c = IfOk-weaker c.first_in_parts.result _ _
    (λ o e. e ∙ first_is (draft_of c.args.topology.now) c.args.place c.node_at-node.result.now c.node_at-node.ensures c.requires.changelog c.in-Some.topic c.in-Some.is
    (row_hash g.H.Hash128.hash_of) (state_of g.W.Work.plan c.args.cluster.now) c.form_of.result c.form_of.ensures) c.first_in_parts.ensures
