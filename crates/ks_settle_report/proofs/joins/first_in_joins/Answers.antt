use Rattle.std.proofs.Common.{◌∙◌, ◌<◌, length, sym, ap, arith}
use Rattle.std.specs.Prelude.{option_map}
use Rattle.ks_topo.specs.Topologies.{draft_of}
use Rattle.ks_plan.specs.Plan.{plan_of}
use Rattle.ks_cluster.specs.View.{state_of}
use Rattle.ks_settle_report.specs.Hashed.{row_hash}
use Rattle.ks_settle_report.specs.Joins.{join_pair}
use Rattle.ks_settle_report.proofs.LeftSides.{outside, not_now, never}
use Rattle.ks_settle_report.proofs.joins.first_in_joins.Goals as goal

pub first_of_node-requires-clause-node : goal.first_of_node-requires-clause-node
first_of_node-requires-clause-node g c =
    let e = c.nodes-nodes.ensures in
    let lt : c.loop-place.place < length (plan_of (draft_of c.args.topology.now)).kinds =
    outside (draft_of c.args.topology.now) c.nodes-nodes.result.now c.loop-place.place (record { places = e.places; drafts = e.drafts; well_formed = e.well_formed }) (omega (arith, c.loop-place-test.true)) in
    omega (arith, lt)

pub loop-place-preserved : goal.loop-place-preserved
loop-place-preserved g c =
    let e = c.nodes-nodes.ensures in
    not_now (row_hash g.H.Hash128.hash_of) (draft_of c.args.topology.now) (state_of g.W.Work.plan c.args.cluster.now) c.loop-place.place c.nodes-nodes.result.now (record { places = e.places; drafts = e.drafts; well_formed = e.well_formed }) c.loop-place.invariant
    (omega (arith, c.loop-place-test.true)) (sym (ap (option_map join_pair) c.in_default.is) ∙ c.in_ok-found.ensures)

pub returns : goal.returns
returns g c =
    let e = c.nodes-nodes.ensures in
    never (row_hash g.H.Hash128.hash_of) (draft_of c.args.topology.now) (state_of g.W.Work.plan c.args.cluster.now) c.loop-place.place c.nodes-nodes.result.now (record { places = e.places; drafts = e.drafts; well_formed = e.well_formed }) c.loop-place.invariant
    (omega (arith, c.loop-place-test.false))
