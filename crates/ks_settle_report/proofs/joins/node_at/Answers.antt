use Rattle.std.proofs.Common.{◌≡◌, ◌<◌, length, arith}
use Rattle.ks_topo.specs.Topologies.{draft_of}
use Rattle.ks_settle.proofs.Named.{Shows}
use Rattle.ks_settle_report.proofs.LeftSides.{inside, is_at}
use Rattle.ks_settle_report.proofs.joins.node_at.Goals as goal

pub bounds-nodes-place : goal.bounds-nodes-place
bounds-nodes-place c =
    let e = c.nodes-nodes.ensures in
    inside (draft_of c.args.topology.now) c.nodes-nodes.result.now c.args.place (record { places = e.places; drafts = e.drafts; well_formed = e.well_formed }) (omega (arith, c.requires))

pub offset_bounds-nodes-place : goal.offset_bounds-nodes-place
offset_bounds-nodes-place c =
    let e = c.nodes-nodes.ensures in
    let lt : c.args.place < length c.nodes-nodes.result.now = inside (draft_of c.args.topology.now) c.nodes-nodes.result.now c.args.place (record { places = e.places; drafts = e.drafts; well_formed = e.well_formed }) (omega (arith, c.requires)) in
    omega (arith, lt, c.nodes-nodes.type_inv)

pub returns : goal.returns
returns c =
    let e = c.nodes-nodes.ensures in
    is_at (draft_of c.args.topology.now) c.nodes-nodes.result.now c.args.place c.index-nodes-place.result (record { places = e.places; drafts = e.drafts; well_formed = e.well_formed }) (omega (arith, c.requires)) c.index-nodes-place.is
