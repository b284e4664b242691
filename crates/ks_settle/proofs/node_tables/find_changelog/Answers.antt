use Rattle.std.proofs.Common.{ap, sym, ◌∙◌}
use Rattle.std.specs.Prelude.{option_map}
use Rattle.ks_topo.specs.Topologies.{draft_of}
use Rattle.ks_settle.proofs.Named.{no_node, has_store, is_kept}
use Rattle.ks_settle.proofs.node_tables.find_changelog.Goals as goal

pub unreachable-requires : goal.unreachable-requires
unreachable-requires c =
    no_node (draft_of c.args.topology.now) c.nodes.result.now c.args.name.now (record { places = c.nodes.ensures.places; drafts = c.nodes.ensures.drafts; well_formed = c.nodes.ensures.well_formed }) c.requires
    (sym c.find_node.ensures ∙ ap (option_map (λ n. n.now)) c.in_default.is)

pub unreachable-requires-in_default-store : goal.unreachable-requires-in_default-store
unreachable-requires-in_default-store c =
    let e = has_store (draft_of c.args.topology.now) c.nodes.result.now c.args.name.now c.in-Some.node.now (record { places = c.nodes.ensures.places; drafts = c.nodes.ensures.drafts; well_formed = c.nodes.ensures.well_formed }) c.requires
    (sym c.find_node.ensures ∙ ap (option_map (λ n. n.now)) c.in-Some.is) in
    c.in_default-store.not-Some _ e

pub returns : goal.returns
returns c =
    is_kept (draft_of c.args.topology.now) c.nodes.result.now c.args.name.now c.in-Some.node.now c.in-Some-store.topic (record { places = c.nodes.ensures.places; drafts = c.nodes.ensures.drafts; well_formed = c.nodes.ensures.well_formed }) c.requires
    (sym c.find_node.ensures ∙ ap (option_map (λ n. n.now)) c.in-Some.is) c.in-Some-store.is
