use Rattle.std.proofs.Common.{Some, None, cond, refl, ap, sym, ◌∙◌}
use Rattle.std.specs.Prelude.{option_map}
use Rattle.ks_topo.specs.Topologies.{draft_of}
use Rattle.ks_settle.specs.Rows.{node_named}
use Rattle.ks_iq.specs.declared.fault.IqFault.TheVariants.{WrongStart}
use Rattle.ks_iq.proofs.Placed.{nothing_named, nothing_kept, start_is_wrong, part_there, placed}
use Rattle.ks_settle.proofs.Named.{Shows}
use Rattle.ks_iq.proofs.place.find_place.Goals as goal

pub returns-in_default : goal.returns-in_default
returns-in_default c = nothing_named (draft_of c.args.topology.now) c.nodes.result.now c.args.ask.now (record { places = c.nodes.ensures.places; drafts = c.nodes.ensures.drafts; well_formed = c.nodes.ensures.well_formed })
    (ap (node_named c.nodes.result.now) (sym (c.as_bytes.ensures.value ∙ c.as_str.ensures.bytes)) ∙ (sym c.find_node.ensures ∙ ap (option_map (λ n. n.now)) c.in_default.is))

pub returns-in_default-store : goal.returns-in_default-store
returns-in_default-store c = nothing_kept (draft_of c.args.topology.now) c.nodes.result.now c.args.ask.now (record { places = c.nodes.ensures.places; drafts = c.nodes.ensures.drafts; well_formed = c.nodes.ensures.well_formed }) c.in-Some.node.now
    (ap (node_named c.nodes.result.now) (sym (c.as_bytes.ensures.value ∙ c.as_str.ensures.bytes)) ∙ (sym c.find_node.ensures ∙ ap (option_map (λ n. n.now)) c.in-Some.is)) c.in_default-store.is

pub returns : goal.returns
returns c = start_is_wrong (draft_of c.args.topology.now) c.nodes.result.now c.args.ask.now (record { places = c.nodes.ensures.places; drafts = c.nodes.ensures.drafts; well_formed = c.nodes.ensures.well_formed }) c.in-Some.node.now
    (ap (node_named c.nodes.result.now) (sym (c.as_bytes.ensures.value ∙ c.as_str.ensures.bytes)) ∙ (sym c.find_node.ensures ∙ ap (option_map (λ n. n.now)) c.in-Some.is)) c.in-Some-store.log c.in-Some-store.is
    (c.has_start.ensures ∙ ap (λ b. cond b None (Some WrongStart)) c.if-has_start.false)

pub returns-then-has_start : goal.returns-then-has_start
returns-then-has_start c =
    let d = draft_of c.args.topology.now in
    let shows : Shows d c.nodes.result.now = record { places = c.nodes.ensures.places; drafts = c.nodes.ensures.drafts; well_formed = c.nodes.ensures.well_formed } in
    let named = ap (node_named c.nodes.result.now) (sym (c.as_bytes.ensures.value ∙ c.as_str.ensures.bytes)) ∙ (sym c.find_node.ensures ∙ ap (option_map (λ n. n.now)) c.in-Some.is) in
    placed d c.nodes.result.now c.args.ask.now shows c.in-Some.node.now named c.in-Some-store.log c.in-Some-store.is
    (c.has_start.ensures ∙ ap (λ b. cond b None (Some WrongStart)) c.if-has_start.true)
    _ refl refl refl
    (part_there d c.nodes.result.now c.args.ask.now shows c.in-Some.node.now named c.in-Some-store.log c.in-Some-store.is c.topics.result.now c.part_in.result c.topics.ensures c.part_in.ensures)
