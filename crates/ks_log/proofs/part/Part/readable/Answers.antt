use Rattle.std.proofs.Common.{length, take, drop, ap, ap₂, ◌∙◌, arith}
use Rattle.ks_history.specs.Partition.{read, readable_from}
use Rattle.ks_log.specs.Reading.{readable_pairs, at_or_past, visible_pairs}
use Rattle.ks_log.proofs.Parts.{known_few, read_from}
use Rattle.ks_log.proofs.Pairs.{at_or_past-with, readable-is}
use Rattle.ks_log.proofs.part.Part.readable.Goals as goal

pub visible_from-requires : goal.visible_from-requires
visible_from-requires c =
    let few = known_few c.self.inside.slots.items c.self.inside.visible.items c.self.invariant.visible_is in
    omega (arith, few, ap length c.as_slice-slots.ensures.value, ap length c.as_slice.ensures.value)

pub returns : goal.returns
returns c =
    let slots = c.self.inside.slots.items in
    c.in_ok-made.ensures
    ∙ ap (take c.args.max) (ap₂ (λ a b. visible_pairs c.args.from (drop c.args.from a) (drop c.args.from b)) c.as_slice.ensures.value c.as_slice-slots.ensures.value
    ∙ read_from c.args.from slots c.self.inside.visible.items c.self.invariant.visible_is
    ∙ ap (at_or_past c.args.from) (readable-is 0 slots) ∙ at_or_past-with c.args.from (readable_from 0 slots))
    ∙ ap (read c.args.from c.args.max) c.self.view_is
