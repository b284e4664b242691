use Rattle.std.proofs.Common.{arith, length, ap, ◌∙◌}
use Rattle.ks_record.specs.Records.{placed_of_list}
use Rattle.ks_record.proofs.Blocks.{placed_long, placed_there}
use Rattle.ks_record.proofs.records.PlacedRecords.get.Goals as goal

pub get-requires : goal.get-requires
get-requires c = omega (arith, c.requires, ap length c.self.view_is, placed_long c.self.inside.parts.items c.self.inside.list c.self.invariant, c.self.invariant)

pub returns : goal.returns
returns c =
    c.get.ensures
    ∙ (placed_there c.self.inside.parts.items c.self.inside.list c.args.place c.self.invariant
    (omega (arith, c.requires, ap length c.self.view_is, placed_long c.self.inside.parts.items c.self.inside.list c.self.invariant))
    ∙ ap (λ xs. placed_of_list xs c.args.place) c.self.view_is)
