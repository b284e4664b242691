use Rattle.std.proofs.Common.{arith, length, ap, ◌∙◌}
use Rattle.ks_record.specs.Records.{part_of_list}
use Rattle.ks_record.proofs.Blocks.{placed_long, part_there}
use Rattle.ks_record.proofs.records.PlacedRecords.part.Goals as goal

pub index-requires : goal.index-requires
index-requires c = omega (arith, c.requires, ap length c.self.view_is, placed_long c.self.inside.parts.items c.self.inside.list c.self.invariant, c.self.inside.parts.ok.0)

pub returns : goal.returns
returns c =
    part_there c.self.inside.parts.items c.self.inside.list c.args.place c.index.result.now c.self.invariant
    (omega (arith, c.requires, ap length c.self.view_is, placed_long c.self.inside.parts.items c.self.inside.list c.self.invariant)) c.index.ensures
    ∙ ap (λ xs. part_of_list xs c.args.place) c.self.view_is
