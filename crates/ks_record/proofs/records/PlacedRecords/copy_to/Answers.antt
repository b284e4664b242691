use Rattle.std.proofs.Common.{◌≡◌, ◌++◌, ◌∷◌, [], arith, length, ap, subst, ◌∙◌}
use Rattle.std.specs.Prelude.{OnOk}
use Rattle.ks_record.specs.Records.{Record, placed_of_list}
use Rattle.ks_record.proofs.Blocks.{placed_long, placed_there}
use Rattle.ks_record.proofs.records.PlacedRecords.copy_to.Goals as goal

pub push_copy-requires : goal.push_copy-requires
push_copy-requires c = omega (arith, c.requires, ap length c.self.view_is, placed_long c.self.inside.parts.items c.self.inside.list c.self.invariant, c.self.invariant)

pub returns-clause-ok : goal.returns-clause-ok
returns-clause-ok c =
    subst (λ (r : Record). OnOk c.push_copy.result (c.push_copy.new.self ≡ c.args.list.now ++ r ∷ []))
    (placed_there c.self.inside.parts.items c.self.inside.list c.args.place c.self.invariant
    (omega (arith, c.requires, ap length c.self.view_is, placed_long c.self.inside.parts.items c.self.inside.list c.self.invariant))
    ∙ ap (λ xs. placed_of_list xs c.args.place) c.self.view_is)
    c.push_copy.ensures.ok
