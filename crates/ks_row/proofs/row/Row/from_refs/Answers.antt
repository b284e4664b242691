use Rattle.std.proofs.Common.{map, sym, ◌∙◌}
use Rattle.ks_row.specs.Fields.{member_seen}
use Rattle.ks_row.proofs.Kept.{made_row, made_of}
use Rattle.ks_row.proofs.Refs.{refs_fit}
use Rattle.ks_row.proofs.row.Row.from_refs.Goals as goal

pub spell_refs-requires : goal.spell_refs-requires
spell_refs-requires c = refs_fit (map member_seen c.args.fields.now) c.requires (sym c.are_row.ensures ∙ c.if-are_row.true)

pub invariant_of-result : goal.invariant_of-result
invariant_of-result c =
    made_row c.in_ok-spell_refs.field-0 (map member_seen c.args.fields.now) c.in_ok-spell_refs.ensures
    (refs_fit (map member_seen c.args.fields.now) c.requires (sym c.are_row.ensures ∙ c.if-are_row.true))

pub returns-in_ok-spell_refs : goal.returns-in_ok-spell_refs
returns-in_ok-spell_refs c =
    made_of c.in_ok-spell_refs.field-0 (map member_seen c.args.fields.now) c.in_ok-spell_refs.ensures
    (refs_fit (map member_seen c.args.fields.now) c.requires (sym c.are_row.ensures ∙ c.if-are_row.true))
