use Rattle.std.proofs.Common.{◌≡◌}
use Rattle.ks_row.specs.Fields.{field_among}
use Rattle.ks_row.proofs.field_ref.find_field.Given as goal

-- the members from here on decide
abbrev pub invariant-loop-left : goal.invariant-loop-left
invariant-loop-left l = field_among l.name l.left l.rest ≡ field_among l.name l.count l.bytes

abbrev pub decreases-loop-left : goal.decreases-loop-left
decreases-loop-left l = l.left
