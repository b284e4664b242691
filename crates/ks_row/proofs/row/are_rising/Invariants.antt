use Rattle.std.proofs.Common.{◌≡◌, ◌-◌, drop, map}
use Rattle.ks_row.specs.Rows.{names_of, rises}
use Rattle.ks_row.specs.Fields.{member_seen}
use Rattle.ks_row.proofs.row.are_rising.Given as goal

-- the names from the last one on decide
abbrev pub invariant-loop-i : goal.invariant-loop-i
invariant-loop-i l = rises (drop (l.i - 1) (names_of (map member_seen l.fields))) ≡ rises (names_of (map member_seen l.fields))
