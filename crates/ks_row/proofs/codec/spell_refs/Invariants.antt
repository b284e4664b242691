use Rattle.std.proofs.Common.{◌≡◌, ◌++◌, drop, map}
use Rattle.std.specs.List.{flat_map}
use Rattle.ks_row.specs.Fields.{member_seen}
use Rattle.ks_row.specs.Spelling.{member_bytes, spelling}
use Rattle.ks_row.proofs.codec.spell_refs.Given as goal

abbrev pub invariant-loop-member : goal.invariant-loop-member
invariant-loop-member l = l.out ++ flat_map member_bytes (drop l.member-index (map member_seen l.members)) ≡ spelling (map member_seen l.members)
