use Rattle.std.proofs.Common.{◌≡◌, ◌++◌, drop, take}
use Rattle.std.specs.List.{flat_map, All}
use Rattle.ks_row.specs.Spelling.{member_bytes, spelling, FitsMember}
use Rattle.ks_row.proofs.codec.spell.Given as goal

abbrev pub invariant-loop-name : goal.invariant-loop-name
invariant-loop-name l = record {
  text : l.out ++ flat_map member_bytes (drop l.name-index l.members) ≡ spelling l.members;
  fits : All FitsMember (take l.name-index l.members);
}
