use Rattle.std.proofs.Common.{◌≡◌, ◌+◌, drop, map}
use Rattle.ks_row.specs.Fields.{member_seen}
use Rattle.ks_expr.specs.Values.{place_for}
use Rattle.ks_expr.proofs.projection.find_place.Given as goal

-- the rest of the fields decides
abbrev pub invariant-loop-own : goal.invariant-loop-own
invariant-loop-own l = record { found : l.place + place_for l.name (drop l.own-index (map member_seen l.fields)) ≡ place_for l.name (map member_seen l.fields); count : l.place ≡ l.own-index }
