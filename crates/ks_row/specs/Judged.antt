-- Whether bytes spell a row, as they are gone through once.
use Rattle.std.specs.Prelude.{ℕ, zero, suc, ◌-◌, ◌==◌, nat_le, Bool, false, List, [], ◌∷◌, length, Option, Some, None, option_map, if◌then◌else◌}
use Rattle.std.specs.Ordering.{nat_cmp, is_lt}
use Rattle.std.specs.Cmp.Lexicographic.{slice_cmp}
use Rattle.ks_row.specs.Rows.{Member}
use Rattle.ks_row.specs.Reading.{◌>>=◌, field_at, member_at, row_from}

abbrev pub after_field : List ℕ → Option (List ℕ)
after_field bytes = option_map (λ f. f.1) (field_at bytes)

-- a member's name, and the bytes after the member
abbrev pub named_at : List ℕ → Option (List ℕ × List ℕ)
named_at bytes = option_map (λ m. (m.0.0, m.1)) (member_at bytes)

-- the bytes after so many members, whose names rise from this one on
abbrev pub rest_after : List ℕ → ℕ → List ℕ → Option (List ℕ)
rest_after last zero bytes = Some bytes
rest_after last (suc n) bytes = do
  m ← named_at bytes
  if is_lt (slice_cmp nat_cmp last m.0) then rest_after m.0 n m.1 else None

-- the bytes after all members, where there are 1 to 64 and their names rise
abbrev pub whole_rest : List ℕ → Option (List ℕ)
whole_rest [] = None
whole_rest (n ∷ bytes) = if n == 0 then None else (if nat_le n 64 then (named_at bytes >>= λ m. rest_after m.0 (n - 1) m.1) else None)

abbrev pub is_whole : Option (List ℕ) → Bool
is_whole None = false
is_whole (Some rest) = length rest == 0

-- the row that bytes spell; no member where they spell none
abbrev pub members_of : Option (List Member) → List Member
members_of None = []
members_of (Some ms) = ms

abbrev pub row_in : List ℕ → List Member
row_in bytes = members_of (row_from bytes)
