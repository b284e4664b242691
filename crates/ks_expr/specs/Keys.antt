-- The front part of a key, and the foreign key of a left row.
use Rattle.std.specs.Prelude.{ℕ, zero, suc, ◌==◌, List, [], ◌∷◌, take, Option, Some, None, option_map, option_and_then, unwrap_or, if◌then◌else◌}
use Rattle.std.specs.List.{starts_with}
use Rattle.ks_row.specs.FieldKeys.{field_key}
use Rattle.ks_expr.specs.declared.terms.Fk.{Fk}
use Rattle.ks_expr.specs.declared.terms.Fk.TheVariants.{Field, Whole, Before}
use Rattle.ks_expr.specs.Eval.{Row}

-- how many bytes stand before the first place of a text, which has at least one; none where it stands nowhere
abbrev pub place_in : List ℕ → List ℕ → Option ℕ
place_in s [] = None
place_in s (b ∷ bs) = if starts_with ◌==◌ (b ∷ bs) s then Some 0 else option_map (λ n. suc n) (place_in s bs)

-- so many bytes of a key, where there are any
abbrev pub front_to : List ℕ → ℕ → Option (List ℕ)
front_to k zero = None
front_to k (suc n) = Some (take (suc n) k)

-- what stands in a key before the first place of a text; none where it stands nowhere in the key, or at its start
abbrev pub front_of : List ℕ → List ℕ → Option (List ℕ)
front_of s k = option_and_then (front_to k) (place_in s k)

-- the part of a key by which it is spread over partitions: all of it where no text is stated, or the key has no such front part
abbrev pub spread_part : Option (List ℕ) → List ℕ → List ℕ
spread_part None k = k
spread_part (Some s) k = unwrap_or (front_of s k) k

-- the foreign key of a left key and its row, where there is one
abbrev pub fk_of : Fk → List ℕ → Row → Option (List ℕ)
fk_of (Field name) k row = field_key name row
fk_of Whole k row = Some k
fk_of (Before s) k row = front_of s k
