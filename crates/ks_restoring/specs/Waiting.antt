-- The records of a changelog that wait beside a table.
use Rattle.std.specs.Prelude.{ℕ, Bool, false, not, List, [], ◌∷◌, Option, Some, None}
use Rattle.std.specs.List.{filter}
use Rattle.std.specs.Ordering.{eq_by_cmp}
use Rattle.ks_record.specs.Bytes.{IsBytes}
use Rattle.ks_record.specs.Records.{Record as Rec, bytes_or_none}
use Rattle.ks_def_runs.specs.Bytes.{Store, by_bytes}
use Rattle.ks_def_runs.specs.FinMap as map

-- whether a record's key is this one
abbrev pub has_key : List ℕ → Option (List ℕ) → Bool
has_key key None = false
has_key key (Some own) = eq_by_cmp by_bytes key own

-- without those of a key
abbrev pub without : List ℕ → List Rec → List Rec
without key rs = filter (λ r. not (has_key key r.key)) rs

-- keys and values are bytes
abbrev pub IsOfBytes : Rec → Type 0
IsOfBytes r = IsBytes (bytes_or_none r.key) × IsBytes (bytes_or_none r.value)

abbrev pub AreOfBytes : List Rec → Type 0
AreOfBytes [] = Unit {0}
AreOfBytes (r ∷ rs) = IsOfBytes r × AreOfBytes rs

-- a map with pairs over it; of two pairs with one key the first counts
abbrev pub overlaid : List (List ℕ × List ℕ) → Store → Store
overlaid [] m = m
overlaid (e ∷ es) m = map.insert (overlaid es m) e.0 e.1
