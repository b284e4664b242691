-- The first hash collision of a changelog's partition, in one pass over its records: at each key and hash the row that has them is
-- kept, and the first record that meets another row there is the second of the pair.
-- KIP-213: a join on a foreign key compares left rows by their hashes alone.
use Rattle.std.specs.Prelude.{◌≡◌, ◌<◌, ◌^◌, ℕ, not, Bool, false, List, [], ◌∷◌, ◌++◌, Option, Some, None, IfSome, cond}
use Rattle.std.specs.List.{AllByRecursion}
use Rattle.ks_row.specs.Spelling.{FitsRow, spelling}
use Rattle.ks_record.specs.Records.{Record as Rec}
use Rattle.ks_def_runs.specs.FinMap as fin
use Rattle.ks_def_runs.specs.Bytes.{Store, empty_store}
use Rattle.ks_wire.specs.Spelling.{hash_bytes}
use Rattle.ks_expr.specs.Eval.{Row, same_bytes}
use Rattle.ks_plan.specs.Plan.{Kind}
use Rattle.ks_law_settled.specs.Collision.{OffsetPair, row_by, earlier, pair_at, first_in}

-- where a key and a hash stand: the hash's 16 bytes, then the key's
abbrev pub spot : List ℕ → ℕ → List ℕ
spot k h = hash_bytes h ++ k

-- of a record with a key and a row: its spot, and the row's bytes
abbrev pub entry : (Row → ℕ) → Option (List ℕ) → Option Row → Option (List ℕ × List ℕ)
entry hash (Some k) (Some v) = Some (spot k (hash v), spelling v)
entry hash k v = None

abbrev pub entry_of : (Row → ℕ) → Kind → Rec → Option (List ℕ × List ℕ)
entry_of hash kind r = entry hash r.key (row_by kind r.value)

-- another row is kept at its spot
abbrev pub is_other : Option (List ℕ) → List ℕ → Bool
is_other None row = false
is_other (Some kept) row = not (same_bytes kept row)

abbrev pub meets_other : Store → Option (List ℕ × List ℕ) → Bool
meets_other m None = false
meets_other m (Some e) = is_other (fin.get m e.0) e.1

-- with its row there
abbrev pub with_entry : Store → Option (List ℕ × List ℕ) → Store
with_entry m None = m
with_entry m (Some e) = fin.insert m e.0 e.1

-- what is kept of the records before these, which are given too
abbrev pub search_from : (Row → ℕ) → Kind → Store → List (ℕ × Rec) → List (ℕ × Rec) → Option OffsetPair
search_from hash kind m before [] = None
search_from hash kind m before (x ∷ xs) =
    cond (meets_other m (entry_of hash kind x.1)) (pair_at x (earlier hash kind x.1 before)) (search_from hash kind (with_entry m (entry_of hash kind x.1)) (before ++ x ∷ []) xs)

-- rows have a spelling
abbrev pub HaveSpellings : Kind → List (ℕ × Rec) → Type 0
HaveSpellings kind xs = AllByRecursion (λ (x : ℕ × Rec). IfSome (row_by kind x.1.value) FitsRow) xs

-- the pass finds the pair of the definition
abbrev pub OnePassFindsTheFirst : Type 0
OnePassFindsTheFirst = (hash : Row → ℕ) → ((v : Row) → hash v < 2 ^ 128) → (kind : Kind) (xs : List (ℕ × Rec)) → HaveSpellings kind xs → search_from hash kind empty_store [] xs ≡ first_in hash kind xs
