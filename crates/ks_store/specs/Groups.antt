-- Keys that begin with a length, by what they so begin with.
use Rattle.std.specs.Prelude.{◌≡◌, ℕ, ◌+◌, ◌==◌, nat_lt, nat_le, nat_eq, List, [], ◌∷◌, map, take, drop, length, Bool, true, false, not, Option, Some, None, option_map, is_some, cond, if◌then◌else◌}
use Rattle.std.specs.Global.{Vec}
use Rattle.std.specs.List.{AllByRecursion}
use Rattle.std.specs.Int.{w32, from_be_bytes}
use Rattle.std.specs.Cmp.Lexicographic.{pointwise}
use Rattle.std.specs.Ordering.{eq_by_cmp}
use Rattle.std.specs.FinMap.Entries.{find, put, where_key}
use Rattle.ks_def_runs.specs.Bytes.{by_bytes}
use Rattle.ks_store.specs.Pairs.{pairs_of, Rises}
use Rattle.ks_store.specs.declared.groups.Group.{Group}
use Rattle.ks_store.specs.declared.groups.Group.TheVariants.{One, Many}

-- keys, each with nothing
abbrev pub Keys : Type 0
Keys = List (List ℕ × List ℕ)

-- ---- fronts

-- where the front of a key ends: behind a length of four bytes and as many bytes as it says; none where it has no such front
abbrev pub front_end : List ℕ → Option ℕ
front_end key = if nat_lt (length key) 4 then None else (if nat_le (from_be_bytes w32 (take 4 key)) (length (drop 4 key)) then Some (from_be_bytes w32 (take 4 key) + 4) else None)

abbrev pub front_in : List ℕ → Option (List ℕ)
front_in key = option_map (λ n. take n key) (front_end key)

abbrev pub is_some_of : Option ℕ → ℕ → Bool
is_some_of None n = false
is_some_of (Some m) n = m == n

-- ---- groups

-- the keys of a group, each with nothing
abbrev pub keys_in : Group → Keys
keys_in (One key) = (key.items, []) ∷ []
keys_in (Many pairs) = pairs_of pairs.entries

abbrev pub with_key : List ℕ → Keys → Keys
with_key key keys = put by_bytes key [] keys

-- a key that is alone stays
abbrev pub keys_without : List ℕ → Group → Keys
keys_without key (One own) = (own.items, []) ∷ []
keys_without key (Many pairs) = where_key by_bytes (λ k. not (eq_by_cmp by_bytes key k)) (pairs_of pairs.entries)

abbrev pub is_only_key : Option Group → List ℕ → Bool
is_only_key (Some (One own)) key = pointwise nat_eq own.items key
is_only_key (Some (Many pairs)) key = false
is_only_key None key = false

-- its keys rise, and begin with its front
abbrev pub IsGroup : List ℕ → Keys → Type 0
IsGroup front keys = Rises keys × AllByRecursion (λ e. front_in e.0 ≡ Some front) keys

-- ---- groups by their front

abbrev pub groups_of : List (Vec ℕ × Group) → List (List ℕ × Keys)
groups_of es = map (λ e. (e.0.items, keys_in e.1)) es

abbrev pub keys_or_none : Option Keys → Keys
keys_or_none None = []
keys_or_none (Some keys) = keys

-- the keys that are listed of a front
abbrev pub listed_under : List ℕ → List (List ℕ × Keys) → Keys
listed_under front groups = keys_or_none (find by_bytes front groups)

abbrev pub AreGroups : List (List ℕ × Keys) → Type 0
AreGroups groups = (front : List ℕ) → IsGroup front (listed_under front groups)

abbrev pub is_among : Option (List ℕ) → List ℕ → List (List ℕ × Keys) → Bool
is_among None key groups = false
is_among (Some front) key groups = is_some (find by_bytes key (listed_under front groups))

-- whether a key stands in the group of its front; one without a front stands in none
abbrev pub is_listed : List ℕ → List (List ℕ × Keys) → Bool
is_listed key groups = is_among (front_in key) key groups

-- the same keys are listed
abbrev pub ListSame : List (List ℕ × Keys) → List (List ℕ × Keys) → Type 0
ListSame old new = (q : List ℕ) → is_listed q new ≡ is_listed q old

-- but for this key, of which b says whether it is
abbrev pub ListSameBut : List ℕ → Bool → List (List ℕ × Keys) → List (List ℕ × Keys) → Type 0
ListSameBut key b old new = (q : List ℕ) → is_listed q new ≡ cond (eq_by_cmp by_bytes q key) b (is_listed q old)

-- a key with a front is listed exactly where it has a row
abbrev pub ListsRows : List (List ℕ × List ℕ) → List (List ℕ × Keys) → Type 0
ListsRows rows groups = (q : List ℕ) → is_some (front_in q) ≡ true → is_listed q groups ≡ is_some (find by_bytes q rows)
