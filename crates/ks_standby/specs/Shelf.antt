-- A shelf: at each pair of instance and task what its first place holds.
use Rattle.std.specs.Prelude.{ℕ, ◌+◌, ◌<◌, ◌==◌, ◌&&◌, length, Bool, if◌then◌else◌, Option, None, List, [], ◌∷◌}
use Rattle.ks_record.specs.declared.record.TaskId.{TaskId}
use Rattle.ks_record.specs.Parts.{same_task}
use Rattle.ks_standby.specs.declared.replica.Replica.{Replica}
use Rattle.ks_standby.specs.declared.parked.Place.{Place}
use Rattle.ks_standby.specs.declared.parked.Parked.{Parked}

-- ---- places
abbrev pub is_here : ℕ → TaskId → Place → Bool
is_here instance t x = (instance == x.instance) && same_task t x.task

abbrev pub parked_in : ℕ → TaskId → List Place → Option Replica
parked_in instance t [] = None
parked_in instance t (x ∷ xs) = if is_here instance t x then x.replica else parked_in instance t xs

-- the number of the first place of a pair; past the last where it has none
abbrev pub place_in : ℕ → TaskId → List Place → ℕ
place_in instance t [] = 0
place_in instance t (x ∷ xs) = if is_here instance t x then 0 else place_in instance t xs + 1

-- with another value at the first place of a pair
abbrev pub placed : ℕ → TaskId → Option Replica → List Place → List Place
placed instance t o [] = []
placed instance t o (x ∷ xs) = if is_here instance t x then record x { replica = o } ∷ xs else x ∷ placed instance t o xs

-- the same, at a new place where the pair has none
abbrev pub put_in : ℕ → TaskId → Option Replica → List Place → List Place
put_in instance t o [] = record { instance = instance; task = t; replica = o } ∷ []
put_in instance t o (x ∷ xs) = if is_here instance t x then record x { replica = o } ∷ xs else x ∷ put_in instance t o xs

-- ---- the map
-- what is parked at each pair
abbrev pub parked : Parked → ℕ → TaskId → Option Replica
parked p instance t = parked_in instance t p.places.items

-- with another value at one pair of instance and task
abbrev pub with_replica : ℕ → TaskId → Option Replica → (ℕ → TaskId → Option Replica) → ℕ → TaskId → Option Replica
with_replica instance t o old i u = if (i == instance) && same_task u t then o else old i u

-- the pair has a place, so that setting it takes no memory
abbrev pub HasPlace : Parked → ℕ → TaskId → Type 0
HasPlace p instance t = place_in instance t p.places.items < length p.places.items
