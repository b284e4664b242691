-- Lists of tasks and replicas that are kept in an order.
use Rattle.std.specs.Prelude.{◌≡◌, ◌≤◌, ◌<◌, ℕ, List, length, slice_index_or}
use Rattle.std.specs.List.{All, Contains, insert, remove}

-- with one more, somewhere
pub record HasPut {A : Type 0} (old : List A) (x : A) (new : List A) : Type 0 where
  pub place : ℕ
  pub within : place ≤ length old
  pub is : new ≡ insert old place x

-- without one of them
pub record HasTaken {A : Type 0} (old : List A) (x : A) (new : List A) : Type 0 where
  pub place : ℕ
  pub within : place < length old
  pub taken : x ≡ slice_index_or old place x
  pub is : new ≡ remove old place

-- each of these is one of those
abbrev pub AreAmong : {A : Type 0} → List A → List A → Type 0
AreAmong these those = All (Contains those) these
