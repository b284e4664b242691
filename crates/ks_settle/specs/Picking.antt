-- A replica of a task that is taken out of a list of replicas.
use Rattle.std.specs.Prelude.{◌≡◌, ◌<◌, ℕ, List, length, Option, Some, None, slice_index_or}
use Rattle.std.specs.List.{remove}
use Rattle.ks_record.specs.declared.record.TaskId.{TaskId}
use Rattle.ks_standby.specs.declared.replica.Replica.{Replica}

-- a replica of the task stands at this place
pub record StandsAt (replicas : List Replica) (t : TaskId) (i : ℕ) : Type 0 where
  pub within : i < length replicas
  pub named : (r : Replica) → (slice_index_or replicas i r).id ≡ t

-- this one stood at a place where a replica of the task stands, and the others are left in their order
pub record IsTakenOut (t : TaskId) (old : List Replica) (taken : Replica) (new : List Replica) : Type 0 where
  pub place : ℕ
  pub at : StandsAt old t place
  pub is : taken ≡ slice_index_or old place taken
  pub left : new ≡ remove old place

abbrev pub TakesOf : TaskId → List Replica → Option Replica → List Replica → Type 0
TakesOf t old None new = new ≡ old
TakesOf t old (Some taken) new = IsTakenOut t old taken new
