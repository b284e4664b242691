-- What trying an entry on a cluster comes to.
use Rattle.std.specs.Prelude.{◌≡◌, ℕ, ◌↔◌, Bool, true, List, [], ◌∷◌, ◌++◌}
use Rattle.ks_record.specs.declared.record.PartId.{PartId}
use Rattle.ks_record.specs.declared.record.TaskId.{TaskId}
use Rattle.ks_record.specs.declared.assignment.Assignment.{Assignment}
use Rattle.ks_history.specs.declared.journal.Entry.{Entry}
use Rattle.ks_history.specs.Machine.{TaskPlan}
use Rattle.ks_history.specs.State.{State, Setup}
use Rattle.ks_history.specs.History.{IsStep, Meets}
use Rattle.ks_history.specs.declared.journal.Request.{Request}
use Rattle.ks_cluster.specs.Placed.{PlacementTest}
use Rattle.ks_cluster.specs.View.{ClusterView, setup_of, state_of}
use Rattle.ks_audit_entry.specs.Conditions.{meets}

-- a placement that finds every assignment good
abbrev pub FindsAllGood : PlacementTest → Type 0
FindsAllGood test = (members : List ℕ) (held : List (ℕ × TaskId × ℕ)) (ends : List (PartId × ℕ)) (a : Assignment) → test members held ends a ≡ true

-- the request was made, and the answer says whether the entry has its reply; if so, the journal has the entry
pub record Replayed {W : Type 0} (plan : W → TaskPlan) (old new : ClusterView W) (entry : Entry) (told : Bool) : Type 0 where
  pub same : told ≡ true → new ≡ record old { journal = old.journal ++ entry ∷ [] }
  pub step : told ≡ true → IsStep (setup_of plan old) (state_of plan old) entry
  pub other : IsStep (setup_of plan old) (state_of plan old) entry → told ≡ true

-- the test tells the conditions
abbrev pub MeetsIsTested : Type 0
MeetsIsTested = (setup : Setup) (s : State) (request : Request) → (meets setup s request ≡ true) ↔ Meets setup s request
