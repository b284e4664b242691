-- What became of a worker's own request, which is made only where nobody else used its number since (fencing by the caller's own account; KIP-98).
use Rattle.std.specs.Prelude.{◌≡◌, ◌≢◌, ℕ, Result, Ok, Err}
use Rattle.ks_record.specs.declared.assignment.Refused.{Refused}
use Rattle.ks_history.specs.declared.journal.Request.{Request}
use Rattle.ks_history.specs.declared.journal.Reply.{Reply}
use Rattle.ks_history.specs.declared.journal.Reply.TheVariants.{Refused as Refuse}
use Rattle.ks_history.specs.Machine.{TaskPlan}
use Rattle.ks_history.specs.Touched.{touched}
use Rattle.ks_cluster.specs.View.{ClusterView, AddsEntry}
use Rattle.ks_shared.specs.declared.barred.Barred.{Barred}
use Rattle.ks_shared.specs.declared.barred.Barred.TheVariants.{Refused as Refusal, Touched}

-- it is done: the last entry of the number was the caller's, and `last` is now this one
pub record IsAccepted {W : Type 0} (plan : W → TaskPlan) (old new : ClusterView W) (w last last' : ℕ) (request : Request) (reply : Reply) : Type 0 where
  pub adds : AddsEntry plan old new request reply
  pub was : touched w old.journal ≡ last
  pub is : last' ≡ touched w new.journal

-- the cluster refused it, and the journal has the refusal
pub record IsRefused {W : Type 0} (plan : W → TaskPlan) (old new : ClusterView W) (w last last' : ℕ) (request : Request) (refused : Refused) : Type 0 where
  pub adds : AddsEntry plan old new request (Refuse refused)
  pub was : touched w old.journal ≡ last
  pub same : last' ≡ last

-- somebody else used the number, and nothing is done
pub record IsTouched {W : Type 0} (old new : ClusterView W) (w last last' at : ℕ) : Type 0 where
  pub same : new ≡ old
  pub last_is : last' ≡ last
  pub at_is : at ≡ touched w old.journal
  pub other : at ≢ last

abbrev pub IsOwn : {W : Type 0} {A : Type 0} → (W → TaskPlan) → ClusterView W → ClusterView W → ℕ → ℕ → ℕ → Request → (A → Reply) → Result A Barred → Type 0
IsOwn plan old new w last last' request reply (Ok a) = IsAccepted plan old new w last last' request (reply a)
IsOwn plan old new w last last' request reply (Err (Refusal refused)) = IsRefused plan old new w last last' request refused
IsOwn plan old new w last last' request reply (Err (Touched at)) = IsTouched old new w last last' at
