-- What a commit's end says of the journal.
use Rattle.std.specs.Prelude.{◌≡◌, ◌≢◌, ◌⊎◌, ◌≤◌, OnOk, ℕ, suc, Bool, true, false, Result, Ok, Err, Option, List, [], length}
use Rattle.ks_record.specs.declared.record.TaskId.{TaskId}
use Rattle.ks_record.specs.declared.assignment.Marker.{Marker}
use Rattle.ks_record.specs.declared.assignment.Refused.{Refused}
use Rattle.ks_record.specs.declared.assignment.Refused.TheVariants.{Fenced as FencedBy}
use Rattle.ks_shared.specs.declared.barred.Barred.TheVariants.{Refused as Refusal, Touched as IsTouched}
use Rattle.ks_history.specs.declared.journal.Entry.{Entry}
use Rattle.ks_history.specs.declared.transaction.Pending.{Pending}
use Rattle.ks_history.specs.Machine.{TaskPlan}
use Rattle.ks_history.specs.History.{at}
use Rattle.ks_history.specs.Touched.{touched}
use Rattle.ks_law_restore.specs.Views.{WorkView}
use Rattle.ks_law_commit.specs.Accounts.{accepted_of}
use Rattle.ks_law_commit.specs.Building.{Contents}
use Rattle.ks_law_commit.specs.Cases.{HasCommitted, CommitCases}
use Rattle.ks_growing.specs.Passes.{PassView}
use Rattle.ks_shared.specs.declared.state.Frame.{Frame}
use Rattle.ks_shared.specs.Calls.{setup_in}
use Rattle.ks_worker_commit.specs.declared.halt.Halt.{Halt}
use Rattle.ks_worker_commit.specs.declared.halt.Halt.TheVariants.{OutOfMemory, Cut as IsCut, Barred as IsBarred}
use Rattle.ks_worker_commit.specs.declared.outcome.Outcome.{Outcome}
use Rattle.ks_worker_commit.specs.declared.outcome.Outcome.TheVariants.{Committed, Aborted, Fenced, Touched, Cut}
use Rattle.ks_worker_commit.specs.Outcomes.{Requests, holds_commit, holds_fence}
use Rattle.ks_worker_commit.specs.Underway.{Memory, HasDecided, IsHalted, HasAborted, HasNotAborted, WasNotAsked}

-- all was sent while the generation was the worker's, and then the commit was decided; nobody else had used the number
pub record CameToDecision {W : Type 0} (plan : W → TaskPlan) (old new : PassView Entry (Frame W)) (w e g last : ℕ) (next : Memory) (fs : List WorkView) (c : Contents) : Type 0 where
  pub mid : PassView Entry (Frame W)
  pub mem : Memory
  pub decided : HasDecided plan old mid new w e g last mem next fs c
  pub mine : touched w old.seen ≡ last
  pub generation : (at (setup_in plan old.frame) mid.seen).generation ≡ g

-- the requests up to the decision: it is made, or one of them wasn't done
abbrev pub EndsSo : {W A : Type 0} → (W → TaskPlan) → PassView Entry (Frame W) → PassView Entry (Frame W) → ℕ → ℕ → ℕ → ℕ → Memory → List WorkView → Contents → Result A Halt → Type 0
EndsSo plan old new w e g last next fs c (Ok a) = CameToDecision plan old new w e g last next fs c
EndsSo plan old new w e g last next fs c (Err (IsBarred b)) = IsHalted plan old new w e g last next b
EndsSo plan old new w e g last next fs c (Err OutOfMemory) = Unit {0}
EndsSo plan old new w e g last next fs c (Err IsCut) = Unit {0}

-- these offsets are committed, and the worker's markers are written
pub record IsCommitted {W : Type 0} (plan : W → TaskPlan) (old new : PassView Entry (Frame W)) (w e : ℕ) (pending : TaskId → Option Pending) : Type 0 where
  pub requests : Requests plan old new w
  pub committed : HasCommitted (setup_in plan old.frame) old.seen requests.more w e pending

abbrev pub is_fenced : Outcome → Bool
is_fenced Fenced = true
is_fenced _ = false

-- somebody else used the worker's number: more of its requests were accepted than the worker's own, or it was used before
abbrev pub WasUsed : List Entry → List Entry → List Entry → ℕ → ℕ → Type 0
WasUsed journal more own w last = (suc (accepted_of w own) ≤ accepted_of w more) ⊎ (touched w journal ≢ last)

-- one of the five cases, and no commit of its own was accepted; one of its requests was refused by `Fenced` just where the outcome
-- says so, and `Touched` only where somebody else used its number
pub record IsEnded {W : Type 0} (plan : W → TaskPlan) (old new : PassView Entry (Frame W)) (w e g last : ℕ) (pending : TaskId → Option Pending) (o : Outcome) : Type 0 where
  pub requests : Requests plan old new w
  pub own : holds_commit requests.own ≡ false
  pub fence : holds_fence requests.own ≡ is_fenced o
  pub used : o ≡ Touched → WasUsed old.seen requests.more requests.own w last
  pub cases : CommitCases (setup_in plan old.frame) old.seen requests.more w e g (length requests.own) last pending

-- a committed end is the first of them, and only one that was cut off may be none
abbrev pub HasCase : {W : Type 0} → (W → TaskPlan) → PassView Entry (Frame W) → PassView Entry (Frame W) → ℕ → ℕ → ℕ → ℕ → (TaskId → Option Pending) → Outcome → Type 0
HasCase plan old new w e g last pending Committed = IsCommitted plan old new w e pending
HasCase plan old new w e g last pending Aborted = IsEnded plan old new w e g last pending Aborted
HasCase plan old new w e g last pending Fenced = IsEnded plan old new w e g last pending Fenced
HasCase plan old new w e g last pending Touched = IsEnded plan old new w e g last pending Touched
HasCase plan old new w e g last pending Cut = Unit {0}

-- ---- helpers of the loops
-- a request of these is always done
abbrev pub NeverBarred : {A : Type 0} → Result A Halt → Type 0
NeverBarred (Err (IsBarred b)) = ⊥
NeverBarred _ = Unit {0}

-- what a commit comes to that is refused
abbrev pub refused_outcome : Refused → Outcome
refused_outcome (FencedBy epoch) = Fenced
refused_outcome _ = Aborted

-- what a commit comes to whose requests stopped so
abbrev pub IsOutcomeOf : {E : Type 0} → Halt → Result Outcome E → Type 0
IsOutcomeOf OutOfMemory result = OnOk result ⊥
IsOutcomeOf IsCut result = result ≡ Ok Cut
IsOutcomeOf (IsBarred (IsTouched place)) result = result ≡ Ok Touched
IsOutcomeOf (IsBarred (Refusal refused)) result = result ≡ Ok (refused_outcome refused)

-- the abort was refused, but not since the worker is fenced
pub record IsRefusedAbort {W : Type 0} (plan : W → TaskPlan) (old new : PassView Entry (Frame W)) (w e : ℕ) (mem next : Memory) : Type 0 where
  pub refused : Refused
  pub why : refused_outcome refused ≡ Aborted
  pub so : HasNotAborted plan old new w e mem next refused

-- a decision to abort was made, or it was refused so
abbrev pub HasTurnedBack : {W : Type 0} → (W → TaskPlan) → PassView Entry (Frame W) → PassView Entry (Frame W) → ℕ → ℕ → Memory → Memory → Type 0
HasTurnedBack plan old new w e mem next = HasAborted plan old new w e mem next ⊎ IsRefusedAbort plan old new w e mem next

-- such a decision never ends committed
abbrev pub TurnsBackSo : {W : Type 0} → (W → TaskPlan) → PassView Entry (Frame W) → PassView Entry (Frame W) → ℕ → ℕ → Memory → Memory → Outcome → Type 0
TurnsBackSo plan old new w e mem next Committed = ⊥
TurnsBackSo plan old new w e mem next Aborted = HasTurnedBack plan old new w e mem next
TurnsBackSo plan old new w e mem next Touched = WasNotAsked old new w mem
TurnsBackSo plan old new w e mem next Fenced = Unit {0}
TurnsBackSo plan old new w e mem next Cut = Unit {0}

-- and then the worker's markers were written, and its producer remembers the same
pub record IsAborted {W : Type 0} (plan : W → TaskPlan) (old new : PassView Entry (Frame W)) (w e : ℕ) (mem next : Memory) : Type 0 where
  pub mid : PassView Entry (Frame W)
  pub back : HasTurnedBack plan old mid w e mem next
  pub written : Requests plan mid new w
  pub marked : ((at (setup_in plan old.frame) new.seen).producer w).waiting ≡ []

-- an abort never ends committed
abbrev pub AbortsSo : {W : Type 0} → (W → TaskPlan) → PassView Entry (Frame W) → PassView Entry (Frame W) → ℕ → ℕ → Memory → Memory → Outcome → Type 0
AbortsSo plan old new w e mem next Committed = ⊥
AbortsSo plan old new w e mem next Aborted = IsAborted plan old new w e mem next
AbortsSo plan old new w e mem next Touched = WasNotAsked old new w mem
AbortsSo plan old new w e mem next Fenced = Unit {0}
AbortsSo plan old new w e mem next Cut = Unit {0}

-- the markers are written, or the worker was cut off
abbrev pub FinishesSo : List Marker → Outcome → Type 0
FinishesSo waiting Committed = waiting ≡ []
FinishesSo waiting Cut = Unit {0}
FinishesSo waiting _ = ⊥

-- how often the gate cut the worker off
abbrev pub cut_of : {E : Type 0} → Result Outcome E → ℕ
cut_of (Ok Cut) = 1
cut_of _ = 0

-- whether it was fenced
abbrev pub fenced_in : {E : Type 0} → Result Outcome E → Bool
fenced_in (Ok o) = is_fenced o
fenced_in (Err e) = false
