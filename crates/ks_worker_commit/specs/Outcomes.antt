-- What a pass has seen and made in a commit, and what each of the commit's ends says.
use Rattle.std.specs.Prelude.{◌≡◌, ◌≢◌, ◌⊎◌, ◌+◌, ◌≤◌, ◌&&◌, ◌||◌, ℕ, suc, Bool, true, false, not, Option, Some, None, Result, Ok, Err, List, [], ◌∷◌, ◌++◌, length}
use Rattle.ks_record.specs.declared.record.PartId.{PartId}
use Rattle.ks_record.specs.declared.assignment.Refused.{Refused}
use Rattle.ks_record.specs.declared.assignment.Refused.TheVariants.{Fenced}
use Rattle.ks_history.specs.declared.journal.Entry.{Entry}
use Rattle.ks_history.specs.declared.journal.Request.{Request}
use Rattle.ks_history.specs.declared.journal.Request.TheVariants.{Decide, MarkNext}
use Rattle.ks_history.specs.declared.journal.Reply.{Reply}
use Rattle.ks_history.specs.declared.journal.Reply.TheVariants.{Mark as Marked, Refused as Refuse}
use Rattle.ks_history.specs.Machine.{TaskPlan}
use Rattle.ks_history.specs.State.{Setup}
use Rattle.ks_history.specs.History.{at, IsHistory}
use Rattle.ks_history.specs.Touched.{is_refused}
use Rattle.ks_growing.specs.Passes.{PassView}
use Rattle.ks_shared.specs.declared.state.Frame.{Frame}
use Rattle.ks_shared.specs.Calls.{setup_in}
use Rattle.ks_shared.specs.declared.barred.Barred.{Barred}
use Rattle.ks_shared.specs.declared.barred.Barred.TheVariants.{Refused as Refusal, Touched}
use Rattle.ks_law_sharing.specs.Refusals.{IsFencing, IsMarkersWaiting}
use Rattle.ks_law_commit.specs.Accounts.{is_of_commit, accepted_of}
use Rattle.ks_law_commit.specs.Cases.{IsTurnedDown}
use Rattle.ks_worker_client.specs.declared.halt.Halt.{Halt as TurnHalt}
use Rattle.ks_worker_client.specs.declared.halt.Halt.TheVariants.{OutOfMemory as NoMemory, Cut as CutOff}
use Rattle.ks_worker_client.specs.Turns.{GateCounts}
use Rattle.ks_worker_client.specs.Calls.{Wrote}
use Rattle.ks_worker_commit.specs.declared.halt.Halt.{Halt}
use Rattle.ks_worker_commit.specs.declared.halt.Halt.TheVariants.{OutOfMemory, Cut, Barred as IsBarred}

-- the first entries stand among the second, in this order
abbrev pub IsAmong : List Entry → List Entry → Type 0
IsAmong own [] = own ≡ []
IsAmong own (x ∷ more) = IsAmong own more ⊎ ((rest : List Entry) × (own ≡ x ∷ rest) × IsAmong rest more)

-- these are requests of a commit of the worker: `add`, `append`, `send_offsets`, `decide`, `mark_next`
abbrev pub are_of_commit : ℕ → List Entry → Bool
are_of_commit w [] = true
are_of_commit w (x ∷ xs) = is_of_commit w x.request && are_of_commit w xs

-- the pass has seen more, some of which it made itself: requests of a commit of the worker, and no others
pub record Requests {W : Type 0} (plan : W → TaskPlan) (old new : PassView Entry (Frame W)) (w : ℕ) : Type 0 where
  pub more : List Entry
  pub own : List Entry
  pub seen : new.seen ≡ old.seen ++ more
  pub same : new ≡ record old { seen = new.seen; made = old.made + length own }
  pub among : IsAmong own more
  pub of_commit : are_of_commit w own ≡ true
  pub history : IsHistory (setup_in plan old.frame) old.seen → IsHistory (setup_in plan old.frame) new.seen

-- one of these entries is a commit that was accepted
abbrev pub is_commit : Request → Bool
is_commit (Decide v d commit) = commit
is_commit _ = false

abbrev pub holds_commit : List Entry → Bool
holds_commit [] = false
holds_commit (x ∷ xs) = (not (is_refused x.reply) && is_commit x.request) || holds_commit xs

-- one of these entries is a request that was refused by `Fenced`
abbrev pub is_fence : Refused → Bool
is_fence (Fenced epoch) = true
is_fence _ = false

abbrev pub fences : Reply → Bool
fences (Refuse refused) = is_fence refused
fences _ = false

abbrev pub holds_fence : List Entry → Bool
holds_fence [] = false
holds_fence (x ∷ xs) = fences x.reply || holds_fence xs

-- the same of a pass whose own requests hold no accepted commit, and whether one of them was refused by `Fenced`
pub record UndecidedRequests {W : Type 0} (plan : W → TaskPlan) (old new : PassView Entry (Frame W)) (w : ℕ) (fenced : Bool) : Type 0 where
  pub requests : Requests plan old new w
  pub undecided : holds_commit requests.own ≡ false
  pub fence : holds_fence requests.own ≡ fenced

-- what a call's answer is to a commit
abbrev pub halted : {A : Type 0} → Result (Result A Barred) TurnHalt → Result A Halt
halted (Ok (Ok a)) = Ok a
halted (Ok (Err b)) = Err (IsBarred b)
halted (Err NoMemory) = Err OutOfMemory
halted (Err CutOff) = Err Cut

-- whether a marker was written
abbrev pub written : {A : Type 0} → Result (Option A) TurnHalt → Result Bool Halt
written (Ok None) = Ok false
written (Ok (Some a)) = Ok true
written (Err NoMemory) = Err OutOfMemory
written (Err CutOff) = Err Cut

-- a marker of the worker waited and was written: that entry is the last which the pass has seen
pub record WroteMarker {W : Type 0} (plan : W → TaskPlan) (old new : PassView Entry (Frame W)) (w : ℕ) : Type 0 where
  pub marker : PartId × Bool
  pub wrote : Wrote plan old new (MarkNext w) (Marked (Some marker))

-- the counts of a gate that cut the worker off so often more
abbrev pub with_cuts : GateCounts → ℕ → GateCounts
with_cuts counts n = record counts { cuts = counts.cuts + n }

-- how often the gate cut the worker off
abbrev pub cuts_in : {A : Type 0} → Result A Halt → ℕ
cuts_in (Err Cut) = 1
cuts_in _ = 0

-- why a request wasn't done, which is the last of `made` that a worker made of these entries
abbrev pub WhyBarred : Setup → List Entry → List Entry → ℕ → ℕ → ℕ → ℕ → Barred → Type 0
WhyBarred setup journal more w e g made (Refusal r) =
    (IsFencing r × IsTurnedDown more w e g IsFencing)
    ⊎ (IsMarkersWaiting r × IsTurnedDown more w e g IsMarkersWaiting × ((at setup journal).producer w).waiting ≢ [])
WhyBarred setup journal more w e g made (Touched last) = suc made ≤ accepted_of w more

-- whether it was refused by `Fenced`
abbrev pub by_fence : Barred → Bool
by_fence (Refusal refused) = is_fence refused
by_fence (Touched last) = false

abbrev pub fence_in : {A : Type 0} → Result A Halt → Bool
fence_in (Err (IsBarred b)) = by_fence b
fence_in _ = false
