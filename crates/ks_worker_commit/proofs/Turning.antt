-- An abort: it is decided or refused, and then the worker's markers are written.
use Rattle.std.proofs.Common.{◌≡◌, ℕ, ◌+◌, false, [], Result, Ok, Err, refl, sym, ap, subst, ◌∙◌, arith}
use Rattle.std.specs.Prelude.{IfOk}
use Rattle.ks_history.specs.declared.journal.Entry.{Entry}
use Rattle.ks_history.specs.Machine.{TaskPlan}
use Rattle.ks_history.specs.State.{Setup}
use Rattle.ks_history.specs.History.{at}
use Rattle.ks_worker_client.specs.Turns.{GateCounts, HasRoomFor}
use Rattle.ks_growing.specs.Passes.{PassView}
use Rattle.ks_shared.specs.declared.state.Frame.{Frame}
use Rattle.ks_shared.specs.Calls.{setup_in}
use Rattle.ks_worker_commit.specs.declared.halt.Halt.{Halt}
use Rattle.ks_worker_commit.specs.declared.halt.Halt.TheVariants.{OutOfMemory, Cut as IsCut, Barred as IsBarred}
use Rattle.ks_worker_commit.specs.declared.outcome.Outcome.{Outcome}
use Rattle.ks_worker_commit.specs.declared.outcome.Outcome.TheVariants.{Committed, Aborted, Fenced, Touched, Cut}
use Rattle.ks_worker_commit.specs.Outcomes.{Requests, UndecidedRequests, with_cuts, cuts_in, fence_in}
use Rattle.ks_worker_commit.specs.Underway.{Memory}
use Rattle.ks_worker_commit.specs.Ends.{HasTurnedBack, TurnsBackSo, IsAborted, AbortsSo, IsOutcomeOf, NeverBarred, cut_of, fenced_in}
use Rattle.ks_worker_commit.proofs.Carrying.{same_setup}
use Rattle.ks_worker_commit.proofs.Closing.{same_cut, same_fence}
use Rattle.ks_worker_commit.proofs.Requesting.{undecided_then}

-- ---- what it comes to
module _ {W E : Type 0} (plan : W → TaskPlan) (old mid : PassView Entry (Frame W)) (w e : ℕ) (mem next : Memory) (r : Result Outcome E) (o : Outcome) (is : r ≡ Ok o)
    (so : IfOk r (TurnsBackSo plan old mid w e mem next)) where
  turned : TurnsBackSo plan old mid w e mem next o
  turned = subst (λ x. IfOk x (TurnsBackSo plan old mid w e mem next)) is so

  -- no markers are to be written
  ends_so : (x : Outcome) → (x ≡ Aborted → ⊥) → TurnsBackSo plan old mid w e mem next x → AbortsSo plan old mid w e mem next x
  ends_so Committed none h = absurd h
  ends_so Aborted none h = absurd (none refl)
  ends_so Fenced none h = tt
  ends_so Touched none h = h
  ends_so Cut none h = tt

  pub ends_otherwise : (o ≡ Aborted → ⊥) → AbortsSo plan old mid w e mem next o
  ends_otherwise none = ends_so o none turned

  -- they are written
  pub ends_aborted : (new : PassView Entry (Frame W)) (final : Memory) → o ≡ Aborted → Requests plan old mid w → Requests plan mid new w → final ≡ next →
      ((at (setup_in plan mid.frame) new.seen).producer w).waiting ≡ [] → IsAborted plan old new w e mem final
  ends_aborted new final aborted one more same none = record {
    mid = mid;
    back = subst (λ (k : Memory). HasTurnedBack plan old mid w e mem k) (sym same) (subst (λ x. TurnsBackSo plan old mid w e mem next x) aborted turned);
    written = more;
    marked = subst (λ (k : Setup). ((at k new.seen).producer w).waiting ≡ []) (same_setup plan old mid w one) none;
  }

-- the markers' requests stop only where the worker is cut off or there is no memory
stops_by : (A : Type 0) {E : Type 0} (P : Outcome → Type 0) → P Cut → (halt : Halt) → NeverBarred {A = A} (Err halt) → (x : Result Outcome E) → IsOutcomeOf halt x → IfOk x P
stops_by A P cut OutOfMemory never (Ok o) of = absurd of
stops_by A P cut OutOfMemory never (Err e) of = tt
stops_by A P cut IsCut never x of = subst (λ y. IfOk y P) (sym of) cut
stops_by A P cut (IsBarred b) never x of = absurd never

pub stops_so : {A E : Type 0} (P : Outcome → Type 0) → P Cut → (r : Result A Halt) (halt : Halt) → r ≡ Err halt → NeverBarred r → (x : Result Outcome E) → IsOutcomeOf halt x → IfOk x P
stops_so {A} P cut r halt is never = stops_by A P cut halt (subst (λ (y : Result A Halt). NeverBarred y) is never)

-- ---- the gate
module _ {E : Type 0} (first mid : GateCounts) (r : Result Outcome E) (o : Outcome) (is : r ≡ Ok o) (aborted : o ≡ Aborted) (one : mid ≡ with_cuts first (cut_of r)) where
  no_cut : mid ≡ first
  no_cut =
      let none : first.cuts + cut_of r ≡ first.cuts = ap (λ y. first.cuts + cut_of y) (is ∙ ap Ok aborted) ∙ omega arith in
      one ∙ ap (λ n. record first { cuts = n }) none

  pub room_then : HasRoomFor first → HasRoomFor mid
  room_then = subst HasRoomFor (sym no_cut)

  module _ {A : Type 0} (now : GateCounts) (s : Result A Halt) (two : now ≡ with_cuts mid (cuts_in s)) where
    both : now ≡ with_cuts first (cuts_in s)
    both = two ∙ ap (λ k. with_cuts k (cuts_in s)) no_cut

    pub gate_done : (a : A) → s ≡ Ok a → now ≡ with_cuts first 0
    gate_done a done = both ∙ ap (λ y. with_cuts first (cuts_in y)) done

    pub gate_stopped : (halt : Halt) → s ≡ Err halt → (x : Result Outcome E) → IsOutcomeOf halt x → now ≡ with_cuts first (cut_of x)
    gate_stopped halt stopped x of = both ∙ ap (λ n. with_cuts first n) (ap cuts_in stopped ∙ sym (same_cut A halt x of))

-- ---- whether the worker was fenced
module _ {W E : Type 0} (plan : W → TaskPlan) (old mid : PassView Entry (Frame W)) (w : ℕ) where
  -- by another name of the answer
  pub fenced_as : (x y : Result Outcome E) → x ≡ y → UndecidedRequests plan old mid w (fenced_in x) → UndecidedRequests plan old mid w (fenced_in y)
  fenced_as x y is = subst (λ z. UndecidedRequests plan old mid w (fenced_in z)) is

  -- the outcome of what stopped the request
  pub fenced_by : (A : Type 0) (r : Result A Halt) (halt : Halt) → r ≡ Err halt → (x : Result Outcome E) → IsOutcomeOf halt x → UndecidedRequests plan old mid w (fence_in r) → UndecidedRequests plan old mid w (fenced_in x)
  fenced_by A r halt is x of = subst (λ b. UndecidedRequests plan old mid w b) (ap fence_in is ∙ sym (same_fence A halt x of))

  -- an aborted one isn't fenced, and what stops the markers isn't the fence
  pub unfenced_then : (new : PassView Entry (Frame W)) (r : Result Outcome E) (o : Outcome) → r ≡ Ok o → o ≡ Aborted → UndecidedRequests plan old mid w (fenced_in r) → UndecidedRequests plan mid new w false → UndecidedRequests plan old new w false
  unfenced_then new r o is aborted one more = undecided_then plan old mid new w (fenced_as r (Ok Aborted) (is ∙ ap Ok aborted) one) more

-- it was done
pub unfenced_by : {W : Type 0} (plan : W → TaskPlan) (old new : PassView Entry (Frame W)) (w : ℕ) (A : Type 0) (r : Result A Halt) (a : A) → r ≡ Ok a → UndecidedRequests plan old new w (fence_in r) → UndecidedRequests plan old new w false
unfenced_by plan old new w A r a is = subst (λ b. UndecidedRequests plan old new w b) (ap fence_in is)

never_fence : (A : Type 0) (halt : Halt) → NeverBarred {A = A} (Err halt) → fence_in {A = A} (Err halt) ≡ false
never_fence A OutOfMemory never = refl
never_fence A IsCut never = refl
never_fence A (IsBarred b) never = absurd never

pub never_fenced : {W A E : Type 0} (plan : W → TaskPlan) (old new : PassView Entry (Frame W)) (w : ℕ) (r : Result A Halt) (halt : Halt) → r ≡ Err halt → NeverBarred r → (x : Result Outcome E) → IsOutcomeOf halt x →
    UndecidedRequests plan old new w false → UndecidedRequests plan old new w (fenced_in x)
never_fenced {W} {A} plan old new w r halt is never x of =
    subst (λ b. UndecidedRequests plan old new w b) (sym (same_fence A halt x of ∙ never_fence A halt (subst (λ (y : Result A Halt). NeverBarred y) is never)))
