-- From what stopped a commit's requests to its outcome.
use Rattle.std.proofs.Common.{◌≡◌, ◌≢◌, ◌⊎◌, inl, inr, ℕ, ◌+◌, Bool, true, false, List, [], ◌∷◌, ◌++◌, Option, Result, Ok, Err, refl, sym, ap, subst, ◌∙◌, arith}
use Rattle.std.specs.Prelude.{IfOk, OnOk, None}
use Rattle.ks_record.specs.declared.record.TaskId.{TaskId}
use Rattle.ks_record.specs.declared.assignment.Marker.{Marker}
use Rattle.ks_record.specs.declared.assignment.Refused.{Refused}
use Rattle.ks_record.specs.declared.assignment.Refused.TheVariants.{OutOfSequence, Fenced as FencedBy, AlreadyDecided, NoTransaction, OldGeneration, NotAssigned, Unstable, MarkersWaiting, BadAssignment}
use Rattle.ks_history.specs.declared.journal.Entry.{Entry}
use Rattle.ks_history.specs.declared.transaction.Pending.{Pending}
use Rattle.ks_history.specs.Machine.{TaskPlan, IsNetwork}
use Rattle.ks_history.specs.State.{Setup, pending_of}
use Rattle.ks_history.specs.Follows.{TaskView}
use Rattle.ks_history.specs.History.{at, IsHistory}
use Rattle.ks_history.proofs.Histories.{history_front}
use Rattle.ks_law_restore.specs.Views.{WorkView}
use Rattle.ks_law_commit.specs.Held.{IsHeld}
use Rattle.ks_law_commit.proofs.Held.{held_stays}
use Rattle.ks_commit.specs.Sending.{pendings_of}
use Rattle.ks_commit.specs.Committed.{AreApart}
use Rattle.ks_worker_client.specs.declared.member.Member.{Member}
use Rattle.ks_worker_client.specs.Turns.{GateCounts}
use Rattle.ks_worker_client.specs.Calls.{Later}
use Rattle.ks_growing.specs.Passes.{PassView}
use Rattle.ks_shared.specs.declared.state.Frame.{Frame}
use Rattle.ks_shared.specs.declared.barred.Barred.{Barred}
use Rattle.ks_shared.specs.declared.barred.Barred.TheVariants.{Refused as Refusal, Touched as IsTouched}
use Rattle.ks_shared.specs.Calls.{setup_in}
use Rattle.ks_worker_commit.specs.declared.halt.Halt.{Halt}
use Rattle.ks_worker_commit.specs.declared.halt.Halt.TheVariants.{OutOfMemory, Cut as IsCut, Barred as IsBarred}
use Rattle.ks_worker_commit.specs.declared.outcome.Outcome.{Outcome}
use Rattle.ks_worker_commit.specs.declared.outcome.Outcome.TheVariants.{Committed, Aborted, Fenced, Touched, Cut}
use Rattle.ks_worker_commit.specs.Outcomes.{Requests, UndecidedRequests, is_fence, fence_in, with_cuts, cuts_in}
use Rattle.ks_worker_commit.specs.Outputs.{contents_of}
use Rattle.ks_worker_commit.specs.Underway.{Memory, IsHalted}
use Rattle.ks_worker_commit.specs.Ends.{CameToDecision, EndsSo, IsEnded, HasCase, IsOutcomeOf, HasTurnedBack, IsAborted, is_fenced, fenced_in, WasUsed, refused_outcome, cut_of, AbortsSo, FinishesSo}
use Rattle.ks_worker_commit.specs.Leaves.{KnowsProducer, LeavesTasks, LeavesProducer, HasNoMarker, LeavesNoMarker}
use Rattle.ks_worker_commit.proofs.Requesting.{requests_both, undecided_none, fence_both, fence_first}
use Rattle.ks_worker_commit.proofs.Ending.{pending_is, refused_then, used_then, touched_ends, committed_then, aborted_case, finished_case}
use Rattle.ks_worker_commit.proofs.Carrying.{same_setup}
use Rattle.ks_worker_commit.proofs.Kept.{committed_works, committed_rests, committed_remembers, remembers_later, aborted_tasks, aborted_remembers, refused_tasks, refused_remembers}

-- a refusal is the fence, or it isn't
fence_or_not : (r : Refused) → (refused_outcome r ≡ Fenced) ⊎ (refused_outcome r ≡ Aborted)
fence_or_not (FencedBy epoch) = inl refl
fence_or_not (OutOfSequence expected) = inr refl
fence_or_not (AlreadyDecided commit) = inr refl
fence_or_not NoTransaction = inr refl
fence_or_not (OldGeneration now) = inr refl
fence_or_not (NotAssigned owner) = inr refl
fence_or_not (Unstable producer) = inr refl
fence_or_not (MarkersWaiting left) = inr refl
fence_or_not (BadAssignment task) = inr refl

refused_cut : (E : Type 0) (x : Refused) → cut_of {E = E} (Ok (refused_outcome x)) ≡ 0
refused_cut E x = by (fence_or_not x)
  where
    by : (refused_outcome x ≡ Fenced) ⊎ (refused_outcome x ≡ Aborted) → cut_of {E = E} (Ok (refused_outcome x)) ≡ 0
    by (inl is) = ap (λ o. cut_of {E = E} (Ok o)) is
    by (inr is) = ap (λ o. cut_of {E = E} (Ok o)) is

-- it counts as what stopped the requests
pub same_cut : {E : Type 0} (A : Type 0) (halt : Halt) (r : Result Outcome E) → IsOutcomeOf halt r → cut_of r ≡ cuts_in {A = A} (Err halt)
same_cut A OutOfMemory (Ok o) is = absurd is
same_cut A OutOfMemory (Err e) is = refl
same_cut A IsCut r is = ap cut_of is
same_cut A (IsBarred (IsTouched place)) r is = ap cut_of is
same_cut {E} A (IsBarred (Refusal x)) r is = ap cut_of is ∙ refused_cut E x

-- the outcome of a refusal tells whether it is the fence
fence_told : (r : Refused) → is_fence r ≡ is_fenced (refused_outcome r)
fence_told (FencedBy epoch) = refl
fence_told (OutOfSequence expected) = refl
fence_told (AlreadyDecided commit) = refl
fence_told NoTransaction = refl
fence_told (OldGeneration now) = refl
fence_told (NotAssigned owner) = refl
fence_told (Unstable producer) = refl
fence_told (MarkersWaiting left) = refl
fence_told (BadAssignment task) = refl

pub same_fence : {E : Type 0} (A : Type 0) (halt : Halt) (r : Result Outcome E) → IsOutcomeOf halt r → fenced_in r ≡ fence_in {A = A} (Err halt)
same_fence A OutOfMemory (Ok o) is = absurd is
same_fence A OutOfMemory (Err e) is = refl
same_fence A IsCut r is = ap fenced_in is
same_fence A (IsBarred (IsTouched place)) r is = ap fenced_in is
same_fence A (IsBarred (Refusal x)) r is = ap fenced_in is ∙ sym (fence_told x)

abbrev pub pending_in : List WorkView → TaskId → Option Pending
pending_in fs t = pending_of t (pendings_of fs)

-- ---- the commit's clauses, by what it comes to
-- a later moment of the pass
pub later_of : {W : Type 0} (plan : W → TaskPlan) (old new : PassView Entry (Frame W)) (w : ℕ) → IsHistory (setup_in plan old.frame) old.seen → Requests plan old new w → Later plan old new
later_of {W} plan old new w history r = record {
  more = r.more;
  seen = r.seen;
  same = r.same ∙ (λ i. record old { seen = new.seen; made = sym (ap (λ (k : PassView Entry (Frame W)). k.made) r.same) i });
  history = subst (IsHistory (setup_in plan old.frame)) r.seen (r.history history);
}

-- decided, and then finished
module _ {W : Type 0} (plan : W → TaskPlan) (old mid new : PassView Entry (Frame W)) (m : Member) (last : ℕ) (next : Memory) (fs : List WorkView) (apart : AreApart fs)
    (d : CameToDecision plan old mid m.number m.epoch m.generation last next fs (contents_of fs)) (more : Requests plan mid new m.number) (history : IsHistory (setup_in plan old.frame) new.seen) where
  frame_same : setup_in plan mid.frame ≡ setup_in plan old.frame
  frame_same = ap (λ (k : PassView Entry (Frame W)). setup_in plan k.frame) d.decided.requests.same

  pub finished_cases : (o : Outcome) → FinishesSo ((at (setup_in plan mid.frame) new.seen).producer m.number).waiting o → HasCase plan old new m.number m.epoch m.generation last (pending_in fs) o
  finished_cases o so =
      finished_case plan old mid new m.number m.epoch m.generation last (pending_in fs) o
      (subst (λ (k : Setup). FinishesSo ((at k new.seen).producer m.number).waiting o) frame_same so)
      (λ none. committed_then plan old mid new m.number m.epoch m.generation last (pending_in fs) next fs (contents_of fs) (λ t. pending_is fs t apart) d more none)

  pub finished_producer : (ms : List Marker) (o : Outcome) → FinishesSo ms o → LeavesProducer (setup_in plan old.frame) new.seen m next.last next.numbers o
  finished_producer ms Committed so = committed_remembers plan old mid m last next fs d new more.more more.seen history
  finished_producer ms Aborted so = absurd so
  finished_producer ms Fenced so = absurd so
  finished_producer ms Touched so = absurd so
  finished_producer ms Cut so = tt

  pub finished_tasks : (ms : List Marker) (o : Outcome) → FinishesSo ms o → LeavesTasks (setup_in plan old.frame) old.seen new.seen m last next.last fs next.ends o
  finished_tasks ms Committed so = (committed_works plan old mid m last next fs d new more.more more.seen history apart, committed_rests plan old mid m last next fs d new more.more more.seen history)
  finished_tasks ms Aborted so = absurd so
  finished_tasks ms Fenced so = absurd so
  finished_tasks ms Touched so = absurd so
  finished_tasks ms Cut so = tt

  pub finished_marked : (o : Outcome) → FinishesSo ((at (setup_in plan mid.frame) new.seen).producer m.number).waiting o → LeavesNoMarker (setup_in plan old.frame) new.seen m.number o
  finished_marked Committed so = subst (λ (k : Setup). HasNoMarker k new.seen m.number) frame_same so
  finished_marked Aborted so = absurd so
  finished_marked Fenced so = absurd so
  finished_marked Touched so = absurd so
  finished_marked Cut so = tt

-- halted, where no abort comes
abbrev pub NotAborted : {E : Type 0} → Result Outcome E → Type 0
NotAborted r = r ≡ Ok Aborted → ⊥

module _ {W : Type 0} (plan : W → TaskPlan) (old mid : PassView Entry (Frame W)) (m : Member) (last : ℕ) (mem : Memory) (fs : List WorkView) where
  -- refused, and nothing was made then
  refused_alone : (x : Refused) (o : Outcome) → refused_outcome x ≡ o → (o ≡ Touched → ⊥) → IsHalted plan old mid m.number m.epoch m.generation last mem (Refusal x) → IsEnded plan old mid m.number m.epoch m.generation last (pending_in fs) o
  refused_alone x o is other h =
      refused_then plan old mid mid m.number m.epoch m.generation last (pending_in fs) mem x o h (undecided_none plan mid m.number)
      (fence_first h.requests.own (undecided_none plan mid m.number).requests.own (undecided_none plan mid m.number).fence ∙ h.fence ∙ fence_told x ∙ ap is_fenced is) (λ touched. absurd (other touched))

  pub halted_cases : {E : Type 0} (A : Type 0) (halt : Halt) (r : Result Outcome E) → IsOutcomeOf halt r → EndsSo {A = A} plan old mid m.number m.epoch m.generation last mem fs (contents_of fs) (Err halt) → IfOk r (HasCase plan old mid m.number m.epoch m.generation last (pending_in fs))
  halted_cases A OutOfMemory (Ok o) is ends = absurd is
  halted_cases A OutOfMemory (Err e) is ends = tt
  halted_cases A IsCut r is ends = subst (λ x. IfOk x (HasCase plan old mid m.number m.epoch m.generation last (pending_in fs))) (sym is) tt
  halted_cases A (IsBarred (IsTouched place)) r is ends =
      subst (λ x. IfOk x (HasCase plan old mid m.number m.epoch m.generation last (pending_in fs))) (sym is) (touched_ends plan old mid mid m.number m.epoch m.generation last (pending_in fs) mem place ends)
  halted_cases A (IsBarred (Refusal x)) r is ends = subst (λ y. IfOk y (HasCase plan old mid m.number m.epoch m.generation last (pending_in fs))) (sym is) (by (refused_outcome x) (fence_or_not x) refl)
    where
      by : (o : Outcome) → (refused_outcome x ≡ Fenced) ⊎ (refused_outcome x ≡ Aborted) → refused_outcome x ≡ o → HasCase plan old mid m.number m.epoch m.generation last (pending_in fs) o
      by Committed (inl f) same = let k : Committed ≡ Fenced = sym same ∙ f in absurd cc
      by Committed (inr f) same = let k : Committed ≡ Aborted = sym same ∙ f in absurd cc
      by Aborted f same = refused_alone x Aborted same (λ k. absurd cc) ends
      by Fenced f same = refused_alone x Fenced same (λ k. absurd cc) ends
      by Touched (inl f) same = let k : Touched ≡ Fenced = sym same ∙ f in absurd cc
      by Touched (inr f) same = let k : Touched ≡ Aborted = sym same ∙ f in absurd cc
      by Cut f same = tt

-- neither committed nor aborted
pub halted_after : {E : Type 0} (P : Outcome → Type 0) → P Fenced → P Touched → P Cut → (halt : Halt) (r : Result Outcome E) → IsOutcomeOf halt r → NotAborted r → IfOk r P
halted_after P fenced touched cut OutOfMemory (Ok o) is no_abort = absurd is
halted_after P fenced touched cut OutOfMemory (Err e) is no_abort = tt
halted_after P fenced touched cut IsCut r is no_abort = subst (λ x. IfOk x P) (sym is) cut
halted_after P fenced touched cut (IsBarred (IsTouched place)) r is no_abort = subst (λ x. IfOk x P) (sym is) touched
halted_after P fenced touched cut (IsBarred (Refusal x)) r is no_abort = subst (λ y. IfOk y P) (sym is) (by (fence_or_not x))
  where
    by : (refused_outcome x ≡ Fenced) ⊎ (refused_outcome x ≡ Aborted) → P (refused_outcome x)
    by (inl f) = subst P (sym f) fenced
    by (inr f) = absurd (no_abort (is ∙ ap Ok f))

-- halted by a refusal, and then aborted
pub aborted_by : {E : Type 0} (halt : Halt) (r : Result Outcome E) → IsOutcomeOf halt r → r ≡ Ok Aborted → (x : Refused) × (halt ≡ IsBarred (Refusal x)) × (is_fence x ≡ false)
aborted_by OutOfMemory (Ok o) is same = absurd is
aborted_by OutOfMemory (Err e) is same = absurd cc
aborted_by IsCut r is same = absurd cc
aborted_by (IsBarred (IsTouched place)) r is same = absurd cc
aborted_by (IsBarred (Refusal x)) r is same = (x, refl, fence_told x ∙ ap fenced_in (sym is) ∙ ap fenced_in same)

module _ {W : Type 0} (A : Type 0) (plan : W → TaskPlan) (old mid new : PassView Entry (Frame W)) (m : Member) (last : ℕ) (mem next : Memory) (fs : List WorkView) {fenced : Bool} (more : UndecidedRequests plan mid new m.number fenced) (history : IsHistory (setup_in plan old.frame) new.seen)
    (halt : Halt) (refused : (x : Refused) × (halt ≡ IsBarred (Refusal x)) × (is_fence x ≡ false)) (ends : EndsSo {A = A} plan old mid m.number m.epoch m.generation last mem fs (contents_of fs) (Err halt)) where
  was_halted : IsHalted plan old mid m.number m.epoch m.generation last mem (Refusal refused.0)
  was_halted = subst (λ h. EndsSo {A = A} plan old mid m.number m.epoch m.generation last mem fs (contents_of fs) (Err h)) refused.1 ends

  used_so : (o : Outcome) → AbortsSo plan mid new m.number m.epoch mem next o → o ≡ Touched →
      WasUsed old.seen (was_halted.requests.more ++ more.requests.more) (was_halted.requests.own ++ more.requests.own) m.number last
  used_so o so is =
      used_then plan old mid new m.number m.epoch m.generation last (pending_in fs) mem refused.0 was_halted more
      (subst (λ x. AbortsSo plan mid new m.number m.epoch mem next x) is so)

  pub abort_cases : (o : Outcome) → fenced ≡ is_fenced o → AbortsSo plan mid new m.number m.epoch mem next o → HasCase plan old new m.number m.epoch m.generation last (pending_in fs) o
  abort_cases o fence so =
      aborted_case plan old mid new m.number m.epoch m.generation last (pending_in fs) mem next o so
      (refused_then plan old mid new m.number m.epoch m.generation last (pending_in fs) mem refused.0 o was_halted more
      (fence_both was_halted.requests.own more.requests.own (was_halted.fence ∙ refused.2) ∙ more.fence ∙ fence) (used_so o so))

  -- as it was when the abort was decided or refused, before its markers were written
  module _ (a : IsAborted plan mid new m.number m.epoch mem next) where
    abbrev setup : Setup
    setup = setup_in plan old.frame

    history_back : IsHistory setup a.mid.seen
    history_back = history_front setup a.mid.seen new.seen (a.written.more, a.written.seen) history

    back_producer : HasTurnedBack plan mid a.mid m.number m.epoch mem next → KnowsProducer setup a.mid.seen m next.last next.numbers
    back_producer (inl h) = aborted_remembers plan old mid a.mid m last mem next (Refusal refused.0) was_halted history_back h
    back_producer (inr h) = refused_remembers plan old mid a.mid m last mem next (Refusal refused.0) was_halted history_back h

    back_tasks : HasTurnedBack plan mid a.mid m.number m.epoch mem next → (v : TaskView) → IsHeld setup old.seen m.number m.generation last v → IsHeld setup a.mid.seen m.number m.generation next.last v
    back_tasks (inl h) v held = aborted_tasks plan old mid a.mid m last mem next (Refusal refused.0) was_halted history_back h v held
    back_tasks (inr h) v held = refused_tasks plan old mid a.mid m last mem next (Refusal refused.0) was_halted history_back h v held

    then_producer : KnowsProducer setup new.seen m next.last next.numbers
    then_producer = remembers_later setup a.mid.seen a.written.more new.seen m next a.written.seen history (back_producer a.back)

    then_tasks : (v : TaskView) → IsHeld setup old.seen m.number m.generation last v → IsHeld setup new.seen m.number m.generation next.last v
    then_tasks v held =
        subst (λ l. IsHeld setup l m.number m.generation next.last v) (sym a.written.seen)
        (held_stays setup a.mid.seen a.written.more m.number m.generation next.last v was_halted.under.worker.network (subst (IsHistory setup) a.written.seen history) (back_producer a.back).0 (back_tasks a.back v held))

  pub abort_producer : (o : Outcome) → AbortsSo plan mid new m.number m.epoch mem next o → LeavesProducer (setup_in plan old.frame) new.seen m next.last next.numbers o
  abort_producer Committed so = absurd so
  abort_producer Aborted so = then_producer so
  abort_producer Fenced so = tt
  abort_producer Touched so = tt
  abort_producer Cut so = tt

  pub abort_tasks : (o : Outcome) → AbortsSo plan mid new m.number m.epoch mem next o → LeavesTasks (setup_in plan old.frame) old.seen new.seen m last next.last fs next.ends o
  abort_tasks Committed so = absurd so
  abort_tasks Aborted so = λ v none held. then_tasks so v held
  abort_tasks Fenced so = tt
  abort_tasks Touched so = tt
  abort_tasks Cut so = tt

  pub abort_marked : (o : Outcome) → AbortsSo plan mid new m.number m.epoch mem next o → LeavesNoMarker (setup_in plan old.frame) new.seen m.number o
  abort_marked Committed so = absurd so
  abort_marked Aborted so = subst (λ (k : Setup). HasNoMarker k new.seen m.number) (same_setup plan old mid m.number was_halted.requests) so.marked
  abort_marked Fenced so = tt
  abort_marked Touched so = tt
  abort_marked Cut so = tt

-- ---- the clauses of a commit, whichever way it ends
one_answer : {E : Type 0} (x : Result Outcome E) (a b : Outcome) → x ≡ Ok a → x ≡ Ok b → a ≡ b
one_answer x a b h k = cc

if_ok : {E : Type 0} (P Q : Outcome → Type 0) (r : Result Outcome E) → ((o : Outcome) → P o → Q o) → IfOk r P → IfOk r Q
if_ok P Q (Ok o) f h = f o h
if_ok P Q (Err e) f h = tt

module _ {W A E : Type 0} (plan : W → TaskPlan) (old mid new : PassView Entry (Frame W)) (m : Member) (last : ℕ) (next final : Memory) (fs : List WorkView) (apart : AreApart fs) (r : Result A Halt) (a : A) (is : r ≡ Ok a)
    (ends : EndsSo plan old mid m.number m.epoch m.generation last next fs (contents_of fs) r) (one : Requests plan old mid m.number) (more : Requests plan mid new m.number) (history : IsHistory (setup_in plan old.frame) old.seen)
    (same : final ≡ next) (o : Result Outcome E) (so : IfOk o (FinishesSo ((at (setup_in plan mid.frame) new.seen).producer m.number).waiting)) where
  came : CameToDecision plan old mid m.number m.epoch m.generation last next fs (contents_of fs)
  came = subst (λ (x : Result A Halt). EndsSo plan old mid m.number m.epoch m.generation last next fs (contents_of fs) x) is ends

  history_new : IsHistory (setup_in plan old.frame) new.seen
  history_new = (requests_both plan old mid new m.number one more).history history

  pub ok_cases : IfOk o (HasCase plan old new m.number m.epoch m.generation last (pending_in fs))
  ok_cases = if_ok _ _ o (finished_cases plan old mid new m last next fs apart came more history_new) so

  pub ok_producer : IfOk o (LeavesProducer (setup_in plan old.frame) new.seen m final.last final.numbers)
  ok_producer = if_ok _ _ o
      (λ x h. subst (λ (k : Memory). LeavesProducer (setup_in plan old.frame) new.seen m k.last k.numbers x) (sym same) (finished_producer plan old mid new m last next fs apart came more history_new ((at (setup_in plan mid.frame) new.seen).producer m.number).waiting x h)) so

  pub ok_tasks : IfOk o (LeavesTasks (setup_in plan old.frame) old.seen new.seen m last final.last fs final.ends)
  ok_tasks = if_ok _ _ o
      (λ x h. subst (λ (k : Memory). LeavesTasks (setup_in plan old.frame) old.seen new.seen m last k.last fs k.ends x) (sym same) (finished_tasks plan old mid new m last next fs apart came more history_new ((at (setup_in plan mid.frame) new.seen).producer m.number).waiting x h)) so

  pub ok_marked : IfOk o (LeavesNoMarker (setup_in plan old.frame) new.seen m.number)
  ok_marked = if_ok _ _ o (finished_marked plan old mid new m last next fs apart came more history_new) so

module _ {W A E : Type 0} {fenced : Bool} (plan : W → TaskPlan) (old mid new : PassView Entry (Frame W)) (m : Member) (last : ℕ) (mem next : Memory) (fs : List WorkView) (r : Result A Halt) (halt : Halt) (is : r ≡ Err halt)
    (ends : EndsSo plan old mid m.number m.epoch m.generation last mem fs (contents_of fs) r) (one : Requests plan old mid m.number) (more : UndecidedRequests plan mid new m.number fenced) (history : IsHistory (setup_in plan old.frame) old.seen)
    (x : Result Outcome E) (of : IsOutcomeOf halt x) (aborted : x ≡ Ok Aborted) (o : Result Outcome E) (so : IfOk o (AbortsSo plan mid new m.number m.epoch mem next)) where
  stopped : EndsSo {A = A} plan old mid m.number m.epoch m.generation last mem fs (contents_of fs) (Err halt)
  stopped = subst (λ (y : Result A Halt). EndsSo plan old mid m.number m.epoch m.generation last mem fs (contents_of fs) y) is ends

  history_then : IsHistory (setup_in plan old.frame) new.seen
  history_then = (requests_both plan old mid new m.number one more.requests).history history

  pub aborted_ok_cases : fenced ≡ fenced_in o → IfOk o (HasCase plan old new m.number m.epoch m.generation last (pending_in fs))
  aborted_ok_cases fence = by o fence so
    where
      by : (r : Result Outcome E) → fenced ≡ fenced_in r → IfOk r (AbortsSo plan mid new m.number m.epoch mem next) → IfOk r (HasCase plan old new m.number m.epoch m.generation last (pending_in fs))
      by (Ok a) is h = abort_cases A plan old mid new m last mem next fs more history_then halt (aborted_by halt x of aborted) stopped a is h
      by (Err failed) is h = tt

  pub aborted_ok_producer : IfOk o (LeavesProducer (setup_in plan old.frame) new.seen m next.last next.numbers)
  aborted_ok_producer = if_ok _ _ o (abort_producer A plan old mid new m last mem next fs more history_then halt (aborted_by halt x of aborted) stopped) so

  pub aborted_ok_tasks : IfOk o (LeavesTasks (setup_in plan old.frame) old.seen new.seen m last next.last fs next.ends)
  aborted_ok_tasks = if_ok _ _ o (abort_tasks A plan old mid new m last mem next fs more history_then halt (aborted_by halt x of aborted) stopped) so

  pub aborted_ok_marked : IfOk o (LeavesNoMarker (setup_in plan old.frame) new.seen m.number)
  aborted_ok_marked = if_ok _ _ o (abort_marked A plan old mid new m last mem next fs more history_then halt (aborted_by halt x of aborted) stopped) so

module _ {W A E : Type 0} (plan : W → TaskPlan) (old mid : PassView Entry (Frame W)) (m : Member) (last : ℕ) (mem : Memory) (fs : List WorkView) (r : Result A Halt) (halt : Halt) (is : r ≡ Err halt)
    (ends : EndsSo plan old mid m.number m.epoch m.generation last mem fs (contents_of fs) r) (x : Result Outcome E) (of : IsOutcomeOf halt x) where
  pub halt_cases : IfOk x (HasCase plan old mid m.number m.epoch m.generation last (pending_in fs))
  halt_cases = halted_cases plan old mid m last mem fs A halt x of
      (subst (λ (y : Result A Halt). EndsSo plan old mid m.number m.epoch m.generation last mem fs (contents_of fs) y) is ends)

  pub halt_after : (P : Outcome → Type 0) → P Fenced → P Touched → P Cut → NotAborted x → IfOk x P
  halt_after P fenced touched cut none = halted_after P fenced touched cut halt x of none

  pub halt_gate : (first now : GateCounts) → now ≡ with_cuts first (cuts_in r) → now ≡ with_cuts first (cut_of x)
  halt_gate first now counts = counts ∙ ap (λ n. with_cuts first n) (ap cuts_in is ∙ sym (same_cut A halt x of))

  module _ (o : Outcome) (was : x ≡ Ok o) (none : o ≡ Aborted → ⊥) where
    not_aborted : NotAborted x
    not_aborted = λ e. none (one_answer x o Aborted was e)

    pub rest_cases : HasCase plan old mid m.number m.epoch m.generation last (pending_in fs) o
    rest_cases = subst (λ y. IfOk y (HasCase plan old mid m.number m.epoch m.generation last (pending_in fs))) was halt_cases

    pub rest_producer : LeavesProducer (setup_in plan old.frame) mid.seen m mem.last mem.numbers o
    rest_producer = subst (λ y. IfOk y (LeavesProducer (setup_in plan old.frame) mid.seen m mem.last mem.numbers)) was (halt_after (LeavesProducer (setup_in plan old.frame) mid.seen m mem.last mem.numbers) tt tt tt not_aborted)

    pub rest_tasks : LeavesTasks (setup_in plan old.frame) old.seen mid.seen m last mem.last fs mem.ends o
    rest_tasks = subst (λ y. IfOk y (LeavesTasks (setup_in plan old.frame) old.seen mid.seen m last mem.last fs mem.ends)) was (halt_after (LeavesTasks (setup_in plan old.frame) old.seen mid.seen m last mem.last fs mem.ends) tt tt tt not_aborted)

    pub rest_marked : LeavesNoMarker (setup_in plan old.frame) mid.seen m.number o
    rest_marked = subst (λ y. IfOk y (LeavesNoMarker (setup_in plan old.frame) mid.seen m.number)) was (halt_after (LeavesNoMarker (setup_in plan old.frame) mid.seen m.number) tt tt tt not_aborted)

  -- whatever it comes to
  pub rest_gate : (first now : GateCounts) (y : Result Outcome E) → x ≡ y → now ≡ with_cuts first (cuts_in r) → now ≡ with_cuts first (cut_of y)
  rest_gate first now y was counts = halt_gate first now counts ∙ ap (λ z. with_cuts first (cut_of z)) was
