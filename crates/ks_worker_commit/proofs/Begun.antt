-- From a commit's beginning to its decision.
use Rattle.std.proofs.Common.{◌≡◌, ◌≢◌, ◌≤◌, ◌<◌, ◌+◌, ℕ, zero, suc, ◌&&◌, ◌||◌, Bool, true, false, cond, List, [], ◌∷◌, ◌++◌, length, Option, Some, None, Result, Ok, Err, refl, sym, ap, subst, ◌∙◌, arith}
use Rattle.std.specs.List.{All}
use Rattle.ks_record.specs.Records.{Record as Rec}
use Rattle.ks_record.specs.declared.record.PartId.{PartId}
use Rattle.ks_record.specs.declared.record.TaskId.{TaskId}
use Rattle.ks_record.specs.Parts.{same_part, part_lt}
use Rattle.ks_history.specs.declared.journal.Entry.{Entry}
use Rattle.ks_history.specs.Machine.{TaskPlan}
use Rattle.ks_history.specs.State.{State, Setup, IsPart, insert_part}
use Rattle.ks_history.specs.History.{at, IsHistory}
use Rattle.ks_history.specs.Touched.{touches, touched_from, touched}
use Rattle.ks_history.proofs.Names.{same_task-refl}
use Rattle.ks_law_restore.specs.Views.{WorkView, pending_work}
use Rattle.ks_law_commit.specs.Building.{Contents, no_contents}
use Rattle.ks_law_commit.proofs.Stages.{sending_begins}
use Rattle.ks_commit.specs.Alone.{IsNumbered}
use Rattle.ks_commit.specs.declared.work.Frozen.{Frozen}
use Rattle.ks_commit.specs.Committed.{works_of, AreApart, EachOf}
use Rattle.ks_growing.specs.Passes.{PassView}
use Rattle.ks_shared.specs.declared.state.Frame.{Frame}
use Rattle.ks_shared.specs.Calls.{setup_in}
use Rattle.ks_worker_commit.specs.declared.halt.Halt.{Halt}
use Rattle.ks_worker_commit.specs.declared.halt.Halt.TheVariants.{OutOfMemory, Cut, Barred as IsBarred}
use Rattle.ks_worker_commit.specs.Outputs.{parts_with, parts_in, add_all, put_all, sends_of, contents_of}
use Rattle.ks_worker_commit.specs.Underway.{Memory, end_in, IsWorker, IsUnderway, Carries, Decides, has_pending_work, have_works}
use Rattle.ks_worker_commit.specs.Ends.{EndsSo}
use Rattle.ks_worker_commit.proofs.Requesting.{requests_none}
use Rattle.ks_worker_commit.proofs.Filling.{IsFirst, first_pending}

-- ---- the partitions of the works are the cluster's
all_cons : {A : Type 0} (P : A → Type 0) (x : A) (xs : List A) → P x → All P xs → All P (x ∷ xs)
all_cons P x xs one more zero d lt = one
all_cons P x xs one more (suc k) d lt = more k d (omega (arith, lt))

all_head : {A : Type 0} (P : A → Type 0) (x : A) (xs : List A) → All P (x ∷ xs) → P x
all_head P x xs all = all 0 x (omega arith)

all_rest : {A : Type 0} (P : A → Type 0) (x : A) (xs : List A) → All P (x ∷ xs) → All P xs
all_rest P x xs all k d lt = all (suc k) d (omega (arith, lt))

all_none : {A : Type 0} (P : A → Type 0) → All P []
all_none P k d lt = absurd (omega (arith, lt))

all_inserted : (P : PartId → Type 0) (p : PartId) (ps : List PartId) → P p → All P ps → All P (insert_part p ps)
all_inserted P p [] one all = all_cons P p [] one all
all_inserted P p (q ∷ qs) one all = by (same_part p q) (part_lt p q) (all_inserted P p qs one (all_rest P q qs all))
  where
    by : (a b : Bool) → All P (insert_part p qs) → All P (cond a (q ∷ qs) (cond b (p ∷ q ∷ qs) (q ∷ insert_part p qs)))
    by true b h = all
    by false true h = all_cons P p (q ∷ qs) one all
    by false false h = all_cons P q (insert_part p qs) (all_head P q qs all) h

all_with : (P : PartId → Type 0) (ps : List PartId) (outs : List (PartId × List Rec)) → All P ps → All (λ (out : PartId × List Rec). P out.0) outs → All P (parts_with ps outs)
all_with P ps [] all each = all
all_with P ps (out ∷ outs) all each =
    all_with P (insert_part out.0 ps) outs (all_inserted P out.0 ps (all_head (λ (x : PartId × List Rec). P x.0) out outs each) all) (all_rest (λ (x : PartId × List Rec). P x.0) out outs each)

all_in : (setup : Setup) (s : State) (ps : List PartId) (fs : List WorkView) → All (IsPart setup) ps → EachOf setup s fs → All (IsPart setup) (parts_in ps fs)
all_in setup s ps [] all each = all
all_in setup s ps (f ∷ fs) all each = all_in setup s (parts_with ps f.outputs) fs (all_with (IsPart setup) ps f.outputs all each.0.parts) each.1

pub all_parts : (setup : Setup) (s : State) (fs : List WorkView) (ps : List PartId) → ps ≡ parts_in [] fs → EachOf setup s fs → All (IsPart setup) ps
all_parts setup s fs ps is each = subst (All (IsPart setup)) (sym is) (all_in setup s [] fs (all_none (IsPart setup)) each)

-- ---- the place of the last request is within the journal
place_within : (w n last : ℕ) (xs : List Entry) → last ≤ n → touched_from w n last xs ≤ n + length xs
place_within w n last [] h = omega (arith, h)
place_within w n last (x ∷ xs) h = by (touches w x) (place_within w (n + 1) (n + 1) xs (omega arith)) (place_within w (n + 1) last xs (omega (arith, h)))
  where
    by : (b : Bool) → touched_from w (n + 1) (n + 1) xs ≤ (n + 1) + length xs → touched_from w (n + 1) last xs ≤ (n + 1) + length xs → touched_from w (n + 1) (cond b (n + 1) last) xs ≤ n + length (x ∷ xs)
    by true e f = omega (arith, e)
    by false e f = omega (arith, f)

pub within : (w last : ℕ) (journal : List Entry) → touched w journal ≡ last → last ≤ length journal
within w last journal is = omega (arith, is, place_within w 0 0 journal (omega arith))

-- ---- the beginning
module _ {W : Type 0} (plan : W → TaskPlan) (old : PassView Entry (Frame W)) (w e g : ℕ) (mem : Memory) (fs : List WorkView) (known : IsWorker plan old w e g mem.last fs)
    (numbered : touched w old.seen ≡ mem.last → IsNumbered (at (setup_in plan old.frame) old.seen) w e mem.numbers) (none : mem.ends ≡ []) where
  abbrev here : Setup
  here = setup_in plan old.frame

  begun : IsUnderway plan old old w e g mem.last mem fs no_contents
  begun = record {
    worker = known;
    requests = requests_none plan old w;
    undecided = refl;
    unfenced = refl;
    history = known.history;
    seen = known.seen;
    back = λ h. h;
    sending = λ mine. sending_begins here old.seen w e mem.last mine;
    numbered = numbered;
    ended = λ mine t q n. ap (λ l. end_in n t q l) none;
  }

  -- one of the requests wasn't done
  pub sending_ends : {A : Type 0} (B : Type 0) (mid : PassView Entry (Frame W)) (next : Memory) (ps : List PartId) (r : Result A Halt) (h : Halt) → r ≡ Err h → Carries plan old mid w e g mem next (have_works fs) (sends_of ps fs) r →
      EndsSo {A = B} plan old mid w e g mem.last next fs (contents_of fs) (Err h)
  sending_ends {A} B mid next ps r h is call = by h (subst (λ (x : Result A Halt). Carries plan old mid w e g mem next (have_works fs) (sends_of ps fs) x) is call)
    where
      by : (h : Halt) → Carries {A = A} plan old mid w e g mem next (have_works fs) (sends_of ps fs) (Err h) → EndsSo {A = B} plan old mid w e g mem.last next fs (contents_of fs) (Err h)
      by OutOfMemory c = tt
      by Cut c = tt
      by (IsBarred b) c = c old mem.last fs no_contents (λ t has. has) begun

  -- all of them were
  pub all_sent : {A : Type 0} (mid : PassView Entry (Frame W)) (next : Memory) (ps : List PartId) (r : Result A Halt) (a : A) → r ≡ Ok a → ps ≡ parts_in [] fs → Carries plan old mid w e g mem next (have_works fs) (sends_of ps fs) r →
      IsUnderway plan old mid w e g mem.last next fs (contents_of fs)
  all_sent {A} mid next ps r a is same call =
      subst (λ (x : List PartId). IsUnderway plan old mid w e g mem.last next fs (sends_of x fs no_contents)) same
      (subst (λ (x : Result A Halt). Carries plan old mid w e g mem next (have_works fs) (sends_of ps fs) x) is call old mem.last fs no_contents begun)

-- ---- the decision
has_some : (fs : List WorkView) → fs ≢ [] → AreApart fs → has_pending_work fs (contents_of fs)
has_some [] some apart = absurd (some refl)
has_some (f ∷ fs) some apart =
    (f.task, pending_work f, first_pending (f ∷ fs) (put_all (parts_in [] (f ∷ fs)) (f ∷ fs) (add_all (parts_in [] (f ∷ fs)) no_contents)) f.task f apart (subst (λ b. cond b (f ≡ f) (IsFirst f.task fs f)) (sym (same_task-refl f.task)) refl))

pub decision_ends : {W A : Type 0} (plan : W → TaskPlan) (old mid new : PassView Entry (Frame W)) (w e g last : ℕ) (mem next : Memory) (fs : List WorkView) → fs ≢ [] → AreApart fs →
    IsUnderway plan old mid w e g last mem fs (contents_of fs) → touched w mid.seen ≡ mem.last → (at (setup_in plan old.frame) mid.seen).generation ≡ g →
    (r : Result A Halt) → Decides plan mid new w e g mem next r → EndsSo plan old new w e g last next fs (contents_of fs) r
decision_ends plan old mid new w e g last mem next fs some apart u place same (Ok a) d = record { mid = mid; mem = mem; decided = d old last fs (contents_of fs) u; mine = u.back place; generation = same }
decision_ends plan old mid new w e g last mem next fs some apart u place same (Err OutOfMemory) d = tt
decision_ends plan old mid new w e g last mem next fs some apart u place same (Err Cut) d = tt
decision_ends plan old mid new w e g last mem next fs some apart u place same (Err (IsBarred b)) d = d old last fs (contents_of fs) (has_some fs some apart) u

pub works_some : (works : List Frozen) → works ≢ [] → works_of works ≢ []
works_some [] some = absurd (some refl)
works_some (x ∷ xs) some = λ none. absurd cc
