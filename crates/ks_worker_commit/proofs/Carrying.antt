-- Requests one after another.
use Rattle.std.proofs.Common.{◌≡◌, ◌≢◌, ℕ, zero, suc, ◌+◌, ◌<◌, ◌≤◌, Bool, true, false, cond, List, [], ◌∷◌, length, drop, get_or, Option, Result, Ok, Err, refl, sym, ap, subst, ◌∙◌, arith}
use Rattle.ks_record.specs.Records.{Record as Rec}
use Rattle.ks_record.specs.declared.record.PartId.{PartId}
use Rattle.ks_record.specs.declared.record.TaskId.{TaskId}
use Rattle.std.specs.Prelude.{OnOk}
use Rattle.std.proofs.lemmas.Bool.{or_left, or_right}
use Rattle.ks_record.specs.Parts.{same_part, same_task}
use Rattle.ks_history.specs.State.{State, Setup, has_part, has_task}
use Rattle.ks_history.specs.History.{at, are_offsets}
use Rattle.ks_law_sharing.proofs.Rising.{offsets_stay}
use Rattle.ks_commit.specs.declared.work.Frozen.{Frozen}
use Rattle.ks_commit.specs.Work.{work_view}
use Rattle.ks_commit.specs.Committed.{works_of, tasks_in, EachOf, IsOfCluster}
use Rattle.ks_shared.specs.Calls.{setup_in}
use Rattle.ks_history.proofs.Names.{same_part-is, same_part-refl, same_task-refl}
use Rattle.ks_history.specs.declared.journal.Entry.{Entry}
use Rattle.ks_history.specs.Machine.{TaskPlan}
use Rattle.ks_law_restore.specs.Views.{WorkView}
use Rattle.ks_law_commit.specs.Building.{Contents, with_records}
use Rattle.ks_growing.specs.Passes.{PassView}
use Rattle.ks_shared.specs.declared.state.Frame.{Frame}
use Rattle.ks_worker_commit.specs.declared.halt.Halt.{Halt}
use Rattle.ks_worker_commit.specs.declared.halt.Halt.TheVariants.{OutOfMemory, Cut, Barred as IsBarred}
use Rattle.ks_worker_commit.specs.Outcomes.{Requests, with_cuts, cuts_in}
use Rattle.ks_worker_client.specs.Turns.{GateCounts}
use Rattle.ks_worker_commit.specs.Outputs.{put_output, put_outputs}
use Rattle.ks_worker_commit.specs.Underway.{Memory, IsUnderway, Puts, Halts, Carries, AreSent, has_added}
use Rattle.ks_worker_commit.proofs.Requesting.{requests_none, requests_both}

-- ---- what is left of a list
one_up : (i : ℕ) → suc (i + 1) ≡ suc i + 1
one_up i = omega arith

pub drop_next : {A : Type 0} (xs : List A) (i : ℕ) (x : A) → i < length xs → x ≡ get_or xs i x → drop i xs ≡ x ∷ drop (i + 1) xs
drop_next [] i x lt is = absurd (omega (arith, lt))
drop_next (y ∷ ys) zero x lt is = ap (λ z. z ∷ ys) (sym is)
drop_next (y ∷ ys) (suc i) x lt is = drop_next ys i x (omega (arith, lt)) is ∙ ap (λ k. x ∷ drop k (y ∷ ys)) (one_up i)

pub drop_at : {A : Type 0} (xs : List A) (i : ℕ) (d : A) → i < length xs → drop i xs ≡ get_or xs i d ∷ drop (i + 1) xs
drop_at [] i d lt = absurd (omega (arith, lt))
drop_at (y ∷ ys) zero d lt = refl
drop_at (y ∷ ys) (suc i) d lt = drop_at ys i d (omega (arith, lt)) ∙ ap (λ k. get_or ys i d ∷ drop k (y ∷ ys)) (one_up i)

pub has_at : (xs : List PartId) (i : ℕ) (d : PartId) → i < length xs → has_part (get_or xs i d) xs ≡ true
has_at [] i d lt = absurd (omega (arith, lt))
has_at (y ∷ ys) zero d lt = or_left (same_part y y) (has_part y ys) (same_part-refl y)
has_at (y ∷ ys) (suc i) d lt = or_right (same_part (get_or ys i d) y) (has_part (get_or ys i d) ys) (has_at ys i d (omega (arith, lt)))

pub drop_end : {A : Type 0} (xs : List A) (i : ℕ) → length xs ≤ i → drop i xs ≡ []
drop_end [] zero h = refl
drop_end [] (suc i) h = refl
drop_end (y ∷ ys) zero h = absurd (omega (arith, h))
drop_end (y ∷ ys) (suc i) h = drop_end ys i (omega (arith, h))

module _ {W : Type 0} (plan : W → TaskPlan) (w e g : ℕ) where
  pub sent_none : (p : PassView Entry (Frame W)) (mem : Memory) (whole : Contents → Contents) → AreSent plan p p w e g mem mem whole whole
  sent_none p mem whole = record {
    requests = requests_none plan p w;
    puts = λ c. c;
    so_far = λ from first fs c u. u;
    keeps = λ c q h. h;
    left = λ c. refl;
  }

  module _ {A : Type 0} (old mid new : PassView Entry (Frame W)) (k j i : Memory) (rest whole : Contents → Contents) (sent : AreSent plan old mid w e g k j rest whole)
      (more : Contents → Contents) (Ready : List WorkView → Contents → Type 0) (r : Result A Halt) (call : Carries plan mid new w e g j i Ready more r) (added : Requests plan mid new w) where
    pub sent_more : (a : A) → r ≡ Ok a → (later : Contents → Contents) → ((c : Contents) → rest c ≡ later (more c)) → ((c : Contents) (q : PartId) → c.parts q ≡ true → (more c).parts q ≡ true) → AreSent plan old new w e g k i later whole
    sent_more a is later splits keeps = record {
      requests = requests_both plan old mid new w sent.requests added;
      puts = λ c. more (sent.puts c);
      so_far = λ from first fs c u. subst (λ (x : Result A Halt). Carries plan mid new w e g j i Ready more x) is call from first fs (sent.puts c) (sent.so_far from first fs c u);
      keeps = λ c q h. keeps (sent.puts c) q (sent.keeps c q h);
      left = λ c. sym (splits (sent.puts c)) ∙ sent.left c;
    }

    pub sent_then : (a : A) → r ≡ Ok a → ((c : Contents) → rest c ≡ more c) → Puts plan old new w e g k i whole
    sent_then a is same from first fs c u =
        subst (λ d. IsUnderway plan from new w e g first i fs d) (sym (same (sent.puts c)) ∙ sent.left c)
        (subst (λ (x : Result A Halt). Carries plan mid new w e g j i Ready more x) is call from first fs (sent.puts c) (sent.so_far from first fs c u))

    pub sent_err : (B : Type 0) (h : Halt) (Before : List WorkView → Contents → Type 0) → r ≡ Err h → ((fs : List WorkView) (c : Contents) → Before fs c → Ready fs (sent.puts c)) → Carries {A = B} plan old new w e g k i Before whole (Err h)
    sent_err B h Before is ready = by h (subst (λ (x : Result A Halt). Carries plan mid new w e g j i Ready more x) is call)
      where
        by : (h : Halt) → Carries {A = A} plan mid new w e g j i Ready more (Err h) → Carries {A = B} plan old new w e g k i Before whole (Err h)
        by OutOfMemory called = tt
        by Cut called = tt
        by (IsBarred b) called = λ from first fs c before u. called from first fs (sent.puts c) (ready fs c before) (sent.so_far from first fs c u)

    -- the last of them
    pub sent_last : (Before : List WorkView → Contents → Type 0) → ((c : Contents) → rest c ≡ more c) → ((fs : List WorkView) (c : Contents) → Before fs c → Ready fs (sent.puts c)) → Carries plan old new w e g k i Before whole r
    sent_last Before same ready = by r refl
      where
        by : (x : Result A Halt) → r ≡ x → Carries plan old new w e g k i Before whole x
        by (Ok a) is = sent_then a is same
        by (Err h) is = sent_err A h Before is ready

  pub sent_all : (old new : PassView Entry (Frame W)) (k i : Memory) (rest whole : Contents → Contents) → AreSent plan old new w e g k i rest whole → ((c : Contents) → rest c ≡ c) → Puts plan old new w e g k i whole
  sent_all old new k i rest whole sent done from first fs c u = subst (λ d. IsUnderway plan from new w e g first i fs d) (sym (done (sent.puts c)) ∙ sent.left c) (sent.so_far from first fs c u)

-- ---- the works at a later moment of the pass
one_later : {W : Type 0} (plan : W → TaskPlan) (old new : PassView Entry (Frame W)) (w : ℕ) (f : WorkView) → Requests plan old new w → IsOfCluster (setup_in plan old.frame) (at (setup_in plan old.frame) old.seen) f →
    IsOfCluster (setup_in plan new.frame) (at (setup_in plan new.frame) new.seen) f
one_later {W} plan old new w f r h =
    let frame : old.frame ≡ new.frame = sym (ap (λ (k : PassView Entry (Frame W)). k.frame) r.same) in
    let there : are_offsets (setup_in plan old.frame) (at (setup_in plan old.frame) new.seen) f.task f.offsets ≡ true =
    subst (λ l. are_offsets (setup_in plan old.frame) (at (setup_in plan old.frame) l) f.task f.offsets ≡ true) (sym r.seen) (offsets_stay (setup_in plan old.frame) old.seen r.more f.task f.offsets h.offsets) in
    subst (λ (o : Option (Frame W)). IsOfCluster (setup_in plan o) (at (setup_in plan o) new.seen) f) frame (record { task = h.task; offsets = there; parts = h.parts })

pub each_later : {W : Type 0} (plan : W → TaskPlan) (old new : PassView Entry (Frame W)) (w : ℕ) (fs : List WorkView) → Requests plan old new w → EachOf (setup_in plan old.frame) (at (setup_in plan old.frame) old.seen) fs →
    EachOf (setup_in plan new.frame) (at (setup_in plan new.frame) new.seen) fs
each_later plan old new w [] r each = tt
each_later plan old new w (f ∷ fs) r each = (one_later plan old new w f r each.0, each_later plan old new w fs r each.1)

pub each_at : (setup : Setup) (s : State) (works : List Frozen) (i : ℕ) (d : Frozen) → EachOf setup s (works_of works) → i < length works → IsOfCluster setup s (work_view (get_or works i d))
each_at setup s [] i d each lt = absurd (omega (arith, lt))
each_at setup s (x ∷ xs) zero d each lt = each.0
each_at setup s (x ∷ xs) (suc i) d each lt = each_at setup s xs i d each.1 (omega (arith, lt))

pub each_is : (setup : Setup) (s : State) (works : List Frozen) (i : ℕ) (x : Frozen) → EachOf setup s (works_of works) → i < length works → x ≡ get_or works i x → IsOfCluster setup s (work_view x)
each_is setup s works i x each lt is = subst (λ f. IsOfCluster setup s (work_view f)) (sym is) (each_at setup s works i x each lt)

-- ---- records where they are of a partition
module _ {W A : Type 0} (plan : W → TaskPlan) (old new : PassView Entry (Frame W)) (w e g : ℕ) (mem next : Memory) (p : PartId) (t : TaskId) (out : PartId × List Rec) where
  pub carried_in : (r : Result A Halt) → same_part p out.0 ≡ true → Carries plan old new w e g mem next (has_added out.0) (with_records t out.0 out.1) r → Carries plan old new w e g mem next (has_added p) (put_output p t out) r
  carried_in r is c =
      subst (λ b. Carries plan old new w e g mem next (has_added p) (λ x. cond b (with_records t p out.1 x) x) r) (sym is)
      (subst (λ q. Carries plan old new w e g mem next (has_added q) (with_records t q out.1) r) (sym (same_part-is p out.0 is)) c)

pub carried_none : {W A : Type 0} (plan : W → TaskPlan) (old : PassView Entry (Frame W)) (w e g : ℕ) (mem : Memory) (p : PartId) (t : TaskId) (out : PartId × List Rec) (a : A) → same_part p out.0 ≡ false → Carries plan old old w e g mem mem (has_added p) (put_output p t out) (Ok a)
carried_none plan old w e g mem p t out a is from first fs c u = subst (λ b. IsUnderway plan from old w e g first mem fs (cond b (with_records t p out.1 c) c)) (sym is) u

-- the same records, by another name
pub outputs_as : {W A : Type 0} (plan : W → TaskPlan) (old new : PassView Entry (Frame W)) (w e g : ℕ) (mem next : Memory) (Ready : List WorkView → Contents → Type 0) (p : PartId) (t : TaskId) (outs others : List (PartId × List Rec)) → outs ≡ others → (r : Result A Halt) →
    Carries plan old new w e g mem next Ready (put_outputs p t outs) r → Carries plan old new w e g mem next Ready (put_outputs p t others) r
outputs_as plan old new w e g mem next Ready p t outs others same r c = subst (λ l. Carries plan old new w e g mem next Ready (put_outputs p t l) r) same c

-- ---- a task of some works
pub has_work_at : (works : List Frozen) (i : ℕ) (x : Frozen) → i < length works → x ≡ get_or works i x → has_task x.task (tasks_in (works_of works)) ≡ true
has_work_at [] i x lt is = absurd (omega (arith, lt))
has_work_at (y ∷ ys) zero x lt is = or_left (same_task x.task y.task) (has_task x.task (tasks_in (works_of ys))) (ap (λ (z : Frozen). same_task x.task z.task) (sym is) ∙ same_task-refl x.task)
has_work_at (y ∷ ys) (suc i) x lt is = or_right (same_task x.task y.task) (has_task x.task (tasks_in (works_of ys))) (has_work_at ys i x (omega (arith, lt)) is)

pub some_in : {A : Type 0} (xs : List A) (i : ℕ) → xs ≢ [] → length xs ≤ i → 1 ≤ i
some_in [] i some h = absurd (some refl)
some_in (x ∷ xs) i some h = omega (arith, h)

pub ok_then : {A P : Type 0} (r : Result A Halt) (a : A) → r ≡ Ok a → OnOk r P → P
ok_then (Ok b) a is h = h
ok_then (Err h) a is k = absurd cc

-- ---- the same frame
pub same_setup : {W : Type 0} (plan : W → TaskPlan) (old new : PassView Entry (Frame W)) (w : ℕ) → Requests plan old new w → setup_in plan new.frame ≡ setup_in plan old.frame
same_setup {W} plan old new w r = ap (λ (k : PassView Entry (Frame W)). setup_in plan k.frame) r.same

pub generation_as : {W : Type 0} (plan : W → TaskPlan) (old mid : PassView Entry (Frame W)) (w g : ℕ) (journal : List Entry) → Requests plan old mid w → (at (setup_in plan mid.frame) journal).generation ≡ g → (at (setup_in plan old.frame) journal).generation ≡ g
generation_as plan old mid w g journal r is = ap (λ (s : Setup). (at s journal).generation) (sym (same_setup plan old mid w r)) ∙ is

-- the gate counted nothing
pub ok_gate : {A : Type 0} (first gate now : GateCounts) (r : Result A Halt) (x : A) → r ≡ Ok x → now ≡ with_cuts gate (cuts_in r) → gate ≡ first → now ≡ first
ok_gate first gate now r x is counts same =
    let none : gate.cuts + cuts_in r ≡ gate.cuts = ap (λ y. gate.cuts + cuts_in y) is ∙ omega arith in
    counts ∙ ap (λ n. record gate { cuts = n }) none ∙ same
