-- Offsets of a task are pending at one producer at most, and an entry of others commits nothing for it.
use Rattle.std.proofs.Common.{◌≡◌, ◌≢◌, ◌⊎◌, inl, inr, ℕ, zero, suc, ◌+◌, ◌≤◌, ◌<◌, ◌&&◌, Bool, true, false, not, cond, List, [], ◌∷◌, Option, Some, None, refl, sym, ap, subst, ◌∙◌, arith, ⊎_elim}
use Rattle.std.specs.Prelude.{◌==◌}
use Rattle.std.proofs.lemmas.Bool.{eqb-true, eq-eqb, ne_eqb, true≢false, cases_lt}
use Rattle.ks_record.specs.declared.record.TaskId.{TaskId}
use Rattle.ks_record.specs.declared.assignment.Refused.{Refused}
use Rattle.ks_record.specs.declared.assignment.Refused.TheVariants.{Unstable}
use Rattle.ks_record.specs.declared.assignment.Assignment.{Assignment}
use Rattle.ks_record.specs.declared.assignment.Marker.{Marker}
use Rattle.ks_record.specs.Parts.{same_task, task_lt}
use Rattle.ks_history.specs.declared.partition.Slot.TheVariants.{Mark}
use Rattle.ks_history.specs.declared.journal.Request.{Request}
use Rattle.ks_history.specs.declared.journal.Request.TheVariants.{Produce, Init, Add, Append, SendOffsets, Decide, MarkNext, Join, Expire, Hold, Probe, Assign, Park, Unpark}
use Rattle.ks_history.specs.declared.journal.Entry.{Entry}
use Rattle.ks_history.specs.declared.transaction.Pending.{Pending}
use Rattle.ks_history.specs.declared.transaction.Producer.{Producer}
use Rattle.ks_history.specs.Partition.{is_none}
use Rattle.ks_history.specs.State.{State, Setup, start, with_number, grown, pending_of, with_pending, without_number}
use Rattle.ks_history.specs.Step.{refusal, state_by, after, pending_at, has_pending, owner, not_assigned, fenced, old_generation, or_else, markers_waiting, unstable_beside, unstable_from, renewed, closed, can_expire, tx_of}
use Rattle.ks_history.specs.History.{state_after, at, Each, IsStep, IsHistory, Meets}
use Rattle.ks_history.proofs.Names.{same_task-is}
use Rattle.ks_law_exactly_once.proofs.Refusals.{both_none, closed_undecided}
use Rattle.ks_law_restore.specs.Commits.{commit_by, commits_by}
use Rattle.ks_law_sharing.specs.Others.{NoneElsewhere, OnePending}
use Rattle.ks_law_sharing.proofs.Touching.{IsOthers}
use Rattle.ks_law_restore.proofs.Owning.{pending_is, pending_tx, none_left, is_owner}

-- offsets of another task
other_pending : (t : TaskId) (new : Pending) (ps : List Pending) → same_task t new.task ≡ false → pending_of t (with_pending new ps) ≡ pending_of t ps
other_pending t new [] ne = ap (λ b. cond b (Some new) None) ne
other_pending t new (p ∷ ps) ne = by (same_task new.task p.task) (task_lt new.task p.task) refl (other_pending t new ps ne)
  where
    first : (rest : List Pending) → pending_of t (new ∷ rest) ≡ pending_of t rest
    first rest = ap (λ b. cond b (Some new) (pending_of t rest)) ne

    by : (a b : Bool) → same_task new.task p.task ≡ a → pending_of t (with_pending new ps) ≡ pending_of t ps → pending_of t (cond a (new ∷ ps) (cond b (new ∷ p ∷ ps) (p ∷ with_pending new ps))) ≡ pending_of t (p ∷ ps)
    by true b is e = first ps ∙ ap (λ c. cond c (Some p) (pending_of t ps)) (sym (ap (same_task t) (sym (same_task-is new.task p.task is)) ∙ ne))
    by false true is e = first (p ∷ ps)
    by false false is e = ap (λ o. cond (same_task t p.task) (Some p) o) e

-- the producers beyond the last have nothing pending
abbrev pub IsFew : State → TaskId → Type 0
IsFew s t = (v : ℕ) → 17 ≤ v → has_pending (s.producer v) t ≡ false

-- no producer that counts has offsets pending
pub none_counted : (s : State) (t : TaskId) (counts : ℕ → Bool) (left v : ℕ) → unstable_from s t counts v left ≡ None
    → (k : ℕ) → counts k ≡ true → v ≤ k → k < v + left → has_pending (s.producer k) t ≡ false
none_counted s t counts zero v h k is low high = absurd (omega (arith, low, high))
none_counted s t counts (suc left) v h k is low high =
    by (counts v) (has_pending (s.producer v) t) refl refl h (λ e less. none_counted s t counts left (v + 1) e k is (omega (arith, less)) (omega (arith, high)))
  where
    by : (a b : Bool) → counts v ≡ a → has_pending (s.producer v) t ≡ b → cond (a && b) (Some (Unstable v)) (unstable_from s t counts (v + 1) left) ≡ None
        → (unstable_from s t counts (v + 1) left ≡ None → v < k → has_pending (s.producer k) t ≡ false) → has_pending (s.producer k) t ≡ false
    by true true counted pending e on = absurd cc
    by false b counted pending e on = ⊎_elim
        (λ (less : v < k). on e less)
        (λ (most : k ≤ v). let same : k ≡ v = omega (arith, low, most) in absurd (true≢false (sym is ∙ ap counts same ∙ counted)))
        (cases_lt v k)
    by true false counted pending e on = ⊎_elim
        (λ (less : v < k). on e less)
        (λ (most : k ≤ v). let same : k ≡ v = omega (arith, low, most) in ap (λ j. has_pending (s.producer j) t) same ∙ pending)
        (cases_lt v k)

none_elsewhere : (s : State) (t : TaskId) (w : ℕ) → IsFew s t → unstable_beside s w t ≡ None → NoneElsewhere s t w
none_elsewhere s t w few h k ne = ⊎_elim
    (λ (less : k < 17). none_counted s t (λ v. not (v == w)) 17 0 h k (ap not (ne_eqb k w ne)) (omega arith) (omega (arith, less)))
    (λ (more : 17 ≤ k). few k more)
    (cases_lt k 17)

-- ---- what is pending after an entry was so before, or was sent by it
pub record IsSent (s new : State) (k : ℕ) (t : TaskId) : Type 0 where
  pub low : k ≤ 16
  pub place : owner s t ≡ Some k
  pub alone : NoneElsewhere new t k

abbrev Kept : State → State → TaskId → ℕ → Type 0
Kept s new t k = has_pending (new.producer k) t ≡ true → has_pending (s.producer k) t ≡ true

one_place : (s : State) (v : ℕ) (p : Producer) (t : TaskId) → (has_pending p t ≡ true → has_pending (s.producer v) t ≡ true) → (k : ℕ)
    → has_pending (with_number s.producer v p k) t ≡ true → has_pending (s.producer k) t ≡ true
one_place s v p t f k = by (k == v) refl
  where
    by : (b : Bool) → (k == v) ≡ b → has_pending (cond b p (s.producer k)) t ≡ true → has_pending (s.producer k) t ≡ true
    by true is h = ap (λ j. has_pending (s.producer j) t) (eqb-true k v is) ∙ f h
    by false is h = h

nothing_left : (q p : Producer) (t : TaskId) → p.undecided ≡ None → has_pending p t ≡ true → has_pending q t ≡ true
nothing_left q p t none h = absurd (true≢false (sym h ∙ none_left p t none))

as_before : (p : Producer) (t : TaskId) → not (is_none (pending_of t (tx_of p).pending)) ≡ true → has_pending p t ≡ true
as_before p t h = pending_tx p t ∙ h

abbrev Either : State → State → TaskId → ℕ → Type 0
Either s new t k = has_pending (new.producer k) t ≡ true → (has_pending (s.producer k) t ≡ true) ⊎ IsSent s new k t

kept : (s new : State) (t : TaskId) (k : ℕ) → Kept s new t k → Either s new t k
kept s new t k f h = inl (f h)

-- accepted offsets
sent : (setup : Setup) (s : State) (v e g : ℕ) (u : TaskId) (offsets order : List (ℕ × ℕ)) (late : ℕ) → v ≤ 16 → refusal setup s (SendOffsets v e g u offsets order late) ≡ None
    → (t : TaskId) → IsFew s t → (k : ℕ) → Either s (state_by s (SendOffsets v e g u offsets order late) None) t k
sent setup s v e g u offsets order late low free t few k = by (k == v) refl (same_task t u) refl
  where
    new : Pending
    new = record { task = u; offsets = offsets; order = order; late = late }

    p : Producer
    p = record (s.producer v) { undecided = Some (record (tx_of (s.producer v)) { pending = with_pending new (tx_of (s.producer v)).pending }) }

    rest : Option Refused
    rest = or_else (markers_waiting (s.producer v)) (unstable_beside s v u)

    asked : (not_assigned s v u ≡ None) × (rest ≡ None)
    asked =
        let a = both_none (fenced (s.producer v) e) (or_else (old_generation s g) (or_else (not_assigned s v u) rest)) free in
        both_none (not_assigned s v u) rest (both_none (old_generation s g) (or_else (not_assigned s v u) rest) a.1).1

    alone : same_task t u ≡ true → NoneElsewhere s t v
    alone is =
        let same : t ≡ u = same_task-is t u is in
        none_elsewhere s t v few (ap (unstable_beside s v) same ∙ (both_none (markers_waiting (s.producer v)) (unstable_beside s v u) asked.1).1)

    still : same_task t u ≡ true → NoneElsewhere (record s { producer = with_number s.producer v p }) t v
    still is j ne = ap (λ b. has_pending (cond b p (s.producer j)) t) (ne_eqb j v ne) ∙ alone is j ne

    by : (a : Bool) → (k == v) ≡ a → (b : Bool) → same_task t u ≡ b → has_pending (cond a p (s.producer k)) t ≡ true
        → (has_pending (s.producer k) t ≡ true) ⊎ IsSent s (record s { producer = with_number s.producer v p }) k t
    by false is b mine h = inl h
    by true is false mine h =
        inl (ap (λ j. has_pending (s.producer j) t) (eqb-true k v is) ∙ as_before (s.producer v) t (ap (λ o. not (is_none o)) (sym (other_pending t new (tx_of (s.producer v)).pending mine)) ∙ h))
    by true is true mine h =
        let same : v ≡ k = sym (eqb-true k v is) in
        inr (subst (λ j. IsSent s (record s { producer = with_number s.producer v p }) j t) same
        (record { low = low; place = ap (owner s) (same_task-is t u mine) ∙ is_owner s v u asked.0; alone = still mine }))

pub either : (setup : Setup) (s : State) (request : Request) (r : Option Refused) → Meets setup s request → refusal setup s request ≡ r → (t : TaskId) → IsFew s t → (k : ℕ) → Either s (state_by s request r) t k
either setup s request (Some refused) meets is t few k = kept s s t k (λ h. h)
either setup s (Produce p rec) None meets is t few k = kept s _ t k (λ h. h)
either setup s (Init v) None meets is t few k = kept s _ t k (one_place s v _ t (nothing_left (s.producer v) (renewed (s.producer v)) t (closed_undecided (s.producer v) false)) k)
either setup s (Add v e p) None meets is t few k = kept s _ t k (one_place s v _ t (as_before (s.producer v) t) k)
either setup s (Append v e number u p rs) None meets is t few k = kept s _ t k (one_place s v _ t (as_before (s.producer v) t) k)
either setup s (SendOffsets v e g u offsets order late) None meets is t few k = sent setup s v e g u offsets order late meets.0 is t few k
either setup s (Decide v e commit) None meets is t few k = kept s _ t k (one_place s v _ t (nothing_left (s.producer v) (closed (s.producer v) commit) t (closed_undecided (s.producer v) commit)) k)
either setup s (MarkNext v) None meets is t few k = by (s.producer v).waiting
  where
    by : (ms : List Marker) → Either s (elim ms as (λ _. State) [
      | [] ↦ s
      | m ∷ rest ↦ record s {
        partition = grown s.partition m.part (Mark v m.epoch m.commit ∷ []);
        producer = with_number s.producer v (record (s.producer v) { waiting = rest });
      }
    ]) t k
    by [] = kept s s t k (λ h. h)
    by (m ∷ rest) = kept s (record s { partition = grown s.partition m.part (Mark v m.epoch m.commit ∷ []); producer = with_number s.producer v (record (s.producer v) { waiting = rest }) }) t k
        (one_place s v (record (s.producer v) { waiting = rest }) t (λ h. h) k)
either setup s (Join v) None meets is t few k = kept s _ t k (λ h. h)
either setup s (Expire v) None meets is t few k = by (can_expire s v)
  where
    by : (b : Bool) → Either s (cond b (record s {
      producer = with_number s.producer v (renewed (s.producer v));
      members = without_number v s.members;
      held = with_number s.held v [];
      generation = s.generation + 1;
      assignment = None;
    }) s) t k
    by true = kept s (record s { producer = with_number s.producer v (renewed (s.producer v)); members = without_number v s.members; held = with_number s.held v []; generation = s.generation + 1; assignment = None }) t k
        (one_place s v (renewed (s.producer v)) t (nothing_left (s.producer v) (renewed (s.producer v)) t (closed_undecided (s.producer v) false)) k)
    by false = kept s s t k (λ h. h)
either setup s (Hold v held) None meets is t few k = kept s _ t k (λ h. h)
either setup s (Probe v g) None meets is t few k = kept s _ t k (λ h. h)
either setup s (Assign v g a) None meets is t few k = by s.assignment
  where
    by : (o : Option Assignment) → Either s (elim o as (λ _. State) [ None ↦ record s { assignment = Some a } | Some b ↦ s ]) t k
    by None = kept s (record s { assignment = Some a }) t k (λ h. h)
    by (Some b) = kept s s t k (λ h. h)
either setup s (Park instance u) None meets is t few k = kept s _ t k (λ h. h)
either setup s (Unpark instance u) None meets is t few k = kept s _ t k (λ h. h)

-- ---- a task's offsets after one entry, and after many
-- what isn't pending after all
by_pending : (new : State) (k : ℕ) (t : TaskId) → (has_pending (new.producer k) t ≡ true → ⊥) → has_pending (new.producer k) t ≡ false
by_pending new k t no_one = by (has_pending (new.producer k) t) refl
  where
    by : (b : Bool) → has_pending (new.producer k) t ≡ b → has_pending (new.producer k) t ≡ false
    by true is = absurd (no_one is)
    by false is = is

pub few_step : (setup : Setup) (s : State) (entry : Entry) (t : TaskId) → IsStep setup s entry → IsFew s t → IsFew (after setup s entry.request) t
few_step setup s entry t step few v high = by_pending (after setup s entry.request) v t (λ h. by (either setup s entry.request (refusal setup s entry.request) step.meets refl t few v h))
  where
    by : (has_pending (s.producer v) t ≡ true) ⊎ IsSent s (after setup s entry.request) v t → ⊥
    by (inl old) = true≢false (sym old ∙ few v high)
    by (inr new) = absurd (omega (arith, new.low, high))

-- at most one producer has offsets of the task pending
pub record IsOne (s : State) (t : TaskId) : Type 0 where
  pub few : IsFew s t
  pub one : (w : ℕ) → has_pending (s.producer w) t ≡ true → NoneElsewhere s t w

pub one_step : (setup : Setup) (s : State) (entry : Entry) (t : TaskId) → IsStep setup s entry → IsOne s t → IsOne (after setup s entry.request) t
one_step setup s entry t step is = record {
  few = few_step setup s entry t step is.few;
  one = λ w h v ne. by w h v ne (told w h);
}
  where
    new : State
    new = after setup s entry.request

    told : (k : ℕ) → Either s (after setup s entry.request) t k
    told k = either setup s entry.request (refusal setup s entry.request) step.meets refl t is.few k

    by : (w : ℕ) → has_pending ((after setup s entry.request).producer w) t ≡ true → (v : ℕ) → v ≢ w → (has_pending (s.producer w) t ≡ true) ⊎ IsSent s (after setup s entry.request) w t
        → has_pending ((after setup s entry.request).producer v) t ≡ false
    by w h v ne (inr sent) = sent.alone v ne
    by w h v ne (inl old) = by_pending (after setup s entry.request) v t (λ g. both (told v g))
      where
        both : (has_pending (s.producer v) t ≡ true) ⊎ IsSent s (after setup s entry.request) v t → ⊥
        both (inl other) = true≢false (sym other ∙ is.one w old v ne)
        both (inr sent) = true≢false (sym h ∙ sent.alone w (λ e. ne (sym e)))

one_after : (setup : Setup) (entries : List Entry) (s : State) (t : TaskId) → Each IsStep setup s entries → IsOne s t → IsOne (state_after setup s entries) t
one_after setup [] s t steps is = is
one_after setup (entry ∷ entries) s t steps is = one_after setup entries (after setup s entry.request) t steps.1 (one_step setup s entry t steps.0 is)

pub one_at : (setup : Setup) (journal : List Entry) (t : TaskId) → IsHistory setup journal → IsOne (at setup journal) t
one_at setup journal t history = one_after setup journal start t history.legal (record { few = λ v h. refl; one = λ w h v ne. refl })

pub one_pending : OnePending
one_pending setup journal t w history h = (one_at setup journal t history).one w h

-- ---- an entry of others commits nothing for a task of which nothing is pending elsewhere
pub commits_none : (s : State) (w : ℕ) (request : Request) (r : Option Refused) (t : TaskId) → IsOthers w request r → NoneElsewhere s t w → commits_by s request r t ≡ []
commits_none s w (Decide v e true) None t quiet none = by (pending_of t (pending_at (s.producer v))) refl
  where
    by : (o : Option Pending) → pending_of t (pending_at (s.producer v)) ≡ o → commit_by v o ≡ []
    by None h = refl
    by (Some p) h = absurd (true≢false (ap (λ o. not (is_none o)) (sym h) ∙ sym (pending_is (s.producer v) t) ∙ none v (λ e. quiet (eq-eqb v w e) refl)))
commits_none s w (Decide v e true) (Some refused) t quiet none = refl
commits_none s w (Decide v e false) r t quiet none = refl
commits_none s w (Produce p rec) r t quiet none = refl
commits_none s w (Init v) r t quiet none = refl
commits_none s w (Add v e p) r t quiet none = refl
commits_none s w (Append v e number u p rs) r t quiet none = refl
commits_none s w (SendOffsets v e g u offsets order late) r t quiet none = refl
commits_none s w (MarkNext v) r t quiet none = refl
commits_none s w (Join v) r t quiet none = refl
commits_none s w (Expire v) r t quiet none = refl
commits_none s w (Hold v held) r t quiet none = refl
commits_none s w (Probe v g) r t quiet none = refl
commits_none s w (Assign v g a) r t quiet none = refl
commits_none s w (Park instance u) r t quiet none = refl
commits_none s w (Unpark instance u) r t quiet none = refl
