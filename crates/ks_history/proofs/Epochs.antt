-- Epochs and the generation are at most the number of entries.
use Rattle.std.proofs.Common.{◌≡◌, ◌≢◌, ℕ, ◌+◌, ◌≤◌, Bool, true, false, cond, eqb, Option, Some, None, List, [], ◌∷◌, ◌++◌, length, refl, sym, subst, arith, ⊎_elim}
use Rattle.std.proofs.lemmas.Bool.Decides.{eqb_tells}
use Rattle.ks_record.specs.declared.assignment.Refused.{Refused}
use Rattle.ks_history.specs.declared.journal.Entry.{Entry}
use Rattle.ks_history.specs.declared.transaction.Producer.{Producer}
use Rattle.ks_history.specs.declared.transaction.Transaction.{Transaction}
use Rattle.ks_history.specs.declared.journal.Request.{Request}
use Rattle.ks_history.specs.declared.journal.Request.TheVariants.{Produce, Init, Add, Append, SendOffsets, Decide, MarkNext, Join, Expire, Hold, Probe, Assign, Park, Unpark}
use Rattle.ks_record.specs.declared.assignment.Marker.{Marker}
use Rattle.ks_record.specs.declared.assignment.Assignment.{Assignment}
use Rattle.ks_history.specs.declared.partition.Slot.TheVariants.{Mark}
use Rattle.ks_history.specs.State.{State, Setup, start, with_number, grown, without_number}
use Rattle.ks_history.specs.Step.{refusal, effect, state_by, after, closed, can_expire, renewed, markers_for}
use Rattle.ks_history.specs.History.{state_after, at}

closed_epoch : (p : Producer) (commit : Bool) → (closed p commit).epoch ≡ p.epoch
closed_epoch p commit = by_tx p.undecided
  where
    by_tx : (u : Option Transaction) → (elim u as (λ _. Producer) [ None ↦ p | Some tx ↦ record p { undecided = None; waiting = p.waiting ++ markers_for p.epoch commit tx.parts; last = Some commit } ]).epoch ≡ p.epoch
    by_tx None = refl
    by_tx (Some tx) = refl

with_epoch : (f : ℕ → Producer) (v : ℕ) (p : Producer) (w : ℕ) → p.epoch ≤ (f v).epoch + 1 → (with_number f v p w).epoch ≤ (f w).epoch + 1
with_epoch f v p w h =
    ⊎_elim
    (λ (t : (eqb w v ≡ true) × (w ≡ v)). subst (λ b. (cond b p (f w)).epoch ≤ (f w).epoch + 1) (sym t.0) (subst (λ k. p.epoch ≤ (f k).epoch + 1) (sym t.1) h))
    (λ (t : (eqb w v ≡ false) × (w ≢ v)). subst (λ b. (cond b p (f w)).epoch ≤ (f w).epoch + 1) (sym t.0) (omega arith))
    (eqb_tells w v)

effect_epoch : (s : State) (request : Request) (w : ℕ) → ((effect s request).producer w).epoch ≤ (s.producer w).epoch + 1
effect_epoch s (Produce p rec) w = omega arith
effect_epoch s (Init v) w = with_epoch s.producer v _ w (omega arith)
effect_epoch s (Add v e p) w = with_epoch s.producer v _ w (omega arith)
effect_epoch s (Append v e number t p recs) w = with_epoch s.producer v _ w (omega arith)
effect_epoch s (SendOffsets v e g t offsets order late) w = with_epoch s.producer v _ w (omega arith)
effect_epoch s (Decide v e commit) w = with_epoch s.producer v _ w (omega (arith, closed_epoch (s.producer v) commit))
effect_epoch s (MarkNext v) w = by_waiting (s.producer v).waiting
  where
    by_waiting : (ms : List Marker) → ((elim ms as (λ _. State) [ [] ↦ s | m ∷ rest ↦ record s { partition = grown s.partition m.part (Mark v m.epoch m.commit ∷ []); producer = with_number s.producer v (record (s.producer v) { waiting = rest }) } ]).producer w).epoch ≤ (s.producer w).epoch + 1
    by_waiting [] = omega arith
    by_waiting (m ∷ rest) = with_epoch s.producer v _ w (omega arith)
effect_epoch s (Join v) w = omega arith
effect_epoch s (Expire v) w = by_expired (can_expire s v)
  where
    by_expired : (b : Bool) → ((cond b (record s { producer = with_number s.producer v (renewed (s.producer v)); members = without_number v s.members; held = with_number s.held v []; generation = s.generation + 1; assignment = None }) s).producer w).epoch ≤ (s.producer w).epoch + 1
    by_expired true = with_epoch s.producer v _ w (omega arith)
    by_expired false = omega arith
effect_epoch s (Hold v held) w = omega arith
effect_epoch s (Probe v g) w = omega arith
effect_epoch s (Park instance t) w = omega arith
effect_epoch s (Unpark instance t) w = omega arith
effect_epoch s (Assign v g a) w = by_assigned s.assignment
  where
    by_assigned : (o : Option Assignment) → ((elim o as (λ _. State) [ None ↦ record s { assignment = Some a } | Some b ↦ s ]).producer w).epoch ≤ (s.producer w).epoch + 1
    by_assigned None = omega arith
    by_assigned (Some b) = omega arith

after_epoch : (s : State) (request : Request) (w : ℕ) (r : Option Refused) → ((state_by s request r).producer w).epoch ≤ (s.producer w).epoch + 1
after_epoch s request w None = effect_epoch s request w
after_epoch s request w (Some refused) = omega arith

epoch_from : (setup : Setup) (s : State) (entries : List Entry) (w : ℕ) → ((state_after setup s entries).producer w).epoch ≤ (s.producer w).epoch + length entries
epoch_from setup s [] w = omega arith
epoch_from setup s (entry ∷ entries) w =
    omega (arith, epoch_from setup (after setup s entry.request) entries w, after_epoch s entry.request w (refusal setup s entry.request))

pub epoch_few : (setup : Setup) (journal : List Entry) (w : ℕ) → ((at setup journal).producer w).epoch ≤ length journal
epoch_few setup journal w = omega (arith, epoch_from setup start journal w)

effect_generation : (s : State) (request : Request) → (effect s request).generation ≤ s.generation + 1
effect_generation s (Produce p rec) = omega arith
effect_generation s (Init v) = omega arith
effect_generation s (Add v e p) = omega arith
effect_generation s (Append v e number t p recs) = omega arith
effect_generation s (SendOffsets v e g t offsets order late) = omega arith
effect_generation s (Decide v e commit) = omega arith
effect_generation s (MarkNext v) = by_waiting (s.producer v).waiting
  where
    by_waiting : (ms : List Marker) → (elim ms as (λ _. State) [ [] ↦ s | m ∷ rest ↦ record s { partition = grown s.partition m.part (Mark v m.epoch m.commit ∷ []); producer = with_number s.producer v (record (s.producer v) { waiting = rest }) } ]).generation ≤ s.generation + 1
    by_waiting [] = omega arith
    by_waiting (m ∷ rest) = omega arith
effect_generation s (Join v) = omega arith
effect_generation s (Expire v) = by_expired (can_expire s v)
  where
    by_expired : (b : Bool) → (cond b (record s { producer = with_number s.producer v (renewed (s.producer v)); members = without_number v s.members; held = with_number s.held v []; generation = s.generation + 1; assignment = None }) s).generation ≤ s.generation + 1
    by_expired true = omega arith
    by_expired false = omega arith
effect_generation s (Hold v held) = omega arith
effect_generation s (Probe v g) = omega arith
effect_generation s (Park instance t) = omega arith
effect_generation s (Unpark instance t) = omega arith
effect_generation s (Assign v g a) = by_assigned s.assignment
  where
    by_assigned : (o : Option Assignment) → (elim o as (λ _. State) [ None ↦ record s { assignment = Some a } | Some b ↦ s ]).generation ≤ s.generation + 1
    by_assigned None = omega arith
    by_assigned (Some b) = omega arith

after_generation : (s : State) (request : Request) (r : Option Refused) → (state_by s request r).generation ≤ s.generation + 1
after_generation s request None = effect_generation s request
after_generation s request (Some refused) = omega arith

generation_from : (setup : Setup) (s : State) (entries : List Entry) → (state_after setup s entries).generation ≤ s.generation + length entries
generation_from setup s [] = omega arith
generation_from setup s (entry ∷ entries) =
    omega (arith, generation_from setup (after setup s entry.request) entries, after_generation s entry.request (refusal setup s entry.request))

pub generation_few : (setup : Setup) (journal : List Entry) → (at setup journal).generation ≤ length journal
generation_few setup journal = omega (arith, generation_from setup start journal)
