-- No request of the publisher is refused.
use Rattle.std.proofs.Common.{◌≡◌, ℕ, ◌+◌, zero, suc, Bool, true, false, cond, ◌&&◌, List, [], ◌∷◌, length, Option, Some, None, refl, sym, ap, ◌∙◌}
use Rattle.std.specs.Prelude.{◌==◌, not}
use Rattle.std.proofs.lemmas.Bool.{eq-eqb, true≢false}
use Rattle.ks_record.specs.declared.record.PartId.{PartId}
use Rattle.ks_record.specs.declared.record.TaskId.{TaskId}
use Rattle.ks_record.specs.declared.assignment.Marker.{Marker}
use Rattle.ks_record.specs.declared.assignment.Refused.{Refused}
use Rattle.ks_record.specs.declared.assignment.Refused.TheVariants.{OutOfSequence, Fenced, AlreadyDecided, NoTransaction, OldGeneration, NotAssigned, Unstable, MarkersWaiting}
use Rattle.ks_history.specs.declared.transaction.Transaction.{Transaction}
use Rattle.ks_history.specs.declared.transaction.Producer.{Producer}
use Rattle.ks_history.specs.declared.transaction.Pending.{Pending}
use Rattle.ks_history.specs.declared.partition.Slot.{Slot}
use Rattle.ks_history.specs.Partition.{count_sent, is_none}
use Rattle.ks_history.specs.State.{State, Setup, has_part, has_task, pending_of}
use Rattle.ks_history.specs.Step.{or_else, fenced, markers_waiting, without_part, out_of_sequence, none_undecided, old_generation, owner, not_assigned, has_pending, unstable_from, unstable, unstable_beside, tx_of, pending_at, no_tx}
use Rattle.ks_history.specs.Reads.{committed_refusal}
use Rattle.ks_commit.specs.Alone.{IsAlone}

pub none_then : (a b : Option Refused) → a ≡ None → b ≡ None → or_else a b ≡ None
none_then a b e f = ap (λ o. or_else o b) e ∙ f

pub not_fenced : (p : Producer) (e : ℕ) → p.epoch ≡ e → fenced p e ≡ None
not_fenced p e is = ap (λ b. cond b None (Some (Fenced p.epoch))) (eq-eqb e p.epoch (sym is))

pub none_wait : (p : Producer) → p.waiting ≡ [] → markers_waiting p ≡ None
none_wait p is = by p.undecided p.waiting is
  where
    by : (u : Option Transaction) (ms : List Marker) → ms ≡ [] → (elim u as (λ _. Option Refused) [ Some tx ↦ None | None ↦ elim ms as (λ _. Option Refused) [ [] ↦ None | m ∷ ms ↦ Some (MarkersWaiting (length (m ∷ ms))) ] ]) ≡ None
    by (Some tx) ms h = refl
    by None [] h = refl
    by None (m ∷ ms) h = absurd cc

pub has_its_part : (p : Producer) (part : PartId) → has_part part (tx_of p).parts ≡ true → without_part p part ≡ None
has_its_part p part is = by p.undecided is
  where
    by : (u : Option Transaction) → has_part part (elim u as (λ _. Transaction) [ None ↦ no_tx | Some tx ↦ tx ]).parts ≡ true
        → (elim u as (λ _. Option Refused) [ None ↦ Some NoTransaction | Some tx ↦ cond (has_part part tx.parts) None (Some NoTransaction) ]) ≡ None
    by None h = absurd (true≢false (sym h))
    by (Some tx) h = ap (λ b. cond b None (Some NoTransaction)) h

pub in_sequence : (slots : List Slot) (w e number : ℕ) → number ≡ count_sent w e slots → out_of_sequence slots w e number ≡ None
in_sequence slots w e number is = ap (λ b. cond b None (Some (OutOfSequence (count_sent w e slots)))) (eq-eqb number (count_sent w e slots) is)

pub now_generation : (s : State) (g : ℕ) → s.generation ≡ g → old_generation s g ≡ None
now_generation s g is = ap (λ b. cond b None (Some (OldGeneration s.generation))) (eq-eqb g s.generation (sym is))

pub is_assigned : (s : State) (w : ℕ) (t : TaskId) → owner s t ≡ Some w → not_assigned s w t ≡ None
is_assigned s w t is =
    ap (λ (o : Option ℕ). elim o as (λ _. Option Refused) [ None ↦ Some (NotAssigned None) | Some v ↦ cond (v == w) None (Some (NotAssigned (Some v))) ]) is
    ∙ ap (λ b. cond b None (Some (NotAssigned (Some w)))) (eq-eqb w w refl)

nothing_pending : (p : Producer) (t : TaskId) → p.undecided ≡ None → has_pending p t ≡ false
nothing_pending p t is = ap (λ (u : Option Transaction). elim u as (λ _. Bool) [ None ↦ false | Some tx ↦ not (is_none (pending_of t tx.pending)) ]) is

none_beside : (s : State) (w : ℕ) (t : TaskId) → ((v : ℕ) → (v == w) ≡ false → (s.producer v).undecided ≡ None) → (v left : ℕ) → unstable_from s t (λ v. not (v == w)) v left ≡ None
none_beside s w t idle v zero = refl
none_beside s w t idle v (suc left) = by (v == w) refl (none_beside s w t idle (v + 1) left)
  where
    by : (b : Bool) → (v == w) ≡ b → unstable_from s t (λ v. not (v == w)) (v + 1) left ≡ None
        → cond (not b && has_pending (s.producer v) t) (Some (Unstable v)) (unstable_from s t (λ v. not (v == w)) (v + 1) left) ≡ None
    by true is e = e
    by false is e = ap (λ b. cond b (Some (Unstable v)) (unstable_from s t (λ v. not (v == w)) (v + 1) left)) (nothing_pending (s.producer v) t (idle v is)) ∙ e

pub stable_beside : (s : State) (w : ℕ) (t : TaskId) → ((v : ℕ) → (v == w) ≡ false → (s.producer v).undecided ≡ None) → unstable_beside s w t ≡ None
stable_beside s w t idle = none_beside s w t idle 0 17

-- a transaction that has offsets pending is undecided
pub has_tx : (p : Producer) (t : TaskId) (x : Pending) → pending_of t (pending_at p) ≡ Some x → (tx : Transaction) × (p.undecided ≡ Some tx)
has_tx p t x is = by p.undecided refl is
  where
    by : (u : Option Transaction) → p.undecided ≡ u → pending_of t (elim u as (λ _. List Pending) [ None ↦ [] | Some tx ↦ tx.pending ]) ≡ Some x → (tx : Transaction) × (p.undecided ≡ Some tx)
    by None h g = absurd cc
    by (Some tx) h g = (tx, h)

pub can_decide : (p : Producer) (tx : Transaction) → p.undecided ≡ Some tx → none_undecided p ≡ None
can_decide p tx is = ap (λ (u : Option Transaction). elim u as (λ _. Option Refused) [ Some tx ↦ None | None ↦ elim p.last as (λ _. Option Refused) [ None ↦ Some NoTransaction | Some commit ↦ Some (AlreadyDecided commit) ] ]) is

-- ---- what the publisher reads
none_pending : (s : State) (t : TaskId) → ((v : ℕ) → (s.producer v).undecided ≡ None) → (v left : ℕ) → unstable_from s t (λ v. true) v left ≡ None
none_pending s t idle v zero = refl
none_pending s t idle v (suc left) = ap (λ b. cond b (Some (Unstable v)) (unstable_from s t (λ v. true) (v + 1) left)) (nothing_pending (s.producer v) t (idle v)) ∙ none_pending s t idle (v + 1) left

pub can_read : (setup : Setup) (s : State) (w e g : ℕ) (t : TaskId) → IsAlone setup s w e g → has_task t setup.tasks ≡ true → committed_refusal s w g t ≡ None
can_read setup s w e g t alone there =
    none_then (old_generation s g) (or_else (not_assigned s w t) (unstable s t)) (now_generation s g alone.generation)
    (none_then (not_assigned s w t) (unstable s t) (is_assigned s w t (alone.owns t there)) (none_pending s t (λ v. (alone.idle v).0) 0 17))
