-- Whatever is written: the generation and the epochs never fall, and partitions only grow.
use Rattle.std.proofs.Common.{◌≡◌, ℕ, ◌+◌, ◌≤◌, ◌&&◌, Bool, true, false, cond, List, [], ◌∷◌, ◌++◌, length, Option, Some, None, sym, refl, subst, arith, length-append}
use Rattle.std.specs.Prelude.{◌==◌, nat_le}
use Rattle.std.proofs.lemmas.Bool.{and_parts, and_from, true≢false, le-leb, leb-true, eqb-true}
use Rattle.ks_record.specs.declared.record.PartId.{PartId}
use Rattle.ks_record.specs.declared.assignment.Refused.{Refused}
use Rattle.ks_record.specs.declared.assignment.Assignment.{Assignment}
use Rattle.ks_record.specs.declared.assignment.Marker.{Marker}
use Rattle.ks_record.specs.Parts.{same_part}
use Rattle.ks_history.specs.declared.partition.Slot.{Slot}
use Rattle.ks_history.specs.declared.partition.Slot.TheVariants.{Plain, Mark}
use Rattle.ks_history.specs.declared.journal.Request.{Request}
use Rattle.ks_history.specs.declared.journal.Request.TheVariants.{Produce, Init, Add, Append, SendOffsets, Decide, MarkNext, Join, Expire, Hold, Probe, Assign, Park, Unpark}
use Rattle.ks_history.specs.declared.journal.Entry.{Entry}
use Rattle.ks_history.specs.declared.transaction.Producer.{Producer}
use Rattle.ks_history.specs.declared.transaction.Transaction.{Transaction}
use Rattle.ks_history.specs.Machine.{part_of, has_topic}
use Rattle.ks_history.specs.Partition.{sent_slots}
use Rattle.ks_history.specs.State.{State, Setup, start, with_number, grown, without_number}
use Rattle.ks_history.specs.Step.{refusal, state_by, after, renewed, closed, can_expire, markers_for}
use Rattle.ks_history.specs.History.{state_after, at, names_topic, are_offsets}
use Rattle.ks_history.proofs.Histories.{state_after-append}
use Rattle.ks_law_sharing.specs.Others.{EpochRises, EndsRise, OffsetsStay}

pub record Rises (s new : State) : Type 0 where
  pub generation : s.generation ≤ new.generation
  pub epochs : (w : ℕ) → (s.producer w).epoch ≤ (new.producer w).epoch
  pub ends : (q : PartId) → length (s.partition q) ≤ length (new.partition q)

rises_same : (s : State) → Rises s s
rises_same s = record { generation = omega arith; epochs = λ w. omega arith; ends = λ q. omega arith }

pub closed_epoch : (p : Producer) (commit : Bool) → (closed p commit).epoch ≡ p.epoch
closed_epoch p commit = by p.undecided
  where
    by : (u : Option Transaction) → (elim u as (λ _. Producer) [ None ↦ p | Some tx ↦ record p { undecided = None; waiting = p.waiting ++ markers_for p.epoch commit tx.parts; last = Some commit } ]).epoch ≡ p.epoch
    by None = refl
    by (Some tx) = refl

placed : (s : State) (v : ℕ) (p : Producer) (w : ℕ) → (s.producer v).epoch ≤ p.epoch → (s.producer w).epoch ≤ (with_number s.producer v p w).epoch
placed s v p w h = by (w == v) refl
  where
    by : (b : Bool) → (w == v) ≡ b → (s.producer w).epoch ≤ (cond b p (s.producer w)).epoch
    by true is = subst (λ k. (s.producer k).epoch ≤ p.epoch) (sym (eqb-true w v is)) h
    by false is = omega arith

longer : (s : State) (p q : PartId) (more : List Slot) → length (s.partition q) ≤ length (grown s.partition p more q)
longer s p q more = by (same_part q p)
  where
    by : (b : Bool) → length (s.partition q) ≤ length (cond b (s.partition q ++ more) (s.partition q))
    by true = omega (arith, length-append (s.partition q) more)
    by false = omega arith

pub rises : (s : State) (request : Request) (r : Option Refused) → Rises s (state_by s request r)
rises s request (Some refused) = rises_same s
rises s (Produce p rec) None = record { generation = omega arith; epochs = λ w. omega arith; ends = λ q. longer s p q (Plain rec ∷ []) }
rises s (Init v) None = record { generation = omega arith; epochs = λ w. placed s v _ w (omega arith); ends = λ q. omega arith }
rises s (Add v e p) None = record { generation = omega arith; epochs = λ w. placed s v _ w (omega arith); ends = λ q. omega arith }
rises s (Append v e number t p rs) None = record { generation = omega arith; epochs = λ w. placed s v _ w (omega arith); ends = λ q. longer s p q (sent_slots v e number t rs) }
rises s (SendOffsets v e g t offsets order late) None = record { generation = omega arith; epochs = λ w. placed s v _ w (omega arith); ends = λ q. omega arith }
rises s (Decide v e commit) None = record { generation = omega arith; epochs = λ w. placed s v _ w (omega (arith, closed_epoch (s.producer v) commit)); ends = λ q. omega arith }
rises s (MarkNext v) None = by (s.producer v).waiting
  where
    by : (ms : List Marker) → Rises s (elim ms as (λ _. State) [
      | [] ↦ s
      | m ∷ rest ↦ record s {
        partition = grown s.partition m.part (Mark v m.epoch m.commit ∷ []);
        producer = with_number s.producer v (record (s.producer v) { waiting = rest });
      }
    ])
    by [] = rises_same s
    by (m ∷ rest) = record { generation = omega arith; epochs = λ w. placed s v _ w (omega arith); ends = λ q. longer s m.part q (Mark v m.epoch m.commit ∷ []) }
rises s (Join v) None = record { generation = omega arith; epochs = λ w. omega arith; ends = λ q. omega arith }
rises s (Expire v) None = by (can_expire s v)
  where
    by : (b : Bool) → Rises s (cond b (record s {
      producer = with_number s.producer v (renewed (s.producer v));
      members = without_number v s.members;
      held = with_number s.held v [];
      generation = s.generation + 1;
      assignment = None;
    }) s)
    by true = record { generation = omega arith; epochs = λ w. placed s v _ w (omega arith); ends = λ q. omega arith }
    by false = rises_same s
rises s (Hold v held) None = record { generation = omega arith; epochs = λ w. omega arith; ends = λ q. omega arith }
rises s (Probe v g) None = record { generation = omega arith; epochs = λ w. omega arith; ends = λ q. omega arith }
rises s (Assign v g a) None = by s.assignment
  where
    by : (o : Option Assignment) → Rises s (elim o as (λ _. State) [ None ↦ record s { assignment = Some a } | Some b ↦ s ])
    by None = record { generation = omega arith; epochs = λ w. omega arith; ends = λ q. omega arith }
    by (Some b) = rises_same s
rises s (Park instance t) None = record { generation = omega arith; epochs = λ w. omega arith; ends = λ q. omega arith }
rises s (Unpark instance t) None = record { generation = omega arith; epochs = λ w. omega arith; ends = λ q. omega arith }

pub rises_after : (setup : Setup) (entries : List Entry) (s : State) → Rises s (state_after setup s entries)
rises_after setup [] s = rises_same s
rises_after setup (entry ∷ entries) s =
    let one : Rises s (after setup s entry.request) = rises s entry.request (refusal setup s entry.request) in
    let more : Rises (after setup s entry.request) (state_after setup (after setup s entry.request) entries) = rises_after setup entries (after setup s entry.request) in
    record {
      generation = omega (arith, one.generation, more.generation);
      epochs = λ w. omega (arith, one.epochs w, more.epochs w);
      ends = λ q. omega (arith, one.ends q, more.ends q);
    }

pub journal_rises : (setup : Setup) (journal more : List Entry) → Rises (at setup journal) (at setup (journal ++ more))
journal_rises setup journal more = subst (Rises (at setup journal)) (sym (state_after-append setup start journal more)) (rises_after setup more (at setup journal))

pub epoch_rises : EpochRises
epoch_rises setup journal more w = (journal_rises setup journal more).epochs w

pub ends_rise : EndsRise
ends_rise setup journal more q = (journal_rises setup journal more).ends q

pub offsets_stay : OffsetsStay
offsets_stay setup journal more t [] h = refl
offsets_stay setup journal more t (pair ∷ pairs) h =
    by (names_topic pair.0 pairs) (has_topic pair.0 (setup.plan.inputs t.sub)) h (λ g. offsets_stay setup journal more t pairs g)
  where
    by : (a b : Bool) → cond a false ((b && nat_le pair.1 (length ((at setup journal).partition (part_of pair.0 t)))) && are_offsets setup (at setup journal) t pairs) ≡ true
        → (are_offsets setup (at setup journal) t pairs ≡ true → are_offsets setup (at setup (journal ++ more)) t pairs ≡ true)
        → cond a false ((b && nat_le pair.1 (length ((at setup (journal ++ more)).partition (part_of pair.0 t)))) && are_offsets setup (at setup (journal ++ more)) t pairs) ≡ true
    by true b g on = absurd (true≢false (sym g))
    by false b g on =
        let parts = and_parts _ _ g in
        let here = and_parts _ _ parts.0 in
        and_from _ _ (and_from _ _ here.0 (le-leb pair.1 _ (omega (arith, leb-true pair.1 _ here.1, ends_rise setup journal more (part_of pair.0 t))))) (on parts.1)
