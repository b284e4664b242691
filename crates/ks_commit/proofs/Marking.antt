-- A decision, and the markers that are written after it.
use Rattle.std.proofs.Common.{◌≡◌, ℕ, Bool, true, false, cond, ◌||◌, List, [], ◌∷◌, ◌++◌, Option, Some, None, refl, sym, ap, ◌∙◌, arith}
use Rattle.std.specs.Prelude.{◌==◌}
use Rattle.ks_record.specs.declared.record.PartId.{PartId}
use Rattle.ks_record.specs.declared.assignment.Marker.{Marker}
use Rattle.ks_record.specs.Parts.{same_part}
use Rattle.ks_history.specs.declared.partition.Slot.TheVariants.{Mark}
use Rattle.ks_history.specs.declared.journal.Request.TheVariants.{Decide}
use Rattle.ks_history.specs.declared.transaction.Transaction.{Transaction}
use Rattle.ks_history.specs.declared.transaction.Producer.{Producer}
use Rattle.ks_history.specs.Partition.{count_sent}
use Rattle.ks_history.specs.State.{State, with_number, grown, has_part}
use Rattle.ks_history.specs.Step.{effect, closed, markers_for}
use Rattle.ks_law_exactly_once.proofs.Commits.{closed_waiting}
use Rattle.ks_law_exactly_once.proofs.Refusals.{closed_undecided}
use Rattle.ks_commit.specs.Sending.{Marks, marks_part}
use Rattle.ks_commit.proofs.Slots.{count_append}
use Rattle.ks_commit.proofs.Gaining.{at_it, beside_it}
use Rattle.ks_commit.proofs.Faith.{or_false}

pub marks_nothing : (s : State) (w : ℕ) → Marks s s w
marks_nothing s w = record { others = λ v h. refl; epoch = refl; undecided = refl; generation = refl; owners = λ t. refl; committed = refl; count = λ v e q. refl; partition = λ q h. refl; waiting = λ q h. h }

pub marks_both : (s mid new : State) (w : ℕ) → Marks s mid w → Marks mid new w → Marks s new w
marks_both s mid new w a b = record {
  others = λ v h. b.others v h ∙ a.others v h;
  epoch = b.epoch ∙ a.epoch;
  undecided = b.undecided ∙ a.undecided;
  generation = b.generation ∙ a.generation;
  owners = λ t. b.owners t ∙ a.owners t;
  committed = b.committed ∙ a.committed;
  count = λ v e q. b.count v e q ∙ a.count v e q;
  partition = λ q h. b.partition q (a.waiting q h) ∙ a.partition q h;
  waiting = λ q h. b.waiting q (a.waiting q h);
}

-- one marker
pub mark_marks : (s : State) (w : ℕ) (m : Marker) (ms : List Marker) → (s.producer w).waiting ≡ m ∷ ms →
    Marks s (record s { partition = grown s.partition m.part (Mark w m.epoch m.commit ∷ []); producer = with_number s.producer w (record (s.producer w) { waiting = ms }) }) w
mark_marks s w m ms is =
    let x : Producer = record (s.producer w) { waiting = ms } in
    let here : with_number s.producer w x w ≡ x = at_it s.producer w x in
    record {
      others = beside_it s.producer w x;
      epoch = ap (λ (y : Producer). y.epoch) here;
      undecided = ap (λ (y : Producer). y.undecided) here;
      generation = refl;
      owners = λ t. refl;
      committed = refl;
      count = λ v e q. counted v e q (same_part q m.part);
      partition = λ q h. ap (λ b. cond b (s.partition q ++ Mark w m.epoch m.commit ∷ []) (s.partition q)) (parts q h).0;
      waiting = λ q h. ap (λ (y : Producer). marks_part q y.waiting) here ∙ (parts q h).1;
    }
  where
    parts : (q : PartId) → marks_part q (s.producer w).waiting ≡ false → (same_part q m.part ≡ false) × (marks_part q ms ≡ false)
    parts q h = or_false (same_part q m.part) (marks_part q ms) (sym (ap (marks_part q) is) ∙ h)

    counted : (v e : ℕ) (q : PartId) (b : Bool) → count_sent v e (cond b (s.partition q ++ Mark w m.epoch m.commit ∷ []) (s.partition q)) ≡ count_sent v e (s.partition q)
    counted v e q true = count_append v e (s.partition q) (Mark w m.epoch m.commit ∷ []) ∙ omega arith
    counted v e q false = refl

pub marks_for : (q : PartId) (e : ℕ) (commit : Bool) (parts : List PartId) → marks_part q (markers_for e commit parts) ≡ has_part q parts
marks_for q e commit [] = refl
marks_for q e commit (p ∷ ps) = ap (λ b. same_part q p || b) (marks_for q e commit ps)

-- ---- a commit of a producer without waiting markers
pub record Decides (s new : State) (w : ℕ) (tx : Transaction) : Type 0 where
  pub others : (v : ℕ) → (v == w) ≡ false → new.producer v ≡ s.producer v
  pub epoch : (new.producer w).epoch ≡ (s.producer w).epoch
  pub undecided : (new.producer w).undecided ≡ None
  pub waiting : (q : PartId) → marks_part q (new.producer w).waiting ≡ has_part q tx.parts

closed_epoch : (p : Producer) (commit : Bool) → (closed p commit).epoch ≡ p.epoch
closed_epoch p commit = by p.undecided
  where
    by : (u : Option Transaction) → (elim u as (λ _. Producer) [ None ↦ p | Some tx ↦ record p { undecided = None; waiting = p.waiting ++ markers_for p.epoch commit tx.parts; last = Some commit } ]).epoch ≡ p.epoch
    by None = refl
    by (Some tx) = refl

pub decide_decides : (s : State) (w e : ℕ) (tx : Transaction) → (s.producer w).undecided ≡ Some tx → (s.producer w).waiting ≡ [] → Decides s (effect s (Decide w e true)) w tx
decide_decides s w e tx is empty =
    let x : Producer = closed (s.producer w) true in
    let here : with_number s.producer w x w ≡ x = at_it s.producer w x in
    record {
      others = beside_it s.producer w x;
      epoch = ap (λ (y : Producer). y.epoch) here ∙ closed_epoch (s.producer w) true;
      undecided = ap (λ (y : Producer). y.undecided) here ∙ closed_undecided (s.producer w) true;
      waiting = λ q. ap (λ (y : Producer). marks_part q y.waiting) here
          ∙ ap (marks_part q) (closed_waiting (s.producer w) true tx is ∙ ap (λ l. l ++ markers_for (s.producer w).epoch true tx.parts) empty)
          ∙ marks_for q (s.producer w).epoch true tx.parts;
    }
