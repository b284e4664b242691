-- A transaction from its beginning, request by request and between entries of others.
use Rattle.std.proofs.Common.{◌≡◌, inl, inr, ◌+◌, ◌≤◌, Bool, true, false, cond, ◌&&◌, ◌||◌, List, [], ◌∷◌, ◌++◌, length, Option, Some, None, refl, sym, ap, ap₂, subst, ◌∙◌, arith, append-nil, length-append}
use Rattle.ks_record.specs.declared.record.PartId.{PartId}
use Rattle.ks_record.specs.declared.record.TaskId.{TaskId}
use Rattle.ks_record.specs.Parts.{same_part, same_task}
use Rattle.ks_history.specs.declared.partition.Slot.{Slot}
use Rattle.ks_history.specs.declared.transaction.Pending.{Pending}
use Rattle.ks_history.specs.declared.transaction.Transaction.{Transaction}
use Rattle.ks_history.specs.declared.transaction.Producer.{Producer}
use Rattle.ks_history.specs.Partition.{recs, open_from, sent_slots}
use Rattle.ks_history.specs.State.{State, with_number, insert_part, has_part, has_task, pending_of, with_pending}
use Rattle.ks_history.specs.Step.{tx_of, no_tx, pending_at}
use Rattle.ks_history.specs.Faithful.{marker_among}
use Rattle.ks_history.specs.History.{at}
use Rattle.ks_history.proofs.Names.{same_task-is}
use Rattle.ks_law_exactly_once.proofs.Quiet.{tx_pending}
use Rattle.ks_law_exactly_once.proofs.Replays.{whole}
use Rattle.ks_law_exactly_once.proofs.Slots.{recs-append, open_none, next_mark-sent}
use Rattle.ks_law_exactly_once.proofs.Sound.{Sound, Owned}
use Rattle.ks_law_sharing.specs.Others.{AllFrom}
use Rattle.ks_law_sharing.proofs.Rising.{ends_rise}
use Rattle.ks_law_sharing.proofs.Leaving.{Leaves, IsSame, journal_leaves, is_same, open_same, open_append}
use Rattle.ks_law_sharing.proofs.Places.{from_less, open_all}
use Rattle.ks_law_commit.specs.Building.{BuildingBegins, BuildingStays, AddBuilds, AppendBuilds, OffsetsBuild}
use Rattle.ks_law_commit.proofs.Adding.{at_it, has_part-inserted, has_task-more, pending_of-with, from_append, open_sent}

-- ---- the beginning
pub building_begins : BuildingBegins
building_begins setup journal w e net history none empty epoch =
    let s : State = at setup journal in
    let sound : Sound setup s = (whole setup net journal history).sound in
    let nothing : (t : TaskId) (q : PartId) → open_from w e t 0 (s.partition q) ≡ [] =
    λ t q. open_none (Owned s.producer q) w e t (λ task g. same_task-is t task g) (nobody q t) 0 (s.partition q) (sound.owned q) in
    record {
      epoch = epoch;
      waiting = empty;
      parts = λ q. ap (λ (u : Option Transaction). has_part q (elim u as (λ _. Transaction) [ None ↦ no_tx | Some tx ↦ tx ]).parts) none;
      tasks = λ t. ap (λ (u : Option Transaction). has_task t (elim u as (λ _. Transaction) [ None ↦ no_tx | Some tx ↦ tx ]).tasks) none;
      pending = λ t. ap (λ (u : Option Transaction). pending_of t (elim u as (λ _. List Pending) [ None ↦ [] | Some tx ↦ tx.pending ])) none;
      records = λ t q. ap recs (nothing t q);
      since = λ t q. subst (AllFrom (length (s.partition q))) (sym (nothing t q)) tt;
      ends = λ q. omega arith;
    }
  where
    nobody : (q : PartId) (t : TaskId) → Owned (at setup journal).producer q w e t → ⊥
    nobody q t (inl marked) = marked (ap (marker_among q e) empty)
    nobody q t (inr of_tx) = undecided of_tx.tx of_tx.undecided
      where
        undecided : (tx : Transaction) → ((at setup journal).producer w).undecided ≡ Some tx → ⊥
        undecided tx is = absurd cc

-- ---- entries of others
pub building_stays : BuildingStays
building_stays setup first journal more w e c history quiet epoch built =
    let s : State = at setup journal in
    let new : State = at setup (journal ++ more) in
    let l : Leaves w s new = journal_leaves setup journal more w history quiet in
    let same : IsSame w s new l.slots = is_same w s new l built.waiting (epoch ∙ sym built.epoch) in
    record {
      epoch = epoch;
      waiting = ap (λ (p : Producer). p.waiting) same.0 ∙ built.waiting;
      parts = λ q. ap (λ (p : Producer). has_part q (tx_of p).parts) same.0 ∙ built.parts q;
      tasks = λ t. ap (λ (p : Producer). has_task t (tx_of p).tasks) same.0 ∙ built.tasks t;
      pending = λ t. ap (λ (p : Producer). pending_of t (pending_at p)) same.0 ∙ built.pending t;
      records = λ t q. ap recs (open_same w s new l same e t q) ∙ built.records t q;
      since = λ t q. subst (AllFrom (length (first.partition q))) (sym (open_same w s new l same e t q)) (built.since t q);
      ends = λ q. omega (arith, built.ends q, ends_rise setup journal more q);
    }

-- ---- the producer's own requests
pub add_builds : AddBuilds
add_builds first s w e p c built =
    let tx : Transaction = tx_of (s.producer w) in
    let x : Producer = record (s.producer w) { undecided = Some (record tx { parts = insert_part p tx.parts }) } in
    let here : with_number s.producer w x w ≡ x = at_it s.producer w x in
    record {
      epoch = ap (λ (y : Producer). y.epoch) here ∙ built.epoch;
      waiting = ap (λ (y : Producer). y.waiting) here ∙ built.waiting;
      parts = λ q. ap (λ (y : Producer). has_part q (tx_of y).parts) here ∙ has_part-inserted q p tx.parts ∙ ap (λ b. b || same_part q p) (built.parts q);
      tasks = λ t. ap (λ (y : Producer). has_task t (tx_of y).tasks) here ∙ built.tasks t;
      pending = λ t. ap (λ (y : Producer). pending_of t (pending_at y)) here ∙ ap (pending_of t) (sym (tx_pending (s.producer w))) ∙ built.pending t;
      records = built.records;
      since = built.since;
      ends = built.ends;
    }

pub offsets_build : OffsetsBuild
offsets_build first s w e g t offsets order late c built =
    let tx : Transaction = tx_of (s.producer w) in
    let new : Pending = record { task = t; offsets = offsets; order = order; late = late } in
    let x : Producer = record (s.producer w) { undecided = Some (record tx { pending = with_pending new tx.pending }) } in
    let here : with_number s.producer w x w ≡ x = at_it s.producer w x in
    record {
      epoch = ap (λ (y : Producer). y.epoch) here ∙ built.epoch;
      waiting = ap (λ (y : Producer). y.waiting) here ∙ built.waiting;
      parts = λ q. ap (λ (y : Producer). has_part q (tx_of y).parts) here ∙ built.parts q;
      tasks = λ u. ap (λ (y : Producer). has_task u (tx_of y).tasks) here ∙ built.tasks u;
      pending = λ u. ap (λ (y : Producer). pending_of u (pending_at y)) here ∙ pending_of-with u new tx.pending
          ∙ ap (λ (o : Option Pending). cond (same_task u t) (Some new) o) (ap (pending_of u) (sym (tx_pending (s.producer w))) ∙ built.pending u);
      records = built.records;
      since = built.since;
      ends = built.ends;
    }

pub append_builds : AppendBuilds
append_builds first s w e number t p rs c built =
    let tx : Transaction = tx_of (s.producer w) in
    let x : Producer = record (s.producer w) { undecided = Some (record tx { tasks = tx.tasks ++ t ∷ [] }) } in
    let here : with_number s.producer w x w ≡ x = at_it s.producer w x in
    record {
      epoch = ap (λ (y : Producer). y.epoch) here ∙ built.epoch;
      waiting = ap (λ (y : Producer). y.waiting) here ∙ built.waiting;
      parts = λ q. ap (λ (y : Producer). has_part q (tx_of y).parts) here ∙ built.parts q;
      tasks = λ u. ap (λ (y : Producer). has_task u (tx_of y).tasks) here ∙ has_task-more u t tx.tasks ∙ ap (λ b. b || same_task u t) (built.tasks u);
      pending = λ u. ap (λ (y : Producer). pending_of u (pending_at y)) here ∙ ap (pending_of u) (sym (tx_pending (s.producer w))) ∙ built.pending u;
      records = λ u q. records u q (same_part q p) (same_task u t) refl;
      since = λ u q. since u q (same_part q p);
      ends = λ q. ends q (same_part q p);
    }
  where
    slots : List Slot
    slots = sent_slots w e number t rs

    opened : (u : TaskId) (q : PartId) → open_from w e u 0 (s.partition q ++ sent_slots w e number t rs) ≡ open_from w e u 0 (s.partition q) ++ open_from w e u (0 + length (s.partition q)) (sent_slots w e number t rs)
    opened u q = open_append w e u 0 (s.partition q) slots (next_mark-sent w e w e number t rs)

    records : (u : TaskId) (q : PartId) (a b : Bool) → same_task u t ≡ b →
        recs (open_from w e u 0 (cond a (s.partition q ++ sent_slots w e number t rs) (s.partition q))) ≡ cond (b && a) (c.records u q ++ rs) (c.records u q)
    records u q true b is =
        ap recs (opened u q) ∙ recs-append (open_from w e u 0 (s.partition q)) (open_from w e u (0 + length (s.partition q)) slots)
        ∙ ap₂ (λ xs ys. xs ++ ys) (built.records u q) (open_sent w e u t (0 + length (s.partition q)) number rs ∙ ap (λ b. cond b rs []) is)
        ∙ mine b
      where
        mine : (b : Bool) → c.records u q ++ cond b rs [] ≡ cond (b && true) (c.records u q ++ rs) (c.records u q)
        mine true = refl
        mine false = append-nil (c.records u q)
    records u q false true is = built.records u q
    records u q false false is = built.records u q

    since : (u : TaskId) (q : PartId) (a : Bool) → AllFrom (length (first.partition q)) (open_from w e u 0 (cond a (s.partition q ++ sent_slots w e number t rs) (s.partition q)))
    since u q true = subst (AllFrom (length (first.partition q))) (sym (opened u q))
        (from_append (length (first.partition q)) _ _ (built.since u q)
        (from_less (length (first.partition q)) (0 + length (s.partition q)) _ (omega (arith, built.ends q)) (open_all w e u (0 + length (s.partition q)) slots)))
    since u q false = built.since u q

    ends : (q : PartId) (a : Bool) → length (first.partition q) ≤ length (cond a (s.partition q ++ sent_slots w e number t rs) (s.partition q))
    ends q true = omega (arith, built.ends q, length-append (s.partition q) slots)
    ends q false = built.ends q
