-- What no marker completes of an undecided transaction is what its appends gave.
use Rattle.std.proofs.Common.{◌≡◌, ℕ, ◌+◌, Bool, true, false, cond, ◌&&◌, inl, inr, List, [], ◌∷◌, ◌++◌, length, Option, Some, None, refl, sym, ap, ap₂, subst, ◌∙◌, arith, append-nil}
use Rattle.std.specs.Prelude.{◌==◌}
use Rattle.std.proofs.lemmas.Bool.{eqb-true, eq-eqb}
use Rattle.ks_record.specs.Records.{Record as Rec}
use Rattle.ks_record.specs.declared.record.PartId.{PartId}
use Rattle.ks_record.specs.declared.record.TaskId.{TaskId}
use Rattle.ks_record.specs.declared.assignment.Assignment.{Assignment}
use Rattle.ks_record.specs.declared.assignment.Marker.{Marker}
use Rattle.ks_record.specs.declared.assignment.Refused.{Refused}
use Rattle.ks_record.specs.Parts.{same_part, same_task}
use Rattle.ks_history.specs.declared.partition.Slot.{Slot}
use Rattle.ks_history.specs.declared.partition.Slot.TheVariants.{Plain, Sent, Mark}
use Rattle.ks_history.specs.declared.transaction.Transaction.{Transaction}
use Rattle.ks_history.specs.declared.transaction.Producer.{Producer}
use Rattle.ks_history.specs.declared.journal.Entry.{Entry}
use Rattle.ks_history.specs.declared.journal.Request.{Request}
use Rattle.ks_history.specs.declared.journal.Request.TheVariants.{Produce, Init, Add, Append, SendOffsets, Decide, MarkNext, Join, Expire, Hold, Probe, Assign, Park, Unpark}
use Rattle.ks_history.specs.Partition.{Logged, next_mark, recs, open_from, is_open, is_none, decision, sent_slots}
use Rattle.ks_history.specs.State.{State, Setup, start, with_number, grown, without_number}
use Rattle.ks_history.specs.Step.{refusal, state_by, after, fenced, without_part, markers_waiting, old_generation, not_assigned, unstable_beside, or_else, closed, renewed, can_expire}
use Rattle.ks_history.specs.Faithful.{marker_among}
use Rattle.ks_history.specs.History.{at, state_after, Each}
use Rattle.ks_history.proofs.Names.{same_task-is}
use Rattle.ks_law_exactly_once.specs.Law.{OfHistories}
use Rattle.ks_law_exactly_once.specs.Appended.{appended_by, appended_from, OpenIsAppended}
use Rattle.ks_law_exactly_once.proofs.Sound.{Sound, Owned}
use Rattle.ks_law_exactly_once.proofs.Slots.{keep_append, next_mark-append, next_mark-sent, recs-append, open_none, decision_none}
use Rattle.ks_law_exactly_once.proofs.Quiet.{none_waiting}
use Rattle.ks_law_exactly_once.proofs.Refusals.{both_none, not_fenced, with_part, closed_undecided}
use Rattle.ks_law_exactly_once.proofs.Replays.{whole}

-- ---- more slots
pub open-append : (w d : ℕ) (t : TaskId) (at : ℕ) (slots more : List Slot) → next_mark w d more ≡ None →
    open_from w d t at (slots ++ more) ≡ open_from w d t at slots ++ open_from w d t (at + length slots) more
open-append w d t at [] more none = ap (λ n. open_from w d t n more) (omega arith)
open-append w d t at (Plain rec ∷ slots) more none = open-append w d t (at + 1) slots more none ∙ ap (λ n. open_from w d t (at + 1) slots ++ open_from w d t n more) (omega arith)
open-append w d t at (Sent v e number task rec ∷ slots) more none =
    let x : Logged = record { offset = at; sender = Some task; rec = rec } in
    let new = open_from w d t (at + 1) (slots ++ more) in
    ap (λ b. cond b (x ∷ new) new) (same (w == v) (d == e) refl refl)
    ∙ keep_append (is_open w d t v e task (next_mark v e slots)) x new (open_from w d t (at + 1) slots) _
    (open-append w d t (at + 1) slots more none ∙ ap (λ n. open_from w d t (at + 1) slots ++ open_from w d t n more) (omega arith))
  where
    same : (a b : Bool) → (w == v) ≡ a → (d == e) ≡ b →
        ((a && b) && same_task t task) && is_none (next_mark v e (slots ++ more)) ≡ ((a && b) && same_task t task) && is_none (next_mark v e slots)
    same true true f g = ap (λ o. same_task t task && is_none o)
        (next_mark-append v e slots more
        ∙ ap (decision (next_mark v e slots)) (ap₂ (λ k l. next_mark k l more) (sym (eqb-true w v f)) (sym (eqb-true d e g)) ∙ none)
        ∙ decision_none (next_mark v e slots))
    same true false f g = refl
    same false b f g = refl
open-append w d t at (Mark v e commit ∷ slots) more none = open-append w d t (at + 1) slots more none ∙ ap (λ n. open_from w d t (at + 1) slots ++ open_from w d t n more) (omega arith)

open-sent : (w d : ℕ) (t : TaskId) (at v e number : ℕ) (u : TaskId) (rs : List Rec) →
    recs (open_from w d t at (sent_slots v e number u rs)) ≡ cond (((w == v) && (d == e)) && same_task t u) rs []
open-sent w d t at v e number u [] = nothing (((w == v) && (d == e)) && same_task t u)
  where
    nothing : (b : Bool) → [] ≡ cond {A = List Rec} b [] []
    nothing true = refl
    nothing false = refl
open-sent w d t at v e number u (r ∷ rs) =
    ap (λ o. recs (cond ((((w == v) && (d == e)) && same_task t u) && is_none o) (record { offset = at; sender = Some u; rec = r } ∷ open_from w d t (at + 1) (sent_slots v e (number + 1) u rs)) (open_from w d t (at + 1) (sent_slots v e (number + 1) u rs))))
    (next_mark-sent v e v e (number + 1) u rs)
    ∙ by (((w == v) && (d == e)) && same_task t u) (open-sent w d t (at + 1) v e (number + 1) u rs)
  where
    by : (b : Bool) → recs (open_from w d t (at + 1) (sent_slots v e (number + 1) u rs)) ≡ cond b rs [] →
        recs (cond (b && true) (record { offset = at; sender = Some u; rec = r } ∷ open_from w d t (at + 1) (sent_slots v e (number + 1) u rs)) (open_from w d t (at + 1) (sent_slots v e (number + 1) u rs))) ≡ cond b (r ∷ rs) []
    by true h = ap (λ l. r ∷ l) h
    by false h = h

-- ---- the invariant
abbrev Lists : Type 0
Lists = ℕ → TaskId → PartId → List Rec

record Told (partition : PartId → List Slot) (producer : ℕ → Producer) (acc : Lists) : Type 0 where
  mine : (w : ℕ) (tx : Transaction) → (producer w).undecided ≡ Some tx → (t : TaskId) (q : PartId) → recs (open_from w (producer w).epoch t 0 (partition q)) ≡ acc w t q
  none : (w : ℕ) → (producer w).undecided ≡ None → (t : TaskId) (q : PartId) → acc w t q ≡ []

-- the producer has ended its transaction
ended : (partition : PartId → List Slot) (producer : ℕ → Producer) (acc : Lists) (v : ℕ) (p : Producer) → p.undecided ≡ None → Told partition producer acc →
    Told partition (with_number producer v p) (λ w t q. cond (w == v) [] (acc w t q))
ended partition producer acc v p is told = record { mine = λ w tx h t q. mine w tx t q (w == v) h; none = λ w h t q. none w t q (w == v) h }
  where
    mine : (w : ℕ) (tx : Transaction) (t : TaskId) (q : PartId) (b : Bool) → (cond b p (producer w)).undecided ≡ Some tx → recs (open_from w (cond b p (producer w)).epoch t 0 (partition q)) ≡ cond b [] (acc w t q)
    mine w tx t q true h = absurd cc
    mine w tx t q false h = told.mine w tx h t q

    none : (w : ℕ) (t : TaskId) (q : PartId) (b : Bool) → (cond b p (producer w)).undecided ≡ None → cond b [] (acc w t q) ≡ []
    none w t q true h = refl
    none w t q false h = told.none w h t q

-- a transaction that begins or goes on, and appends nothing
grows_on : (partition : PartId → List Slot) (producer : ℕ → Producer) (acc : Lists) (v : ℕ) (p : Producer) (tx' : Transaction) → p.undecided ≡ Some tx' → p.epoch ≡ (producer v).epoch →
    ((q : PartId) (t : TaskId) → (producer v).undecided ≡ None → open_from v (producer v).epoch t 0 (partition q) ≡ []) → Told partition producer acc → Told partition (with_number producer v p) acc
grows_on partition producer acc v p tx' is epoch fresh told = record { mine = λ w tx h t q. mine w tx t q (w == v) refl h; none = λ w h t q. none w t q (w == v) h }
  where
    now : (t : TaskId) (q : PartId) (u : Option Transaction) → (producer v).undecided ≡ u → recs (open_from v (producer v).epoch t 0 (partition q)) ≡ acc v t q
    now t q None h = ap recs (fresh q t h) ∙ sym (told.none v h t q)
    now t q (Some tx) h = told.mine v tx h t q

    mine : (w : ℕ) (tx : Transaction) (t : TaskId) (q : PartId) (b : Bool) → (w == v) ≡ b → (cond b p (producer w)).undecided ≡ Some tx → recs (open_from w (cond b p (producer w)).epoch t 0 (partition q)) ≡ acc w t q
    mine w tx t q true e h =
        subst (λ k. recs (open_from k p.epoch t 0 (partition q)) ≡ acc k t q) (sym (eqb-true w v e))
        (ap (λ d. recs (open_from v d t 0 (partition q))) epoch ∙ now t q (producer v).undecided refl)
    mine w tx t q false e h = told.mine w tx h t q

    none : (w : ℕ) (t : TaskId) (q : PartId) (b : Bool) → (cond b p (producer w)).undecided ≡ None → acc w t q ≡ []
    none w t q true h = absurd cc
    none w t q false h = told.none w h t q

-- slots that are no records of an undecided transaction
no_more : (partition : PartId → List Slot) (producer : ℕ → Producer) (acc : Lists) (p : PartId) (more : List Slot) →
    ((w : ℕ) (tx : Transaction) → (producer w).undecided ≡ Some tx → next_mark w (producer w).epoch more ≡ None) → ((w d at : ℕ) (t : TaskId) → open_from w d t at more ≡ []) →
    Told partition producer acc → Told (grown partition p more) producer acc
no_more partition producer acc p more unmarked nothing told = record { mine = λ w tx h t q. mine w tx h t q (same_part q p); none = told.none }
  where
    mine : (w : ℕ) (tx : Transaction) → (producer w).undecided ≡ Some tx → (t : TaskId) (q : PartId) (b : Bool) → recs (open_from w (producer w).epoch t 0 (cond b (partition q ++ more) (partition q))) ≡ acc w t q
    mine w tx h t q true =
        ap recs (open-append w (producer w).epoch t 0 (partition q) more (unmarked w tx h) ∙ ap (λ l. open_from w (producer w).epoch t 0 (partition q) ++ l) (nothing w (producer w).epoch (0 + length (partition q)) t) ∙ append-nil _)
        ∙ told.mine w tx h t q
    mine w tx h t q false = told.mine w tx h t q

module _ (setup : Setup) (s : State) (sound : Sound setup s) where
  -- a producer without a transaction and without waiting markers has no open records
  none_open : (v : ℕ) → (s.producer v).waiting ≡ [] → (q : PartId) (t : TaskId) → (s.producer v).undecided ≡ None → open_from v (s.producer v).epoch t 0 (s.partition q) ≡ []
  none_open v empty q t is = open_none (Owned s.producer q) v (s.producer v).epoch t (λ task g. same_task-is t task g) no_one 0 (s.partition q) (sound.owned q)
    where
      no_one : Owned s.producer q v (s.producer v).epoch t → ⊥
      no_one (inl ne) = ne (ap (marker_among q (s.producer v).epoch) empty)
      no_one (inr o) = let h : (s.producer v).undecided ≡ Some o.tx = o.undecided in absurd cc

  module _ (acc : Lists) (told : Told s.partition s.producer acc) where
    abbrev Next : Request → Option Refused → Type 0
    Next request r = Told (state_by s request r).partition (state_by s request r).producer (λ w t q. appended_by s request r w t q (acc w t q))

    marked : (v : ℕ) (m : Marker) (ms : List Marker) → (s.producer v).waiting ≡ m ∷ ms →
        Told (grown s.partition m.part (Mark v m.epoch m.commit ∷ [])) (with_number s.producer v (record (s.producer v) { waiting = ms })) acc
    marked v m ms is = record { mine = λ w tx h t q. mine w tx t q (w == v) refl h; none = λ w h t q. none w t q (w == v) refl h }
      where
        there : (w : ℕ) (tx : Transaction) (t : TaskId) (q : PartId) → (w == v) ≡ false → (s.producer w).undecided ≡ Some tx → (b : Bool) →
            recs (open_from w (s.producer w).epoch t 0 (cond b (s.partition q ++ Mark v m.epoch m.commit ∷ []) (s.partition q))) ≡ acc w t q
        there w tx t q e h true =
            ap recs (open-append w (s.producer w).epoch t 0 (s.partition q) (Mark v m.epoch m.commit ∷ []) (ap (λ b. cond (b && ((s.producer w).epoch == m.epoch)) (Some m.commit) None) e) ∙ append-nil _) ∙ told.mine w tx h t q
        there w tx t q e h false = told.mine w tx h t q

        mine : (w : ℕ) (tx : Transaction) (t : TaskId) (q : PartId) (b : Bool) → (w == v) ≡ b → (cond b (record (s.producer v) { waiting = ms }) (s.producer w)).undecided ≡ Some tx →
            recs (open_from w (cond b (record (s.producer v) { waiting = ms }) (s.producer w)).epoch t 0 (grown s.partition m.part (Mark v m.epoch m.commit ∷ []) q)) ≡ acc w t q
        mine w tx t q true e h = let f : m ∷ ms ≡ [] = sym is ∙ sound.markers v tx h in absurd cc
        mine w tx t q false e h = there w tx t q e h (same_part q m.part)

        none : (w : ℕ) (t : TaskId) (q : PartId) (b : Bool) → (w == v) ≡ b → (cond b (record (s.producer v) { waiting = ms }) (s.producer w)).undecided ≡ None → acc w t q ≡ []
        none w t q true e h = subst (λ k. acc k t q ≡ []) (sym (eqb-true w v e)) (told.none v h t q)
        none w t q false e h = told.none w h t q

    -- an append, of the producer's own epoch
    module _ (v number : ℕ) (u : TaskId) (p : PartId) (rs : List Rec) (tx : Transaction) (is : (s.producer v).undecided ≡ Some tx) (epoch : ℕ) (now_epoch : epoch ≡ (s.producer v).epoch) (tx' : Transaction) where
      -- of the producer itself
      own : (t : TaskId) (q : PartId) (c : Bool) →
          recs (open_from v (s.producer v).epoch t 0 (cond c (s.partition q ++ sent_slots v epoch number u rs) (s.partition q))) ≡ cond (same_task t u && c) (acc v t q ++ rs) (acc v t q)
      own t q true =
          ap recs (open-append v (s.producer v).epoch t 0 (s.partition q) (sent_slots v epoch number u rs) (next_mark-sent v (s.producer v).epoch v epoch number u rs))
          ∙ recs-append (open_from v (s.producer v).epoch t 0 (s.partition q)) _
          ∙ ap₂ (λ a b. a ++ b) (told.mine v tx is t q)
          (open-sent v (s.producer v).epoch t (0 + length (s.partition q)) v epoch number u rs
          ∙ ap₂ (λ a b. cond ((a && b) && same_task t u) rs []) (eq-eqb v v refl) (eq-eqb (s.producer v).epoch epoch (sym now_epoch)))
          ∙ joined (same_task t u)
        where
          joined : (b : Bool) → acc v t q ++ cond b rs [] ≡ cond (b && true) (acc v t q ++ rs) (acc v t q)
          joined true = refl
          joined false = append-nil (acc v t q)
      own t q false = told.mine v tx is t q ∙ same (same_task t u)
        where
          same : (b : Bool) → acc v t q ≡ cond (b && false) (acc v t q ++ rs) (acc v t q)
          same true = refl
          same false = refl

      others : (w : ℕ) (x : Transaction) (t : TaskId) (q : PartId) → (w == v) ≡ false → (s.producer w).undecided ≡ Some x → (c : Bool) →
          recs (open_from w (s.producer w).epoch t 0 (cond c (s.partition q ++ sent_slots v epoch number u rs) (s.partition q))) ≡ acc w t q
      others w x t q e h true =
          ap recs (open-append w (s.producer w).epoch t 0 (s.partition q) (sent_slots v epoch number u rs) (next_mark-sent w (s.producer w).epoch v epoch number u rs))
          ∙ recs-append (open_from w (s.producer w).epoch t 0 (s.partition q)) _
          ∙ ap₂ (λ a b. a ++ b) (told.mine w x h t q)
          (open-sent w (s.producer w).epoch t (0 + length (s.partition q)) v epoch number u rs
          ∙ ap (λ a. cond ((a && ((s.producer w).epoch == epoch)) && same_task t u) rs []) e)
          ∙ append-nil (acc w t q)
      others w x t q e h false = told.mine w x h t q

      appends : Told (grown s.partition p (sent_slots v epoch number u rs)) (with_number s.producer v (record (s.producer v) { undecided = Some tx' }))
          (λ w t q. cond (((w == v) && same_task t u) && same_part q p) (acc w t q ++ rs) (acc w t q))
      appends = record { mine = λ w x h t q. mine w x t q (w == v) refl h; none = λ w h t q. none w t q (w == v) refl h }
        where
          mine : (w : ℕ) (x : Transaction) (t : TaskId) (q : PartId) (b : Bool) → (w == v) ≡ b → (cond b (record (s.producer v) { undecided = Some tx' }) (s.producer w)).undecided ≡ Some x →
              recs (open_from w (cond b (record (s.producer v) { undecided = Some tx' }) (s.producer w)).epoch t 0 (grown s.partition p (sent_slots v epoch number u rs) q))
              ≡ cond ((b && same_task t u) && same_part q p) (acc w t q ++ rs) (acc w t q)
          mine w x t q true e h =
              subst (λ k. recs (open_from k (s.producer v).epoch t 0 (grown s.partition p (sent_slots v epoch number u rs) q)) ≡ cond (same_task t u && same_part q p) (acc k t q ++ rs) (acc k t q))
              (sym (eqb-true w v e)) (own t q (same_part q p))
          mine w x t q false e h = others w x t q e h (same_part q p)

          none : (w : ℕ) (t : TaskId) (q : PartId) (b : Bool) → (w == v) ≡ b → (cond b (record (s.producer v) { undecided = Some tx' }) (s.producer w)).undecided ≡ None →
              cond ((b && same_task t u) && same_part q p) (acc w t q ++ rs) (acc w t q) ≡ []
          none w t q true e h = absurd cc
          none w t q false e h = told.none w h t q

    step_told : (request : Request) (r : Option Refused) → refusal setup s request ≡ r → Next request r
    step_told request (Some refused) is = same_refused request refused
      where
        same_refused : (request : Request) (refused : Refused) → Told s.partition s.producer (λ w t q. appended_by s request (Some refused) w t q (acc w t q))
        same_refused request refused = told
    step_told (Produce p rec) None is = no_more s.partition s.producer acc p (Plain rec ∷ []) (λ w tx h. refl) (λ w d at t. refl) told
    step_told (Init v) None is = ended s.partition s.producer acc v (renewed (s.producer v)) (closed_undecided (s.producer v) false) told
    step_told (Add v e p) None is =
        grows_on s.partition s.producer acc v _ _ refl refl (λ q t. none_open v (none_waiting (s.producer v) (sound.markers v) (both_none _ _ is).1) q t) told
    step_told (Append v e number u p rs) None is =
        let a = both_none (fenced (s.producer v) e) _ is in
        let b = both_none (without_part (s.producer v) p) _ a.1 in
        let c = with_part (s.producer v) p b.0 in
        appends v number u p rs c.0 c.1 e (not_fenced (s.producer v) e a.0) _
    step_told (SendOffsets v e g t offsets order late) None is =
        let last : Option Refused = unstable_beside s v t in
        let a = both_none (fenced (s.producer v) e) (or_else (old_generation s g) (or_else (not_assigned s v t) (or_else (markers_waiting (s.producer v)) last))) is in
        let b = both_none (old_generation s g) (or_else (not_assigned s v t) (or_else (markers_waiting (s.producer v)) last)) a.1 in
        let c = both_none (not_assigned s v t) (or_else (markers_waiting (s.producer v)) last) b.1 in
        grows_on s.partition s.producer acc v _ _ refl refl (λ q u. none_open v (none_waiting (s.producer v) (sound.markers v) (both_none (markers_waiting (s.producer v)) last c.1).0) q u) told
    step_told (Decide v e commit) None is = ended s.partition s.producer acc v (closed (s.producer v) commit) (closed_undecided (s.producer v) commit) told
    step_told (MarkNext v) None is = by (s.producer v).waiting refl
      where
        by : (ms : List Marker) → (s.producer v).waiting ≡ ms → Told
            (elim ms as (λ _. State) [ [] ↦ s | m ∷ rest ↦ record s { partition = grown s.partition m.part (Mark v m.epoch m.commit ∷ []); producer = with_number s.producer v (record (s.producer v) { waiting = rest }) } ]).partition
            (elim ms as (λ _. State) [ [] ↦ s | m ∷ rest ↦ record s { partition = grown s.partition m.part (Mark v m.epoch m.commit ∷ []); producer = with_number s.producer v (record (s.producer v) { waiting = rest }) } ]).producer
            acc
        by [] h = told
        by (m ∷ rest) h = marked v m rest h
    step_told (Join v) None is = told
    step_told (Expire v) None is = by (can_expire s v)
      where
        keeps : (b : Bool) (xs : List Rec) → cond (b && false) [] xs ≡ xs
        keeps true xs = refl
        keeps false xs = refl

        ends : (b : Bool) (xs : List Rec) → cond b [] xs ≡ cond (b && true) [] xs
        ends true xs = refl
        ends false xs = refl

        by : (b : Bool) → Told
            (cond b (record s { producer = with_number s.producer v (renewed (s.producer v)); members = without_number v s.members; held = with_number s.held v []; generation = s.generation + 1; assignment = None }) s).partition
            (cond b (record s { producer = with_number s.producer v (renewed (s.producer v)); members = without_number v s.members; held = with_number s.held v []; generation = s.generation + 1; assignment = None }) s).producer
            (λ w t q. cond ((w == v) && b) [] (acc w t q))
        by true = subst (Told s.partition (with_number s.producer v (renewed (s.producer v)))) (λ i w t q. ends (w == v) (acc w t q) i)
            (ended s.partition s.producer acc v (renewed (s.producer v)) (closed_undecided (s.producer v) false) told)
        by false = subst (Told s.partition s.producer) (λ i w t q. sym (keeps (w == v) (acc w t q)) i) told
    step_told (Hold v held) None is = told
    step_told (Probe v g) None is = told
    step_told (Assign v g a) None is = by s.assignment
      where
        by : (o : Option Assignment) → Told (elim o as (λ _. State) [ None ↦ record s { assignment = Some a } | Some b ↦ s ]).partition (elim o as (λ _. State) [ None ↦ record s { assignment = Some a } | Some b ↦ s ]).producer acc
        by None = told
        by (Some b) = told
    step_told (Park instance t) None is = told
    step_told (Unpark instance t) None is = told

told_from : (setup : Setup) (s : State) (entries : List Entry) (acc : Lists) → Each (λ setup s entry. Sound setup s) setup s entries → Told s.partition s.producer acc →
    Told (state_after setup s entries).partition (state_after setup s entries).producer (λ w t q. appended_from setup s entries w t q (acc w t q))
told_from setup s [] acc sounds told = told
told_from setup s (entry ∷ entries) acc sounds told =
    let r : Option Refused = refusal setup s entry.request in
    told_from setup (after setup s entry.request) entries (λ w t q. appended_by s entry.request r w t q (acc w t q)) sounds.1 (step_told setup s sounds.0 acc told entry.request r refl)

pub open_is_appended : OfHistories OpenIsAppended
open_is_appended setup journal net history w tx is t q =
    (told_from setup start journal (λ w t q. []) (whole setup net journal history).sounds (record { mine = λ w tx h t q. absurd cc; none = λ w h t q. refl })).mine w tx is t q
