-- What an entry that isn't a producer's own leaves of it: nothing of its own in the partitions, and the producer as it is, with fewer
-- waiting markers, or fenced and with nothing undecided.
use Rattle.std.proofs.Common.{◌≡◌, ◌≢◌, ◌⊎◌, inl, inr, ℕ, suc, ◌+◌, ◌<◌, ◌&&◌, Bool, true, false, cond, List, [], ◌∷◌, ◌++◌, length, Option, Some, None, refl, sym, ap, ap₂, subst, ◌∙◌, arith, append_assoc, append-nil}
use Rattle.std.specs.Prelude.{◌==◌}
use Rattle.std.proofs.lemmas.Bool.{eqb-true}
use Rattle.ks_record.specs.Records.{Record as Rec}
use Rattle.ks_record.specs.declared.record.PartId.{PartId}
use Rattle.ks_record.specs.declared.record.TaskId.{TaskId}
use Rattle.ks_record.specs.declared.assignment.Refused.{Refused}
use Rattle.ks_record.specs.declared.assignment.Assignment.{Assignment}
use Rattle.ks_record.specs.declared.assignment.Marker.{Marker}
use Rattle.ks_record.specs.Parts.{same_part, same_task}
use Rattle.ks_history.specs.declared.partition.Slot.{Slot}
use Rattle.ks_history.specs.declared.partition.Slot.TheVariants.{Plain, Sent, Mark}
use Rattle.ks_history.specs.declared.journal.Request.{Request}
use Rattle.ks_history.specs.declared.journal.Request.TheVariants.{Produce, Init, Add, Append, SendOffsets, Decide, MarkNext, Join, Expire, Hold, Probe, Assign, Park, Unpark}
use Rattle.ks_history.specs.declared.journal.Entry.{Entry}
use Rattle.ks_history.specs.declared.transaction.Producer.{Producer}
use Rattle.ks_history.specs.Partition.{Logged, next_mark, open_from, is_open, sent_slots, count_sent, decision, is_none}
use Rattle.ks_history.specs.State.{State, Setup, start, with_number, grown, without_number}
use Rattle.ks_history.specs.Step.{refusal, state_by, after, renewed, can_expire}
use Rattle.ks_history.specs.History.{state_after, at, Each, IsStep, IsHistory}
use Rattle.ks_history.specs.Touched.{is_of, untouched}
use Rattle.ks_history.proofs.Histories.{state_after-append}
use Rattle.ks_law_exactly_once.proofs.Commits.{eqb_sym}
use Rattle.ks_law_exactly_once.proofs.Refusals.{closed_undecided}
use Rattle.ks_law_exactly_once.proofs.Slots.{keep_append, decision_none, next_mark-append, next_mark-sent}
use Rattle.ks_law_restore.proofs.Lasting.{Each-back}
use Rattle.ks_law_sharing.specs.Others.{CountStays, IdleStays, OpenStays}
use Rattle.ks_law_sharing.proofs.Touching.{IsOthers, is_others, untouched_parts}

-- ---- slots without a record of a producer
abbrev pub IsFreeOf : ℕ → List Slot → Type 0
IsFreeOf w [] = Unit {0}
IsFreeOf w (Plain rec ∷ slots) = IsFreeOf w slots
IsFreeOf w (Sent v e number task rec ∷ slots) = ((w == v) ≡ false) × IsFreeOf w slots
IsFreeOf w (Mark v e commit ∷ slots) = IsFreeOf w slots

free_append : (w : ℕ) (xs ys : List Slot) → IsFreeOf w xs → IsFreeOf w ys → IsFreeOf w (xs ++ ys)
free_append w [] ys f g = g
free_append w (Plain rec ∷ xs) ys f g = free_append w xs ys f g
free_append w (Sent v e number task rec ∷ xs) ys f g = (f.0, free_append w xs ys f.1 g)
free_append w (Mark v e commit ∷ xs) ys f g = free_append w xs ys f g

free_sent : (w v e number : ℕ) (t : TaskId) (rs : List Rec) → (w == v) ≡ false → IsFreeOf w (sent_slots v e number t rs)
free_sent w v e number t [] h = tt
free_sent w v e number t (r ∷ rs) h = (h, free_sent w v e (number + 1) t rs h)

free_open : (w e : ℕ) (t : TaskId) (at : ℕ) (slots : List Slot) → IsFreeOf w slots → open_from w e t at slots ≡ []
free_open w e t at [] f = refl
free_open w e t at (Plain rec ∷ slots) f = free_open w e t (at + 1) slots f
free_open w e t at (Sent v d number task rec ∷ slots) f =
    let rest : List Logged = open_from w e t (at + 1) slots in
    ap (λ b. cond (((b && (e == d)) && same_task t task) && is_none (next_mark v d slots)) (record { offset = at; sender = Some task; rec = rec } ∷ rest) rest) f.0
    ∙ free_open w e t (at + 1) slots f.1
free_open w e t at (Mark v d commit ∷ slots) f = free_open w e t (at + 1) slots f

free_count : (w e : ℕ) (xs ys : List Slot) → IsFreeOf w ys → count_sent w e (xs ++ ys) ≡ count_sent w e xs
free_count w e [] [] f = refl
free_count w e [] (Plain rec ∷ ys) f = free_count w e [] ys f
free_count w e [] (Sent v d number task rec ∷ ys) f = ap (λ b. cond (b && (e == d)) (suc (count_sent w e ys)) (count_sent w e ys)) f.0 ∙ free_count w e [] ys f.1
free_count w e [] (Mark v d commit ∷ ys) f = free_count w e [] ys f
free_count w e (Plain rec ∷ xs) ys f = free_count w e xs ys f
free_count w e (Sent v d number task rec ∷ xs) ys f = ap (λ n. cond ((w == v) && (e == d)) (suc n) n) (free_count w e xs ys f)
free_count w e (Mark v d commit ∷ xs) ys f = free_count w e xs ys f

-- ---- open records of more slots
pub open_append : (w d : ℕ) (t : TaskId) (at : ℕ) (slots more : List Slot) → next_mark w d more ≡ None →
    open_from w d t at (slots ++ more) ≡ open_from w d t at slots ++ open_from w d t (at + length slots) more
open_append w d t at [] more none = ap (λ n. open_from w d t n more) (omega arith)
open_append w d t at (Plain rec ∷ slots) more none = open_append w d t (at + 1) slots more none ∙ ap (λ n. open_from w d t (at + 1) slots ++ open_from w d t n more) (omega arith)
open_append w d t at (Sent v e number task rec ∷ slots) more none =
    let x : Logged = record { offset = at; sender = Some task; rec = rec } in
    let new = open_from w d t (at + 1) (slots ++ more) in
    ap (λ b. cond b (x ∷ new) new) (same (w == v) (d == e) refl refl)
    ∙ keep_append (is_open w d t v e task (next_mark v e slots)) x new (open_from w d t (at + 1) slots) _
    (open_append w d t (at + 1) slots more none ∙ ap (λ n. open_from w d t (at + 1) slots ++ open_from w d t n more) (omega arith))
  where
    same : (a b : Bool) → (w == v) ≡ a → (d == e) ≡ b →
        ((a && b) && same_task t task) && is_none (next_mark v e (slots ++ more)) ≡ ((a && b) && same_task t task) && is_none (next_mark v e slots)
    same true true f g = ap (λ o. same_task t task && is_none o)
        (next_mark-append v e slots more
        ∙ ap (decision (next_mark v e slots)) (ap₂ (λ k l. next_mark k l more) (sym (eqb-true w v f)) (sym (eqb-true d e g)) ∙ none)
        ∙ decision_none (next_mark v e slots))
    same true false f g = refl
    same false b f g = refl
open_append w d t at (Mark v e commit ∷ slots) more none = open_append w d t (at + 1) slots more none ∙ ap (λ n. open_from w d t (at + 1) slots ++ open_from w d t n more) (omega arith)

-- ---- the producer, and the partitions
-- nothing of it changed, and no new marker is its own
abbrev pub IsSame : ℕ → State → State → (PartId → List Slot) → Type 0
IsSame w s new slots = (new.producer w ≡ s.producer w) × ((q : PartId) (e : ℕ) → next_mark w e (slots q) ≡ None)

-- some of its waiting markers were written
abbrev pub IsMarked : ℕ → State → State → Type 0
IsMarked w s new = ((s.producer w).waiting ≢ []) × ((new.producer w).undecided ≡ (s.producer w).undecided) × ((new.producer w).epoch ≡ (s.producer w).epoch)

-- its epoch ended, and what was undecided was aborted
abbrev pub IsEnded : ℕ → State → State → Type 0
IsEnded w s new = ((new.producer w).undecided ≡ None) × ((s.producer w).epoch < (new.producer w).epoch)

abbrev pub Fate : ℕ → State → State → (PartId → List Slot) → Type 0
Fate w s new slots = IsSame w s new slots ⊎ (IsMarked w s new ⊎ IsEnded w s new)

pub record Leaves (w : ℕ) (s new : State) : Type 0 where
  pub slots : PartId → List Slot
  pub partition : (q : PartId) → new.partition q ≡ s.partition q ++ slots q
  pub free : (q : PartId) → IsFreeOf w (slots q)
  pub fate : Fate w s new slots

same_parts : (w : ℕ) (s new : State) → ((q : PartId) → new.partition q ≡ s.partition q) → Fate w s new (λ q. []) → Leaves w s new
same_parts w s new same fate = record { slots = λ q. []; partition = λ q. same q ∙ sym (append-nil (s.partition q)); free = λ q. tt; fate = fate }

grown_part : (w : ℕ) (s new : State) (p : PartId) (more : List Slot) → ((q : PartId) → new.partition q ≡ grown s.partition p more q) → IsFreeOf w more
    → Fate w s new (λ q. cond (same_part q p) more []) → Leaves w s new
grown_part w s new p more is free fate = record {
  slots = λ q. cond (same_part q p) more [];
  partition = λ q. is q ∙ there q (same_part q p);
  free = λ q. each (same_part q p);
  fate = fate;
}
  where
    there : (q : PartId) (b : Bool) → cond b (s.partition q ++ more) (s.partition q) ≡ s.partition q ++ cond b more []
    there q true = refl
    there q false = sym (append-nil (s.partition q))

    each : (b : Bool) → IsFreeOf w (cond b more [])
    each true = free
    each false = tt

unmarked : (w e : ℕ) (more : List Slot) (b : Bool) → next_mark w e more ≡ None → next_mark w e (cond b more []) ≡ None
unmarked w e more true h = h
unmarked w e more false h = refl

pub nothing_leaves : (w : ℕ) (s : State) → Leaves w s s
nothing_leaves w s = same_parts w s s (λ q. refl) (inl (refl, λ q e. refl))

fate_twice : (w : ℕ) (a b c : State) (f g : PartId → List Slot) → Fate w a b f → Fate w b c g → Fate w a c (λ q. f q ++ g q)
fate_twice w a b c f g (inl x) (inl y) = inl (y.0 ∙ x.0, λ q e. next_mark-append w e (f q) (g q) ∙ ap₂ decision (x.1 q e) (y.1 q e))
fate_twice w a b c f g (inl x) (inr (inl y)) = inr (inl (
  subst (λ (p : Producer). p.waiting ≢ []) x.0 y.0,
  y.1 ∙ ap (λ (p : Producer). p.undecided) x.0,
  y.2 ∙ ap (λ (p : Producer). p.epoch) x.0,
))
fate_twice w a b c f g (inl x) (inr (inr y)) = inr (inr (y.0, omega (arith, y.1, ap (λ (p : Producer). p.epoch) x.0)))
fate_twice w a b c f g (inr (inl x)) (inl y) = inr (inl (x.0, ap (λ (p : Producer). p.undecided) y.0 ∙ x.1, ap (λ (p : Producer). p.epoch) y.0 ∙ x.2))
fate_twice w a b c f g (inr (inl x)) (inr (inl y)) = inr (inl (x.0, y.1 ∙ x.1, y.2 ∙ x.2))
fate_twice w a b c f g (inr (inl x)) (inr (inr y)) = inr (inr (y.0, omega (arith, y.1, x.2)))
fate_twice w a b c f g (inr (inr x)) (inl y) = inr (inr (ap (λ (p : Producer). p.undecided) y.0 ∙ x.0, omega (arith, x.1, ap (λ (p : Producer). p.epoch) y.0)))
fate_twice w a b c f g (inr (inr x)) (inr (inl y)) = inr (inr (y.1 ∙ x.0, omega (arith, x.1, y.2)))
fate_twice w a b c f g (inr (inr x)) (inr (inr y)) = inr (inr (y.0, omega (arith, x.1, y.1)))

leaves_twice : (w : ℕ) (a b c : State) → Leaves w a b → Leaves w b c → Leaves w a c
leaves_twice w a b c f g = record {
  slots = λ q. f.slots q ++ g.slots q;
  partition = λ q. g.partition q ∙ ap (λ l. l ++ g.slots q) (f.partition q) ∙ append_assoc (a.partition q) (f.slots q) (g.slots q);
  free = λ q. free_append w (f.slots q) (g.slots q) (f.free q) (g.free q);
  fate = fate_twice w a b c f.slots g.slots f.fate g.fate;
}

-- ---- one entry
-- another producer's
another : (w : ℕ) (request : Request) (v : ℕ) → is_of w request ≡ (v == w) → (is_of w request ≡ true → ⊥) → (w == v) ≡ false
another w request v is quiet = by (v == w) refl
  where
    by : (b : Bool) → (v == w) ≡ b → (w == v) ≡ false
    by true h = absurd (quiet (is ∙ h))
    by false h = eqb_sym w v ∙ h

elsewhere : (s : State) (w v : ℕ) (p : Producer) → (w == v) ≡ false → with_number s.producer v p w ≡ s.producer w
elsewhere s w v p h = ap (λ b. cond b p (s.producer w)) h

here : (s : State) (w v : ℕ) (p : Producer) → (w == v) ≡ true → with_number s.producer v p w ≡ p
here s w v p h = ap (λ b. cond b p (s.producer w)) h

pub leaves : (s : State) (w : ℕ) (request : Request) (r : Option Refused) → IsOthers w request r → Leaves w s (state_by s request r)
leaves s w request (Some refused) quiet = nothing_leaves w s
leaves s w (Produce p rec) None quiet = grown_part w s _ p (Plain rec ∷ []) (λ q. refl) tt (inl (refl, λ q e. unmarked w e (Plain rec ∷ []) (same_part q p) refl))
leaves s w (Init v) None quiet = same_parts w s _ (λ q. refl) (inl (elsewhere s w v _ (another w (Init v) v refl (λ h. quiet h refl)), λ q e. refl))
leaves s w (Add v e p) None quiet = same_parts w s _ (λ q. refl) (inl (elsewhere s w v _ (another w (Add v e p) v refl (λ h. quiet h refl)), λ q e. refl))
leaves s w (Append v e number u p rs) None quiet =
    let ne : (w == v) ≡ false = another w (Append v e number u p rs) v refl (λ h. quiet h refl) in
    let more : List Slot = sent_slots v e number u rs in
    grown_part w s _ p more (λ q. refl) (free_sent w v e number u rs ne) (inl (elsewhere s w v _ ne, λ q d. unmarked w d more (same_part q p) (next_mark-sent w d v e number u rs)))
leaves s w (SendOffsets v e g u offsets order late) None quiet =
    same_parts w s _ (λ q. refl) (inl (elsewhere s w v _ (another w (SendOffsets v e g u offsets order late) v refl (λ h. quiet h refl)), λ q e. refl))
leaves s w (Decide v e commit) None quiet = same_parts w s _ (λ q. refl) (inl (elsewhere s w v _ (another w (Decide v e commit) v refl (λ h. quiet h refl)), λ q e. refl))
leaves s w (MarkNext v) None quiet = by (w == v) refl (s.producer v).waiting refl
  where
    by : (b : Bool) → (w == v) ≡ b → (ms : List Marker) → (s.producer v).waiting ≡ ms → Leaves w s (elim ms as (λ _. State) [
      | [] ↦ s
      | m ∷ rest ↦ record s {
        partition = grown s.partition m.part (Mark v m.epoch m.commit ∷ []);
        producer = with_number s.producer v (record (s.producer v) { waiting = rest });
      }
    ])
    by b h [] is = nothing_leaves w s
    by false h (m ∷ rest) is =
        let more : List Slot = Mark v m.epoch m.commit ∷ [] in
        grown_part w s _ m.part more (λ q. refl) tt
        (inl (elsewhere s w v _ h, λ q e. unmarked w e more (same_part q m.part) (ap (λ b. cond (b && (e == m.epoch)) (Some m.commit) None) h)))
    by true h (m ∷ rest) is =
        let now : with_number s.producer v (record (s.producer v) { waiting = rest }) w ≡ record (s.producer v) { waiting = rest } = here s w v _ h in
        let before : s.producer v ≡ s.producer w = ap s.producer (sym (eqb-true w v h)) in
        grown_part w s _ m.part (Mark v m.epoch m.commit ∷ []) (λ q. refl) tt (inr (inl (
          λ none. some_waits (ap (λ (p : Producer). p.waiting) (sym before) ∙ is) none,
          ap (λ (p : Producer). p.undecided) now ∙ ap (λ (p : Producer). p.undecided) before,
          ap (λ (p : Producer). p.epoch) now ∙ ap (λ (p : Producer). p.epoch) before,
        )))
      where
        some_waits : {ms : List Marker} → ms ≡ m ∷ rest → ms ≡ [] → ⊥
        some_waits a b = absurd cc
leaves s w (Join v) None quiet = same_parts w s _ (λ q. refl) (inl (refl, λ q e. refl))
leaves s w (Expire v) None quiet = by (can_expire s v) (w == v) refl
  where
    by : (a b : Bool) → (w == v) ≡ b → Leaves w s (cond a (record s {
      producer = with_number s.producer v (renewed (s.producer v));
      members = without_number v s.members;
      held = with_number s.held v [];
      generation = s.generation + 1;
      assignment = None;
    }) s)
    by false b h = nothing_leaves w s
    by true false h = same_parts w s _ (λ q. refl) (inl (elsewhere s w v _ h, λ q e. refl))
    by true true h =
        let now : with_number s.producer v (renewed (s.producer v)) w ≡ renewed (s.producer v) = here s w v _ h in
        let before : (s.producer v).epoch ≡ (s.producer w).epoch = ap (λ k. (s.producer k).epoch) (sym (eqb-true w v h)) in
        let raised : (with_number s.producer v (renewed (s.producer v)) w).epoch ≡ (s.producer v).epoch + 1 = ap (λ (p : Producer). p.epoch) now in
        same_parts w s _ (λ q. refl) (inr (inr (ap (λ (p : Producer). p.undecided) now ∙ closed_undecided (s.producer v) false, omega (arith, raised, before))))
leaves s w (Hold v held) None quiet = same_parts w s _ (λ q. refl) (inl (refl, λ q e. refl))
leaves s w (Probe v g) None quiet = same_parts w s _ (λ q. refl) (inl (refl, λ q e. refl))
leaves s w (Assign v g a) None quiet = by s.assignment
  where
    by : (o : Option Assignment) → Leaves w s (elim o as (λ _. State) [ None ↦ record s { assignment = Some a } | Some b ↦ s ])
    by None = same_parts w s _ (λ q. refl) (inl (refl, λ q e. refl))
    by (Some b) = nothing_leaves w s
leaves s w (Park instance t) None quiet = same_parts w s _ (λ q. refl) (inl (refl, λ q e. refl))
leaves s w (Unpark instance t) None quiet = same_parts w s _ (λ q. refl) (inl (refl, λ q e. refl))

-- ---- many entries
pub leaves_after : (setup : Setup) (w : ℕ) (entries : List Entry) (s : State) → Each IsStep setup s entries → untouched w entries ≡ true → Leaves w s (state_after setup s entries)
leaves_after setup w [] s steps quiet = nothing_leaves w s
leaves_after setup w (entry ∷ entries) s steps quiet =
    let parts = untouched_parts w entry entries quiet in
    let mid : State = after setup s entry.request in
    leaves_twice w s mid (state_after setup mid entries)
    (leaves s w entry.request (refusal setup s entry.request) (is_others setup s w entry steps.0 parts.0))
    (leaves_after setup w entries mid steps.1 parts.1)

pub journal_leaves : (setup : Setup) (journal more : List Entry) (w : ℕ) → IsHistory setup (journal ++ more) → untouched w more ≡ true → Leaves w (at setup journal) (at setup (journal ++ more))
journal_leaves setup journal more w history quiet =
    subst (Leaves w (at setup journal)) (sym (state_after-append setup start journal more))
    (leaves_after setup w more (at setup journal) (Each-back IsStep setup start journal more history.legal) quiet)

-- ---- what that tells
-- no marker waits and the epoch stands: nothing of it changed
pub is_same : (w : ℕ) (s new : State) (l : Leaves w s new) → (s.producer w).waiting ≡ [] → (new.producer w).epoch ≡ (s.producer w).epoch → IsSame w s new l.slots
is_same w s new l empty epoch = by l.fate
  where
    by : Fate w s new l.slots → IsSame w s new l.slots
    by (inl same) = same
    by (inr (inl marked)) = absurd (marked.0 empty)
    by (inr (inr ended)) = absurd (omega (arith, ended.1, epoch))

-- what is undecided is what was, or nothing
pub undecided_or : (w : ℕ) (s new : State) → Leaves w s new →
    ((new.producer w).undecided ≡ None) ⊎ (((new.producer w).undecided ≡ (s.producer w).undecided) × ((new.producer w).epoch ≡ (s.producer w).epoch))
undecided_or w s new l = by l.fate
  where
    by : Fate w s new l.slots → ((new.producer w).undecided ≡ None) ⊎ (((new.producer w).undecided ≡ (s.producer w).undecided) × ((new.producer w).epoch ≡ (s.producer w).epoch))
    by (inl same) = inr (ap (λ (p : Producer). p.undecided) same.0, ap (λ (p : Producer). p.epoch) same.0)
    by (inr (inl marked)) = inr (marked.1, marked.2)
    by (inr (inr ended)) = inl ended.0

pub open_same : (w : ℕ) (s new : State) (l : Leaves w s new) → IsSame w s new l.slots → (e : ℕ) (t : TaskId) (q : PartId) → open_from w e t 0 (new.partition q) ≡ open_from w e t 0 (s.partition q)
open_same w s new l same e t q =
    ap (open_from w e t 0) (l.partition q)
    ∙ open_append w e t 0 (s.partition q) (l.slots q) (same.1 q e)
    ∙ ap (λ xs. open_from w e t 0 (s.partition q) ++ xs) (free_open w e t (0 + length (s.partition q)) (l.slots q) (l.free q))
    ∙ append-nil (open_from w e t 0 (s.partition q))

pub count_stays : CountStays
count_stays setup journal more w e q history quiet =
    let l = journal_leaves setup journal more w history quiet in
    ap (count_sent w e) (l.partition q) ∙ free_count w e ((at setup journal).partition q) (l.slots q) (l.free q)

pub idle_stays : IdleStays
idle_stays setup journal more w history quiet idle = by (undecided_or w (at setup journal) (at setup (journal ++ more)) (journal_leaves setup journal more w history quiet))
  where
    by : ((((at setup (journal ++ more)).producer w).undecided ≡ None) ⊎ ((((at setup (journal ++ more)).producer w).undecided ≡ ((at setup journal).producer w).undecided)
        × (((at setup (journal ++ more)).producer w).epoch ≡ ((at setup journal).producer w).epoch))) → ((at setup (journal ++ more)).producer w).undecided ≡ None
    by (inl none) = none
    by (inr same) = same.0 ∙ idle

pub open_stays : OpenStays
open_stays setup journal more w e t q history quiet epoch empty =
    let l = journal_leaves setup journal more w history quiet in
    open_same w (at setup journal) (at setup (journal ++ more)) l (is_same w (at setup journal) (at setup (journal ++ more)) l empty epoch) e t q
