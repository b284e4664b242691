-- The lists of a transaction with one more member, and its records behind a partition's others.
use Rattle.std.proofs.Common.{◌≡◌, ℕ, ◌+◌, Bool, true, false, cond, ◌&&◌, ◌||◌, List, [], ◌∷◌, ◌++◌, Option, Some, refl, sym, ap, ap₂, subst, ◌∙◌}
use Rattle.std.proofs.Math.Bool.{or_assoc}
use Rattle.std.proofs.lemmas.Bool.{eq-eqb, true≢false}
use Rattle.ks_record.specs.Records.{Record as Rec}
use Rattle.ks_record.specs.declared.record.PartId.{PartId}
use Rattle.ks_record.specs.declared.record.TaskId.{TaskId}
use Rattle.ks_record.specs.Parts.{same_part, same_task, part_lt, task_lt}
use Rattle.ks_history.specs.declared.transaction.Pending.{Pending}
use Rattle.ks_history.specs.Partition.{Logged, recs, open_from, sent_slots, next_mark, is_none}
use Rattle.ks_history.specs.State.{with_number, insert_part, has_part, has_task, pending_of, with_pending}
use Rattle.ks_history.proofs.Names.{same_part-is, same_task-is, same_task-refl}
use Rattle.ks_law_exactly_once.proofs.Slots.{next_mark-sent}
use Rattle.ks_law_sharing.specs.Others.{AllFrom}

pub at_it : {A : Type 0} (f : ℕ → A) (w : ℕ) (x : A) → with_number f w x w ≡ x
at_it f w x = ap (λ b. cond b x (f w)) (eq-eqb w w refl)

-- ---- tests
or_nothing : (a : Bool) → a || false ≡ a
or_nothing true = refl
or_nothing false = refl

or_again : (a b : Bool) → a || b ≡ (a || b) || a
or_again true b = refl
or_again false true = refl
or_again false false = refl

or_turned : (a b : Bool) → a || b ≡ b || a
or_turned true true = refl
or_turned true false = refl
or_turned false true = refl
or_turned false false = refl

-- ---- partitions, tasks, offsets
pub has_part-inserted : (r q : PartId) (ps : List PartId) → has_part r (insert_part q ps) ≡ has_part r ps || same_part r q
has_part-inserted r q [] = or_nothing (same_part r q)
has_part-inserted r q (p ∷ ps) = by (same_part q p) (part_lt q p) refl (has_part-inserted r q ps)
  where
    by : (a b : Bool) → same_part q p ≡ a → has_part r (insert_part q ps) ≡ has_part r ps || same_part r q →
        has_part r (cond a (p ∷ ps) (cond b (q ∷ p ∷ ps) (p ∷ insert_part q ps))) ≡ (same_part r p || has_part r ps) || same_part r q
    by true b is e = subst (λ k. same_part r p || has_part r ps ≡ (same_part r p || has_part r ps) || same_part r k) (sym (same_part-is q p is)) (or_again (same_part r p) (has_part r ps))
    by false true is e = or_turned (same_part r q) (same_part r p || has_part r ps)
    by false false is e = ap (λ b. same_part r p || b) e ∙ sym (or_assoc (same_part r p) (has_part r ps) (same_part r q))

pub has_task-more : (t u : TaskId) (ts : List TaskId) → has_task t (ts ++ u ∷ []) ≡ has_task t ts || same_task t u
has_task-more t u [] = or_nothing (same_task t u)
has_task-more t u (x ∷ xs) = ap (λ b. same_task t x || b) (has_task-more t u xs) ∙ sym (or_assoc (same_task t x) (has_task t xs) (same_task t u))

pub pending_of-with : (t : TaskId) (new : Pending) (ps : List Pending) → pending_of t (with_pending new ps) ≡ cond (same_task t new.task) (Some new) (pending_of t ps)
pending_of-with t new [] = refl
pending_of-with t new (p ∷ ps) = by (same_task new.task p.task) (task_lt new.task p.task) refl (pending_of-with t new ps)
  where
    hidden : (b : Bool) (x y : Pending) (o : Option Pending) → cond b (Some x) o ≡ cond b (Some x) (cond b (Some y) o)
    hidden true x y o = refl
    hidden false x y o = refl

    swapped : (a b : Bool) (x y : Pending) (o : Option Pending) → (a ≡ true → b ≡ true → ⊥) → cond a (Some x) (cond b (Some y) o) ≡ cond b (Some y) (cond a (Some x) o)
    swapped true true x y o h = absurd (h refl refl)
    swapped true false x y o h = refl
    swapped false b x y o h = refl

    apart : same_task new.task p.task ≡ false → same_task t p.task ≡ true → same_task t new.task ≡ true → ⊥
    apart is f g = true≢false (sym (subst (λ u. same_task u p.task ≡ true) (same_task-is t new.task g) f) ∙ is)

    by : (a b : Bool) → same_task new.task p.task ≡ a → pending_of t (with_pending new ps) ≡ cond (same_task t new.task) (Some new) (pending_of t ps) →
        pending_of t (cond a (new ∷ ps) (cond b (new ∷ p ∷ ps) (p ∷ with_pending new ps))) ≡ cond (same_task t new.task) (Some new) (cond (same_task t p.task) (Some p) (pending_of t ps))
    by true b is e = subst (λ u. cond (same_task t new.task) (Some new) (pending_of t ps) ≡ cond (same_task t new.task) (Some new) (cond (same_task t u) (Some p) (pending_of t ps))) (same_task-is new.task p.task is)
        (hidden (same_task t new.task) new p (pending_of t ps))
    by false true is e = refl
    by false false is e = ap (λ o. cond (same_task t p.task) (Some p) o) e ∙ swapped (same_task t p.task) (same_task t new.task) p new (pending_of t ps) (apart is)

-- ---- records
pub from_append : (low : ℕ) (xs ys : List Logged) → AllFrom low xs → AllFrom low ys → AllFrom low (xs ++ ys)
from_append low [] ys h g = g
from_append low (x ∷ xs) ys h g = (h.0, from_append low xs ys h.1 g)

-- the first new record of a producer is open at its own task alone
open_first : (w e : ℕ) (u t : TaskId) (at number : ℕ) (r : Rec) (rs : List Rec) → open_from w e u at (sent_slots w e number t (r ∷ rs))
    ≡ cond (same_task u t && true) (record { offset = at; sender = Some t; rec = r } ∷ open_from w e u (at + 1) (sent_slots w e (number + 1) t rs)) (open_from w e u (at + 1) (sent_slots w e (number + 1) t rs))
open_first w e u t at number r rs =
    let rest : List Logged = open_from w e u (at + 1) (sent_slots w e (number + 1) t rs) in
    let x : Logged = record { offset = at; sender = Some t; rec = r } in
    ap₂ (λ a b. cond (((a && b) && same_task u t) && is_none (next_mark w e (sent_slots w e (number + 1) t rs))) (x ∷ rest) rest) (eq-eqb w w refl) (eq-eqb e e refl)
    ∙ ap (λ o. cond (same_task u t && is_none o) (x ∷ rest) rest) (next_mark-sent w e w e (number + 1) t rs)

pub open_sent : (w e : ℕ) (u t : TaskId) (at number : ℕ) (rs : List Rec) → recs (open_from w e u at (sent_slots w e number t rs)) ≡ cond (same_task u t) rs []
open_sent w e u t at number [] = by (same_task u t)
  where
    by : (b : Bool) → [] ≡ cond {A = List Rec} b [] []
    by true = refl
    by false = refl
open_sent w e u t at number (r ∷ rs) = ap recs (open_first w e u t at number r rs) ∙ by (same_task u t) (open_sent w e u t (at + 1) (number + 1) rs)
  where
    by : (b : Bool) → recs (open_from w e u (at + 1) (sent_slots w e (number + 1) t rs)) ≡ cond b rs [] →
        recs (cond (b && true) (record { offset = at; sender = Some t; rec = r } ∷ open_from w e u (at + 1) (sent_slots w e (number + 1) t rs)) (open_from w e u (at + 1) (sent_slots w e (number + 1) t rs))) ≡ cond b (r ∷ rs) []
    by true h = ap (λ l. r ∷ l) h
    by false h = h

-- a task's own new records are open, and stand one after another
pub open_own : (w e : ℕ) (t : TaskId) (at number : ℕ) (r : Rec) (rs : List Rec) →
    open_from w e t at (sent_slots w e number t (r ∷ rs)) ≡ record { offset = at; sender = Some t; rec = r } ∷ open_from w e t (at + 1) (sent_slots w e (number + 1) t rs)
open_own w e t at number r rs =
    let rest : List Logged = open_from w e t (at + 1) (sent_slots w e (number + 1) t rs) in
    open_first w e t t at number r rs ∙ ap (λ b. cond (b && true) (record { offset = at; sender = Some t; rec = r } ∷ rest) rest) (same_task-refl t)
