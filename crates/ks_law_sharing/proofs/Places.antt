-- Where a task's decided records and a transaction's open ones stand.
use Rattle.std.proofs.Common.{◌≡◌, ℕ, ◌+◌, ◌≤◌, ◌<◌, ◌&&◌, Bool, true, false, cond, List, [], ◌∷◌, length, Option, Some, None, refl, sym, ap, ap₂, subst, ◌∙◌, arith}
use Rattle.std.specs.Prelude.{◌==◌}
use Rattle.std.proofs.lemmas.Bool.{and_parts, eqb-true, true≢false}
use Rattle.ks_record.specs.Records.{Record as Rec}
use Rattle.ks_record.specs.declared.record.TaskId.{TaskId}
use Rattle.ks_record.specs.Parts.{same_task}
use Rattle.ks_history.specs.declared.partition.Slot.{Slot}
use Rattle.ks_history.specs.declared.partition.Slot.TheVariants.{Plain, Sent, Mark}
use Rattle.ks_history.specs.Partition.{Logged, next_mark, decision, is_commit, decided_from, open_from, is_open, is_none, is_behind, none_decided, by_sender}
use Rattle.ks_law_exactly_once.proofs.Slots.{Waiting, Rising, open_rises}
use Rattle.ks_law_sharing.specs.Others.{AllFrom}

abbrev pub AllBelow : ℕ → List Logged → Type 0
AllBelow b [] = Unit {0}
AllBelow b (x ∷ xs) = (x.offset < b) × AllBelow b xs

pub from_less : (b c : ℕ) (xs : List Logged) → b ≤ c → AllFrom c xs → AllFrom b xs
from_less b c [] h all = tt
from_less b c (x ∷ xs) h all = (omega (arith, h, all.0), from_less b c xs h all.1)

-- ---- where the lists of some slots begin and end
rising_all : (at : ℕ) (xs : List Logged) → Rising at xs → AllFrom at xs
rising_all at [] r = tt
rising_all at (x ∷ xs) r = (r.0, from_less at (x.offset + 1) xs (omega (arith, r.0)) (rising_all (x.offset + 1) xs r.1))

pub open_all : (w e : ℕ) (t : TaskId) (at : ℕ) (slots : List Slot) → AllFrom at (open_from w e t at slots)
open_all w e t at slots = rising_all at (open_from w e t at slots) (open_rises w e t at slots)

pub task_under : (t : TaskId) (waiting : Waiting) (high at : ℕ) (slots : List Slot) → at + length slots ≤ high → AllBelow high (by_sender (Some t) (decided_from waiting at slots))
task_under t waiting high at [] h = tt
task_under t waiting high at (Plain rec ∷ slots) h = task_under t waiting high (at + 1) slots (omega (arith, h))
task_under t waiting high at (Sent w e number task rec ∷ slots) h = by (is_commit (decision (next_mark w e slots) (waiting w e))) (task_under t waiting high (at + 1) slots (omega (arith, h)))
  where
    mine : (c : Bool) → AllBelow high (by_sender (Some t) (decided_from waiting (at + 1) slots)) →
        AllBelow high (cond c (record { offset = at; sender = Some task; rec = rec } ∷ by_sender (Some t) (decided_from waiting (at + 1) slots)) (by_sender (Some t) (decided_from waiting (at + 1) slots)))
    mine true g = (omega (arith, h), g)
    mine false g = g

    by : (b : Bool) → AllBelow high (by_sender (Some t) (decided_from waiting (at + 1) slots)) →
        AllBelow high (by_sender (Some t) (cond b (record { offset = at; sender = Some task; rec = rec } ∷ decided_from waiting (at + 1) slots) (decided_from waiting (at + 1) slots)))
    by true g = mine (same_task t task) g
    by false g = g
task_under t waiting high at (Mark w e commit ∷ slots) h = task_under t waiting high (at + 1) slots (omega (arith, h))

-- ---- a task's decided records stand below an offset, a transaction's open ones at or past it: they stand behind
-- the rest of what stands below
rest_under : (t : TaskId) (high at : ℕ) (task : TaskId) (rec : Rec) (xs : List Logged) (b : Bool) → AllBelow high (by_sender (Some t) (cond b (record { offset = at; sender = Some task; rec = rec } ∷ xs) xs)) → AllBelow high (by_sender (Some t) xs)
rest_under t high at task rec xs false g = g
rest_under t high at task rec xs true g = mine (same_task t task) g
  where
    mine : (c : Bool) → AllBelow high (cond c (record { offset = at; sender = Some task; rec = rec } ∷ by_sender (Some t) xs) (by_sender (Some t) xs)) → AllBelow high (by_sender (Some t) xs)
    mine true g = g.1
    mine false g = g

none_under : (t : TaskId) (waiting : Waiting) (b at : ℕ) (slots : List Slot) → b ≤ at → AllBelow b (by_sender (Some t) (decided_from waiting at slots)) → none_decided waiting t slots ≡ true
none_under t waiting b at [] h g = refl
none_under t waiting b at (Plain rec ∷ slots) h g = none_under t waiting b (at + 1) slots (omega (arith, h)) g
none_under t waiting b at (Sent w e number task rec ∷ slots) h g =
    by (is_commit (decision (next_mark w e slots) (waiting w e))) g (λ k. none_under t waiting b (at + 1) slots (omega (arith, h)) k)
  where
    never : (u : Bool) → none_decided waiting t slots ≡ true → cond (u && false) false (none_decided waiting t slots) ≡ true
    never true k = k
    never false k = k

    mine : (u : Bool) → AllBelow b (cond u (record { offset = at; sender = Some task; rec = rec } ∷ by_sender (Some t) (decided_from waiting (at + 1) slots)) (by_sender (Some t) (decided_from waiting (at + 1) slots)))
        → (AllBelow b (by_sender (Some t) (decided_from waiting (at + 1) slots)) → none_decided waiting t slots ≡ true) → cond (u && true) false (none_decided waiting t slots) ≡ true
    mine true g k = absurd (omega (arith, h, g.0))
    mine false g k = k g

    by : (c : Bool) → AllBelow b (by_sender (Some t) (cond c (record { offset = at; sender = Some task; rec = rec } ∷ decided_from waiting (at + 1) slots) (decided_from waiting (at + 1) slots)))
        → (AllBelow b (by_sender (Some t) (decided_from waiting (at + 1) slots)) → none_decided waiting t slots ≡ true) → cond (same_task t task && c) false (none_decided waiting t slots) ≡ true
    by true g k = mine (same_task t task) g k
    by false g k = never (same_task t task) (k g)
none_under t waiting b at (Mark w e commit ∷ slots) h g = none_under t waiting b (at + 1) slots (omega (arith, h)) g

pub behind_of : (w e : ℕ) (t : TaskId) (waiting : Waiting) (b at : ℕ) (slots : List Slot) → AllBelow b (by_sender (Some t) (decided_from waiting at slots)) → AllFrom b (open_from w e t at slots) → is_behind waiting w e t slots ≡ true
behind_of w e t waiting b at [] g h = refl
behind_of w e t waiting b at (Plain rec ∷ slots) g h = behind_of w e t waiting b (at + 1) slots g h
behind_of w e t waiting b at (Sent v d number task rec ∷ slots) g h =
    let rest : AllBelow b (by_sender (Some t) (decided_from waiting (at + 1) slots)) = rest_under t b at task rec (decided_from waiting (at + 1) slots) (is_commit (decision (next_mark v d slots) (waiting v d))) g in
    by (is_open w e t v d task (next_mark v d slots)) rest h (λ k. behind_of w e t waiting b (at + 1) slots rest k) (λ k. none_under t waiting b (at + 1) slots k rest)
  where
    by : (o : Bool) → AllBelow b (by_sender (Some t) (decided_from waiting (at + 1) slots)) → AllFrom b (cond o (record { offset = at; sender = Some task; rec = rec } ∷ open_from w e t (at + 1) slots) (open_from w e t (at + 1) slots))
        → (AllFrom b (open_from w e t (at + 1) slots) → is_behind waiting w e t slots ≡ true) → (b ≤ at + 1 → none_decided waiting t slots ≡ true)
        → cond o (none_decided waiting t slots) (is_behind waiting w e t slots) ≡ true
    by true r h on none = none (omega (arith, h.0))
    by false r h on none = on h
behind_of w e t waiting b at (Mark v d commit ∷ slots) g h = behind_of w e t waiting b (at + 1) slots g h

-- ---- and back: where they stand behind, there is such an offset
none_by_sender : (t : TaskId) (waiting : Waiting) (at : ℕ) (slots : List Slot) → none_decided waiting t slots ≡ true → by_sender (Some t) (decided_from waiting at slots) ≡ []
none_by_sender t waiting at [] h = refl
none_by_sender t waiting at (Plain rec ∷ slots) h = none_by_sender t waiting (at + 1) slots h
none_by_sender t waiting at (Sent w e number task rec ∷ slots) h =
    by (is_commit (decision (next_mark w e slots) (waiting w e))) h (λ k. none_by_sender t waiting (at + 1) slots k)
  where
    never : (u : Bool) → cond (u && false) false (none_decided waiting t slots) ≡ true → none_decided waiting t slots ≡ true
    never true k = k
    never false k = k

    mine : (u : Bool) → cond (u && true) false (none_decided waiting t slots) ≡ true → (none_decided waiting t slots ≡ true → by_sender (Some t) (decided_from waiting (at + 1) slots) ≡ [])
        → cond u (record { offset = at; sender = Some task; rec = rec } ∷ by_sender (Some t) (decided_from waiting (at + 1) slots)) (by_sender (Some t) (decided_from waiting (at + 1) slots)) ≡ []
    mine true h on = absurd (true≢false (sym h))
    mine false h on = on h

    by : (c : Bool) → cond (same_task t task && c) false (none_decided waiting t slots) ≡ true → (none_decided waiting t slots ≡ true → by_sender (Some t) (decided_from waiting (at + 1) slots) ≡ [])
        → by_sender (Some t) (cond c (record { offset = at; sender = Some task; rec = rec } ∷ decided_from waiting (at + 1) slots) (decided_from waiting (at + 1) slots)) ≡ []
    by true h on = mine (same_task t task) h on
    by false h on = on (never (same_task t task) h)
none_by_sender t waiting at (Mark w e commit ∷ slots) h = none_by_sender t waiting (at + 1) slots h

abbrev pub Bound : ℕ → ℕ → TaskId → Waiting → ℕ → List Slot → Type 0
Bound w e t waiting at slots = (b : ℕ) × (at ≤ b) × AllBelow b (by_sender (Some t) (decided_from waiting at slots)) × AllFrom b (open_from w e t at slots)

-- an open record of a producer without a waiting marker isn't decided
undecided_open : (w e : ℕ) (t : TaskId) (v d : ℕ) (task : TaskId) (mark : Option Bool) (waiting : Waiting) → waiting w e ≡ None → is_open w e t v d task mark ≡ true → is_commit (decision mark (waiting v d)) ≡ false
undecided_open w e t v d task mark waiting none is =
    let a = and_parts (((w == v) && (e == d)) && same_task t task) (is_none mark) is in
    let b = and_parts ((w == v) && (e == d)) (same_task t task) a.0 in
    let c = and_parts (w == v) (e == d) b.0 in
    let here : waiting v d ≡ None = ap₂ waiting (sym (eqb-true w v c.0)) (sym (eqb-true e d c.1)) ∙ none in
    by mark a.1 here
  where
    by : (m : Option Bool) → is_none m ≡ true → waiting v d ≡ None → is_commit (decision m (waiting v d)) ≡ false
    by None h k = ap is_commit k
    by (Some commit) h k = absurd (true≢false (sym h))

pub bound_of : (w e : ℕ) (t : TaskId) (waiting : Waiting) (at : ℕ) (slots : List Slot) → waiting w e ≡ None → is_behind waiting w e t slots ≡ true → Bound w e t waiting at slots
bound_of w e t waiting at [] none h = (at, omega arith, tt, tt)
bound_of w e t waiting at (Plain rec ∷ slots) none h = let more = bound_of w e t waiting (at + 1) slots none h in (more.0, omega (arith, more.1), more.2, more.3)
bound_of w e t waiting at (Sent v d number task rec ∷ slots) none h =
    by (is_open w e t v d task (next_mark v d slots)) refl h (λ k. bound_of w e t waiting (at + 1) slots none k)
  where
    under : (b : ℕ) (c u : Bool) → at < b → AllBelow b (by_sender (Some t) (decided_from waiting (at + 1) slots)) →
        (c ≡ true → AllBelow b (cond u (record { offset = at; sender = Some task; rec = rec } ∷ by_sender (Some t) (decided_from waiting (at + 1) slots)) (by_sender (Some t) (decided_from waiting (at + 1) slots))))
    under b c true less g is = (less, g)
    under b c false less g is = g

    kept : (b : ℕ) (c : Bool) → at < b → AllBelow b (by_sender (Some t) (decided_from waiting (at + 1) slots)) →
        AllBelow b (by_sender (Some t) (cond c (record { offset = at; sender = Some task; rec = rec } ∷ decided_from waiting (at + 1) slots) (decided_from waiting (at + 1) slots)))
    kept b true less g = under b true (same_task t task) less g refl
    kept b false less g = g

    by : (o : Bool) → is_open w e t v d task (next_mark v d slots) ≡ o → cond o (none_decided waiting t slots) (is_behind waiting w e t slots) ≡ true → (is_behind waiting w e t slots ≡ true → Bound w e t waiting (at + 1) slots)
        → (b : ℕ) × (at ≤ b) × AllBelow b (by_sender (Some t) (cond (is_commit (decision (next_mark v d slots) (waiting v d))) (record { offset = at; sender = Some task; rec = rec } ∷ decided_from waiting (at + 1) slots) (decided_from waiting (at + 1) slots)))
        × AllFrom b (cond o (record { offset = at; sender = Some task; rec = rec } ∷ open_from w e t (at + 1) slots) (open_from w e t (at + 1) slots))
    by true is h on = (
      at,
      omega arith,
      subst (λ c. AllBelow at (by_sender (Some t) (cond c (record { offset = at; sender = Some task; rec = rec } ∷ decided_from waiting (at + 1) slots) (decided_from waiting (at + 1) slots))))
          (sym (undecided_open w e t v d task (next_mark v d slots) waiting none is)) (subst (AllBelow at) (sym (none_by_sender t waiting (at + 1) slots h)) tt),
      (omega arith, from_less at (at + 1) _ (omega arith) (open_all w e t (at + 1) slots)),
    )
    by false is h on =
        let more = on h in
        (more.0, omega (arith, more.1), kept more.0 (is_commit (decision (next_mark v d slots) (waiting v d))) (omega (arith, more.1)) more.2, more.3)
bound_of w e t waiting at (Mark v d commit ∷ slots) none h = let more = bound_of w e t waiting (at + 1) slots none h in (more.0, omega (arith, more.1), more.2, more.3)
