-- Offsets that are put among pending ones in place, and members and held positions that are taken out.
use Rattle.std.proofs.Common.{◌≡◌, ℕ, zero, suc, ◌≤◌, Bool, true, false, cond, List, [], ◌∷◌, length, set, refl, sym, ap, ◌∙◌, arith}
use Rattle.std.specs.Prelude.{◌||◌, ◌==◌, not, filter}
use Rattle.std.specs.List.{insert}
use Rattle.ks_record.specs.declared.record.TaskId.{TaskId}
use Rattle.ks_record.specs.Parts.{same_task, task_lt}
use Rattle.ks_history.specs.declared.transaction.Pending.{Pending}
use Rattle.ks_history.specs.State.{with_pending, without_number}
use Rattle.ks_group.specs.Pending.{pending_place, is_at}
use Rattle.ks_group.specs.Held.{held_without}

pub place_within : (t : TaskId) (ps : List Pending) → pending_place t ps ≤ length ps
place_within t [] = omega arith
place_within t (p ∷ ps) = by (same_task t p.task || task_lt t p.task) (place_within t ps)
  where
    by : (b : Bool) → pending_place t ps ≤ length ps → cond b 0 (suc (pending_place t ps)) ≤ suc (length ps)
    by true h = omega arith
    by false h = omega (arith, h)

-- in place of what stands there, or before it
abbrev put_at : Pending → ℕ → List Pending → List Pending
put_at new i ps = cond (is_at new.task i ps) (set ps i new) (insert ps i new)

with_pending-is : (new : Pending) (ps : List Pending) → with_pending new ps ≡ put_at new (pending_place new.task ps) ps
with_pending-is new [] = refl
with_pending-is new (p ∷ ps) = by (same_task new.task p.task) (task_lt new.task p.task) refl (with_pending-is new ps)
  where
    under : (b : Bool) (xs ys : List Pending) → p ∷ cond b xs ys ≡ cond b (p ∷ xs) (p ∷ ys)
    under true xs ys = refl
    under false xs ys = refl

    by : (b c : Bool) → same_task new.task p.task ≡ b → with_pending new ps ≡ put_at new (pending_place new.task ps) ps
        → cond b (new ∷ ps) (cond c (new ∷ p ∷ ps) (p ∷ with_pending new ps)) ≡ put_at new (cond (b || c) 0 (suc (pending_place new.task ps))) (p ∷ ps)
    by true c is h = sym (ap (λ d. cond d (new ∷ ps) (new ∷ p ∷ ps)) is)
    by false true is h = sym (ap (λ d. cond d (new ∷ ps) (new ∷ p ∷ ps)) is)
    by false false is h = ap (λ l. p ∷ l) h ∙ under (is_at new.task (pending_place new.task ps) ps) _ _

pub put-there : (new : Pending) (ps : List Pending) (i : ℕ) → i ≡ pending_place new.task ps → is_at new.task i ps ≡ true → set ps i new ≡ with_pending new ps
put-there new ps i at is = sym (with_pending-is new ps ∙ ap (λ n. put_at new n ps) (sym at) ∙ ap (λ b. cond b (set ps i new) (insert ps i new)) is)

pub put-new : (new : Pending) (ps : List Pending) (i : ℕ) → i ≡ pending_place new.task ps → is_at new.task i ps ≡ false → insert ps i new ≡ with_pending new ps
put-new new ps i at is = sym (with_pending-is new ps ∙ ap (λ n. put_at new n ps) (sym at) ∙ ap (λ b. cond b (set ps i new) (insert ps i new)) is)

pub without-filter : (w : ℕ) (ms : List ℕ) → filter (λ m. not (w == m)) ms ≡ without_number w ms
without-filter w [] = refl
without-filter w (m ∷ ms) = by (w == m) (without-filter w ms)
  where
    by : (b : Bool) → filter (λ n. not (w == n)) ms ≡ without_number w ms → cond (not b) (m ∷ filter (λ n. not (w == n)) ms) (filter (λ n. not (w == n)) ms) ≡ cond b (without_number w ms) (m ∷ without_number w ms)
    by true h = h
    by false h = ap (λ l. m ∷ l) h

pub held-filter : (w : ℕ) (hs : List (ℕ × TaskId × ℕ)) → filter (λ h. not (h.0 == w)) hs ≡ held_without w hs
held-filter w [] = refl
held-filter w (h ∷ hs) = by (h.0 == w) (held-filter w hs)
  where
    by : (b : Bool) → filter (λ (k : ℕ × TaskId × ℕ). not (k.0 == w)) hs ≡ held_without w hs
        → cond (not b) (h ∷ filter (λ (k : ℕ × TaskId × ℕ). not (k.0 == w)) hs) (filter (λ (k : ℕ × TaskId × ℕ). not (k.0 == w)) hs) ≡ cond b (held_without w hs) (h ∷ held_without w hs)
    by true same = same
    by false same = ap (λ l. h ∷ l) same
