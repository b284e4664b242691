-- How often a name stands in a list.
use Rattle.std.proofs.Common.{◌≡◌, ◌≤◌, ℕ, zero, suc, ◌+◌, ◌||◌, Bool, true, false, cond, List, [], ◌∷◌, ◌++◌, map, take, drop, refl, sym, ap, ◌∙◌, arith}
use Rattle.std.specs.List.{filter, insert, remove}
use Rattle.ks_record.specs.declared.record.TaskId.{TaskId}
use Rattle.ks_record.specs.Parts.{same_task}
use Rattle.ks_history.specs.State.{has_task}
use Rattle.ks_standby.specs.declared.replica.Replica.{Replica}
use Rattle.ks_task.specs.declared.task.Task.{Task}
use Rattle.ks_task.specs.Tasks.{task_view}
use Rattle.ks_worker_state.specs.Names.{task_names, replica_names, times}

pub times-append : (t : TaskId) (xs ys : List TaskId) → times t (xs ++ ys) ≡ times t xs + times t ys
times-append t [] ys = omega arith
times-append t (x ∷ xs) ys = omega (arith, times-append t xs ys)

pub times-none : (t : TaskId) (xs : List TaskId) → has_task t xs ≡ false → times t xs ≡ 0
times-none t [] e = refl
times-none t (x ∷ xs) e = by (same_task t x) e (λ h. times-none t xs h)
  where
    by : (b : Bool) → (b || has_task t xs) ≡ false → (has_task t xs ≡ false → times t xs ≡ 0) → cond b 1 0 + times t xs ≡ 0
    by true e h = absurd cc
    by false e h = omega (arith, h e)

pub times-some : (t : TaskId) (xs : List TaskId) → has_task t xs ≡ true → 1 ≤ times t xs
times-some t [] e = absurd cc
times-some t (x ∷ xs) e = by (same_task t x) e (λ h. times-some t xs h)
  where
    by : (b : Bool) → (b || has_task t xs) ≡ true → (has_task t xs ≡ true → 1 ≤ times t xs) → 1 ≤ cond b 1 0 + times t xs
    by true e h = omega arith
    by false e h = omega (arith, h e)

pub is_there : (t : TaskId) (xs : List TaskId) → 1 ≤ times t xs → has_task t xs ≡ true
is_there t xs some = by (has_task t xs) refl
  where
    by : (b : Bool) → has_task t xs ≡ b → b ≡ true
    by true e = refl
    by false e = absurd (omega (arith, some, times-none t xs e))

-- ---- a list with one more, or one less
module _ {A : Type 0} (name : A → TaskId) (t : TaskId) where
  pub times-insert : (xs : List A) (i : ℕ) (x : A) → times t (map name (insert xs i x)) ≡ times t (name x ∷ []) + times t (map name xs)
  times-insert [] zero x = omega arith
  times-insert [] (suc i) x = omega arith
  times-insert (y ∷ xs) zero x = omega arith
  times-insert (y ∷ xs) (suc i) x = omega (arith, times-insert xs i x)

-- ---- tasks of a kind
module _ (is : Task → Bool) (t : TaskId) where
  pub times-filter : (ts : List Task) → times t (task_names (filter is ts)) ≤ times t (task_names ts)
  times-filter [] = omega arith
  times-filter (x ∷ xs) = by (is x) (times-filter xs)
    where
      by : (b : Bool) → times t (task_names (filter is xs)) ≤ times t (task_names xs) → times t (task_names (cond b (x ∷ filter is xs) (filter is xs))) ≤ times t ((task_view x).task ∷ task_names xs)
      by true h = omega (arith, h)
      by false h = omega (arith, h)
