-- An item has a window at most once, so a window has no more pairs than the run has steps.
use Rattle.std.proofs.Common.{◌≡◌, ℕ, zero, suc, ◌+◌, ◌*◌, ◌/◌, ◌<◌, ◌≤◌, Bool, true, false, cond, List, length, [], ◌∷◌, ◌++◌, Option, Some, None, refl, ap, arith}
use Rattle.std.specs.Prelude.{nat_lt}
use Rattle.std.specs.List.{filter}
use Rattle.std.specs.Ordering.{eq_by_cmp}
use Rattle.ks_record.specs.declared.record.TaskId.{TaskId}
use Rattle.ks_plan.specs.Plan.{Plan, Window}
use Rattle.ks_def_runs.proofs.Tables.{equal}
use Rattle.ks_query.specs.Streams.{Key, StreamItem, group_key}
use Rattle.ks_query.specs.Windows.{WindowKey, by_window, multiples}
use Rattle.ks_def_runs.specs.Run.{Taken}
use Rattle.ks_def_runs.proofs.Sums.{sum_map}
use Rattle.ks_def_tasks.specs.Messages.{Place, Item}
use Rattle.ks_law_quiescence.specs.Streams.{item_of_step, passed_on}
use Rattle.ks_law_quiescence.specs.Windows.{starts_of, pairs_of_group, pairs_in}
use Rattle.ks_law_quiescence.proofs.WindowGroups.{window_same, item_windows}
use Rattle.ks_law_quiescence.proofs.WindowsWhole.{passed-is}

module _ (k : WindowKey) (g : Key) where
  starts-append : (xs ys : List ℕ) → starts_of k g (xs ++ ys) ≡ starts_of k g xs + starts_of k g ys
  starts-append [] ys = omega arith
  starts-append (x ∷ xs) ys = omega (arith, starts-append xs ys)

  starts-filter : (test : ℕ → Bool) (xs : List ℕ) → starts_of k g (filter test xs) ≤ starts_of k g xs
  starts-filter test [] = omega arith
  starts-filter test (x ∷ xs) =
      let rest = starts-filter test xs in
      elim (test x) as (λ b. starts_of k g (cond b (x ∷ filter test xs) (filter test xs)) ≤ starts_of k g (x ∷ xs)) [ true ↦ omega arith | false ↦ omega arith ]

  start_is : (s : ℕ) → eq_by_cmp by_window k (g, s) ≡ true → k.1 ≡ s
  start_is s e = ap (λ (c : WindowKey). c.1) (window_same k (g, s) (equal _ e))

  none_below : (a m : ℕ) → 0 < a → m * a ≤ k.1 → starts_of k g (multiples a m) ≡ 0
  none_below a zero lt le = refl
  none_below a (suc m) lt le =
      let rest = none_below a m lt (omega arith) in
      let split = starts-append (multiples a m) (m * a ∷ []) in
      elim (eq_by_cmp by_window k (g, m * a)) as (λ b. eq_by_cmp by_window k (g, m * a) ≡ b → starts_of k g (multiples a m ++ m * a ∷ []) ≡ 0) [
        | true ↦ λ b. let is = start_is (m * a) b in absurd (omega arith)
        | false ↦ λ b.
            let last : starts_of k g (m * a ∷ []) ≡ 0 = ap (λ c. cond c 1 0 + 0) b in
            omega arith
      ] refl

  once_below : (a m : ℕ) → 0 < a → starts_of k g (multiples a m) ≤ 1
  once_below a zero lt = omega arith
  once_below a (suc m) lt =
      let rest = once_below a m lt in
      let split = starts-append (multiples a m) (m * a ∷ []) in
      elim (eq_by_cmp by_window k (g, m * a)) as (λ b. eq_by_cmp by_window k (g, m * a) ≡ b → starts_of k g (multiples a m ++ m * a ∷ []) ≤ 1) [
        | true ↦ λ b.
            let is = start_is (m * a) b in
            let none = none_below a m lt (omega arith) in
            let last : starts_of k g (m * a ∷ []) ≡ 1 = ap (λ c. cond c 1 0 + 0) b in
            omega arith
        | false ↦ λ b.
            let last : starts_of k g (m * a ∷ []) ≡ 0 = ap (λ c. cond c 1 0 + 0) b in
            omega arith
      ] refl

module _ (k : WindowKey) (w : Window) (positive : 0 < w.advance) where
  once : (h : Option Key) (time : ℕ) → pairs_of_group k w h time ≤ 1
  once None time = omega arith
  once (Some g) time =
      let all = once_below k g w.advance (time / w.advance + 1) positive in
      let some = starts-filter k g (λ s. nat_lt time (s + w.size)) (multiples w.advance (time / w.advance + 1)) in
      omega arith

  item_once : (by : Option (List ℕ)) (i : Option StreamItem) → item_windows k w by i ≤ 1
  item_once by None = omega arith
  item_once by (Some y) = once (group_key by y) y.time

  steps_bound : (p : Plan) (f : ℕ) (by : Option (List ℕ)) (ts : List (Taken TaskId Place Item)) → sum_map (λ t. item_windows k w by (item_of_step p f t)) ts ≤ length ts
  steps_bound p f by [] = omega arith
  steps_bound p f by (t ∷ ts) = omega (arith, item_once by (item_of_step p f t), steps_bound p f by ts)

  pub pairs_bound : (p : Plan) (f : ℕ) (by : Option (List ℕ)) (ts : List (Taken TaskId Place Item)) → pairs_in k w by (passed_on p f ts) ≤ length ts
  pairs_bound p f by ts = let is = passed-is k w p f by ts in omega (arith, steps_bound p f by ts)
