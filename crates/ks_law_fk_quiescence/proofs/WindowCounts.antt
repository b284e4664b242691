-- Windowed counts at rest, in whole numbers: what is stored and what was late are no more than the steps of the run, so no count wraps.
use Rattle.std.proofs.Common.{◌≡◌, ℕ, zero, suc, ◌+◌, ◌-◌, ◌≤◌, ◌<◌, ◌%◌, ◌^◌, Bool, true, false, cond, List, length, Option, Some, None, refl, sym, ap, ◌∙◌, arith}
use Rattle.std.specs.Prelude.{pos, negsuc, nat_lt, option_map}
use Rattle.std.specs.Int.{w64, cast_signed}
use Rattle.std.proofs.lemmas.Bool.{ltb-false}
use Rattle.ks_record.specs.declared.record.TaskId.{TaskId}
use Rattle.ks_record.specs.Parts.{same_task}
use Rattle.ks_def_tasks.proofs.Names.{same_task-is}
use Rattle.ks_plan.specs.Plan.{Plan, Window}
use Rattle.ks_plan.specs.Plan.Kind.{Windowed}
use Rattle.ks_def_runs.specs.FinMap as fin
use Rattle.ks_def_runs.proofs.Sums.{sum_map}
use Rattle.ks_query.specs.Streams.{Input}
use Rattle.ks_query.specs.Windows.{WindowKey}
use Rattle.ks_query.specs.Aggregates.{agg_row}
use Rattle.ks_query.specs.Query.{query}
use Rattle.ks_def_tasks.specs.Messages.{Place, Rules}
use Rattle.ks_def_tasks.specs.Rest.{IsDrained}
use Rattle.ks_law_quiescence.specs.Groups.{place_of}
use Rattle.ks_law_quiescence.specs.States.{State, state_of, home_task}
use Rattle.ks_law_quiescence.specs.Streams.{takers, all_waiting}
use Rattle.ks_law_quiescence.specs.Windows.{late_pairs, pairs_among, count_of}
use Rattle.ks_law_quiescence.proofs.Counted.{counted}
use Rattle.ks_law_topology.proofs.Fits.{Fits, each_at}
use Rattle.ks_law_topology.proofs.Mixed.{Stands_at}
use Rattle.ks_law_quiescence.proofs.WindowGroups.{item_windows}
use Rattle.ks_law_quiescence.proofs.WindowsOnce.{pairs_bound}
use Rattle.ks_law_quiescence.proofs.WindowsRest.{passed_sum, nothing_waits, query_is}
use Rattle.ks_law_quiescence.proofs.WindowsWhole.{passed-is, window_whole}
use Rattle.ks_law_fk_quiescence.specs.Windows.{members_of, members_in, exactly}

small_number : (n : ℕ) → n < 2 ^ 63 → cast_signed w64 n ≡ pos n
small_number n lt = elim (nat_lt n (2 ^ 63)) as (λ b. nat_lt n (2 ^ 63) ≡ b → cond b (pos n) (negsuc (2 ^ 64 - suc n)) ≡ pos n) [
  | true ↦ λ b. refl
  | false ↦ λ b. let le = ltb-false n (2 ^ 63) b in absurd (omega (arith, lt, le))
] refl

not_wrapped : (n : ℕ) → n < 2 ^ 63 → count_of n ≡ exactly n
not_wrapped zero lt = refl
not_wrapped (suc n) lt =
    let same : suc n % 2 ^ 64 ≡ suc n = omega (arith, lt) in
    ap (λ m. Some (record { members = cast_signed w64 m; total = pos 0 })) same ∙ ap (λ z. Some (record { members = z; total = pos 0 })) (small_number (suc n) lt)

counted-is : (n : ℕ) → counted n 0 ≡ count_of n
counted-is zero = refl
counted-is (suc n) = refl

stored_members : (n : ℕ) → members_of (exactly n) ≡ n
stored_members zero = refl
stored_members (suc n) = refl

shown_members : (n : ℕ) → members_in (option_map (agg_row true) (exactly n)) ≡ n
shown_members zero = refl
shown_members (suc n) = refl

module _ (rules : Rules) (p : Plan) (fits : Fits p) (records : List Input) (schedule : List (Option TaskId × Place)) (n f : ℕ) (w : Window) (k : WindowKey) where
  abbrev end : State
  end = state_of rules p records schedule

  abbrev home : TaskId
  home = home_task rules p n k.0

  abbrev late : ℕ
  late = late_pairs rules p n k end.taken

  pub record CountsLess : Type 0 where
    pub count : ℕ
    pub stored : (u : TaskId) → fin.get ((end.stores u).counts n) k ≡ cond (same_task u home) (exactly count) None
    pub shown : fin.get ((query p records).windows n) k ≡ option_map (agg_row true) (exactly (count + late))
    pub few : count + late ≤ length end.taken
    pub sums : members_of (fin.get ((end.stores home).counts n) k) + late ≡ members_in (fin.get ((query p records).windows n) k)
    pub at_most : members_of (fin.get ((end.stores home).counts n) k) ≤ members_in (fin.get ((query p records).windows n) k)

  -- in the words of the law, from what is stored and shown
  in_members : (count : ℕ) → ((u : TaskId) → fin.get ((end.stores u).counts n) k ≡ cond (same_task u home) (exactly count) None) →
      fin.get ((query p records).windows n) k ≡ option_map (agg_row true) (exactly (count + late)) → count + late ≤ length end.taken → CountsLess
  in_members count stored shown few =
      let here : members_of (fin.get ((end.stores home).counts n) k) ≡ count = ap members_of (stored home ∙ ap (λ b. cond b (exactly count) None) ((same_task-is home home).1 refl)) ∙ stored_members count in
      let there : members_in (fin.get ((query p records).windows n) k) ≡ count + late = ap members_in shown ∙ shown_members (count + late) in
      record { count = count; stored = stored; shown = shown; few = few; sums = ap (λ m. m + late) here ∙ sym there; at_most = omega (arith, here, there) }

  pub windows_count_less : f < length p.kinds → f < n → IsDrained end → length end.taken < 2 ^ 48 →
      (by : Option (List ℕ)) (through : Bool) → Stands_at n (Windowed f by w through) 0 p.kinds → CountsLess
  windows_count_less within before drained short by through stands =
      let h = window_whole rules p fits records schedule n f w k by through stands in
      let none : pairs_among k w (all_waiting rules p end (place_of rules p n k.0)) ≡ 0 = ap (pairs_among k w) (nothing_waits rules p fits records schedule n f w within before drained k (takers rules p end.taken)) in
      let passed = passed-is k w p f by end.taken in
      let rest = passed_sum rules p fits records schedule n f w within before drained k by in
      let whole = h.whole in
      let bound = pairs_bound k w (each_at p 0 p.kinds n (Windowed f by w through) fits stands).3 p f by end.taken in
      let total : sum_map (λ y. item_windows k w by (Some y)) ((query p records).items f) ≡ h.count + late = omega (arith, none, passed, rest, whole) in
      let few : h.count + late ≤ length end.taken = omega (arith, none, whole, bound) in
      let low : h.count < 2 ^ 63 = omega (arith, few, short) in
      let high : h.count + late < 2 ^ 63 = omega (arith, few, short) in
      in_members h.count (λ u. h.stored u ∙ ap (λ x. cond (same_task u home) x None) (not_wrapped h.count low))
      (query_is rules p fits records schedule n f w within before drained k by through stands ∙ ap (λ m. option_map (agg_row true) (counted m 0)) total ∙ ap (option_map (agg_row true)) (counted-is _ ∙ not_wrapped _ high)) few
