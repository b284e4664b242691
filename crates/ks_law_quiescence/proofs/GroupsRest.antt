-- A table aggregate is the query's where its input is, once nothing waits.
use Rattle.std.proofs.Common.{◌≡◌, ℕ, zero, suc, ◌+◌, ◌%◌, ◌^◌, ◌<◌, ◌≤◌, Bool, true, false, cond, T, List, length, [], ◌∷◌, ◌++◌, map, Option, Some, None, fold, refl, sym, ap, ap₂, subst, ◌∙◌, arith, append-nil}
use Rattle.std.specs.Prelude.{pos, option_map, option_and_then, is_none}
use Rattle.std.specs.Cmp.Lexicographic.{nat_list_cmp_total}
use Rattle.std.specs.FinMap.{slice_cmp-IsAntisymmetric, nat_cmp-IsAntisymmetric, int_cmp-IsAntisymmetric}
use Rattle.std.specs.FinMap.Entries.{where_key, is_sorted-where_key, find-where_key, same_entries}
use Rattle.ks_record.specs.declared.record.TaskId.{TaskId}
use Rattle.ks_record.specs.Parts.{same_task}
use Rattle.ks_expr.specs.Eval.{Row}
use Rattle.ks_wire.specs.declared.values.Agg.{Agg}
use Rattle.ks_plan.specs.Plan.{Plan}
use Rattle.ks_plan.specs.Plan.Kind.{TableAggregate}
use Rattle.ks_def_runs.specs.FinMap as fin
use Rattle.ks_def_runs.specs.Bytes.{by_bytes}
use Rattle.ks_def_runs.proofs.Tables.{equal}
use Rattle.ks_query.specs.Streams.{Key, Input}
use Rattle.ks_query.specs.Query.{query, grouped_rows, add_to}
use Rattle.ks_query.specs.Aggregates.{agg_row, with_members, is_zero}
use Rattle.ks_def_runs.specs.Run.{Follows, received, is_from, same_sender}
use Rattle.ks_def_runs.proofs.Sums.{sum_map, sum_map-append, times, by_senders}
use Rattle.ks_def_tasks.specs.Messages.{Place, shown, Message, Rules}
use Rattle.ks_def_tasks.specs.Messages.Stored.{OfAgg}
use Rattle.ks_def_tasks.specs.Tasks.{machine, inputs_of}
use Rattle.ks_def_tasks.specs.Rest.{IsDrained}
use Rattle.ks_def_tasks.proofs.Names.{names}
use Rattle.ks_law_quiescence.specs.AtRest.{IsQuery}
use Rattle.ks_law_quiescence.specs.Groups.{sum_of_deltas, rows_of}
use Rattle.ks_law_quiescence.specs.States.{State, state_of, row_at, home_task}
use Rattle.ks_law_topology.specs.Taken.{messages, taken_at}
use Rattle.ks_law_quiescence.proofs.AtRest.{follows, shown_sorted, shown_found, where_sum, swap_sums}
use Rattle.ks_law_quiescence.proofs.Bits.{of_bits, of_sums, bits_of, bits_back}
use Rattle.ks_law_quiescence.proofs.Counted.{counted, group_counted, no_rows_no_amount, row_member, row_amount, sum_of_deltas-is}
use Rattle.ks_law_topology.proofs.Each.{Each, each_nothing, each_first, each_parts}
use Rattle.ks_law_topology.proofs.Fits.{Fits}
use Rattle.ks_law_topology.proofs.Mixed.{Stands_at}
use Rattle.ks_query.proofs.Pointwise.{get-map_values}
use Rattle.ks_law_quiescence.proofs.Queries.{query_at, given_here}
use Rattle.ks_law_quiescence.proofs.Received.{group_place, grouped_run, no_inputs, nothing_begins, messages_sum, taken_sum, stored_sum}
use Rattle.ks_law_quiescence.proofs.Regrouped.{members_in, total_in, group_part}
use Rattle.ks_law_quiescence.proofs.SentGroups.{sent_members, sent_amounts, few_rows}
use Rattle.ks_law_quiescence.proofs.Senders.{distinct, senders_of, steps_of, steps_of-is, just_once, members_or_none, one_gives, steps_together}

module _ (rules : Rules) (p : Plan) (fits : Fits p) (records : List Input) (schedule : List (Option TaskId × Place)) (a f : ℕ) (by : List ℕ) (field : Option (List ℕ))
    (stands : Stands_at a (TableAggregate f by field) 0 p.kinds) (before : f < a) (drained : IsDrained (state_of rules p records schedule)) (few : length (state_of rules p records schedule).taken < 2 ^ 48)
    (input : IsQuery rules p records (state_of rules p records schedule) f) (g : Key) where
  abbrev st : State
  st = state_of rules p records schedule

  abbrev q : Place
  q = group_place rules p a f by field stands records g

  -- the rows of the query's input
  abbrev rows : List (Key × Row)
  rows = fin.entries ((query p records).tables f)

  abbrev kept_by : Option TaskId → Key → Bool
  kept_by s k = is_from same_task s (home_task rules p f k)

  -- a task's rows are the query's of the keys that it keeps
  rows_are : (u : TaskId) → rows_of st u f ≡ where_key by_bytes (kept_by (Some u)) rows
  rows_are u =
      let es = fin.entries ((st.stores u).tables f) in
      same_entries by_bytes nat_list_cmp_total (slice_cmp-IsAntisymmetric nat_cmp-IsAntisymmetric) (rows_of st u f) (where_key by_bytes (kept_by (Some u)) rows)
      (subst T (sym (shown_sorted es)) (fin.entries_sorted ((st.stores u).tables f)))
      (is_sorted-where_key by_bytes (kept_by (Some u)) rows (fin.entries_sorted ((query p records).tables f)))
      (λ k. shown_found k es ∙ ap (option_map shown) (sym (fin.get-entries ((st.stores u).tables f) k)) ∙ input u k
      ∙ ap (λ w. cond (same_task u (home_task rules p f k)) w None) (fin.get-entries ((query p records).tables f) k)
      ∙ sym (find-where_key by_bytes (kept_by (Some u)) k (λ x t. ap (kept_by (Some u)) (sym (slice_cmp-IsAntisymmetric nat_cmp-IsAntisymmetric k x t))) rows))

  -- senders, among them those that keep these rows
  abbrev homes : List (Key × Row) → List (Option TaskId)
  homes es = map (λ e. Some (home_task rules p f e.0)) es

  abbrev ss : List (Option TaskId)
  ss = distinct (machine rules p) (homes rows ++ senders_of (machine rules p) st.taken)

  Kept_once : Key × Row → Type 0
  Kept_once e = times (machine rules p) (Some (home_task rules p f e.0)) ss ≡ 1

  all_kept : (es : List (Key × Row)) → ((s : Option TaskId) → times (machine rules p) s (homes es) ≤ times (machine rules p) s (homes rows ++ senders_of (machine rules p) st.taken)) → Each Kept_once es
  unfolding Kept_once
  all_kept [] le = each_nothing _
  all_kept (e ∷ es) le =
      let here = le (Some (home_task rules p f e.0)) in
      let itself : same_task (home_task rules p f e.0) (home_task rules p f e.0) ≡ true = ((names rules p).tasks (home_task rules p f e.0) (home_task rules p f e.0)).1 refl in
      let one : times (machine rules p) (Some (home_task rules p f e.0)) (homes (e ∷ es)) ≡ 1 + times (machine rules p) (Some (home_task rules p f e.0)) (homes es) = ap (λ b. cond b 1 0 + times (machine rules p) (Some (home_task rules p f e.0)) (homes es)) itself in
      each_first _ e es (just_once (machine rules p) (names rules p) (Some (home_task rules p f e.0)) (homes rows ++ senders_of (machine rules p) st.taken) (omega arith))
      (all_kept es (λ s. let more = le s in omega arith))

  -- one share of all rows, by the tasks that keep them
  module _ (share : Row → ℕ) where
    abbrev kept_share : Option TaskId → ℕ
    kept_share s = sum_map (λ e. cond (kept_by s e.0) (share e.1) 0) rows

    each_once : (es : List (Key × Row)) → Each Kept_once es → sum_map (λ e. sum_map (λ s. cond (kept_by s e.0) (share e.1) 0) ss) es ≡ sum_map (λ e. share e.1) es
    unfolding Kept_once
    each_once [] h = refl
    each_once (e ∷ es) h =
        let parts = each_parts _ e es h in
        ap₂ (λ n k. n + k) (one_gives (machine rules p) (Some (home_task rules p f e.0)) (share e.1) ss parts.0) (each_once es parts.1)

    shares_together : sum_map kept_share ss ≡ sum_map (λ e. share e.1) rows
    shares_together = swap_sums (λ s e. cond (kept_by s e.0) (share e.1) 0) ss rows
        ∙ each_once rows (all_kept rows (λ s. let both = sum_map-append (λ r. cond (same_sender same_task r s) 1 0) (homes rows) (senders_of (machine rules p) st.taken) in omega arith))

    share_of_rows : (u : TaskId) → sum_map (λ e. share e.1) (rows_of st u f) ≡ kept_share (Some u)
    share_of_rows u = ap (sum_map (λ e. share e.1)) (rows_are u) ∙ where_sum (λ e. share e.1) (kept_by (Some u)) rows

    none_kept : (es : List (Key × Row)) → sum_map (λ e. cond (kept_by None e.0) (share e.1) 0) es ≡ 0
    none_kept [] = refl
    none_kept (e ∷ es) = omega (arith, none_kept es)

  got_none : received (machine rules p) None q st.taken ≡ []
  got_none = nothing_begins _ (st.waiting None q) (sym (no_inputs rules p records a (group_part rules p a f by field g)) ∙ (follows rules p fits records schedule).flow None q)

  -- what each sender gave is the share of the rows that it keeps
  gave : (in_message : Message → ℕ) (share : Row → ℕ) →
      ((u : TaskId) → sum_map in_message (messages (received (machine rules p) (Some u) q st.taken ++ st.waiting (Some u) q)) % 2 ^ 64 ≡ sum_map (λ e. share e.1) (rows_of st u f) % 2 ^ 64) →
      (s : Option TaskId) → sum_map (λ x. in_message x.message) (received (machine rules p) s q st.taken) % 2 ^ 64 ≡ kept_share share s % 2 ^ 64
  gave in_message share each None = ap (λ l. sum_map (λ x. in_message x.message) l % 2 ^ 64) got_none ∙ ap (λ n. n % 2 ^ 64) (sym (none_kept share rows))
  gave in_message share each (Some u) =
      let got = received (machine rules p) (Some u) q st.taken in
      let whole : got ++ st.waiting (Some u) q ≡ got = ap (λ l. got ++ l) (drained (Some u) q refl) ∙ append-nil got in
      ap (λ n. n % 2 ^ 64) (sym (messages_sum in_message got)) ∙ ap (λ l. sum_map in_message (messages l) % 2 ^ 64) (sym whole) ∙ each u ∙ ap (λ n. n % 2 ^ 64) (share_of_rows share u)

  sums_mod : (h k : Option TaskId → ℕ) (xs : List (Option TaskId)) → ((s : Option TaskId) → h s % 2 ^ 64 ≡ k s % 2 ^ 64) → sum_map h xs % 2 ^ 64 ≡ sum_map k xs % 2 ^ 64
  sums_mod h k [] e = refl
  sums_mod h k (x ∷ xs) e = let here = e x in let rest = sums_mod h k xs e in omega arith

  taken_is : (in_message : Message → ℕ) (share : Row → ℕ) →
      ((u : TaskId) → sum_map in_message (messages (received (machine rules p) (Some u) q st.taken ++ st.waiting (Some u) q)) % 2 ^ 64 ≡ sum_map (λ e. share e.1) (rows_of st u f) % 2 ^ 64) →
      sum_map in_message (taken_at q st.taken) % 2 ^ 64 ≡ sum_map (λ e. share e.1) rows % 2 ^ 64
  taken_is in_message share each =
      let once = members_or_none (machine rules p) (names rules p) (homes rows) q st.taken in
      ap (λ n. n % 2 ^ 64) (taken_sum rules p in_message q st.taken ∙ by_senders (machine rules p) (names rules p) (λ x. in_message x.message) q ss st.taken once)
      ∙ sums_mod _ (kept_share share) ss (gave in_message share each) ∙ ap (λ n. n % 2 ^ 64) (shares_together share)

  all_follow : Follows (machine rules p) (inputs_of rules p records) st
  all_follow = follows rules p fits records schedule

  members_are : sum_map (members_in g) (taken_at q st.taken) % 2 ^ 64 ≡ sum_map (λ e. row_member by field g e.1) rows % 2 ^ 64
  members_are = taken_is (members_in g) (row_member by field g) (λ u. sent_members rules p a f by field stands records st all_follow u g)

  amounts_are : sum_map (total_in g) (taken_at q st.taken) % 2 ^ 64 ≡ sum_map (λ e. row_amount by field g e.1) rows % 2 ^ 64
  amounts_are = taken_is (total_in g) (row_amount by field g) (λ u. sent_amounts rules p a f by field stands records st all_follow u g)

  -- the group has fewer rows than 2 ^ 48
  few_members : sum_map (λ e. row_member by field g e.1) rows ≤ length st.taken
  few_members =
      let all = shares_together (row_member by field g) in
      let steps_all = steps_together (machine rules p) (names rules p) (homes rows ++ senders_of (machine rules p) st.taken) st.taken in
      let each = sums_le (kept_share (row_member by field g)) (steps_of (machine rules p) st.taken) ss one in
      omega arith
    where
      sums_le : (h k : Option TaskId → ℕ) (xs : List (Option TaskId)) → ((s : Option TaskId) → h s ≤ k s) → sum_map h xs ≤ sum_map k xs
      sums_le h k [] le = omega arith
      sums_le h k (x ∷ xs) le = omega (arith, le x, sums_le h k xs le)

      one : (s : Option TaskId) → kept_share (row_member by field g) s ≤ steps_of (machine rules p) st.taken s
      one None = omega (arith, none_kept (row_member by field g) rows)
      one (Some u) = omega (arith, share_of_rows (row_member by field g) u, few_rows rules p a f by field stands records st all_follow u g, steps_of-is (machine rules p) u st.taken)

  with_counted : (x y : ℕ) → x < 2 ^ 48 → (x ≡ 0 → y ≡ 0) → with_members (of_sums (x % 2 ^ 64) (y % 2 ^ 64)) ≡ counted x y
  with_counted zero y lt none = refl
  with_counted (suc x) y lt none = ap (λ b. cond b None (Some (of_sums (suc x % 2 ^ 64) (y % 2 ^ 64)))) (not_zero (is_zero (of_bits (suc x % 2 ^ 64))) refl)
    where
      small : suc x % 2 ^ 64 ≡ suc x
      small = omega arith

      below : suc x < 2 ^ 64
      below = omega arith

      not_zero : (b : Bool) → is_zero (of_bits (suc x % 2 ^ 64)) ≡ b → b ≡ false
      not_zero false e = refl
      not_zero true e =
          let is : of_bits (suc x % 2 ^ 64) ≡ pos 0 = int_cmp-IsAntisymmetric (of_bits (suc x % 2 ^ 64)) (pos 0) (equal _ e) in
          let bits : suc x ≡ 0 = sym (bits_back (suc x) below) ∙ ap (λ n. bits_of (of_bits n)) (sym small) ∙ ap bits_of is in
          absurd (omega arith)

  -- the group at rest
  pub group_rests : row_at st (home_task rules p a g) a g ≡ fin.get ((query p records).tables a) g
  group_rests =
      let ms = taken_at q st.taken in
      let members = sum_map (λ e. row_member by field g e.1) rows in
      let amounts = sum_map (λ e. row_amount by field g e.1) rows in
      let answer = query_at records p a (TableAggregate f by field) stands in
      let line : Agg → Option Row = λ x. Some (agg_row (is_none field) x) in
      let small : members < 2 ^ 48 = omega (arith, few_members) in
      let stored : sum_of_deltas g ms ≡ of_sums (members % 2 ^ 64) (amounts % 2 ^ 64) = sum_of_deltas-is g ms ∙ ap₂ of_sums members_are amounts_are in
      ap (option_map shown) ((grouped_run rules p a f by field stands records schedule).groups few g)
      ∙ ap (λ x. option_map shown (stored_sum rules p a f by field stands records x)) stored
      ∙ ap (λ w. option_map shown (option_map (OfAgg (is_none field)) w)) (with_counted members amounts small (no_rows_no_amount by field g rows))
      ∙ of_group (counted members amounts)
      ∙ ap (option_and_then line) (sym (group_counted by field g rows))
      ∙ sym (ap (λ t. fin.get t g) (answer.table ∙ given_here records answer.then.tables a _)
      ∙ get-map_values nat_list_cmp_total (slice_cmp-IsAntisymmetric nat_cmp-IsAntisymmetric) line (fold (add_to {R = by_bytes} field) fin.empty (grouped_rows by (fin.entries (answer.then.tables f)))) g
      ∙ ap (λ t. option_and_then line (fin.get (fold (add_to {R = by_bytes} field) fin.empty (grouped_rows by (fin.entries t))) g)) (answer.before.tables f before))
    where
      of_group : (w : Option Agg) → option_map shown (option_map (OfAgg (is_none field)) w) ≡ option_and_then (λ x. Some (agg_row (is_none field) x)) w
      of_group None = refl
      of_group (Some x) = refl
