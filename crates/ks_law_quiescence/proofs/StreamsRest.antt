-- A stream aggregate is the query's, once nothing waits.
use Rattle.std.proofs.Common.{◌≡◌, ℕ, ◌<◌, Bool, true, false, List, length, [], ◌∷◌, ◌++◌, Option, Some, None, fold, refl, sym, ap, ap₂, subst, ◌∙◌, arith}
use Rattle.std.specs.Prelude.{option_map, option_and_then, is_none}
use Rattle.std.specs.List.{flat_map}
use Rattle.std.specs.Cmp.Lexicographic.{nat_list_cmp_total}
use Rattle.std.specs.FinMap.{slice_cmp-IsAntisymmetric, nat_cmp-IsAntisymmetric}
use Rattle.ks_record.specs.declared.record.TaskId.{TaskId}
use Rattle.ks_expr.specs.Eval.{Row}
use Rattle.ks_wire.specs.declared.values.Agg.{Agg}
use Rattle.ks_plan.specs.Plan.{Plan}
use Rattle.ks_plan.specs.Plan.Kind.{StreamAggregate}
use Rattle.ks_def_runs.specs.FinMap as fin
use Rattle.ks_def_runs.specs.Bytes.{by_bytes}
use Rattle.ks_query.specs.Streams.{Key, Input, StreamItem, grouped}
use Rattle.ks_query.specs.Query.{query, add_to, item_rows}
use Rattle.ks_query.specs.Aggregates.{agg_row}
use Rattle.ks_def_runs.proofs.Sums.{sum_map, sum_map-same}
use Rattle.ks_def_tasks.specs.Messages.{Place, Stored, shown, agg_of, Rules}
use Rattle.ks_def_tasks.specs.Messages.Stored.{OfAgg}
use Rattle.ks_def_tasks.specs.Tasks.{inputs_of}
use Rattle.ks_def_tasks.specs.Rest.{IsDrained}
use Rattle.ks_law_quiescence.specs.Groups.{place_of}
use Rattle.ks_law_quiescence.specs.States.{State, state_of, row_at, home_task}
use Rattle.ks_law_quiescence.specs.Streams.{item_of_step, passed_on, takers, one_joined}
use Rattle.ks_law_topology.specs.Taken.{messages}
use Rattle.ks_law_quiescence.proofs.Counted.{counted}
use Rattle.ks_law_topology.proofs.Fits.{Fits, each_at}
use Rattle.ks_law_quiescence.proofs.ItemsRest.{opt_share, items_rest}
use Rattle.ks_law_topology.proofs.Mixed.{messages-append, Stands_at}
use Rattle.ks_query.proofs.Pointwise.{get-map_values}
use Rattle.ks_law_quiescence.proofs.Queries.{query_at, given_here}
use Rattle.ks_law_quiescence.proofs.StreamGroups.{item_share, one_each, amount_each, items_share, pairs_added, stored_run}
use Rattle.ks_law_quiescence.proofs.StreamsDirect.{both_run}
use Rattle.ks_law_quiescence.proofs.StreamsWhole.{stream_whole, passed_counted}

module _ (rules : Rules) (p : Plan) (fits : Fits p) (records : List Input) (schedule : List (Option TaskId × Place)) (n f : ℕ) (by field : Option (List ℕ)) (through : Bool)
    (stands : Stands_at n (StreamAggregate f by field through) 0 p.kinds) (within : f < length p.kinds) (before : f < n) (drained : IsDrained (state_of rules p records schedule)) (g : Key) where
  abbrev st : State
  st = state_of rules p records schedule

  abbrev stored : Option Stored
  stored = fin.get ((st.stores (home_task rules p n g)).tables n) g

  abbrev IsAggregate : Option Stored → Type 0
  IsAggregate w = w ≡ option_map (OfAgg (is_none field)) (agg_of w)

  of_counted : (w : Option Agg) → IsAggregate (option_map (OfAgg (is_none field)) w)
  of_counted None = refl
  of_counted (Some a) = refl

  stored_form : (b : Bool) (k : Option (List ℕ)) → Stands_at n (StreamAggregate f k field b) 0 p.kinds → IsAggregate stored
  stored_form true k s = subst IsAggregate (sym (stored_run rules p n f k field s g (inputs_of rules p records) schedule)) (of_counted _)
  stored_form false None s =
      let h = each_at p 0 p.kinds n (StreamAggregate f None field false) fits s in
      subst IsAggregate (sym (both_run rules p fits n f field s (h.1 refl) (h.2 refl).1 g records schedule).stored) (of_counted _)
  stored_form false (Some name) s =
      let h = each_at p 0 p.kinds n (StreamAggregate f (Some name) field false) fits s in
      let none : Some name ≡ None = (h.2 refl).0 in
      cc

  nothing_waits : (us : List TaskId) → messages (flat_map (λ u. st.waiting (Some u) (place_of rules p n g)) us) ≡ []
  nothing_waits [] = refl
  nothing_waits (u ∷ us) = messages-append (st.waiting (Some u) (place_of rules p n g)) _ ∙ ap₂ (λ xs ys. xs ++ ys) (ap messages (drained (Some u) (place_of rules p n g) refl)) (nothing_waits us)

  -- the query's group, over the items of the query
  query_counted : fin.get (fold (add_to {R = by_bytes} field) fin.empty (item_rows (grouped by ((query p records).items f)))) g
      ≡ counted (sum_map (λ t. item_share g one_each by (item_of_step p f t)) st.taken) (sum_map (λ t. item_share g (amount_each field) by (item_of_step p f t)) st.taken)
  query_counted =
      let xs = (query p records).items f in
      let a = items_share g one_each by xs in
      let b = items_share g (amount_each field) by xs in
      let c = same_sum one_each in
      let d = same_sum (amount_each field) in
      pairs_added field g fin.empty 0 0 (item_rows (grouped by xs)) (λ e. refl) (fin.get-empty by_bytes g) ∙ ap₂ counted (omega arith) (omega arith)
    where
      same_item : (w : Row → ℕ) (i : Option StreamItem) → opt_share (λ x. item_share g w by (Some x)) i ≡ item_share g w by i
      same_item w None = refl
      same_item w (Some x) = refl

      same_sum : (w : Row → ℕ) → sum_map (λ t. item_share g w by (item_of_step p f t)) st.taken ≡ sum_map (λ x. item_share g w by (Some x)) ((query p records).items f)
      same_sum w = sum_map-same _ _ st.taken (λ t. sym (same_item w (item_of_step p f t))) ∙ items_rest rules p fits records schedule drained f within (λ x. item_share g w by (Some x))

  pub stream_rests : row_at st (home_task rules p n g) n g ≡ fin.get ((query p records).tables n) g
  stream_rests =
      let line : Agg → Option Row = λ x. Some (agg_row (is_none field) x) in
      let answer = query_at records p n (StreamAggregate f by field through) stands in
      let whole = stream_whole rules p fits records schedule n f g by field through stands in
      let waits = nothing_waits (takers rules p st.taken) in
      let agg : agg_of stored ≡ fin.get (fold (add_to {R = by_bytes} field) fin.empty (item_rows (grouped by (passed_on p f st.taken)))) g = ap (λ ms. fold (one_joined field g) (agg_of stored) ms) (sym waits) ∙ whole in
      ap (option_map shown) (stored_form through by stands) ∙ of_agg (agg_of stored)
      ∙ ap (option_and_then line) (agg ∙ passed_counted rules p fits records schedule n f g by field ∙ sym query_counted)
      ∙ sym (ap (λ t. fin.get t g) (answer.table ∙ given_here records answer.then.tables n _)
      ∙ get-map_values nat_list_cmp_total (slice_cmp-IsAntisymmetric nat_cmp-IsAntisymmetric) line (fold (add_to {R = by_bytes} field) fin.empty (item_rows (grouped by (answer.then.items f)))) g
      ∙ ap (λ xs. option_and_then line (fin.get (fold (add_to {R = by_bytes} field) fin.empty (item_rows (grouped by xs))) g)) (answer.before.items f before))
    where
      of_agg : (w : Option Agg) → option_map shown (option_map (OfAgg (is_none field)) w) ≡ option_and_then (λ x. Some (agg_row (is_none field) x)) w
      of_agg None = refl
      of_agg (Some x) = refl
