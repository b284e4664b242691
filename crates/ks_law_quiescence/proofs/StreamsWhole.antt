-- A stream aggregate: what is stored and what waits are together what was passed on.
use Rattle.std.proofs.Common.{◌≡◌, ℕ, Bool, true, false, List, [], ◌∷◌, ◌++◌, Option, Some, None, fold, refl, sym, ap, ap₂, ◌∙◌, arith}
use Rattle.std.specs.Prelude.{option_map, is_none}
use Rattle.std.specs.List.{flat_map}
use Rattle.ks_record.specs.declared.record.TaskId.{TaskId}
use Rattle.ks_record.specs.Parts.{same_task}
use Rattle.ks_wire.specs.declared.values.Agg.{Agg}
use Rattle.ks_plan.specs.declared.node.Topic.TheVariants.{Repartition}
use Rattle.ks_plan.specs.Plan.{Plan, Kind}
use Rattle.ks_plan.specs.Plan.Kind.{StreamAggregate}
use Rattle.ks_def_runs.specs.FinMap as fin
use Rattle.ks_def_runs.specs.Bytes.{by_bytes}
use Rattle.ks_query.specs.Streams.{Key, Input, StreamItem, grouped}
use Rattle.ks_query.specs.Query.{add_to, item_rows}
use Rattle.ks_def_runs.specs.Run.{Outcome, Taken, Follows, sent_to, received}
use Rattle.ks_def_runs.proofs.Runs.{after, sent_to-append, Follows-run}
use Rattle.ks_def_runs.proofs.Sums.{sum_map, kept_from_start}
use Rattle.ks_def_tasks.specs.Messages.{Place, agg_of, Item, Store, Rules}
use Rattle.ks_def_tasks.specs.Messages.Stored.{OfAgg}
use Rattle.ks_def_tasks.specs.Tasks.{arrival, machine, step, inputs_of}
use Rattle.ks_def_tasks.proofs.Names.{names}
use Rattle.ks_law_quiescence.specs.Groups.{place_of}
use Rattle.ks_law_quiescence.specs.States.{State, state_of, home_task}
use Rattle.ks_law_quiescence.specs.Streams.{item_of_step, passed_on, takers, all_waiting, one_joined}
use Rattle.ks_law_topology.specs.Taken.{messages, taken_at}
use Rattle.ks_law_quiescence.proofs.Counted.{counted}
use Rattle.ks_law_topology.proofs.Fits.{Fits, each_at}
use Rattle.ks_law_quiescence.proofs.Inputs.{no_messages}
use Rattle.ks_def_tasks.specs.Step.{Arrival, Values, sends_at, items_from, olds_at, news_at, step_key}
use Rattle.ks_law_topology.proofs.Mixed.{messages-append, picked, made_is, step_sends_own, apart, Stands_at}
use Rattle.ks_law_quiescence.proofs.StreamGroups.{keyed_share, item_share, one_each, amount_each, passed_share, pairs_added, joined_counted, none_of_all, taken_and_waiting, stored_run}
use Rattle.ks_law_quiescence.proofs.StreamsDirect.{both_run}

agg_back : (count : Bool) (w : Option Agg) → agg_of (option_map (OfAgg count) w) ≡ w
agg_back count None = refl
agg_back count (Some a) = refl

no_end : {A : Type 0} (xs ys : List A) → [] ≡ xs ++ ys → ys ≡ []
no_end [] ys e = sym e
no_end (x ∷ xs) ys e = cc

module _ (rules : Rules) (p : Plan) (fits : Fits p) (records : List Input) (schedule : List (Option TaskId × Place)) (n f : ℕ) (g : Key) where
  abbrev st : State
  st = state_of rules p records schedule

  abbrev follows : Follows (machine rules p) (inputs_of rules p records) st
  follows = Follows-run (machine rules p) (names rules p) (inputs_of rules p records) schedule

  -- the query's group over what was passed on
  pub passed_counted : (by field : Option (List ℕ)) → fin.get (fold (add_to {R = by_bytes} field) fin.empty (item_rows (grouped by (passed_on p f st.taken)))) g
      ≡ counted (sum_map (λ t. item_share g one_each by (item_of_step p f t)) st.taken) (sum_map (λ t. item_share g (amount_each field) by (item_of_step p f t)) st.taken)
  passed_counted by field =
      let a = passed_share g one_each p by f st.taken in
      let b = passed_share g (amount_each field) p by f st.taken in
      pairs_added field g fin.empty 0 0 (item_rows (grouped by (passed_on p f st.taken))) (λ e. refl) (fin.get-empty by_bytes g) ∙ ap₂ counted (omega arith) (omega arith)

  through_whole : (by field : Option (List ℕ)) → Stands_at n (StreamAggregate f by field true) 0 p.kinds →
      fold (one_joined field g) (agg_of (fin.get ((st.stores (home_task rules p n g)).tables n) g)) (messages (all_waiting rules p st (place_of rules p n g)))
      ≡ fin.get (fold (add_to {R = by_bytes} field) fin.empty (item_rows (grouped by (passed_on p f st.taken)))) g
  through_whole by field stands =
      let q = place_of rules p n g in
      let ms = taken_at q st.taken in
      let ws = messages (all_waiting rules p st q) in
      let a = taken_and_waiting rules p n f by field stands g one_each records st follows in
      let b = taken_and_waiting rules p n f by field stands g (amount_each field) records st follows in
      ap (λ w. fold (one_joined field g) (agg_of w) ws) (stored_run rules p n f by field stands g (inputs_of rules p records) schedule)
      ∙ ap (λ w. fold (one_joined field g) w ws) (agg_back (is_none field) (counted (sum_map (keyed_share g one_each) ms) (sum_map (keyed_share g (amount_each field)) ms)))
      ∙ joined_counted field g (sum_map (keyed_share g one_each) ms) (sum_map (keyed_share g (amount_each field)) ms) ws (none_of_all field g ms)
      ∙ ap₂ counted a b ∙ sym (passed_counted by field)

  -- where the node sends nothing, nothing waits there
  module _ (k : Kind) (stands : Stands_at n k 0 p.kinds) (silent : (x : Arrival) (items : ℕ → Option StreamItem) (store : Store) (olds news : Values) → sends_at rules x items store olds news n k ≡ []) where
    one_silent : (u : TaskId) (m : ℕ) (o : Outcome Place Store Item) (t : Taken TaskId Place Item) → same_task u ((machine rules p).reader t.place) ≡ true → messages (sent_to (machine rules p) (place_of rules p n g) o.made) ≡ [] →
        messages (sent_to (machine rules p) (place_of rules p n g) (after (machine rules p) o (step rules p u o.store t.place t.item)).made) ≡ []
    one_silent u m o t b h =
        let q = place_of rules p n g in
        let a : Arrival = arrival p t.place t.item in
        let items = items_from a (λ m. None) 0 p.kinds in
        let olds = olds_at o.store (step_key t.item.message) in
        ap messages (sent_to-append (machine rules p) q o.made _) ∙ messages-append (sent_to (machine rules p) q o.made) _
        ∙ ap₂ (λ xs ys. xs ++ ys) h (made_is rules p u o.store t.place q t.item refl ∙ step_sends_own rules p (Repartition n) n (apart n) k stands o.store a q.part
        ∙ ap (picked rules p q) (silent a items o.store olds (news_at rules p a items olds (step_key t.item.message))))

    none_sent : (u : TaskId) → st.waiting (Some u) (place_of rules p n g) ≡ []
    none_sent u =
        let q = place_of rules p n g in
        no_end (received (machine rules p) (Some u) q st.taken) (st.waiting (Some u) q) (sym (no_messages _ (kept_from_start (machine rules p) u (λ m o. messages (sent_to (machine rules p) q o.made) ≡ []) (one_silent u) refl st.taken)) ∙ follows.flow (Some u) q)

    pub none_waits : (us : List TaskId) → flat_map (λ u. st.waiting (Some u) (place_of rules p n g)) us ≡ []
    none_waits [] = refl
    none_waits (u ∷ us) = ap₂ (λ xs ys. xs ++ ys) (none_sent u) (none_waits us)

  direct_whole : (field : Option (List ℕ)) → Stands_at n (StreamAggregate f None field false) 0 p.kinds →
      fold (one_joined field g) (agg_of (fin.get ((st.stores (home_task rules p n g)).tables n) g)) (messages (all_waiting rules p st (place_of rules p n g)))
      ≡ fin.get (fold (add_to {R = by_bytes} field) fin.empty (item_rows (grouped None (passed_on p f st.taken)))) g
  direct_whole field stands =
      let h = each_at p 0 p.kinds n (StreamAggregate f None field false) fits stands in
      let both = both_run rules p fits n f field stands (h.1 refl) (h.2 refl).1 g records schedule in
      ap (λ ms. fold (one_joined field g) (agg_of (fin.get ((st.stores (home_task rules p n g)).tables n) g)) ms) (ap messages (none_waits (StreamAggregate f None field false) stands (λ x items store olds news. refl) (takers rules p st.taken)))
      ∙ ap agg_of both.stored ∙ agg_back (is_none field) _ ∙ sym (passed_counted None field)

  pub stream_whole : (by field : Option (List ℕ)) (through : Bool) → Stands_at n (StreamAggregate f by field through) 0 p.kinds →
      fold (one_joined field g) (agg_of (fin.get ((st.stores (home_task rules p n g)).tables n) g)) (messages (all_waiting rules p st (place_of rules p n g)))
      ≡ fin.get (fold (add_to {R = by_bytes} field) fin.empty (item_rows (grouped by (passed_on p f st.taken)))) g
  stream_whole by field true stands = through_whole by field stands
  stream_whole None field false stands = direct_whole field stands
  stream_whole (Some name) field false stands =
      let h = each_at p 0 p.kinds n (StreamAggregate f (Some name) field false) fits stands in
      let none : Some name ≡ None = (h.2 refl).0 in
      cc
