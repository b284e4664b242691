-- Input topics: no task sends to them, so once nothing waits what was taken there is the job's records.
use Rattle.std.proofs.Common.{◌≡◌, ℕ, suc, Bool, true, false, cond, ◌&&◌, List, [], ◌∷◌, ◌++◌, map, Option, Some, None, fold, refl, sym, ap, ap₂, ◌∙◌, nat_eq}
use Rattle.std.specs.Prelude.{option_map}
use Rattle.std.specs.List.{filter}
use Rattle.std.proofs.lemmas.Bool.{and_from}
use Rattle.std.proofs.lemmas.Bool.Decides.{Decides-eqb}
use Rattle.std.specs.Ordering.{eq_by_cmp}
use Rattle.std.specs.FinMap.{slice_cmp-IsAntisymmetric, nat_cmp-IsAntisymmetric}
use Rattle.std.specs.Cmp.Lexicographic.{nat_list_cmp_total}
use Rattle.ks_record.specs.declared.record.TaskId.{TaskId}
use Rattle.ks_record.specs.Parts.{same_task}
use Rattle.ks_expr.specs.Eval.{Row}
use Rattle.ks_plan.specs.declared.node.Topic.TheVariants.{Input as InputTopic}
use Rattle.ks_plan.specs.Plan.{Plan, Kind}
use Rattle.ks_plan.specs.Plan.Kind.{TableSource}
use Rattle.ks_plan.specs.Layout.{spread_of_topic, sub_of, is_read}
use Rattle.ks_def_runs.specs.FinMap as fin
use Rattle.ks_def_runs.specs.Table.{Change, latest}
use Rattle.ks_def_runs.specs.Bytes.{by_bytes}
use Rattle.ks_def_runs.proofs.Tables.{equal, get-latest}
use Rattle.ks_query.specs.Streams.{Key, Input, with_some}
use Rattle.ks_query.specs.Query.{of_topic, table_changes, query}
use Rattle.ks_def_runs.specs.Run.{Outcome, Taken, RunState, sent_to, received, local, run, Follows, same_channel}
use Rattle.ks_def_runs.proofs.Runs.{after, sent_to-append, received_all, Follows-run}
use Rattle.ks_def_runs.proofs.Sums.{kept_from_start, none_before}
use Rattle.ks_def_tasks.specs.Messages.{Place, same_place, Item, Store, Rules}
use Rattle.ks_def_tasks.specs.Messages.Message.{Given}
use Rattle.ks_def_tasks.specs.Step.{Arrival, Sent, of_row, over_nodes, sends_at, items_from, olds_at, news_at, step_key}
use Rattle.ks_def_tasks.specs.Tasks.{arrival, machine, step, stands_at, inputs_of, item_of_input, part_of_key}
use Rattle.ks_def_tasks.specs.Rest.{IsDrained}
use Rattle.ks_def_tasks.proofs.Names.{names}
use Rattle.ks_law_topology.specs.Taken.{messages, taken_at, change_of, changes_in}
use Rattle.ks_law_topology.proofs.Fits.{Sourced}
use Rattle.ks_law_topology.proofs.Mixed.{messages-append, picked, picked-append, picked_none, avoids_sends, made_is, Stands_at}
use Rattle.ks_law_topology.proofs.Placed.{home_task}
use Rattle.ks_law_quiescence.proofs.Sources.{latest_run}
use Rattle.ks_law_quiescence.proofs.Queries.{query_at, given_here}

pub no_messages : (xs : List Item) → messages xs ≡ [] → xs ≡ []
no_messages [] e = refl
no_messages (x ∷ xs) e = cc

pub nothing_picked : (rules : Rules) (p : Plan) (q : Place) (h : ℕ → Kind → List Sent) → ((n : ℕ) (k : Kind) → picked rules p q (h n k) ≡ []) → (n : ℕ) (ks : List Kind) → picked rules p q (over_nodes h n ks) ≡ []
nothing_picked rules p q h none n [] = refl
nothing_picked rules p q h none n (k ∷ ks) = picked-append rules p q (h n k) (over_nodes h (suc n) ks) ∙ ap₂ (λ xs ys. xs ++ ys) (none n k) (nothing_picked rules p q h none (suc n) ks)

module _ (rules : Rules) (p : Plan) where
  -- no task sends to an input topic
  nothing_sent : (u : TaskId) (t i : ℕ) (ts : List (Taken TaskId Place Item)) → sent_to (machine rules p) (record { topic = InputTopic t; part = i }) (local (machine rules p) u ((machine rules p).start u) ts).made ≡ []
  nothing_sent u t i ts = no_messages _ (kept_from_start (machine rules p) u (λ n o. messages (sent_to (machine rules p) at_input o.made) ≡ []) one refl ts)
    where
      at_input : Place
      at_input = record { topic = InputTopic t; part = i }

      one : (n : ℕ) (o : Outcome Place Store Item) (x : Taken TaskId Place Item) → same_task u ((machine rules p).reader x.place) ≡ true → messages (sent_to (machine rules p) at_input o.made) ≡ [] → messages (sent_to (machine rules p) at_input (after (machine rules p) o (step rules p u o.store x.place x.item)).made) ≡ []
      one n o x b h =
          let a : Arrival = arrival p x.place x.item in
          let key = step_key x.item.message in
          let items = items_from a (λ n. None) 0 p.kinds in
          let olds = olds_at o.store key in
          let news = news_at rules p a items olds key in
          ap messages (sent_to-append (machine rules p) at_input o.made _) ∙ messages-append (sent_to (machine rules p) at_input o.made) _
          ∙ ap₂ (λ xs ys. xs ++ ys) h
          (made_is rules p u o.store x.place at_input x.item refl
          ∙ nothing_picked rules p at_input (sends_at rules a items o.store olds news)
          (λ n k. picked_none rules p at_input _ (avoids_sends (InputTopic t) n (record { repartition = refl; subscriptions = refl; responses = refl }) rules a items o.store olds news k)) 0 p.kinds)

  nothing_begins : {A : Type 0} (xs rest : List A) → [] ≡ xs ++ rest → xs ≡ []
  nothing_begins [] rest e = refl
  nothing_begins (x ∷ xs) rest e = cc

  pub inputs_alone : (inputs : Place → List Item) (st : RunState TaskId Place Store Item) → Follows (machine rules p) inputs st → (u : TaskId) (t i : ℕ) → received (machine rules p) (Some u) (record { topic = InputTopic t; part = i }) st.taken ≡ []
  inputs_alone inputs st follows u t i = nothing_begins _ (st.waiting (Some u) (record { topic = InputTopic t; part = i })) (sym (nothing_sent u t i st.taken) ∙ follows.flow (Some u) (record { topic = InputTopic t; part = i }))

  from_inputs : (q : Place) (ts : List (Taken TaskId Place Item)) → ((u : TaskId) → received (machine rules p) (Some u) q ts ≡ []) → taken_at q ts ≡ messages (received (machine rules p) None q ts)
  from_inputs q [] none = refl
  from_inputs q (t ∷ ts) none = by_sender t.sender refl (from_inputs q ts (λ u. none_before (machine rules p) (names rules p) (Some u) q t ts (none u)))
    where
      by_sender : (s : Option TaskId) → t.sender ≡ s → taken_at q ts ≡ messages (received (machine rules p) None q ts) → taken_at q (t ∷ ts) ≡ messages (received (machine rules p) None q (t ∷ ts))
      by_sender None is rest =
          elim (same_place q t.place) as (λ b. same_place q t.place ≡ b → cond b (t.item.message ∷ taken_at q ts) (taken_at q ts) ≡ messages (cond (same_channel (machine rules p) None q t.sender t.place) (t.item ∷ received (machine rules p) None q ts) (received (machine rules p) None q ts))) [
            | true ↦ λ b. ap (λ l. t.item.message ∷ l) rest ∙ ap (λ c. messages (cond c (t.item ∷ received (machine rules p) None q ts) (received (machine rules p) None q ts))) (sym (ap (λ s. same_channel (machine rules p) None q s t.place) is ∙ b))
            | false ↦ λ b. rest ∙ ap (λ c. messages (cond c (t.item ∷ received (machine rules p) None q ts) (received (machine rules p) None q ts))) (sym (ap (λ s. same_channel (machine rules p) None q s t.place) is ∙ b))
          ] refl
      by_sender (Some u) is rest =
          elim (same_place q t.place) as (λ b. same_place q t.place ≡ b → cond b (t.item.message ∷ taken_at q ts) (taken_at q ts) ≡ messages (cond (same_channel (machine rules p) None q t.sender t.place) (t.item ∷ received (machine rules p) None q ts) (received (machine rules p) None q ts))) [
            | true ↦ λ b.
                let here : same_channel (machine rules p) (Some u) q t.sender t.place ≡ true = ap (λ s. same_channel (machine rules p) (Some u) q s t.place) is ∙ and_from (same_task u u) (same_place q t.place) (((names rules p).tasks u u).1 refl) b in
                let e : t.item ∷ received (machine rules p) (Some u) q ts ≡ [] = sym (ap (λ c. cond c (t.item ∷ received (machine rules p) (Some u) q ts) (received (machine rules p) (Some u) q ts)) here) ∙ none u in
                cc
            | false ↦ λ b. rest ∙ ap (λ c. messages (cond c (t.item ∷ received (machine rules p) None q ts) (received (machine rules p) None q ts))) (sym (ap (λ s. same_channel (machine rules p) None q s t.place) is))
          ] refl

  -- ---- a key's last value among all records is that among the records of its partition
  module _ (t : ℕ) (read : is_read p t ≡ true) (q : Key) where
    abbrev place : Place
    place = record { topic = InputTopic t; part = rules.part q (spread_of_topic p (InputTopic t)) }

    abbrev last_onto : Option Row → List (Change Key Row) → Option Row
    last_onto found cs = fold (λ found r. cond (eq_by_cmp by_bytes q r.0) r.1 found) found cs

    abbrev told_there : List Input → List (Change Key Row)
    told_there rs = changes_in (messages (map item_of_input (filter (stands_at rules p place) rs)))

    one_more : (k : Option Key) (v : Option Row) (c : Bool) (found : Option Row) (left right : List (Change Key Row)) → nat_eq (part_of_key rules p (InputTopic t) k) (rules.part q (spread_of_topic p (InputTopic t))) ≡ c →
        ((found : Option Row) → last_onto found left ≡ last_onto found right) →
        last_onto found (with_some (option_map (λ k. (k, v)) k) left) ≡ last_onto found (cond c (with_some (change_of (Given k v)) right) right)
    one_more None v true found left right e h = h found
    one_more None v false found left right e h = h found
    one_more (Some k) v true found left right e h = h (cond (eq_by_cmp by_bytes q k) v found)
    one_more (Some k) v false found left right e h =
        elim (eq_by_cmp by_bytes q k) as (λ b. eq_by_cmp by_bytes q k ≡ b → last_onto (cond b v found) left ≡ last_onto found right) [
          | true ↦ λ b.
              let is : q ≡ k = slice_cmp-IsAntisymmetric nat_cmp-IsAntisymmetric q k (equal _ b) in
              let here : nat_eq (rules.part k (spread_of_topic p (InputTopic t))) (rules.part q (spread_of_topic p (InputTopic t))) ≡ true = (Decides-eqb _ _).1 (ap (λ c. rules.part c (spread_of_topic p (InputTopic t))) (sym is)) in
              cc
          | false ↦ λ b. h found
        ] refl

    pub last_there : (rs : List Input) (found : Option Row) → last_onto found (table_changes (of_topic t rs)) ≡ last_onto found (told_there rs)
    last_there [] found = refl
    last_there (r ∷ rs) found =
        elim (nat_eq r.topic t) as (λ b. nat_eq r.topic t ≡ b →
        last_onto found (table_changes (cond b (r ∷ of_topic t rs) (of_topic t rs)))
        ≡ last_onto found (changes_in (messages (map item_of_input (cond (b && is_read p r.topic && nat_eq (part_of_key rules p (InputTopic r.topic) r.key) (rules.part q (spread_of_topic p (InputTopic t)))) (r ∷ filter (stands_at rules p place) rs) (filter (stands_at rules p place) rs)))))) [
          | true ↦ λ b.
              let is : r.topic ≡ t = (Decides-eqb r.topic t).0 b in
              let both : (is_read p r.topic && nat_eq (part_of_key rules p (InputTopic r.topic) r.key) (rules.part q (spread_of_topic p (InputTopic t)))) ≡ nat_eq (part_of_key rules p (InputTopic t) r.key) (rules.part q (spread_of_topic p (InputTopic t))) =
              ap (λ c. is_read p c && nat_eq (part_of_key rules p (InputTopic c) r.key) (rules.part q (spread_of_topic p (InputTopic t)))) is ∙ ap (λ c. c && nat_eq (part_of_key rules p (InputTopic t) r.key) (rules.part q (spread_of_topic p (InputTopic t)))) read in
              let more = one_more r.key r.value (nat_eq (part_of_key rules p (InputTopic t) r.key) (rules.part q (spread_of_topic p (InputTopic t)))) found (table_changes (of_topic t rs)) (told_there rs) refl (last_there rs) in
              more ∙ ap (last_onto found) (spread (nat_eq (part_of_key rules p (InputTopic t) r.key) (rules.part q (spread_of_topic p (InputTopic t)))))
              ∙ ap (λ c. last_onto found (changes_in (messages (map item_of_input (cond c (r ∷ filter (stands_at rules p place) rs) (filter (stands_at rules p place) rs)))))) (sym both)
          | false ↦ λ b. last_there rs found
        ] refl
      where
        spread : (c : Bool) → cond c (with_some (change_of (Given r.key r.value)) (told_there rs)) (told_there rs) ≡ changes_in (messages (map item_of_input (cond c (r ∷ filter (stands_at rules p place) rs) (filter (stands_at rules p place) rs))))
        spread true = refl
        spread false = refl

  -- ---- at rest
  module _ (n t : ℕ) (stands : Stands_at n (TableSource t) 0 p.kinds) (sourced : Sourced p t n) (records : List Input) (schedule : List (Option TaskId × Place)) where
    abbrev end : RunState TaskId Place Store Item
    end = run (machine rules p) (inputs_of rules p records) schedule

    -- once nothing waits, each key's task holds the query's row
    pub source_rests : IsDrained end → (q : Key) → fin.get ((end.stores (home_task rules p n q)).tables n) q ≡ of_row (fin.get ((query p records).tables n) q)
    source_rests drained q =
        let follows = Follows-run (machine rules p) (names rules p) (inputs_of rules p records) schedule in
        let i = rules.part q (spread_of_topic p (InputTopic t)) in
        let spot : Place = record { topic = InputTopic t; part = i } in
        let home_is : home_task rules p n q ≡ record { sub = sub_of p n; part = i } = ap (λ c. record { sub = sub_of p n; part = rules.part q c }) (sym sourced.spread) in
        let took : taken_at spot end.taken ≡ messages (inputs_of rules p records spot) =
        from_inputs spot end.taken (λ u. inputs_alone (inputs_of rules p records) end follows u t i)
        ∙ ap messages (received_all (machine rules p) (names rules p) (inputs_of rules p records) end follows None spot (drained None spot refl)) in
        let answer = query_at records p n (TableSource t) stands in
        ap (λ u. fin.get ((end.stores u).tables n) q) home_is
        ∙ latest_run rules p n t stands sourced (inputs_of rules p records) schedule i q
        ∙ ap of_row (ap (λ ms. fin.get (latest by_bytes (changes_in ms)) q) took
        ∙ get-latest nat_list_cmp_total (changes_in (messages (inputs_of rules p records spot))) q
        ∙ sym (last_there t sourced.read q records None)
        ∙ sym (get-latest nat_list_cmp_total (table_changes (of_topic t records)) q)
        ∙ ap (λ m. fin.get m q) (sym (answer.table ∙ given_here records answer.then.tables n _)))
