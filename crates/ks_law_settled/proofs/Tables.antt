-- The folds of a settled journal's changelogs are the query's tables, for all kinds of nodes.
use Rattle.std.proofs.Common.{◌≡◌, ℕ, zero, suc, ◌+◌, ◌<◌, ◌≤◌, ◌^◌, Bool, true, false, cond, ◌&&◌, List, length, [], ◌∷◌, map, Option, None, refl, sym, ap, ap₂, subst, ◌∙◌, arith}
use Rattle.std.specs.Prelude.{option_map, ◌==◌, ◌-◌, not}
use Rattle.std.specs.List.{AllByRecursion}
use Rattle.std.specs.Cmp.Lexicographic.{nat_list_cmp_total}
use Rattle.std.specs.FinMap.{slice_cmp-IsAntisymmetric, nat_cmp-IsAntisymmetric}
use Rattle.std.proofs.lemmas.List.{length-map}
use Rattle.std.proofs.lemmas.Bool.{eq-eqb}
use Rattle.std.proofs.lemmas.Bool.Decides.{Decides-eqb}
use Rattle.ks_record.specs.Texts.{key_from}
use Rattle.ks_record.specs.Records.{Record as Rec}
use Rattle.ks_record.specs.declared.record.TaskId.{TaskId}
use Rattle.ks_record.specs.Parts.{same_task}
use Rattle.ks_expr.specs.Eval.{Row}
use Rattle.ks_plan.specs.Drafts.{Name, DraftView}
use Rattle.ks_plan.specs.Plan.{Plan, Kind, Window, plan_of, known_nodes, node_number, is_stream, is_windowed}
use Rattle.ks_plan.specs.Plan.Kind.{StreamSource, TableSource, StreamFilter, TableFilter, StreamMap, TableMap, KeySelected, StreamAggregate, TableAggregate, Windowed, KeyJoin, ForeignKeyJoin}
use Rattle.ks_plan.specs.declared.node.Topic.TheVariants.{Changelog}
use Rattle.ks_plan.specs.Layout.{parts_of, kind_at, number_of, sub_of, reads, spread_of}
use Rattle.ks_def_runs.specs.FinMap as fin
use Rattle.ks_def_runs.specs.FinMap.{FinMap}
use Rattle.ks_def_runs.specs.Bytes.{by_bytes, Store, empty_store}
use Rattle.ks_wire.specs.declared.values.Agg.{Agg}
use Rattle.ks_wire.specs.Reading.{agg_from, window_key_from}
use Rattle.ks_def_runs.specs.Run.{initial}
use Rattle.ks_history.specs.declared.journal.Entry.{Entry}
use Rattle.ks_history.specs.State.{State, Setup}
use Rattle.ks_history.specs.History.{at}
use Rattle.ks_history.specs.Faithful.{capped}
use Rattle.ks_history.specs.Faithful as history
use Rattle.ks_history.specs.Replay.{replay, run_of}
use Rattle.ks_law_exactly_once.proofs.Replays.{tells_stores, tells_late, settled_is_empty}
use Rattle.ks_law_exactly_once.proofs.Counts.{is_short}
use Rattle.ks_query.specs.Streams.{Key, Input}
use Rattle.ks_query.specs.Query.{query}
use Rattle.ks_query.specs.Windows.{WindowKey, by_window}
use Rattle.ks_query.specs.Aggregates.{agg_row}
use Rattle.ks_query.specs.Grace.{IsWithinGrace}
use Rattle.ks_query.specs.Printed.{plain_row, window_row, rows_at, table_at, job_tables}
use Rattle.ks_query.specs.declared.table.Table.{Table}
use Rattle.ks_def_tasks.specs.Messages.{Place, Item, Stored, shown, Rules}
use Rattle.ks_def_tasks.specs.Collision.{IsNode, NoCollision}
use Rattle.ks_def_tasks.specs.Tasks.{machine, inputs_of}
use Rattle.ks_def_tasks.specs.Bytes.{rec_of, part_id, map_from, stored_from, pairs_of}
use Rattle.ks_def_tasks.specs.Rest.{IsDrained, home}
use Rattle.ks_def_tasks.proofs.Each.{AllOf}
use Rattle.ks_law_quiescence.specs.States.{home_task, State as RunOf}
use Rattle.ks_law_quiescence.specs.AtRest.{IsQuery}
use Rattle.ks_law_quiescence.specs.Windows.{late_pairs, late_of_windows, late_of_nodes}
use Rattle.ks_law_topology.proofs.Fits.{Fits, node_stands}
use Rattle.ks_law_topology.proofs.WellFormed.{well_formed_fits}
use Rattle.ks_law_quiescence.proofs.WindowGroups.{window_total, window_same}
use Rattle.ks_law_quiescence.proofs.WindowsRest.{window_rests}
use Rattle.ks_law_quiescence.proofs.LateTotals.{late_is_all}
use Rattle.ks_law_fk_quiescence.specs.AtRest.{is_table}
use Rattle.ks_law_fk_quiescence.specs.Windows.{members_in, exactly}
use Rattle.ks_law_fk_quiescence.proofs.TableInputs.{table_inputs}
use Rattle.ks_law_fk_quiescence.proofs.TablesRest.{tables_rest}
use Rattle.ks_law_fk_quiescence.proofs.WindowCounts.{windows_count_less}
use Rattle.ks_law_topology.specs.Work.{setup_of}
use Rattle.ks_law_topology.proofs.Networks.{works_are_networks}
use Rattle.ks_law_settled.proofs.Times.{nothing_is_late}
use Rattle.ks_law_settled.specs.Folded.{log_part, fold_pairs, node_rows}
use Rattle.ks_law_settled.proofs.Lists.{EachNode, at_node}
use Rattle.ks_def_tasks.proofs.Names.{same_task-is}
use Rattle.ks_law_settled.proofs.Topics.{IsPlace}
use Rattle.ks_law_settled.specs.Replayed.{decoded_choice, decoded_choices, decoded_run}
use Rattle.ks_law_settled.proofs.Replays as replays
use Rattle.ks_law_settled.proofs.Choices.{taken_few}
use Rattle.ks_law_settled.proofs.Rows as rows
use Rattle.ks_law_settled.specs.Folded.{node_windows, folded_rows, folded_table}
use Rattle.ks_law_settled.specs.Settled.{IsRunOf, excess_at, excess_of}
use Rattle.ks_law_settled.proofs.WholeNodes.{Whole, NodeIs, nodes_are, IsOwned}
use Rattle.ks_law_settled.proofs.Steps.{FitsItem, IsKept, Held, node_at}
use Rattle.ks_law_settled.proofs.Agreement.{IsWindowed, windowed_is, table_owned, windowed_within}
use Rattle.ks_law_settled.proofs.Bounded.{windows_fit, nodes_few, run_late}
use Rattle.ks_law_settled.proofs.Runs.{Same}
use Rattle.ks_law_settled.proofs.WindowRows as windows
use Rattle.ks_law_settled.proofs.Printed.{prints_tables}
use Rattle.ks_law_topology.proofs.Few.{have_few}

shown_members : (n : ℕ) → members_in (option_map (agg_row true) (exactly n)) ≡ n
shown_members zero = refl
shown_members (suc n) = refl

module _ (rules : Rules) (d : DraftView) (records : List Input) (journal : List Entry) (ended : IsRunOf rules d records journal) where
  abbrev pub p : Plan
  p = plan_of d

  abbrev pub setup : Setup
  setup = setup_of rules p

  abbrev pub settled_state : State
  settled_state = at setup journal

  abbrev fits : Fits p
  fits = well_formed_fits d ended.job.well

  abbrev pub whole : Whole p
  whole = record { spelled = ended.job.spelled; fits = fits; few = have_few d ended.job.well }

  abbrev pub choices : List (Option TaskId × Place)
  choices = decoded_choices p (replay setup journal)

  abbrev pub run : RunOf
  run = decoded_run rules p records journal

  -- the decoded run of the journal's steps has what its run over bytes has
  pub same_run : Same rules p (FitsItem rules p) (IsKept rules p) (Held rules p) (run_of setup journal) run
  same_run = replays.same_run rules d records journal ended.job ended.done.history ended.done.produced

  pub drained : IsDrained run
  drained s q log = by (run.waiting s q) refl
    where
      by : (xs : List Item) → run.waiting s q ≡ xs → xs ≡ []
      by [] e = refl
      by (x ∷ xs) e =
          let place : IsPlace p q = (subst (AllOf (FitsItem rules p q)) e (same_run.fit s q log)).0.0 in
          let t : TaskId = record { sub = reads p q.topic; part = q.part } in
          let none : (run_of setup journal).waiting s (part_id p q) ≡ [] =
          settled_is_empty setup journal (works_are_networks rules p) ended.done.history ended.done.settled s t (number_of p q.topic) place.task place.topic.read in
          let some : [] ≡ map rec_of (x ∷ xs) = sym none ∙ same_run.waits s q place.topic ∙ ap (map rec_of) e in
          absurd (nothing some)
        where
          nothing : {y : Rec} {ys : List Rec} → [] ≡ y ∷ ys → ⊥
          nothing e = cc

  pub few : length run.taken < 2 ^ 48
  few =
      let steps : length run.taken ≤ 0 + length choices = taken_few (machine rules p) (initial (machine rules p) (inputs_of rules p records)) choices in
      let long : length choices ≡ length (replay setup journal) = length-map (replay setup journal) (decoded_choice p) in
      omega (arith, is_short setup journal (works_are_networks rules p) ended.done.history, ended.done.few)

  -- the committed late total is the run's
  pub late_is : settled_state.late ≡ capped run.late
  late_is = tells_late setup journal (works_are_networks rules p) ended.done.history ∙ ap capped same_run.late

  -- ---- the fold of a node's changelog is its task's store
  module _ (n : ℕ) (lt : n < length p.kinds) (table : is_stream (kind_at p n) ≡ false) where
    abbrev task : ℕ → TaskId
    task part = record { sub = sub_of p n; part = part }

    abbrev log : IsOwned p whole (Changelog n)
    log = table_owned rules p whole ended.job.parts ended.job.have ended.job.hashes n lt table

    fold_is : (part : ℕ) → history.fold settled_state (log_part p n part) ≡ (run_of setup journal).stores (task part) (number_of p (Changelog n))
    fold_is part =
        sym (ap (λ b. cond b (history.fold settled_state (log_part p n part)) empty_store) log.own)
        ∙ sym (ap (λ (l : ℕ → Store). l (number_of p (Changelog n))) (tells_stores setup journal (works_are_networks rules p) ended.done.history (task part)))

    -- as pairs of the node's own changelog
    abbrev stores : ℕ → ℕ → Store
    stores part = (run_of setup journal).stores (task part)

    own_pairs : (part : ℕ) → fold_pairs p settled_state n part ≡ pairs_of p (sub_of p n) (stores part) (Changelog n)
    own_pairs part =
        ap (λ (m : Store). fin.entries m) (fold_is part)
        ∙ sym (ap (λ c. cond c (fin.entries (stores part (number_of p (Changelog n)))) []) ((Decides-eqb (sub_of p n) (sub_of p n)).1 refl))

    -- a key's row stands in a partition that there is
    home_below : (k : Key) → home rules p n k < parts_of p n
    home_below k = ended.job.parts k (spread_of p n) (ended.job.have n lt)

    -- ---- a table
    module _ (plain : is_windowed (kind_at p n) ≡ false) where
      table_is : (part : ℕ) → map_from by_bytes key_from (stored_from (kind_at p n)) (fold_pairs p settled_state n part) ≡ (run.stores (task part)).tables n
      table_is part =
          ap (map_from by_bytes key_from (stored_from (kind_at p n))) (own_pairs part)
          ∙ sym (ap (λ w. cond w fin.empty (map_from by_bytes key_from (stored_from (kind_at p n)) (pairs_of p (sub_of p n) (stores part) (Changelog n)))) plain)
          ∙ sym (ap (λ (l : _). l.tables n) (same_run.stores (task part)))

      abbrev answer : Key → Option Row
      answer k = fin.get ((query p records).tables n) k

      -- a partition has the query's row where it is the key's
      only : IsQuery rules p records run n → (k : Key) (part : ℕ) → rows.in_part p settled_state n k part ≡ cond (part == home rules p n k) (answer k) None
      only rest k part =
          ap (λ (m : FinMap by_bytes Stored). option_map shown (fin.get m k)) (table_is part)
          ∙ rest (task part) k
          ∙ ap (λ b. cond (b && (part == home rules p n k)) (answer k) None) (eq-eqb (sub_of p n) (sub_of p n) refl)

      pub rows_are : IsQuery rules p records run n → node_rows p settled_state n ≡ (query p records).tables n
      rows_are rest = fin.same_map nat_list_cmp_total (slice_cmp-IsAntisymmetric nat_cmp-IsAntisymmetric) _ _
          (λ k. rows.rows_at_key p settled_state n k (home rules p n k) (answer k) (only rest k) (parts_of p n) (λ le. let lt : home rules p n k < parts_of p n = home_below k in absurd (omega (arith, le, lt))))

    -- ---- a windowed count
    module _ (counts : is_windowed (kind_at p n) ≡ true) where
      abbrev of_it : IsWindowed (kind_at p n)
      of_it = windowed_is (kind_at p n) counts

      counts_are : (part : ℕ) → map_from by_window window_key_from agg_from (fold_pairs p settled_state n part) ≡ (run.stores (task part)).counts n
      counts_are part =
          ap (map_from by_window window_key_from agg_from) (own_pairs part)
          ∙ sym (ap (λ w. cond w (map_from by_window window_key_from agg_from (pairs_of p (sub_of p n) (stores part) (Changelog n))) fin.empty) counts)
          ∙ sym (ap (λ (l : _). l.counts n) (same_run.stores (task part)))

      -- over all partitions it has what the home task of each group stores
      module _ (k : WindowKey) (stored : Option Agg) (is : (u : TaskId) → fin.get ((run.stores u).counts n) k ≡ cond (same_task u (home_task rules p n k.0)) stored None) where
        count_only : (part : ℕ) → windows.in_part p settled_state n k part ≡ cond (part == home rules p n k.0) (option_map (agg_row true) stored) None
        count_only part =
            ap (λ (m : FinMap by_window Agg). option_map (agg_row true) (fin.get m k)) (counts_are part)
            ∙ ap (option_map (agg_row true)) (is (task part))
            ∙ ap (λ b. option_map (agg_row true) (cond (b && (part == home rules p n k.0)) stored None)) (eq-eqb (sub_of p n) (sub_of p n) refl)
            ∙ by (part == home rules p n k.0)
          where
            by : (b : Bool) → option_map (agg_row true) (cond b stored None) ≡ cond b (option_map (agg_row true) stored) None
            by true = refl
            by false = refl

        pub count_is : fin.get (node_windows p settled_state n) k ≡ option_map (agg_row true) stored
        count_is = windows.windows_at p settled_state n k (home rules p n k.0) (option_map (agg_row true) stored) count_only (parts_of p n) (home_below k.0)

  -- ---- the query, where no two rows collide in the run
  table_kind : (k : Kind) → is_stream k ≡ false → is_windowed k ≡ false → is_table k ≡ true
  table_kind k a b = ap₂ (λ (x y : Bool). not x && not y) a b

  pub table_rows : NoCollision rules p run → (n : ℕ) → n < length p.kinds → is_stream (kind_at p n) ≡ false → is_windowed (kind_at p n) ≡ false → node_rows p settled_state n ≡ (query p records).tables n
  table_rows none n lt table plain = rows_are n lt table plain
      (tables_rest rules p fits records choices (record { drained = drained; few = few; none_collides = none }) (table_inputs d ended.job.well) n (table_kind (kind_at p n) table plain))

  -- ---- windowed counts, whatever collides
  pub record Window_is (n : ℕ) (k : WindowKey) : Type 0 where
    pub count : ℕ
    pub stored : fin.get (node_windows p settled_state n) k ≡ option_map (agg_row true) (exactly count)
    pub asked : fin.get ((query p records).windows n) k ≡ option_map (agg_row true) (exactly (count + late_pairs rules p n k run.taken))

  module _ (n f : ℕ) (by : Option Name) (w : Window) (through : Bool) (node : NodeIs p whole n (Windowed f by w through)) where
    counts_here : is_windowed (kind_at p n) ≡ true
    counts_here = ap is_windowed node.kind

    no_table_here : is_stream (kind_at p n) ≡ false
    no_table_here = ap is_stream node.kind

    before : f < n
    before = node.fits.0

    pub window_is : (k : WindowKey) → Window_is n k
    window_is k =
        let h = windows_count_less rules p fits records choices n f w k (omega (arith, before, node.within)) before drained few by through (node_stands p n (Windowed f by w through) node.there) in
        record { count = h.count; stored = count_is n node.within no_table_here counts_here k (exactly h.count) h.stored; asked = h.shown }

    -- where nothing was late
    one_rests : run.late ≡ 0 → (k : WindowKey) → fin.get (node_windows p settled_state n) k ≡ fin.get ((query p records).windows n) k
    one_rests none k =
        let stands = node_stands p n (Windowed f by w through) node.there in
        let home : TaskId = home_task rules p n k.0 in
        let h = windows_count_less rules p fits records choices n f w k (omega (arith, before, node.within)) before drained few by through stands in
        let here : same_task home home ≡ true = (same_task-is home home).1 refl in
        count_is n node.within no_table_here counts_here k (exactly h.count) h.stored
        ∙ sym (ap (option_map (agg_row true)) (h.stored home ∙ ap (λ b. cond b (exactly h.count) None) here))
        ∙ window_rests rules p fits records choices n f w (omega (arith, before, node.within)) before drained k by through stands none home
        ∙ ap (λ b. cond b (fin.get ((query p records).windows n) k) None) here

    pub windows_are : run.late ≡ 0 → node_windows p settled_state n ≡ (query p records).windows n
    windows_are none = fin.same_map window_total window_same _ _ (one_rests none)

    -- by how much one lacks
    one_lacks : (k : WindowKey) → (members_in (fin.get (node_windows p settled_state n) k) ≤ members_in (fin.get ((query p records).windows n) k))
        × (members_in (fin.get ((query p records).windows n) k) - members_in (fin.get (node_windows p settled_state n) k) ≡ late_pairs rules p n k run.taken)
    one_lacks k =
        let h = window_is k in
        let stored : members_in (fin.get (node_windows p settled_state n) k) ≡ h.count = ap members_in h.stored ∙ shown_members h.count in
        let asked : members_in (fin.get ((query p records).windows n) k) ≡ h.count + late_pairs rules p n k run.taken = ap members_in h.asked ∙ shown_members (h.count + late_pairs rules p n k run.taken) in
        (omega (arith, stored, asked), omega (arith, stored, asked))

    windows_lack : (ks : List WindowKey) → excess_at p records settled_state n ks ≡ late_of_windows rules p n run.taken ks
    windows_lack [] = refl
    windows_lack (k ∷ ks) = ap₂ (λ a b. a + b) (one_lacks k).1 (windows_lack ks)

  nodes_lack : (n : ℕ) (ks : List Kind) → EachNode (NodeIs p whole) n ks → excess_of p records settled_state n ks ≡ late_of_nodes rules p records run.taken n ks
  nodes_lack n [] h = refl
  nodes_lack n (k ∷ ks) h = ap₂ (λ a b. a + b) (one k h.0) (nodes_lack (suc n) ks h.1)
    where
      one : (k : Kind) → NodeIs p whole n k → cond (is_windowed k) (excess_at p records settled_state n (fin.keys ((query p records).windows n))) 0 ≡ cond (is_windowed k) (late_of_windows rules p n run.taken (fin.keys ((query p records).windows n))) 0
      one (Windowed f by w through) node = windows_lack n f by w through node (fin.keys ((query p records).windows n))
      one (StreamSource t) node = refl
      one (TableSource t) node = refl
      one (StreamFilter f x) node = refl
      one (TableFilter f x) node = refl
      one (StreamMap f s) node = refl
      one (TableMap f s) node = refl
      one (KeySelected f x) node = refl
      one (StreamAggregate f by field through) node = refl
      one (TableAggregate f by field) node = refl
      one (KeyJoin l r kind s) node = refl
      one (ForeignKeyJoin l r fk kind s) node = refl

  -- so few steps drop fewer pairs than would stop the total
  pub late_exactly : settled_state.late ≡ run.late
  late_exactly = late_is ∙ whole_late run.late (omega (arith, run_late rules p (windows_fit d ended.job.well) (nodes_few d ended.job.well) records choices, few))
    where
      whole_late : (n : ℕ) → n < 2 ^ 64 → capped n ≡ n
      whole_late n lt = omega (arith, lt)

  pub total_lack : settled_state.late ≡ excess_of p records settled_state 0 p.kinds
  total_lack = late_exactly ∙ sym (nodes_lack 0 p.kinds (nodes_are p whole) ∙ late_is_all rules p fits records choices drained)

  pub counts_at_most : (n f : ℕ) (by : Option Name) (w : Window) (through : Bool) → IsNode p n (Windowed f by w through) → (k : WindowKey) → members_in (fin.get (node_windows p settled_state n) k) ≤ members_in (fin.get ((query p records).windows n) k)
  counts_at_most n f by w through is k = (one_lacks n f by w through (at_node (NodeIs p whole) p.kinds (nodes_are p whole) n (Windowed f by w through) is) k).0

  -- ---- what was late
  pub none_was_late : settled_state.late ≡ 0 → run.late ≡ 0
  none_was_late e = of_capped run.late (sym late_is ∙ e)
    where
      of_capped : (n : ℕ) → capped n ≡ 0 → n ≡ 0
      of_capped n e = omega (arith, e)

  pub in_time_none : IsWithinGrace p records → settled_state.late ≡ 0
  in_time_none grace = late_is ∙ ap capped (nothing_is_late rules d records choices ended.job.well grace)

  -- ---- one printed node
  node_table : NoCollision rules p run → (n : ℕ) → n < length p.kinds → is_stream (kind_at p n) ≡ false → is_windowed (kind_at p n) ≡ false → folded_rows p settled_state n ≡ rows_at p (query p records) n
  node_table none n lt table plain =
      ap (λ w. cond w (map window_row (fin.entries (node_windows p settled_state n))) (map plain_row (fin.entries (node_rows p settled_state n)))) plain
      ∙ ap (λ (m : FinMap by_bytes Row). map plain_row (fin.entries m)) (table_rows none n lt table plain)
      ∙ sym (ap (λ w. cond w (map window_row (fin.entries ((query p records).windows n))) (map plain_row (fin.entries ((query p records).tables n)))) plain)

  node_windowed : run.late ≡ 0 → (n : ℕ) → is_windowed (kind_at p n) ≡ true → folded_rows p settled_state n ≡ rows_at p (query p records) n
  node_windowed late n counts =
      let w = windowed_is (kind_at p n) counts in
      let k = node_at rules p whole ended.job.parts ended.job.have ended.job.hashes n (windowed_within rules p whole ended.job.parts ended.job.have ended.job.hashes n counts) in
      let node : NodeIs p whole n (Windowed w.f w.by w.w w.through) = subst (NodeIs p whole n) (sym k.1.kind ∙ w.is) k.1 in
      ap (λ w. cond w (map window_row (fin.entries (node_windows p settled_state n))) (map plain_row (fin.entries (node_rows p settled_state n)))) counts
      ∙ ap (λ (m : FinMap by_window Row). map window_row (fin.entries m)) (windows_are n w.f w.by w.w w.through node late)
      ∙ sym (ap (λ w. cond w (map window_row (fin.entries ((query p records).windows n))) (map plain_row (fin.entries ((query p records).tables n)))) counts)

  any_node : NoCollision rules p run → run.late ≡ 0 → (n : ℕ) → n < length p.kinds → is_stream (kind_at p n) ≡ false → folded_rows p settled_state n ≡ rows_at p (query p records) n
  any_node none late n lt table = by (is_windowed (kind_at p n)) refl
    where
      by : (b : Bool) → is_windowed (kind_at p n) ≡ b → folded_rows p settled_state n ≡ rows_at p (query p records) n
      by true e = node_windowed late n e
      by false e = node_table none n lt table e

  abbrev number : Name → ℕ
  number name = node_number (known_nodes d) name

  names_same : NoCollision rules p run → run.late ≡ 0 → (names : List Name) → AllByRecursion (λ name. (number name < length p.kinds) × (is_stream (kind_at p (number name)) ≡ false)) names →
      map (folded_table d settled_state) names ≡ map (table_at d (query p records)) names
  names_same none late [] h = refl
  names_same none late (name ∷ names) h = ap₂ (λ (x : Table) xs. x ∷ xs) (ap (λ r. record { name = name; rows = r }) (any_node none late (number name) h.0.0 h.0.1)) (names_same none late names h.1)

  names_plain : NoCollision rules p run → (names : List Name) → AllByRecursion (λ name. (number name < length p.kinds) × (is_stream (kind_at p (number name)) ≡ false)) names →
      AllByRecursion (λ (name : Name). is_windowed (kind_at p (number name)) ≡ false → folded_table d settled_state name ≡ table_at d (query p records) name) names
  names_plain none [] h = tt
  names_plain none (name ∷ names) h = (λ plain. ap (λ r. record { name = name; rows = r }) (node_table none (number name) h.0.0 h.0.1 plain), names_plain none names h.1)

  pub tables_same : NoCollision rules p run → settled_state.late ≡ 0 → map (folded_table d settled_state) d.print ≡ job_tables d records
  tables_same none late = names_same none (none_was_late late) d.print (prints_tables d ended.job.well)

  pub plain_same : NoCollision rules p run → AllByRecursion (λ (name : Name). is_windowed (kind_at p (number name)) ≡ false → folded_table d settled_state name ≡ table_at d (query p records) name) d.print
  plain_same none = names_plain none d.print (prints_tables d ended.job.well)
