-- How many pairs of an item and a window a run can drop.
use Rattle.std.proofs.Common.{◌≡◌, ℕ, zero, suc, ◌+◌, ◌-◌, ◌*◌, ◌<◌, ◌≤◌, ◌/◌, Bool, true, false, cond, not, ◌&&◌, List, length, [], ◌∷◌, ◌++◌, map, Option, None, Some, fold, refl, sym, ap, subst, ◌∙◌, arith, append_assoc, append-nil, length-append, nat_lt, ⊎_elim}
use Rattle.std.specs.Prelude.{ℤ, pos, negsuc, int_le, ◌*ℤ◌, codes}
use Rattle.std.specs.List.{filter, AllByRecursion}
use Rattle.std.proofs.Math.Nat.{div-mul-le_self, mul-le-mul_right}
use Rattle.std.proofs.lemmas.Bool.{and_parts, cases_lt, le-ltb, leb-true, ltb-false}
use Rattle.std.proofs.lemmas.List.Sums.{fold-append}
use Rattle.std.proofs.lemmas.List.Elements.{filter-append}
use Rattle.ks_record.specs.declared.record.TaskId.{TaskId}
use Rattle.ks_plan.specs.declared.fault.TopoFault.TheVariants.{TooMany, BadWindow}
use Rattle.ks_plan.specs.Drafts.{Name, OpView, StreamOf, TableOf, FilterOf, MapOf, KeyOf, CountOf, SumOf, WindowedOf, JoinOf, FkJoinOf, NodeView, DraftView}
use Rattle.ks_plan.specs.Plan.{Plan, Kind, Window, Known, natural, or_number, window_of, is_stream, known_of, learn, known_from, known_at, known_nodes, plan_of}
use Rattle.ks_plan.specs.Plan.Kind.{StreamSource, TableSource, StreamFilter, TableFilter, StreamMap, TableMap, KeySelected, StreamAggregate, TableAggregate, Windowed, KeyJoin, ForeignKeyJoin}
use Rattle.ks_plan.specs.Faults.{Line, first_fitting, first_of, any_past, node_table, nodes_fault, size_lines, print_fault, window_lines, is_window, is_time, is_advance, int_or}
use Rattle.ks_law_topology.specs.WellFormed.{IsWellFormed}
use Rattle.ks_law_settled.proofs.Printed.{none_of, not_first, of_not, map-append, map_length}
use Rattle.ks_law_settled.proofs.Parts.{group_none}
use Rattle.ks_def_runs.specs.FinMap as fin
use Rattle.ks_def_runs.specs.FinMap.{FinMap}
use Rattle.ks_wire.specs.declared.values.Agg.{Agg}
use Rattle.ks_def_runs.specs.Run.{Machine, take_first, initial}
use Rattle.ks_def_runs.proofs.Runs.{kept_by_run}
use Rattle.ks_query.specs.Streams.{Key, Input, StreamItem}
use Rattle.ks_query.specs.Windows.{by_window, multiples, windows}
use Rattle.ks_query.specs.Grace.{is_open}
use Rattle.ks_query.specs.Aggregates.{stream_add}
use Rattle.ks_def_tasks.specs.Messages.{Place, Item, Store, Rules}
use Rattle.ks_def_tasks.specs.Messages.Message.{KeptCount}
use Rattle.ks_def_tasks.specs.Windowed.{Counted, greater, count_window, time_changes, count_group, count_item}
use Rattle.ks_def_tasks.specs.Step.{Arrival, items_from, item_into, counted_at, late_over}
use Rattle.ks_def_tasks.specs.Tasks.{arrival, machine, step, inputs_of}
use Rattle.ks_law_quiescence.specs.States.{State, state_of}

-- ---- windows of one time
-- a filter that the first ones of all multiples fail
few_of : (f : ℕ → Bool) (a skip : ℕ) → ((i : ℕ) → i < skip → f (i * a) ≡ false) → (m : ℕ) → length (filter f (multiples a m)) ≤ m - skip
few_of f a skip fail zero = omega arith
few_of f a skip fail (suc m) =
    let so_far = few_of f a skip fail m in
    let split : filter f (multiples a m ++ m * a ∷ []) ≡ filter f (multiples a m) ++ filter f (m * a ∷ []) = filter_append (multiples a m) (m * a ∷ []) in
    let long : length (filter f (multiples a (suc m))) ≡ length (filter f (multiples a m)) + length (filter f (m * a ∷ [])) = ap length split ∙ length-append (filter f (multiples a m)) (filter f (m * a ∷ [])) in
    ⊎_elim
    (λ (less : m < skip).
    let none : length (filter f (m * a ∷ [])) ≡ 0 = ap (λ b. length (cond b (m * a ∷ []) [])) (fail m less) in
    omega (arith, long, none, so_far, less))
    (λ (le : skip ≤ m). omega (arith, long, one (f (m * a)), so_far, le))
    (cases_lt m skip)
  where
    filter_append : (xs ys : List ℕ) → filter f (xs ++ ys) ≡ filter f xs ++ filter f ys
    filter_append xs ys = filter-append f xs ys

    one : (b : Bool) → length (cond b (m * a ∷ []) []) ≤ 1
    one true = omega arith
    one false = omega arith

-- what is needed of a window: at most 1,000 hold one time
pub record IsFit (w : Window) : Type 0 where
  pub some : 1 ≤ w.advance
  pub within : w.advance ≤ w.size
  pub most : w.size ≤ 1000 * w.advance

windows_few : (w : Window) → IsFit w → (t : ℕ) → length (windows w t) ≤ 1000
windows_few w fit t =
    let q = t / w.advance in
    let le = few_of (λ s. nat_lt t (s + w.size)) w.advance (q + 1 - 1000) over (q + 1) in
    omega (arith, le)
  where
    over : (i : ℕ) → i < t / w.advance + 1 - 1000 → nat_lt t (i * w.advance + w.size) ≡ false
    over i lt =
        let up : (i + 1000) * w.advance ≤ (t / w.advance) * w.advance = mul-le-mul_right w.advance (omega (arith, lt)) in
        let below : (t / w.advance) * w.advance ≤ t = div-mul-le_self t w.advance in
        le-ltb t (i * w.advance + w.size) (omega (arith, up, below, fit.most))

-- ---- the windows of a draft without a fault
abbrev FitsWindow : Kind → Type 0
FitsWindow (Windowed f by w through) = IsFit w
FitsWindow _ = Unit {0}

up : (a b : ℤ) → int_le a b ≡ true → natural a ≤ natural b
up (pos m) (pos n) e = leb-true m n e
up (pos m) (negsuc n) e = absurd cc
up (negsuc m) (pos n) e = omega arith
up (negsuc m) (negsuc n) e = omega arith

-- a number is at most 1,000 times another that is at least 1
thousand : (s a : ℤ) → int_le (pos 1) a ≡ true → int_le s (pos 1000 *ℤ a) ≡ true → natural s ≤ 1000 * natural a
thousand s (pos n) some e = up s (pos (1000 * n)) e
thousand s (negsuc n) some e = absurd cc

or_is : (advance : Option ℤ) (size : ℤ) → natural (int_or advance size) ≡ or_number advance (natural size)
or_is None size = refl
or_is (Some z) size = refl

fit_window : (size : ℤ) (advance grace : Option ℤ) → is_window size (int_or advance size) (int_or grace (pos 86400000)) ≡ true → IsFit (window_of size advance grace)
fit_window size advance grace e =
    let a = int_or advance size in
    let last = and_parts (int_le (pos 1) a && int_le a size) (int_le size (pos 1000 *ℤ a)) (and_parts (is_time size && is_time (int_or grace (pos 86400000))) (is_advance size a) e).1 in
    let both = and_parts (int_le (pos 1) a) (int_le a size) last.0 in
    record {
      some = subst (λ n. 1 ≤ n) (or_is advance size) (up (pos 1) a both.0);
      within = subst (λ n. n ≤ natural size) (or_is advance size) (up a size both.1);
      most = subst (λ n. natural size ≤ 1000 * n) (or_is advance size) (thousand size a both.0 last.1);
    }

module _ (d : DraftView) where
  abbrev AllFit : List Known → Type 0
  AllFit ks = AllByRecursion FitsWindow (map (λ (k : Known). k.kind) ks)

  fit_append : (xs ys : List Kind) → AllByRecursion FitsWindow xs → AllByRecursion FitsWindow ys → AllByRecursion FitsWindow (xs ++ ys)
  fit_append [] ys h g = g
  fit_append (x ∷ xs) ys h g = (h.0, fit_append xs ys h.1 g)

  fit_either : (b : Bool) (x y : Kind) → FitsWindow x → FitsWindow y → FitsWindow (cond b x y)
  fit_either true x y f g = f
  fit_either false x y f g = g

  this_fits : (ks : List Known) (name : Name) (op : OpView) → first_fitting (window_lines name op) ≡ None → FitsWindow (known_of d.topics ks op).0
  this_fits ks name (StreamOf t) e = tt
  this_fits ks name (TableOf t) e = tt
  this_fits ks name (FilterOf f x) e = fit_either (is_stream (known_at ks f).kind) _ _ tt tt
  this_fits ks name (MapOf f s) e = fit_either (is_stream (known_at ks f).kind) _ _ tt tt
  this_fits ks name (KeyOf f k) e = tt
  this_fits ks name (CountOf f by) e = fit_either (is_stream (known_at ks f).kind) _ _ tt tt
  this_fits ks name (SumOf f by field) e = fit_either (is_stream (known_at ks f).kind) _ _ tt tt
  this_fits ks name (WindowedOf f by size advance grace) e =
      fit_window size advance grace (of_not _ (not_first (not (is_window size (int_or advance size) (int_or grace (pos 86400000))), BadWindow name) [] e).0)
  this_fits ks name (JoinOf l r kind s) e = tt
  this_fits ks name (FkJoinOf l r fk kind s) e = tt

  nodes_fit : (before rest : List NodeView) → nodes_fault d before rest ≡ None → AllFit (known_from d.topics before) → AllFit (known_from d.topics (before ++ rest))
  nodes_fit before [] e h = subst (λ l. AllFit (known_from d.topics l)) (sym (append-nil before)) h
  nodes_fit before (n ∷ ns) e h =
      let both = none_of (first_of (node_table d before n)) (nodes_fault d (before ++ n ∷ []) ns) e in
      let ks = known_from d.topics before in
      let k : Known = record { name = n.name; kind = (known_of d.topics ks n.op).0; rekeyed = (known_of d.topics ks n.op).1 } in
      let known : known_from d.topics (before ++ n ∷ []) ≡ ks ++ k ∷ [] = fold-append (learn d.topics) [] before (n ∷ []) in
      let grown : map (λ (x : Known). x.kind) (ks ++ k ∷ []) ≡ map (λ (x : Known). x.kind) ks ++ k.kind ∷ [] = map-append (λ (x : Known). x.kind) ks (k ∷ []) in
      let fine = this_fits ks n.name n.op (group_none (node_table d before n) both.0 8) in
      let next : AllFit (ks ++ k ∷ []) = subst (AllByRecursion FitsWindow) (sym grown) (fit_append (map (λ (x : Known). x.kind) ks) (k.kind ∷ []) h (fine, tt)) in
      subst (λ l. AllFit (known_from d.topics l)) (append_assoc before (n ∷ []) ns) (nodes_fit (before ++ n ∷ []) ns both.1 (subst AllFit (sym known) next))

  -- each window of the plan holds one time at most 1,000 times
  pub windows_fit : IsWellFormed d → AllByRecursion FitsWindow (plan_of d).kinds
  windows_fit well =
      let rest = (none_of (first_fitting (size_lines d)) _ well).1 in
      let nodes = (none_of (nodes_fault d [] d.nodes) (print_fault d [] d.print) rest).0 in
      nodes_fit [] d.nodes nodes tt

  grown_by : (ks : List Known) (n : NodeView) → length (learn d.topics ks n) ≡ suc (length ks)
  grown_by ks n = omega (arith, length-append ks (record { name = n.name; kind = (known_of d.topics ks n.op).0; rekeyed = (known_of d.topics ks n.op).1 } ∷ []))

  known_length : (ks : List Known) (ns : List NodeView) → length (fold (learn d.topics) ks ns) ≡ length ks + length ns
  known_length ks [] = omega arith
  known_length ks (n ∷ ns) = omega (arith, grown_by ks n, known_length (learn d.topics ks n) ns)

  pub nodes_few : IsWellFormed d → length (plan_of d).kinds ≤ 64
  nodes_few well =
      let sizes = (none_of (first_fitting (size_lines d)) _ well).0 in
      let nodes : Line = (nat_lt 64 (length d.nodes), TooMany (codes "nodes") 64) in
      let parts : Line = (any_past d.topics, TooMany (codes "partitions") 64) in
      let second = (not_first (nat_lt 64 (length d.topics), TooMany (codes "topics") 64) (parts ∷ nodes ∷ []) sizes).1 in
      let third = (not_first parts (nodes ∷ []) second).1 in
      let last = (not_first (nat_lt 64 (length d.nodes), TooMany (codes "nodes") 64) [] third).0 in
      omega (arith, ltb-false 64 (length d.nodes) last, known_length [] d.nodes, map_length (λ (k : Known). k.kind) (known_nodes d))

-- ---- one step
module _ (w : Window) (now : ℕ) (g : Key) where
  one_window : (c : Counted) (s : ℕ) → (count_window w now g c s).late ≤ c.late + 1
  one_window c s = by (is_open w now s)
    where
      by : (b : Bool) → (cond b
          (record c { counts = fin.insert c.counts (g, s) (stream_add None (fin.get c.counts (g, s)) []); changes = c.changes ++ KeptCount (g, s) (stream_add None (fin.get c.counts (g, s)) []) ∷ [] })
          (record c { late = c.late + 1 })).late ≤ c.late + 1
      by true = omega arith
      by false = omega arith

  all_windows : (ss : List ℕ) (c : Counted) → (fold (count_window w now g) c ss).late ≤ c.late + length ss
  all_windows [] c = omega arith
  all_windows (s ∷ ss) c = omega (arith, all_windows ss (count_window w now g c s), one_window c s)

module _ (w : Window) (fit : IsFit w) (old : Option ℕ) (counts : FinMap by_window Agg) where
  group_few : (t : ℕ) (k : Option Key) → (count_group w old counts t k).late ≤ 1000
  group_few t None = omega arith
  group_few t (Some g) =
      omega (arith, all_windows w (greater old t) g (windows w t) (record { time = Some (greater old t); counts = counts; late = 0; changes = time_changes old (greater old t) }), windows_few w fit t)

  item_few : (x : Option StreamItem) → (count_item w old counts x).late ≤ 1000
  item_few None = omega arith
  item_few (Some y) = group_few y.time y.key

module _ (rules : Rules) (p : Plan) (fit : AllByRecursion FitsWindow p.kinds) where
  node_few : (a : Arrival) (items : ℕ → Option StreamItem) (st : Store) (n : ℕ) (k : Kind) → FitsWindow k → (counted_at a items st n k).late ≤ 1000
  node_few a items st n (Windowed f by w through) h = item_few w h (st.times n) (st.counts n) (item_into a items n f through)
  node_few a items st n (StreamSource t) h = omega arith
  node_few a items st n (TableSource t) h = omega arith
  node_few a items st n (StreamFilter f y) h = omega arith
  node_few a items st n (TableFilter f y) h = omega arith
  node_few a items st n (StreamMap f s) h = omega arith
  node_few a items st n (TableMap f s) h = omega arith
  node_few a items st n (KeySelected f k) h = omega arith
  node_few a items st n (StreamAggregate f by field through) h = omega arith
  node_few a items st n (TableAggregate f by field) h = omega arith
  node_few a items st n (KeyJoin l r kind s) h = omega arith
  node_few a items st n (ForeignKeyJoin l r fk kind s) h = omega arith

  nodes_late : (a : Arrival) (items : ℕ → Option StreamItem) (st : Store) (n : ℕ) (ks : List Kind) → AllByRecursion FitsWindow ks → late_over (counted_at a items st) n ks ≤ 1000 * length ks
  nodes_late a items st n [] h = omega arith
  nodes_late a items st n (k ∷ ks) h = omega (arith, node_few a items st n k h.0, nodes_late a items st (suc n) ks h.1)

  module _ (few : length p.kinds ≤ 64) where
    step_late : (u : TaskId) (st : Store) (q : Place) (x : Item) → (step rules p u st q x).late ≤ 64000
    step_late u st q x =
        let a : Arrival = arrival p q x in
        omega (arith, nodes_late a (items_from a (λ n. None) 0 p.kinds) st 0 p.kinds fit, few)

    abbrev net : Machine TaskId Place Store Item
    net = machine rules p

    one_late : (st : State) (s : Option TaskId) (q : Place) (xs : List Item) → st.late ≤ 64000 * length st.taken → (take_first net st s q xs).late ≤ 64000 * length (take_first net st s q xs).taken
    one_late st s q [] h = h
    one_late st s q (x ∷ rest) h =
        omega (arith, h, step_late (net.reader q) (st.stores (net.reader q)) q x, length-append st.taken (record { sender = s; place = q; item = x } ∷ []))

    pub run_late : (records : List Input) (schedule : List (Option TaskId × Place)) → let st = state_of rules p records schedule in st.late ≤ 64000 * length st.taken
    run_late records schedule =
        kept_by_run net (λ st. st.late ≤ 64000 * length st.taken) (λ st c h. one_late st c.0 c.1 (st.waiting c.0 c.1) h) (initial net (inputs_of rules p records)) (omega arith) schedule
