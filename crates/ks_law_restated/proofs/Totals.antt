-- All that was late: the drops, over all nodes.
use Rattle.std.proofs.Common.{◌≡◌, ℕ, suc, get_or, ◌+◌, Bool, true, false, cond, List, length, length-append, append-nil, append_assoc, [], ◌∷◌, ◌++◌, Option, Some, None, fold, refl, sym, ap, ap₂, subst, ◌∙◌, arith}
use Rattle.std.specs.List.{sum_by}
use Rattle.std.proofs.Math.Path.{fun_ext}
use Rattle.std.proofs.Math.Seq.{get_or-append_seam}
use Rattle.std.proofs.lemmas.List.Sums.{sum_by-cons, sum_by_push}
use Rattle.ks_record.specs.declared.record.TaskId.{TaskId}
use Rattle.ks_record.specs.Parts.{same_task}
use Rattle.ks_wire.specs.declared.values.Agg.{Agg}
use Rattle.ks_plan.specs.Plan.{Plan, Kind, Window}
use Rattle.ks_plan.specs.Plan.Kind.{StreamSource, TableSource, StreamFilter, TableFilter, StreamMap, TableMap, KeySelected, StreamAggregate, TableAggregate, Windowed, KeyJoin, ForeignKeyJoin}
use Rattle.ks_plan.specs.Layout.{kind_at, no_kind, up_to}
use Rattle.ks_def_runs.specs.FinMap.{FinMap}
use Rattle.ks_query.specs.Streams.{Key, StreamItem}
use Rattle.ks_query.specs.Windows.{by_window, windows}
use Rattle.ks_query.specs.Grace.{is_open}
use Rattle.ks_def_runs.specs.Run.{late_all}
use Rattle.ks_def_runs.proofs.Runs.{Follows-run}
use Rattle.ks_def_tasks.specs.Messages.{Place, Item, Store, Rules}
use Rattle.ks_def_tasks.specs.Windowed.{Counted, count_window, count_group, count_item, greater, time_changes}
use Rattle.ks_def_tasks.specs.Step.{Arrival, item_into, items_from, counted_at, late_over}
use Rattle.ks_def_tasks.specs.Tasks.{arrival, machine, step, inputs_of}
use Rattle.ks_def_tasks.proofs.Names.{names}
use Rattle.ks_law_restated.specs.Drops.{closed_windows, drops_of_group, drops_of_item, drops_at, drops_of_step, TakenRecords, drops_from, LateIsAllDrops, LateCountIsAllDrops}

-- ---- one node of one step
starts_late : (w : Window) (now : ℕ) (g : Key) (c : Counted) (ss : List ℕ) → (fold (count_window w now g) c ss).late ≡ c.late + length (closed_windows w now g ss)
starts_late w now g c [] = omega arith
starts_late w now g c (s ∷ ss) = starts_late w now g (count_window w now g c s) ss ∙ one (is_open w now s) refl
  where
    one : (b : Bool) → is_open w now s ≡ b → (count_window w now g c s).late + length (closed_windows w now g ss) ≡ c.late + length (closed_windows w now g (s ∷ ss))
    one true e = rw e refl
    one false e = rw e (omega arith)

from_nothing : (n : ℕ) → 0 + n ≡ n
from_nothing n = omega arith

group_late : (w : Window) (seen : Option ℕ) (counts : FinMap by_window Agg) (time : ℕ) (h : Option Key) → (count_group w seen counts time h).late ≡ length (drops_of_group w seen time h)
group_late w seen counts time None = refl
group_late w seen counts time (Some g) =
    let now = greater seen time in
    starts_late w now g (record { time = Some now; counts = counts; late = 0; changes = time_changes seen now }) (windows w time) ∙ from_nothing _

item_late : (w : Window) (seen : Option ℕ) (counts : FinMap by_window Agg) (item : Option StreamItem) → (count_item w seen counts item).late ≡ length (drops_of_item w seen item)
item_late w seen counts None = refl
item_late w seen counts (Some x) = group_late w seen counts x.time x.key

node_late : (n : ℕ) (st : Store) (a : Arrival) (items : ℕ → Option StreamItem) (c : Kind) → (counted_at a items st n c).late ≡ length (drops_at n st a items c)
node_late n st a items (Windowed f by w through) = item_late w (st.times n) (st.counts n) (item_into a items n f through)
node_late n st a items (StreamSource t) = refl
node_late n st a items (TableSource t) = refl
node_late n st a items (StreamFilter f x) = refl
node_late n st a items (TableFilter f x) = refl
node_late n st a items (StreamMap f x) = refl
node_late n st a items (TableMap f x) = refl
node_late n st a items (KeySelected f x) = refl
node_late n st a items (StreamAggregate f by field through) = refl
node_late n st a items (TableAggregate f by field) = refl
node_late n st a items (KeyJoin l r kind set) = refl
node_late n st a items (ForeignKeyJoin l r fk kind set) = refl

-- ---- sums
sum_of_none : {A : Type 0} (xs : List A) → sum_by (λ x. 0) xs ≡ 0
sum_of_none [] = refl
sum_of_none (x ∷ xs) = sum_by-cons (λ x. 0) x xs ∙ ap (λ m. 0 + m) (sum_of_none xs)

sum_of_both : {A : Type 0} (f g h : A → ℕ) (xs : List A) → ((x : A) → h x ≡ f x + g x) → sum_by h xs ≡ sum_by f xs + sum_by g xs
sum_of_both f g h [] e = refl
sum_of_both f g h (x ∷ xs) e =
    let whole = sum_by-cons h x xs in
    let first = sum_by-cons f x xs in
    let second = sum_by-cons g x xs in
    let here = e x in
    let rest = sum_of_both f g h xs e in
    omega arith

-- ---- all nodes of one step
module _ (p : Plan) (f : ℕ → Kind → Counted) where
  abbrev late_below : ℕ → ℕ
  late_below n = sum_by (λ m. (f m (kind_at p m)).late) (up_to n)

  nodes_late : (before ks : List Kind) → p.kinds ≡ before ++ ks → late_below (length before) + late_over f (length before) ks ≡ late_below (length p.kinds)
  nodes_late before [] all = no_more _ ∙ ap (λ l. late_below (length l)) (sym (append-nil before) ∙ sym all)
    where
      no_more : (m : ℕ) → m + 0 ≡ m
      no_more m = omega arith
  nodes_late before (k ∷ ks) all =
      let is : kind_at p (length before) ≡ k = ap (λ l. get_or l (length before) no_kind) all ∙ get_or-append_seam before k ks no_kind in
      let long : length (before ++ k ∷ []) ≡ suc (length before) = omega (arith, length-append before (k ∷ [])) in
      let next = nodes_late (before ++ k ∷ []) ks (all ∙ sym (append_assoc before (k ∷ []) ks)) in
      let push = sum_by_push (λ m. (f m (kind_at p m)).late) (up_to (length before)) (length before) in
      joined (late_below (length before)) (f (length before) k).late (late_over f (suc (length before)) ks) (ap (λ c. (f (length before) c).late) is) push
      ∙ subst (λ m. late_below m + late_over f m ks ≡ late_below (length p.kinds)) long next
    where
      joined : (a b c : ℕ) {e g : ℕ} → e ≡ b → g ≡ a + e → a + (b + c) ≡ g + c
      joined a b c is push = omega arith

-- ---- a run
module _ (rules : Rules) (p : Plan) where
  step_late : (st : Store) (q : Place) (x : Item) (u : TaskId) → (step rules p u st q x).late ≡ sum_by (λ n. length (drops_of_step p n st q x)) (up_to (length p.kinds))
  step_late st q x u =
      let a : Arrival = arrival p q x in
      let items = items_from a (λ m. None) 0 p.kinds in
      sym (from_nothing _) ∙ nodes_late p (counted_at a items st) [] p.kinds refl
      ∙ ap (λ f. sum_by f (up_to (length p.kinds))) (fun_ext (λ n. node_late n st a items (kind_at p n)))

  records_late : (stores : TaskId → Store) (ts : TakenRecords) → late_all (machine rules p) stores ts ≡ sum_by (λ n. length (drops_from rules p n stores ts)) (up_to (length p.kinds))
  records_late stores [] = sym (sum_of_none (up_to (length p.kinds)))
  records_late stores (t ∷ ts) =
      let u = (machine rules p).reader t.place in
      let next : TaskId → Store = λ v. cond (same_task v u) (step rules p u (stores u) t.place t.item).store (stores v) in
      ap₂ (λ c d. c + d) (step_late (stores u) t.place t.item u) (records_late next ts)
      ∙ sym (sum_of_both (λ n. length (drops_of_step p n (stores u) t.place t.item)) (λ n. length (drops_from rules p n next ts)) (λ n. length (drops_from rules p n stores (t ∷ ts))) (up_to (length p.kinds))
      (λ n. length-append (drops_of_step p n (stores u) t.place t.item) (drops_from rules p n next ts)))

pub late_is_dropped : LateIsAllDrops
late_is_dropped rules p ts = records_late rules p (machine rules p).start ts

pub late_count_is_dropped : LateCountIsAllDrops
late_count_is_dropped rules p records schedule =
    let follows = Follows-run (machine rules p) (names rules p) (inputs_of rules p records) schedule in
    follows.late ∙ late_is_dropped rules p _
