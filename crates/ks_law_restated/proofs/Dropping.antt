-- The late pairs of one window, step by step.
use Rattle.std.proofs.Common.{◌≡◌, ℕ, ◌+◌, Bool, true, false, cond, not, List, [], ◌∷◌, map, Option, Some, None, refl, sym, ap, ap₂, ◌∙◌, arith}
use Rattle.std.specs.List.{filter}
use Rattle.std.specs.Ordering.{eq_by_cmp}
use Rattle.std.proofs.lemmas.List.Sums.{sum_by-cons, sum_by-append}
use Rattle.ks_record.specs.declared.record.TaskId.{TaskId}
use Rattle.ks_record.specs.Parts.{same_task}
use Rattle.ks_plan.specs.Plan.{Plan, Kind, Window}
use Rattle.ks_plan.specs.Plan.Kind.{StreamSource, TableSource, StreamFilter, TableFilter, StreamMap, TableMap, KeySelected, StreamAggregate, TableAggregate, Windowed, KeyJoin, ForeignKeyJoin}
use Rattle.ks_plan.specs.Layout.{kind_at}
use Rattle.ks_query.specs.Streams.{Key, StreamItem}
use Rattle.ks_query.specs.Windows.{WindowKey, by_window, windows}
use Rattle.ks_query.specs.Grace.{is_open}
use Rattle.ks_def_runs.specs.Run.{late_all}
use Rattle.ks_def_tasks.specs.Messages.{Store, Rules}
use Rattle.ks_def_tasks.specs.Windowed.{greater}
use Rattle.ks_def_tasks.specs.Step.{Arrival, item_into, items_from}
use Rattle.ks_def_tasks.specs.Tasks.{arrival, machine, step}
use Rattle.ks_law_quiescence.specs.Windows.{late_starts, late_of_group, late_of_item, late_at, counting}
use Rattle.ks_law_restated.specs.Drops.{closed_windows, drops_of_group, drops_of_item, drops_at, drops_of_step, TakenRecords, drops_from, times_in, LatePairsAreDrops}

module _ (k : WindowKey) where
  abbrev is_it : WindowKey → ℕ
  is_it c = cond (eq_by_cmp by_window k c) 1 0

  starts_dropped : (w : Window) (now : ℕ) (g : Key) (ss : List ℕ) → late_starts k w now g ss ≡ times_in k (closed_windows w now g ss)
  starts_dropped w now g [] = refl
  starts_dropped w now g (s ∷ ss) = one (is_open w now s) (filter (λ s. not (is_open w now s)) ss) (late_starts k w now g ss) (starts_dropped w now g ss)
    where
      one : (b : Bool) (closed : List ℕ) (late : ℕ) → late ≡ times_in k (map {B = WindowKey} (λ s. (g, s)) closed) →
          cond (eq_by_cmp by_window k (g, s)) (cond b 0 1) 0 + late ≡ times_in k (map {B = WindowKey} (λ s. (g, s)) (cond (not b) (s ∷ closed) closed))
      one true closed late e = none (eq_by_cmp by_window k (g, s)) late ∙ e
        where
          none : (b : Bool) (m : ℕ) → cond b 0 0 + m ≡ m
          none true m = omega arith
          none false m = omega arith
      one false closed late e = ap (λ m. is_it (g, s) + m) e ∙ sym (sum_by-cons is_it (g, s) (map {B = WindowKey} (λ s. (g, s)) closed))

  group_dropped : (w : Window) (seen : Option ℕ) (time : ℕ) (h : Option Key) → late_of_group k w seen time h ≡ times_in k (drops_of_group w seen time h)
  group_dropped w seen time None = refl
  group_dropped w seen time (Some g) = starts_dropped w (greater seen time) g (windows w time)

  item_dropped : (w : Window) (seen : Option ℕ) (item : Option StreamItem) → late_of_item k w seen item ≡ times_in k (drops_of_item w seen item)
  item_dropped w seen None = refl
  item_dropped w seen (Some x) = group_dropped w seen x.time x.key

  node_dropped : (n : ℕ) (st : Store) (a : Arrival) (items : ℕ → Option StreamItem) (c : Kind) → late_at k n st a items c ≡ times_in k (drops_at n st a items c)
  node_dropped n st a items (Windowed f by w through) = item_dropped w (st.times n) (item_into a items n f through)
  node_dropped n st a items (StreamSource t) = refl
  node_dropped n st a items (TableSource t) = refl
  node_dropped n st a items (StreamFilter f x) = refl
  node_dropped n st a items (TableFilter f x) = refl
  node_dropped n st a items (StreamMap f x) = refl
  node_dropped n st a items (TableMap f x) = refl
  node_dropped n st a items (KeySelected f x) = refl
  node_dropped n st a items (StreamAggregate f by field through) = refl
  node_dropped n st a items (TableAggregate f by field) = refl
  node_dropped n st a items (KeyJoin l r kind set) = refl
  node_dropped n st a items (ForeignKeyJoin l r fk kind set) = refl

  module _ (rules : Rules) (p : Plan) (n : ℕ) where
    records_dropped : (stores : TaskId → Store) (ts : TakenRecords) → late_all (counting rules p n k) stores ts ≡ times_in k (drops_from rules p n stores ts)
    records_dropped stores [] = refl
    records_dropped stores (t ∷ ts) =
        let u = (machine rules p).reader t.place in
        let a : Arrival = arrival p t.place t.item in
        let next : TaskId → Store = λ v. cond (same_task v u) (step rules p u (stores u) t.place t.item).store (stores v) in
        ap₂ (λ c d. c + d) (node_dropped n (stores u) a (items_from a (λ m. None) 0 p.kinds) (kind_at p n)) (records_dropped next ts)
        ∙ sym (sum_by-append is_it (drops_of_step p n (stores u) t.place t.item) (drops_from rules p n next ts))

pub late_pairs_are_dropped : LatePairsAreDrops
late_pairs_are_dropped rules p n k ts = records_dropped k rules p n (machine rules p).start ts
