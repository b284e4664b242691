-- The query of a topology: folds over whole lists of records. Nothing here knows a partition, a task, a message or a hash.
-- Kafka Streams developer guide, "KTable" (a table is the last value of each key), "Aggregating", "Joining"; KIP-213 for the
-- meaning of a join on a foreign key.
use Rattle.std.specs.Prelude.{ℕ, suc, List, [], ◌∷◌, ◌++◌, map, Option, Some, None, fold, cond, nat_eq, option_map, is_none}
use Rattle.std.specs.List.{filter, flat_map}
use Rattle.std.specs.declared.cmp.Ordering.{Ordering}
use Rattle.ks_expr.specs.declared.terms.JoinKind.{JoinKind}
use Rattle.ks_expr.specs.declared.terms.Fk.{Fk}
use Rattle.ks_expr.specs.Terms.{Set}
use Rattle.ks_expr.specs.Keys.{fk_of}
use Rattle.ks_row.specs.FieldKeys.{field_key}
use Rattle.ks_expr.specs.Eval.{Row, holds, project, joined}
use Rattle.ks_query.specs.Streams.{Key}
use Rattle.ks_plan.specs.Plan.{Plan, Kind, Window}
use Rattle.ks_plan.specs.Plan.Kind.{StreamSource, TableSource, StreamFilter, TableFilter, StreamMap, TableMap, KeySelected, StreamAggregate, TableAggregate, Windowed, KeyJoin, ForeignKeyJoin}
use Rattle.ks_def_runs.specs.FinMap as map
use Rattle.ks_def_runs.specs.FinMap.{FinMap}
use Rattle.ks_def_runs.specs.Bytes.{by_bytes}
use Rattle.ks_def_runs.specs.Table.{Change, write, latest}
use Rattle.ks_query.specs.Windows.{WindowKey, by_window, windows}
use Rattle.ks_wire.specs.declared.values.Agg.{Agg}
use Rattle.ks_query.specs.Aggregates.{agg_row, stream_add}
use Rattle.ks_query.specs.Streams.{Input, StreamItem, some_of, item_of, filter_item, map_item, rekey_item, grouped}

abbrev pub Table : Type 0
Table = FinMap by_bytes Row

abbrev pub WindowTable : Type 0
WindowTable = FinMap by_window Row

-- ---- aggregates: of rows by their groups
abbrev pub add_to : {K : Type 0} {R : K → K → Ordering} → Option (List ℕ) → FinMap R Agg → (K × Row) → FinMap R Agg
add_to {R = R} field m x = write R m x.0 (Some (stream_add field (map.get m x.0) x.1))

-- of each key and its value
abbrev pub map_rows : {K X Y : Type 0} {R : K → K → Ordering} → (K → X → Option Y) → FinMap R X → FinMap R Y
map_rows {R = R} f m = fold (λ n e. write R n e.0 (f e.0 e.1)) map.empty (map.entries m)

abbrev pub map_values : {K X Y : Type 0} {R : K → K → Ordering} → (X → Option Y) → FinMap R X → FinMap R Y
map_values {R = R} f m = map_rows {R = R} (λ k. f) m

-- each group with the number of its rows, or with the wrapped sum of their field
abbrev pub aggregate : {K : Type 0} {R : K → K → Ordering} → Option (List ℕ) → List (K × Row) → FinMap R Row
aggregate {R = R} field xs = map_values (λ a. Some (agg_row (is_none field) a)) (fold (add_to {R = R} field) map.empty xs)

-- of a stream: over its items
abbrev pub item_rows : List (Key × StreamItem) → List (Key × Row)
item_rows xs = map (λ x. (x.0, x.1.row)) xs

-- of a stream by windows: each item counts in each window of its time
abbrev pub in_windows : Window → List (Key × StreamItem) → List (WindowKey × Row)
in_windows w xs = flat_map (λ x. map (λ s. ((x.0, s), x.1.row)) (windows w x.1.time)) xs

-- of a table: over the rows that it has, by the keys that their field gives
abbrev pub grouped_rows : List ℕ → List (Key × Row) → List (Key × Row)
grouped_rows by es = some_of (λ e. option_map (λ g. (g, e.1)) (field_key by e.1)) es

-- ---- joins
abbrev pub key_join : JoinKind → Set → Table → Table → Table
key_join kind set l r = fold (λ t k. write by_bytes t k (joined kind set (map.get l k) (map.get r k))) map.empty (map.keys l ++ map.keys r)

-- the right row of a left row: the one at its foreign key, where it has one
abbrev pub right_row : Table → Option Key → Option Row
right_row t None = None
right_row t (Some f) = map.get t f

abbrev pub foreign_join : Fk → JoinKind → Set → Table → Table → Table
foreign_join fk kind set l r = map_rows (λ k v. joined kind set (Some v) (right_row r (fk_of fk k v))) l

-- ---- the query of each node, by recursion on the node list
pub record Answers : Type 0 where
  pub items : ℕ → List StreamItem
  pub tables : ℕ → Table
  pub windows : ℕ → WindowTable

abbrev pub with_number : {A : Type 0} → (ℕ → A) → ℕ → A → ℕ → A
with_number f n x c = cond (nat_eq c n) x (f c)

abbrev pub give_items : Answers → ℕ → List StreamItem → Answers
give_items a n xs = record a { items = with_number a.items n xs }

abbrev pub give_table : Answers → ℕ → Table → Answers
give_table a n t = record a { tables = with_number a.tables n t }

abbrev pub give_windows : Answers → ℕ → WindowTable → Answers
give_windows a n t = record a { windows = with_number a.windows n t }

abbrev pub of_topic : ℕ → List Input → List Input
of_topic t records = filter (λ r. nat_eq r.topic t) records

-- a record without a key is no change; one without a value is a deletion
abbrev pub table_changes : List Input → List (Change Key Row)
table_changes records = some_of (λ r. option_map (λ k. (k, r.value)) r.key) records

abbrev pub answer_node : List Input → Answers → ℕ → Kind → Answers
answer_node records a n (StreamSource t) = give_items a n (some_of item_of (of_topic t records))
answer_node records a n (TableSource t) = give_table a n (latest by_bytes (table_changes (of_topic t records)))
answer_node records a n (StreamFilter f p) = give_items a n (some_of (filter_item p) (a.items f))
answer_node records a n (TableFilter f p) = give_table a n (map_values (λ v. cond (holds p v) (Some v) None) (a.tables f))
answer_node records a n (StreamMap f s) = give_items a n (some_of (map_item s) (a.items f))
answer_node records a n (TableMap f s) = give_table a n (map_values (λ v. project s (Some v) None) (a.tables f))
answer_node records a n (KeySelected f k) = give_items a n (some_of (rekey_item k) (a.items f))
answer_node records a n (StreamAggregate f by field through) = give_table a n (aggregate field (item_rows (grouped by (a.items f))))
answer_node records a n (TableAggregate f by field) = give_table a n (aggregate field (grouped_rows by (map.entries (a.tables f))))
answer_node records a n (Windowed f by w through) = give_windows a n (aggregate None (in_windows w (grouped by (a.items f))))
answer_node records a n (KeyJoin l r kind s) = give_table a n (key_join kind s (a.tables l) (a.tables r))
answer_node records a n (ForeignKeyJoin l r fk kind s) = give_table a n (foreign_join fk kind s (a.tables l) (a.tables r))

abbrev pub answer_nodes : List Input → Answers → ℕ → List Kind → Answers
answer_nodes records a n [] = a
answer_nodes records a n (k ∷ ks) = answer_nodes records (answer_node records a n k) (suc n) ks

abbrev pub no_answers : Answers
no_answers = record { items = λ n. []; tables = λ n. map.empty; windows = λ n. map.empty }

abbrev pub query : Plan → List Input → Answers
query p records = answer_nodes records no_answers 0 p.kinds
