-- The answers of nodes as the program keeps them, in a list.
use Rattle.std.specs.Prelude.{ℕ, suc, true, List, [], ◌∷◌, get_or, Option, Some, None, cond, fold, option_map, unwrap_or}
use Rattle.ks_plan.specs.Plan.{Kind}
use Rattle.ks_def_runs.specs.FinMap as fin
use Rattle.ks_expr.specs.Eval.{holds, project}
use Rattle.ks_plan.specs.declared.node.Wiring.{Wiring}
use Rattle.ks_plan.specs.declared.node.Wiring.TheVariants as wired
use Rattle.ks_plan.specs.Drafts.{OpView}
use Rattle.ks_def_runs.specs.Bytes.{by_bytes}
use Rattle.ks_def_runs.specs.Table.{latest}
use Rattle.ks_oracle.specs.Nodes.{test_in, set_in, key_in, group_in, window_in, join_in, foreign_in}
use Rattle.ks_query.specs.Streams.{Input, StreamItem, some_of, item_of, filter_item, map_item, rekey_item, grouped}
use Rattle.ks_query.specs.Aggregates.{agg_row}
use Rattle.ks_query.specs.Query.{Table, WindowTable, Answers, give_items, give_table, give_windows, answer_node, map_values, aggregate, item_rows, grouped_rows, in_windows, add_to, key_join, foreign_join, of_topic, table_changes}
use Rattle.ks_oracle.specs.declared.answers.Answer.{Answer}
use Rattle.ks_oracle.specs.declared.answers.Answer.TheVariants.{Nothing, Items, Table as TableFound, Windows}
use Rattle.ks_wire.specs.declared.values.Agg.{Agg}
use Rattle.ks_def_runs.specs.FinMap.{FinMap}
use Rattle.ks_query.specs.Windows.{by_window}

-- counts by windows, as rows
abbrev pub counted : FinMap by_window Agg → WindowTable
counted m = map_values (λ a. Some (agg_row true a)) m

-- what one gives
abbrev pub items_in : Answer → List StreamItem
items_in (Items xs) = xs
items_in _ = []

abbrev pub table_in : Answer → Table
table_in (TableFound t) = t
table_in _ = fin.empty

abbrev pub windows_in : Answer → WindowTable
windows_in (Windows m) = counted m
windows_in _ = fin.empty

abbrev pub found_at : List Answer → ℕ → Answer
found_at found n = get_or found n Nothing

abbrev pub answers_of : List Answer → Answers
answers_of found = record { items = λ n. items_in (found_at found n); tables = λ n. table_in (found_at found n); windows = λ n. windows_in (found_at found n) }

abbrev pub give : Answers → ℕ → Answer → Answers
give a n Nothing = a
give a n (Items xs) = give_items a n xs
give a n (TableFound t) = give_table a n t
give a n (Windows m) = give_windows a n (counted m)

-- an answer, or nothing
abbrev pub answered : Option Answer → Answer
answered None = Nothing
answered (Some x) = x

-- ---- what a node finds, by its operation and wiring
abbrev pub table_found : List Input → Answers → OpView → Wiring → Answer
table_found records a op (wired.TableSource t) = TableFound (latest by_bytes (table_changes (of_topic t records)))
table_found records a op (wired.TableFilter f) = answered (option_map (λ t. TableFound (map_values (λ v. cond (holds t v) (Some v) None) (a.tables f))) (test_in op))
table_found records a op (wired.TableMap f) = answered (option_map (λ s. TableFound (map_values (λ v. project s (Some v) None) (a.tables f))) (set_in op))
table_found records a op (wired.TableAggregate f) = answered (option_map (λ g. TableFound (aggregate {R = by_bytes} g.1 (grouped_rows (unwrap_or g.0 []) (fin.entries (a.tables f))))) (group_in op))
table_found records a op (wired.KeyJoin l r) = answered (option_map (λ j. TableFound (key_join j.0 j.1 (a.tables l) (a.tables r))) (join_in op))
table_found records a op (wired.ForeignKeyJoin l r) = answered (option_map (λ j. TableFound (foreign_join j.0 j.1.0 j.1.1 (a.tables l) (a.tables r))) (foreign_in op))
table_found records a op _ = Nothing

abbrev pub stream_found : List Input → Answers → OpView → Wiring → Answer
stream_found records a op (wired.StreamSource t) = Items (some_of item_of (of_topic t records))
stream_found records a op (wired.StreamFilter f) = answered (option_map (λ t. Items (some_of (filter_item t) (a.items f))) (test_in op))
stream_found records a op (wired.StreamMap f) = answered (option_map (λ s. Items (some_of (map_item s) (a.items f))) (set_in op))
stream_found records a op (wired.KeySelected f) = answered (option_map (λ k. Items (some_of (rekey_item k) (a.items f))) (key_in op))
stream_found records a op (wired.StreamAggregate f through) = answered (option_map (λ g. TableFound (aggregate {R = by_bytes} g.1 (item_rows (grouped g.0 (a.items f))))) (group_in op))
stream_found records a op (wired.Windowed f through) = answered (option_map (λ g. Windows (fold (add_to {R = by_window} None) fin.empty (in_windows g.1 (grouped g.0 (a.items f))))) (window_in op))
stream_found records a op w = table_found records a op w

-- ---- node by node
abbrev pub answer_maybe : List Input → Answers → ℕ → Option Kind → Answers
answer_maybe records a n None = a
answer_maybe records a n (Some k) = answer_node records a n k

abbrev pub answer_all : List Input → Answers → ℕ → List (Option Kind) → Answers
answer_all records a n [] = a
answer_all records a n (k ∷ ks) = answer_all records (answer_maybe records a n k) (suc n) ks
