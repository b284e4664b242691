-- What the nodes have at a step's key: items, stored values before and after.
use Rattle.std.specs.Prelude.{true, false, is_some, not, Bool, ℕ, ◌+◌, ◌==◌, cond, ◌||◌, List, [], ◌∷◌, ◌++◌, map, fold, Option, Some, None, if◌then◌else◌}
use Rattle.ks_row.specs.Reading.{◌>>=◌}
use Rattle.ks_def_runs.specs.FinMap as fin
use Rattle.ks_expr.specs.Terms.{Test, Set}
use Rattle.ks_expr.specs.declared.terms.JoinKind.{JoinKind}
use Rattle.ks_expr.specs.declared.terms.Fk.{Fk}
use Rattle.ks_expr.specs.Eval.{Row, holds, project, joined}
use Rattle.ks_plan.specs.Plan.{Kind, is_windowed}
use Rattle.ks_plan.specs.Plan.Kind.{TableSource, TableFilter, TableMap, TableAggregate, KeyJoin, ForeignKeyJoin}
use Rattle.ks_plan.specs.declared.node.Topic.TheVariants.{Input, Repartition, Responses}
use Rattle.ks_plan.specs.Layout.{same_topic}
use Rattle.ks_query.specs.Streams.{Key, StreamItem}
use Rattle.ks_def_tasks.specs.Messages.{Stored, Message, Rules}
use Rattle.ks_def_tasks.specs.Foreign.{is_direct}
use Rattle.ks_def_tasks.specs.Step.{Arrival, Values, changed, kept_row, of_row, direct, responded, step_key, row_in, value_at}
use Rattle.ks_def_tasks.specs.Bytes.{ByteStores, stored_from}
use Rattle.ks_def_lookups.specs.Lists.{item_in, value_in}
use Rattle.ks_task_nodes.specs.Nodes.{TaskNode, node_view}
use Rattle.ks_task_nodes.specs.Records.{message_of}
use Rattle.ks_task_values.specs.Items.{views}
use Rattle.ks_task_values.specs.Changes.{in_list}
use Rattle.ks_task_nodes.specs.Stored.{stored_in, value_view}
use Rattle.ks_cache.specs.Changelogs.{stores_in}
use Rattle.ks_task_values.specs.declared.taken.Step.{Step}
use Rattle.ks_task_values.specs.declared.live.LiveValue.{LiveValue}
use Rattle.ks_task_values.specs.declared.step.NodeValues.{NodeValues}

-- ---- what the nodes have at a step's key: items, stored values before and after
abbrev pub items_in : NodeValues → ℕ → Option StreamItem
items_in v = item_in (views v.items.now)

-- what a node stores at a key
abbrev pub stored_at : ByteStores → Key → TaskNode → Option Stored
stored_at stores k node = cond (is_windowed node.kind) None (cond node.topics.is_own (fin.get (stores node.topics.changelog) k >>= stored_from node.kind) None)

abbrev pub old_list : ByteStores → Option Key → List TaskNode → List (Option Stored)
old_list stores None nodes = []
old_list stores (Some k) nodes = map (stored_at stores k) nodes

-- before the step, of each node
abbrev pub olds_at : Step → Values
olds_at s = in_list (old_list (stores_in s.changelogs.now) (step_key (message_of s.stamped.now.payload)) (map node_view s.nodes.now))

-- what is kept of a node that was gone through; of several the last counts
abbrev pub live_at : ℕ → List LiveValue → Option LiveValue
live_at n xs = fold (λ found (x : LiveValue). if n == x.number then Some x else found) None xs

abbrev pub old_or : Option Stored → Option LiveValue → Option Stored
old_or old None = old
old_or old (Some x) = stored_in x.old

abbrev pub new_or : Option Stored → Option LiveValue → Option Stored
new_or old None = old
new_or old (Some x) = value_view x.new

-- of nodes that were gone through their own, of any other what it was
abbrev pub live_olds : Values → List LiveValue → Values
live_olds olds xs n = old_or (olds n) (live_at n xs)

abbrev pub live_news : Values → List LiveValue → Values
live_news olds xs n = new_or (olds n) (live_at n xs)

abbrev pub olds_in : NodeValues → Values
olds_in v = live_olds (olds_at v.step.now) v.live.now

abbrev pub news_in : NodeValues → Values
news_in v = live_news (olds_at v.step.now) v.live.now

-- the nodes act in list order
abbrev pub new_from : Rules → Arrival → (ℕ → Option StreamItem) → Values → List (Option Stored) → List TaskNode → List (Option Stored)
new_from rules a items olds news [] = news
new_from rules a items olds news (node ∷ nodes) = new_from rules a items olds (news ++ value_at rules a items olds (value_in olds news) node.topics.number node.kind ∷ []) nodes

abbrev pub new_list : Rules → Arrival → (ℕ → Option StreamItem) → Values → Option Key → List TaskNode → List (Option Stored)
new_list rules a items olds None nodes = []
new_list rules a items olds (Some k) nodes = new_from rules a items olds [] nodes

-- ---- the values of tables that other tables make, after a step
abbrev pub filter_value : Test → Values → Values → ℕ → Option Stored → Option Stored
filter_value test olds news f old = cond (changed olds news f) (kept_row (λ v. cond (holds test v) (Some v) None) (row_in news f)) old

abbrev pub map_value : Set → Values → Values → ℕ → Option Stored → Option Stored
map_value set olds news f old = cond (changed olds news f) (kept_row (λ v. project set (Some v) None) (row_in news f)) old

abbrev pub join_value : JoinKind → Set → Values → Values → ℕ → ℕ → Option Stored → Option Stored
join_value kind set olds news l r old = cond (changed olds news l || changed olds news r) (of_row (joined kind set (row_in news l) (row_in news r))) old

abbrev pub foreign_value : Rules → Fk → Option Key → JoinKind → Set → Values → Values → ℕ → Option Message → Option Stored → Option Stored
foreign_value rules fk key kind set olds news l message old =
    cond (changed olds news l) (direct fk key kind set (row_in olds l) (row_in news l) old) (responded rules kind set (row_in news l) message old)

-- ---- a value that stays, whatever it was
-- an answer will come to a changed left row, so that the result isn't set at once
abbrev pub is_awaited : Fk → Option Key → Option Row → Option Row → Bool
is_awaited fk None old new = true
is_awaited fk (Some k) old new = not (is_direct fk k old new)

abbrev pub foreign_stays : Arrival → Values → Values → ℕ → ℕ → Fk → Bool
foreign_stays a olds news n l fk = cond (changed olds news l) (is_awaited fk (step_key a.item.message) (row_in olds l) (row_in news l)) (not (same_topic a.topic (Responses n)))

-- nothing that the node reads changes its value
abbrev pub stays_at : Arrival → Values → Values → ℕ → Kind → Bool
stays_at a olds news n (TableSource t) = not (same_topic a.topic (Input t))
stays_at a olds news n (TableFilter f test) = not (changed olds news f)
stays_at a olds news n (TableMap f set) = not (changed olds news f)
stays_at a olds news n (TableAggregate f by field) = not (same_topic a.topic (Repartition n))
stays_at a olds news n (KeyJoin l r kind set) = not (changed olds news l || changed olds news r)
stays_at a olds news n (ForeignKeyJoin l r fk kind set) = foreign_stays a olds news n l fk
stays_at a olds news n _ = false

-- of a node that wasn't gone through yet
abbrev pub is_still : Arrival → Values → List LiveValue → ℕ → Kind → Bool
is_still a olds xs n kind = cond (is_some (live_at n xs)) false (stays_at a (live_olds olds xs) (live_news olds xs) n kind)
