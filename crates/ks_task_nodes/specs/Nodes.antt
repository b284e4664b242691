-- The nodes of a topology, as a task runs them: what each of them does, and the topics that it writes and reads, by number.
use Rattle.std.specs.Prelude.{ℕ, suc, ◌+◌, Bool, cond, nat_eq, List, [], ◌∷◌, map, get_or, Option, Some, None, option_copied, option_and_then, is_some}
use Rattle.ks_expr.specs.Terms.{test_of, set_of}
use Rattle.ks_plan.specs.Plan.{Plan, Kind, Window, window_of}
use Rattle.ks_plan.specs.Plan.Kind.{StreamSource, TableSource, StreamFilter, TableFilter, StreamMap, TableMap, KeySelected, StreamAggregate, TableAggregate, Windowed, KeyJoin, ForeignKeyJoin}
use Rattle.ks_plan.specs.Layout.{number_of, sub_of, parts_of, place_of, right_of, wired_right, no_kind, topic_at, before_of_topic}
use Rattle.ks_plan.specs.Drafts.{Name, OpView, FilterOf, MapOf, KeyOf, CountOf, SumOf, WindowedOf, JoinOf, FkJoinOf, op_view}
use Rattle.ks_plan.specs.declared.node.Node.{Node}
use Rattle.ks_plan.specs.declared.node.TopicInfo.{TopicInfo}
use Rattle.ks_plan.specs.declared.node.Wiring.{Wiring}
use Rattle.ks_plan.specs.declared.node.Wiring.TheVariants as wired
use Rattle.ks_plan.specs.declared.node.Topic.{Topic}
use Rattle.ks_plan.specs.declared.node.Topic.TheVariants.{Repartition, Subscriptions, Responses, Changelog, HashChangelog}
use Rattle.ks_task_nodes.specs.Windows.{fits_window}
use Rattle.ks_task_nodes.specs.declared.topics.NodeTopics.{NodeTopics}
use Rattle.ks_task_nodes.specs.declared.processor.Processor.{Processor}
use Rattle.ks_task_nodes.specs.declared.processor.Processor.TheVariants as processor
use Rattle.ks_task_nodes.specs.declared.processor.ProcessorNode.{ProcessorNode}

-- ---- what a node does
abbrev pub kind_of : Processor → Kind
kind_of (processor.StreamSource topic) = StreamSource topic
kind_of (processor.TableSource topic) = TableSource topic
kind_of (processor.StreamFilter from test) = StreamFilter from (test_of test.now)
kind_of (processor.TableFilter from test) = TableFilter from (test_of test.now)
kind_of (processor.StreamMap from set) = StreamMap from (set_of set.now)
kind_of (processor.TableMap from set) = TableMap from (set_of set.now)
kind_of (processor.SelectKey from field) = KeySelected from field.now
kind_of (processor.StreamAggregate from by field through) = StreamAggregate from by.now (option_copied field) through
kind_of (processor.TableAggregate from by field) = TableAggregate from by.now (option_copied field)
kind_of (processor.WindowedCount from by window through) = Windowed from by.now window through
kind_of (processor.KeyJoin j) = KeyJoin j.left j.right j.kind (set_of j.set.now)
kind_of (processor.ForeignKeyJoin j) = ForeignKeyJoin j.left j.right j.foreign_key.now j.kind (set_of j.set.now)

-- ---- a node with its topics; whether its subscriptions name the partition of the task that sends them, and the text that spreads them by
-- the front parts of foreign keys, if one does
pub record TaskNode : Type 0 where
  pub topics : NodeTopics
  pub kind : Kind
  pub names_partition : Bool
  pub right_before : Option Name

abbrev pub node_view : ProcessorNode → TaskNode
node_view n = record { topics = n.topics; kind = kind_of n.processor; names_partition = n.names_partition; right_before = option_copied n.right_before }

abbrev pub kinds_in : List TaskNode → List Kind
kinds_in ns = map (λ (n : TaskNode). n.kind) ns

-- ---- of a plan, for the tasks of a subtopology
abbrev pub node_topics : Plan → ℕ → ℕ → Kind → NodeTopics
node_topics p sub n k = record {
  number = n;
  changelog = number_of p (Changelog n);
  is_own = nat_eq (sub_of p n) sub;
  repartition = number_of p (Repartition n);
  partitions = parts_of p n;
  hash_changelog = number_of p (HashChangelog n);
  subscriptions = number_of p (Subscriptions n);
  responses = number_of p (Responses n);
  has_right = nat_eq (sub_of p (right_of k)) sub;
  right_partitions = parts_of p (right_of k);
}

abbrev pub topics_from : Plan → ℕ → ℕ → List Kind → List NodeTopics
topics_from p sub n [] = []
topics_from p sub n (k ∷ ks) = node_topics p sub n k ∷ topics_from p sub (suc n) ks

-- the text by whose front parts the keys of a numbered topic are spread
abbrev pub before_numbered : Plan → ℕ → Option Name
before_numbered p number = option_and_then (before_of_topic p) (topic_at p number)

abbrev pub node_of : Plan → ℕ → ℕ → Kind → TaskNode
node_of p sub n k = record {
  topics = node_topics p sub n k;
  kind = k;
  names_partition = is_some (before_numbered p (number_of p (Responses n)));
  right_before = before_numbered p (number_of p (Subscriptions n));
}

abbrev pub nodes_from : Plan → ℕ → ℕ → List Kind → List TaskNode
nodes_from p sub n [] = []
nodes_from p sub n (k ∷ ks) = node_of p sub n k ∷ nodes_from p sub (suc n) ks

abbrev pub nodes_of : Plan → ℕ → List TaskNode
nodes_of p sub = nodes_from p sub 0 p.kinds

-- ---- of a topology's nodes
abbrev pub windowed_or : ℕ → Option (List ℕ) → Bool → Window → Kind
windowed_or from by through w = cond (fits_window w) (Windowed from by w through) no_kind

-- what a node does, by its wiring and its operation; those of a well-formed topology always agree
abbrev pub kind_in : Wiring → OpView → Kind
kind_in (wired.StreamSource topic) op = StreamSource topic
kind_in (wired.TableSource topic) op = TableSource topic
kind_in (wired.StreamFilter from) (FilterOf name test) = StreamFilter from test
kind_in (wired.TableFilter from) (FilterOf name test) = TableFilter from test
kind_in (wired.StreamMap from) (MapOf name set) = StreamMap from set
kind_in (wired.TableMap from) (MapOf name set) = TableMap from set
kind_in (wired.KeySelected from) (KeyOf name key) = KeySelected from key
kind_in (wired.StreamAggregate from through) (CountOf name by) = StreamAggregate from by None through
kind_in (wired.StreamAggregate from through) (SumOf name by field) = StreamAggregate from by (Some field) through
kind_in (wired.TableAggregate from) (CountOf name (Some by)) = TableAggregate from by None
kind_in (wired.TableAggregate from) (SumOf name (Some by) field) = TableAggregate from by (Some field)
kind_in (wired.Windowed from through) (WindowedOf name by size advance grace) = windowed_or from by through (window_of size advance grace)
kind_in (wired.KeyJoin left right) (JoinOf l r kind set) = KeyJoin left right kind set
kind_in (wired.ForeignKeyJoin left right) (FkJoinOf l r fk kind set) = ForeignKeyJoin left right fk kind set
kind_in _ op = no_kind

abbrev pub node_kind : Node → Kind
node_kind x = kind_in x.wiring (op_view x.op)

abbrev pub kind_numbered : List Node → ℕ → Kind
kind_numbered nodes n = get_or (map node_kind nodes) n no_kind

-- as a topology shows it of its topics
abbrev pub text_at : List TopicInfo → ℕ → Option Name
text_at infos number = get_or (map (λ (i : TopicInfo). i.before) infos) number None

abbrev pub told_node : List TopicInfo → List Node → NodeTopics → TaskNode
told_node infos nodes t = record {
  topics = t;
  kind = kind_numbered nodes t.number;
  names_partition = is_some (text_at infos t.responses);
  right_before = text_at infos t.subscriptions;
}

abbrev pub with_kinds : List NodeTopics → List TopicInfo → List Node → List TaskNode
with_kinds ts infos nodes = map (told_node infos nodes) ts

abbrev pub sub_in : List Node → ℕ → ℕ
sub_in nodes n = get_or (map (λ (x : Node). x.sub) nodes) n 0

abbrev pub parts_in : List Node → ℕ → ℕ
parts_in nodes n = get_or (map (λ (x : Node). x.parts) nodes) n 0

abbrev pub topics_at : List Topic → List Node → ℕ → ℕ → Node → NodeTopics
topics_at topics all sub n node = record {
  number = n;
  changelog = place_of topics (Changelog n);
  is_own = nat_eq node.sub sub;
  repartition = place_of topics (Repartition n);
  partitions = node.parts;
  hash_changelog = place_of topics (HashChangelog n);
  subscriptions = place_of topics (Subscriptions n);
  responses = place_of topics (Responses n);
  has_right = nat_eq (sub_in all (wired_right node.wiring)) sub;
  right_partitions = parts_in all (wired_right node.wiring);
}

abbrev pub topics_in : List Topic → List Node → ℕ → ℕ → List Node → List NodeTopics
topics_in topics all sub n [] = []
topics_in topics all sub n (node ∷ nodes) = topics_at topics all sub n node ∷ topics_in topics all sub (n + 1) nodes
