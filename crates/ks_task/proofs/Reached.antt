-- The nodes that a record can reach are those of the topic that it was read from.
use Rattle.std.proofs.Common.{◌≡◌, ℕ, List, [], map, Option, Some, None, sym, ap, ◌∙◌, is_some, true≢false}
use Rattle.std.specs.Prelude.{option_map}
use Rattle.ks_record.specs.Records.{Record as Rec}
use Rattle.ks_plan.specs.Plan.{Kind}
use Rattle.ks_plan.specs.declared.node.Topic.{Topic}
use Rattle.ks_def_tasks.specs.Messages.{Message}
use Rattle.ks_def_tasks.specs.Step.{Arrival}
use Rattle.ks_task_nodes.specs.declared.processor.ProcessorNode.{ProcessorNode}
use Rattle.ks_task_nodes.specs.declared.records.StampedRecord.{StampedRecord}
use Rattle.ks_task_nodes.specs.Nodes.{node_view}
use Rattle.ks_task_nodes.specs.Reach.{live_in}
use Rattle.ks_task_nodes.specs.Records.{arrival_of, arrived_as, arrival_at, message_from}
use Rattle.ks_task.specs.Views.{AreLiveAt}

topic_or : Topic → Option Arrival → Topic
topic_or t None = t
topic_or t (Some a) = a.topic

topic_read : (topic : Topic) (time : ℕ) (x : StampedRecord) (m : Option Message) → Some (arrival_of x) ≡ option_map (arrived_as topic time) m → x.topic ≡ topic
unfolding topic_or
topic_read topic time x None e = absurd (true≢false (ap is_some e))
topic_read topic time x (Some m) e = ap (topic_or topic) e

pub reached_there : (nodes : List ProcessorNode) (ks : List Kind) (purpose : Option Topic) (r : Rec) (x : StampedRecord) (live : List ℕ) → Some (arrival_of x) ≡ arrival_at ks purpose r → AreLiveAt nodes purpose live → live ≡ live_in x.topic [] (map node_view nodes)
reached_there nodes ks None r x live e h = absurd (true≢false (ap is_some e))
reached_there nodes ks (Some topic) r x live e h = h ∙ ap (λ (t : Topic). live_in t [] (map node_view nodes)) (sym (topic_read topic r.ts x (message_from ks topic r) e))
