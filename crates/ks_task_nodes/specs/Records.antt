-- What a record of a topic says to a task, in the machine's own words.
use Rattle.std.specs.Prelude.{ℕ, List, get_or, Option, Some, None, option_map}
use Rattle.ks_record.specs.Texts.{key_from}
use Rattle.ks_record.specs.Records.{Record as Rec}
use Rattle.ks_wire.specs.Reading.{subscription_from, response_from}
use Rattle.ks_plan.specs.Plan.{Kind}
use Rattle.ks_plan.specs.Layout.{no_kind}
use Rattle.ks_plan.specs.declared.node.Topic.{Topic}
use Rattle.ks_plan.specs.declared.node.Topic.TheVariants.{Input, Repartition, Subscriptions, Responses}
use Rattle.ks_def_tasks.specs.Messages.{Message, subscription_of}
use Rattle.ks_def_tasks.specs.Messages.Message.{Given, Keyed, Moved, Asked, Answered}
use Rattle.ks_def_tasks.specs.Step.{Arrival}
use Rattle.ks_def_tasks.specs.Bytes.{of_both, given_in, regrouped_in}
use Rattle.ks_task_nodes.specs.declared.records.Payload.{Payload}
use Rattle.ks_task_nodes.specs.declared.records.Payload.TheVariants as variant
use Rattle.ks_task_nodes.specs.declared.records.StampedRecord.{StampedRecord}

abbrev pub message_of : Payload → Message
message_of (variant.Input key row) = Given key row
message_of (variant.Row group row) = Keyed group row
message_of (variant.Delta group delta) = Moved group delta
message_of (variant.Subscription foreign subscription) = Asked foreign subscription.left (subscription_of subscription)
message_of (variant.Response left response) = Answered left response

-- what arrives; the partitions that subscriptions name stand with the nodes
abbrev pub arrived_as : Topic → ℕ → Message → Arrival
arrived_as topic time message = record { topic = topic; item = record { message = message; time = time }; names = λ n. None }

abbrev pub arrival_of : StampedRecord → Arrival
arrival_of x = arrived_as x.topic x.time (message_of x.payload)

-- by the kinds of all nodes
abbrev pub message_from : List Kind → Topic → Rec → Option Message
message_from ks (Input t) r = given_in r
message_from ks (Repartition n) r = regrouped_in (get_or ks n no_kind) r
message_from ks (Subscriptions n) r = of_both key_from subscription_from (λ b v. Asked b v.left (subscription_of v)) r
message_from ks (Responses n) r = of_both key_from response_from Answered r
message_from ks _ r = None

abbrev pub arrival_from : List Kind → Topic → Rec → Option Arrival
arrival_from ks topic r = option_map (arrived_as topic r.ts) (message_from ks topic r)

-- of a topic that may not be there
abbrev pub arrival_at : List Kind → Option Topic → Rec → Option Arrival
arrival_at ks None r = None
arrival_at ks (Some topic) r = arrival_from ks topic r
