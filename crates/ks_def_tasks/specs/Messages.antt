-- What tasks keep and send one another, decoded: messages, stored values, the stores of a task.
use Rattle.std.specs.Prelude.{ℕ, zero, suc, Bool, true, false, ◌&&◌, [], ◌∷◌, Option, Some, None, nat_eq}
use Rattle.std.specs.Ordering.{int_cmp, eq_by_cmp}
use Rattle.ks_def_runs.specs.FinMap.{FinMap}
use Rattle.ks_def_runs.specs.Bytes.{by_bytes}
use Rattle.ks_expr.specs.Eval.{Row, same_bytes, same_field}
use Rattle.ks_query.specs.Streams.{Key}
use Rattle.ks_plan.specs.declared.node.Topic.{Topic}
use Rattle.ks_plan.specs.declared.node.Spread.{Spread}
use Rattle.ks_plan.specs.Layout.{same_topic}
use Rattle.ks_query.specs.Windows.{WindowKey, by_window}
use Rattle.ks_wire.specs.Values.{SubscriptionValue}
use Rattle.ks_wire.specs.declared.values.Agg.{Agg}
use Rattle.ks_wire.specs.declared.values.Delta.{Delta}
use Rattle.ks_wire.specs.declared.values.Subscriber.{Subscriber}
use Rattle.ks_wire.specs.declared.values.Response.{Response}
use Rattle.ks_query.specs.Aggregates.{agg_row}

-- a partition of a topic
pub record Place : Type 0 where
  pub topic : Topic
  pub part : ℕ

abbrev pub same_place : Place → Place → Bool
same_place a b = same_topic a.topic b.topic && nat_eq a.part b.part

-- a table node's stored value: a row, or an aggregate (a count, or a sum)
pub data Stored : Type 0 where
  OfRow : Row → Stored
  OfAgg : Bool → Agg → Stored

-- the row that the nodes below see
abbrev pub shown : Stored → Row
shown (OfRow row) = row
shown (OfAgg count a) = agg_row count a

abbrev pub agg_of : Option Stored → Option Agg
agg_of None = None
agg_of (Some (OfRow row)) = None
agg_of (Some (OfAgg count a)) = Some a

-- what a subscription asks of the right side, in the order of their numbers 0 to 3 (KIP-213); the last is obeyed and never sent
pub data Instruction : Type 0 where
  Delete : Instruction
  DeleteAndAnswer : Instruction
  Answer : Instruction
  AnswerIfThere : Instruction

-- of a left row, by its hash; with the partition to answer to, where the left key doesn't tell it
pub record Subscription : Type 0 where
  pub hash : Option ℕ
  pub instruction : Instruction
  pub part : Option ℕ

-- as it is written, with the left key
abbrev pub number_of : Instruction → ℕ
number_of Delete = 0
number_of DeleteAndAnswer = 1
number_of Answer = 2
number_of AnswerIfThere = 3

abbrev pub instruction_of : ℕ → Instruction
instruction_of zero = Delete
instruction_of (suc zero) = DeleteAndAnswer
instruction_of (suc (suc zero)) = Answer
instruction_of (suc (suc (suc n))) = AnswerIfThere

abbrev pub value_of : Key → Subscription → SubscriptionValue
value_of left s = record { hash = s.hash; instruction = number_of s.instruction; left = left; part = s.part }

abbrev pub subscription_of : SubscriptionValue → Subscription
subscription_of v = record { hash = v.hash; instruction = instruction_of v.instruction; part = v.part }

pub data Message : Type 0 where
  -- of an input topic
  Given : Option Key → Option Row → Message
  -- of a repartition topic, by group: of a stream, of a table
  Keyed : Key → Row → Message
  Moved : Key → Delta → Message
  -- of a subscription topic: foreign key and left key; of a response topic: left key
  Asked : Key → Key → Subscription → Message
  Answered : Key → Response → Message
  -- of changelogs: a table's value at a key, a window's count, the greatest time, a subscriber by foreign key and left key
  Kept : Key → Option Stored → Message
  KeptCount : WindowKey → Agg → Message
  KeptTime : ℕ → Message
  KeptHash : Key → Key → Option Subscriber → Message

pub record Item : Type 0 where
  pub message : Message
  pub time : ℕ

-- the stores of a task, by node
pub record Store : Type 0 where
  pub tables : ℕ → FinMap by_bytes Stored
  pub counts : ℕ → FinMap by_window Agg
  -- the greatest time that a windowed count has seen
  pub times : ℕ → Option ℕ
  -- the subscription store: by foreign key, then by left key
  pub hashes : ℕ → Key → FinMap by_bytes Subscriber

-- how keys are spread over partitions, and rows hashed
pub record Rules : Type 0 where
  pub part : Key → Spread → ℕ
  pub hash : Row → ℕ

-- ---- equal values
abbrev pub same_row : Row → Row → Bool
same_row [] [] = true
same_row (m ∷ ms) (n ∷ ns) = same_bytes m.0 n.0 && same_field m.1 n.1 && same_row ms ns
same_row [] (n ∷ ns) = false
same_row (m ∷ ms) [] = false

abbrev pub same_option : {A : Type 0} → (A → A → Bool) → Option A → Option A → Bool
same_option f None None = true
same_option f (Some a) (Some b) = f a b
same_option f None (Some b) = false
same_option f (Some a) None = false

abbrev pub same_bool : Bool → Bool → Bool
same_bool true b = b
same_bool false true = false
same_bool false false = true

abbrev pub same_agg : Agg → Agg → Bool
same_agg a b = eq_by_cmp int_cmp a.members b.members && eq_by_cmp int_cmp a.total b.total

abbrev pub same_subscriber : Subscriber → Subscriber → Bool
same_subscriber a b = nat_eq a.hash b.hash && same_option nat_eq a.part b.part

abbrev pub same_stored : Stored → Stored → Bool
same_stored (OfRow a) (OfRow b) = same_row a b
same_stored (OfAgg c a) (OfAgg d b) = same_bool c d && same_agg a b
same_stored (OfRow a) (OfAgg d b) = false
same_stored (OfAgg c a) (OfRow b) = false
