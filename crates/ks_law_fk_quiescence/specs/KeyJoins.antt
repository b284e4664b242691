-- A join on a foreign key where it stands in a plan, and a state of a run as one left key of it sees it (KIP-213).
use Rattle.std.specs.Prelude.{ℕ, List, [], ◌∷◌, Option, Some, None, option_map, cond, ◌&&◌}
use Rattle.ks_record.specs.declared.record.TaskId.{TaskId}
use Rattle.ks_expr.specs.declared.terms.JoinKind.{JoinKind}
use Rattle.ks_expr.specs.declared.terms.Fk.{Fk}
use Rattle.ks_expr.specs.Keys.{fk_of}
use Rattle.ks_expr.specs.Terms.{Set}
use Rattle.ks_expr.specs.Eval.{Row, same_bytes, joined}
use Rattle.ks_wire.specs.declared.values.Response.{Response as Answer}
use Rattle.ks_wire.specs.declared.values.Subscriber.{Subscriber}
use Rattle.ks_plan.specs.Plan.{Plan}
use Rattle.ks_plan.specs.Layout.{sub_of}
use Rattle.ks_plan.specs.declared.node.Topic.TheVariants.{Subscriptions, Responses}
use Rattle.ks_def_runs.specs.FinMap as map
use Rattle.ks_query.specs.Streams.{Key}
use Rattle.ks_def_tasks.specs.Messages.{Place, Instruction, Message, Rules, Subscription as Asking}
use Rattle.ks_def_tasks.specs.Messages.Instruction.{Delete, DeleteAndAnswer, Answer as AnswerAlways, AnswerIfThere}
use Rattle.ks_def_tasks.specs.Messages.Message.{Asked, Answered}
use Rattle.ks_def_tasks.specs.Rest.{home, named}
use Rattle.ks_law_quiescence.specs.States.{State, row_at, home_task}
use Rattle.ks_law_topology.specs.Taken.{messages}
use Rattle.ks_law_quiescence.specs.ForeignJoin.{Protocol, Subscription, Response, Join}
use Rattle.ks_law_quiescence.specs.ForeignJoin.Subscription.{Forget, ForgetAndAnswer, Ask}

-- ---- a join on a foreign key
pub record JoinAt : Type 0 where
  -- how keys are spread and rows hashed, in which plan
  pub rules : Rules
  pub plan : Plan
  -- the join's node, and those of its two sides
  pub node : ℕ
  pub left : ℕ
  pub right : ℕ
  -- what gives the foreign key, of a left key and its row
  pub fk : Fk
  pub kind : JoinKind
  -- the fields of its own rows
  pub set : Set

abbrev pub join_at : Rules → Plan → ℕ → ℕ → ℕ → Fk → JoinKind → Set → JoinAt
join_at rules plan node left right fk kind set = record {
  rules = rules;
  plan = plan;
  node = node;
  left = left;
  right = right;
  fk = fk;
  kind = kind;
  set = set;
}

-- the task and the partition of a left key, and those of a foreign key
abbrev pub left_task : JoinAt → Key → TaskId
left_task at k = home_task at.rules at.plan at.node k

abbrev pub left_part : JoinAt → Key → ℕ
left_part at k = home at.rules at.plan at.node k

abbrev pub key_task : JoinAt → Key → TaskId
key_task at b = home_task at.rules at.plan at.right b

abbrev pub key_part : JoinAt → Key → ℕ
key_part at b = home at.rules at.plan at.right b

-- the tasks of the right side by their partitions
abbrev pub right_task : JoinAt → ℕ → TaskId
right_task at j = record { sub = sub_of at.plan at.right; part = j }

-- where the answers to a left key come, and the subscriptions for a foreign key
abbrev pub answers_place : JoinAt → Key → Place
answers_place at k = record { topic = Responses at.node; part = left_part at k }

abbrev pub asking_place : JoinAt → Key → Place
asking_place at b = record { topic = Subscriptions at.node; part = key_part at b }

-- the partition that the subscriptions for a left key name, where they name one
abbrev pub named_at : JoinAt → Key → Option ℕ
named_at at k = named at.rules at.plan at.node k

-- the protocol that it keeps to for a left key
abbrev pub protocol_of : JoinAt → Key → Protocol Key Row Row Row
protocol_of at k = record {
  alike = same_bytes;
  foreign_key = fk_of at.fk k;
  hash = at.rules.hash;
  part = key_part at;
  joined = λ v y. joined at.kind at.set (Some v) y;
}

-- ---- messages, as the protocol has them
-- an instruction with a hash; those that are never sent count as the first
abbrev pub asking : Instruction → Option ℕ → Subscription
asking Delete hash = Forget
asking DeleteAndAnswer hash = ForgetAndAnswer
asking AnswerAlways None = Forget
asking AnswerAlways (Some h) = Ask h
asking AnswerIfThere hash = Forget

abbrev pub asks : Asking → Subscription
asks s = asking s.instruction s.hash

abbrev pub answers : Answer → Response Row
answers r = record { hash = r.hash; row = r.right }

-- the subscriptions of the foreign key b and the left key k among these messages
abbrev pub asked_by : Key → Key → List Message → List Subscription
asked_by b k [] = []
asked_by b k (Asked c q s ∷ ms) = cond (same_bytes c b && same_bytes k q) (asks s ∷ asked_by b k ms) (asked_by b k ms)
asked_by b k (m ∷ ms) = asked_by b k ms

-- the responses to the left key k
abbrev pub answered_to : Key → List Message → List (Response Row)
answered_to k [] = []
answered_to k (Answered q r ∷ ms) = cond (same_bytes k q) (answers r ∷ answered_to k ms) (answered_to k ms)
answered_to k (m ∷ ms) = answered_to k ms

-- ---- a state as a left key of the join sees it; the rows that the key has had are given
abbrev pub KeyJoin : Type 0
KeyJoin = Join Key Row Row Row

abbrev pub key_join : JoinAt → Key → List Row → State → KeyJoin
key_join at k had st = record {
  row = row_at st (left_task at k) at.left k;
  result = row_at st (left_task at k) at.node k;
  had = had;
  right = λ b. row_at st (key_task at b) at.right b;
  stored = λ b. option_map (λ (s : Subscriber). s.hash) (map.get ((st.stores (key_task at b)).hashes at.node b) k);
  subscriptions = λ b. asked_by b k (messages (st.waiting (Some (left_task at k)) (asking_place at b)));
  responses = λ j. answered_to k (messages (st.waiting (Some (right_task at j)) (answers_place at k)));
}
