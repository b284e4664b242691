-- Joins on a foreign key in every state of every uncrashed run, for each left key and each foreign key (KIP-213).
use Rattle.std.specs.Prelude.{◌≡◌, ◌≢◌, ℕ, List, [], ◌∷◌, Option, Some, None, fold, cond, nat_eq, option_and_then, ◌⊎◌}
use Rattle.std.specs.Option.{option_or}
use Rattle.ks_record.specs.declared.record.TaskId.{TaskId}
use Rattle.ks_expr.specs.declared.terms.JoinKind.{JoinKind}
use Rattle.ks_expr.specs.declared.terms.Fk.{Fk}
use Rattle.ks_expr.specs.Keys.{fk_of}
use Rattle.ks_expr.specs.Terms.{Set}
use Rattle.ks_expr.specs.Eval.{Row, joined}
use Rattle.ks_plan.specs.declared.node.Topic.TheVariants.{Subscriptions, Responses}
use Rattle.ks_wire.specs.declared.values.Subscriber.{Subscriber}
use Rattle.ks_plan.specs.Drafts.{DraftView}
use Rattle.ks_plan.specs.Plan.{plan_of}
use Rattle.ks_plan.specs.Plan.Kind.{ForeignKeyJoin}
use Rattle.ks_def_runs.specs.FinMap as map
use Rattle.ks_query.specs.Streams.{Key, Input}
use Rattle.ks_def_tasks.specs.Messages.{Place, Instruction, Message, Rules}
use Rattle.ks_def_tasks.specs.Messages.Instruction.{Delete, DeleteAndAnswer, Answer}
use Rattle.ks_def_tasks.specs.Messages.Message.{Asked, Answered}
use Rattle.ks_def_tasks.specs.Collision.{In, IsNode, NoCollision, past, rows_had}
use Rattle.ks_def_tasks.specs.Rest.{home}
use Rattle.ks_law_quiescence.specs.ForeignJoin.{Subscription, Response, apply, accept, same_key}
use Rattle.ks_law_quiescence.specs.ForeignJoin.Subscription.{Forget, ForgetAndAnswer, Ask}
use Rattle.ks_law_quiescence.specs.States.{State, state_of}
use Rattle.ks_law_topology.specs.Taken.{messages}
use Rattle.ks_law_topology.specs.WellFormed.{IsWellFormed}
use Rattle.ks_law_fk_quiescence.specs.KeyJoins.{JoinAt, join_at, named_at, protocol_of, KeyJoin, key_join, left_task, left_part, right_task, key_part}
use Rattle.ks_law_fk_quiescence.specs.AtRest.{hash_for}

-- ---- what waits
-- instructions 0 and 2 come with a hash, 1 without one, and 3 is never sent
abbrev pub IsAsking : Instruction → Option ℕ → Type 0
IsAsking Delete (Some h) = Unit {0}
IsAsking DeleteAndAnswer None = Unit {0}
IsAsking Answer (Some h) = Unit {0}
IsAsking i h = ⊥

-- a response without a hash has no row
abbrev pub IsAnswer : Option ℕ → Option Row → Type 0
IsAnswer None (Some y) = ⊥
IsAnswer h y = Unit {0}

-- a subscription comes from the task of its left key, stands at the place of its foreign key, and names the partition of that task exactly
-- where the left side's keys are spread by their front parts
abbrev pub IsAskedAt : JoinAt → Option TaskId → ℕ → Message → Type 0
IsAskedAt at s i (Asked b k x) = record {
  sender : s ≡ Some (left_task at k);
  part : i ≡ key_part at b;
  asks : IsAsking x.instruction x.hash;
  names : x.part ≡ named_at at k;
}
IsAskedAt at s i m = ⊥

-- a response comes from a task of the right side, and stands at the place of its left key
abbrev pub IsAnsweredAt : JoinAt → Option TaskId → ℕ → Message → Type 0
IsAnsweredAt at s i (Answered k y) = record {
  sender : (j : ℕ) × (s ≡ Some (right_task at j));
  part : i ≡ left_part at k;
  answers : IsAnswer y.hash y.right;
}
IsAnsweredAt at s i m = ⊥

abbrev pub MessagesStand : Type 0
MessagesStand = (rules : Rules) (d : DraftView) (records : List Input) (schedule : List (Option TaskId × Place)) → IsWellFormed d →
    let p = plan_of d in
    let st = state_of rules p records schedule in
    (n l r : ℕ) (fk : Fk) (kind : JoinKind) (set : Set) → IsNode p n (ForeignKeyJoin l r fk kind set) →
    let at = join_at rules p n l r fk kind set in
    (s : Option TaskId) (i : ℕ) (m : Message) →
    record {
      asked : In m (messages (st.waiting s (record { topic = Subscriptions n; part = i }))) → IsAskedAt at s i m;
      answered : In m (messages (st.waiting s (record { topic = Responses n; part = i }))) → IsAnsweredAt at s i m;
      -- so does what is kept of each subscription
      kept : (u : TaskId) (b k : Key) (x : Subscriber) → map.get ((st.stores u).hashes n b) k ≡ Some x → x.part ≡ named_at at k;
    }

-- ---- what a left key sees, with the rows that it has had
abbrev pub key_join_in : JoinAt → Key → State → KeyJoin
key_join_in at k st = key_join at k (rows_had k (past at.plan st at.left (home at.rules at.plan at.left k))) st

-- a law of each left key of each join
abbrev pub OfEach : (JoinAt → Key → KeyJoin → Type 0) → Type 0
OfEach law = (rules : Rules) (d : DraftView) (records : List Input) (schedule : List (Option TaskId × Place)) → IsWellFormed d →
    let p = plan_of d in
    let st = state_of rules p records schedule in
    NoCollision rules p st →
    (n l r : ℕ) (fk : Fk) (kind : JoinKind) (set : Set) → IsNode p n (ForeignKeyJoin l r fk kind set) →
    let at = join_at rules p n l r fk kind set in
    (k : Key) → law at k (key_join_in at k st)

-- the left key k has had a row with this foreign key and this hash
abbrev pub HasHad : JoinAt → Key → KeyJoin → Key → ℕ → Type 0
HasHad at k j b h = (v : Row) × (In v j.had) × (at.rules.hash v ≡ h) × (fk_of at.fk k v ≡ Some b)

-- each hash that is stored, or waits in a subscription, is that of a row that the key has had whose foreign key is b; each waiting
-- response with a hash comes from the task of the foreign key of a row that it has had with that hash
abbrev pub HashesAreHad : JoinAt → Key → KeyJoin → Type 0
HashesAreHad at k j = record {
  stored : (b : Key) (h : ℕ) → j.stored b ≡ Some h → HasHad at k j b h;
  asked : (b : Key) (h : ℕ) → In (Ask h) (j.subscriptions b) → HasHad at k j b h;
  answered : (i h : ℕ) (y : Option Row) → In (record { hash = Some h; row = y }) (j.responses i) →
      (b : Key) × (key_part at b ≡ i) × HasHad at k j b h;
}

-- the stored hash after all waiting subscriptions is the present row's where b is its foreign key, and none elsewhere
abbrev pub HashesFollow : JoinAt → Key → KeyJoin → Type 0
HashesFollow at k j = (b : Key) → fold apply (j.stored b) (j.subscriptions b) ≡ option_and_then (hash_for at.rules at.fk b k) j.row

abbrev pub last : {A : Type 0} → List A → Option A
last [] = None
last (x ∷ xs) = option_or (last xs) (Some x)

-- the last waiting subscription of a foreign key
abbrev pub last_asked : KeyJoin → Key → Option Subscription
last_asked j b = last (j.subscriptions b)

-- where b isn't the foreign key of the present row: the last waiting subscription is 0 or 1, or none waits and nothing is stored
abbrev pub OthersAreForgotten : JoinAt → Key → KeyJoin → Type 0
OthersAreForgotten at k j = (b : Key) → option_and_then (fk_of at.fk k) j.row ≢ Some b →
    ((last_asked j b ≡ Some Forget) ⊎ (last_asked j b ≡ Some ForgetAndAnswer)) ⊎ ((j.subscriptions b ≡ []) × (j.stored b ≡ None))

-- the row of the last response with this hash
abbrev pub last_with : {Y : Type 0} → ℕ → List (Response Y) → Option (Option Y)
last_with h [] = None
last_with h (y ∷ ys) = option_or (last_with h ys) (cond (same_key nat_eq (Some h) y.hash) (Some y.row) None)

-- the row of the last waiting response of a right task with this hash
abbrev pub last_answer : KeyJoin → ℕ → ℕ → Option (Option Row)
last_answer j i h = last_with h (j.responses i)

-- where the present row v has the foreign key a: the last waiting subscription is 2 with v's hash, or none waits, v's hash is stored,
-- and either the last waiting response with it carries the right row of the moment, or none with it waits and the result is that
-- row's; responses with v's hash come from a's task alone
abbrev pub PresentIsAnswered : JoinAt → Key → KeyJoin → Type 0
PresentIsAnswered at k j = (v : Row) (a : Key) → j.row ≡ Some v → fk_of at.fk k v ≡ Some a →
    let h = at.rules.hash v in
    let part = key_part at a in
    record {
      stands : (last_asked j a ≡ Some (Ask h)) ⊎ record {
        none_waits : j.subscriptions a ≡ [];
        stored : j.stored a ≡ Some h;
        answered : (last_answer j part h ≡ Some (j.right a))
            ⊎ ((last_answer j part h ≡ None) × (j.result ≡ joined at.kind at.set (Some v) (j.right a)));
      };
      alone : (i : ℕ) → i ≢ part → last_answer j i h ≡ None;
    }

-- the result after all waiting responses of the foreign key's task is the right row's of the moment
abbrev pub ResultsFollow : JoinAt → Key → KeyJoin → Type 0
ResultsFollow at k j = (v : Row) (a : Key) → j.row ≡ Some v → fk_of at.fk k v ≡ Some a → j.subscriptions a ≡ [] →
    fold (accept (protocol_of at k) (Some v)) j.result (j.responses (key_part at a)) ≡ joined at.kind at.set (Some v) (j.right a)

-- without a left row: no result, or a subscription 1 or a response without a hash waits
abbrev pub GoneIsTold : JoinAt → Key → KeyJoin → Type 0
GoneIsTold at k j = j.row ≡ None → (j.result ≡ None)
    ⊎ (((b : Key) × In ForgetAndAnswer (j.subscriptions b)) ⊎ ((i : ℕ) × In (record { hash = None; row = None }) (j.responses i)))

-- where the present row has no foreign key: the result is that of no right row
abbrev pub AloneIsJoined : JoinAt → Key → KeyJoin → Type 0
AloneIsJoined at k j = (v : Row) → j.row ≡ Some v → fk_of at.fk k v ≡ None → j.result ≡ joined at.kind at.set (Some v) None
