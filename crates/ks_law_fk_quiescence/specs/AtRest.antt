-- At rest: joins on a foreign key (KIP-213), and all tables of a topology.
use Rattle.std.specs.Prelude.{◌≡◌, ℕ, Bool, true, not, ◌&&◌, List, Option, Some, None, cond, option_map, option_and_then}
use Rattle.ks_record.specs.declared.record.TaskId.{TaskId}
use Rattle.ks_record.specs.Parts.{same_task}
use Rattle.ks_expr.specs.declared.terms.JoinKind.{JoinKind}
use Rattle.ks_expr.specs.declared.terms.Fk.{Fk}
use Rattle.ks_expr.specs.Keys.{fk_of}
use Rattle.ks_expr.specs.Terms.{Set}
use Rattle.ks_expr.specs.Eval.{Row, same_bytes}
use Rattle.ks_wire.specs.declared.values.Subscriber.{Subscriber}
use Rattle.ks_plan.specs.Drafts.{DraftView}
use Rattle.ks_plan.specs.Plan.{Plan, Kind, plan_of, is_stream, is_windowed}
use Rattle.ks_plan.specs.Plan.Kind.{ForeignKeyJoin}
use Rattle.ks_def_runs.specs.FinMap as map
use Rattle.ks_query.specs.Streams.{Key, Input}
use Rattle.ks_def_tasks.specs.Messages.{Place, Rules, same_option}
use Rattle.ks_def_tasks.specs.Collision.{IsNode, NoCollision}
use Rattle.ks_def_tasks.specs.Rest.{IsDrained, IsAtRest, named}
use Rattle.ks_law_quiescence.specs.AtRest.{IsQuery}
use Rattle.ks_law_quiescence.specs.States.{state_of, row_at, home_task}
use Rattle.ks_law_topology.specs.WellFormed.{IsWellFormed}

-- the hash of a left row, where the foreign key of k and it is b
abbrev pub hash_for : Rules → Fk → Key → Key → Row → Option ℕ
hash_for rules fk b k v = cond (same_option same_bytes (fk_of fk k v) (Some b)) (Some (rules.hash v)) None

-- the same, with the partition that subscriptions for k name, where they name one
abbrev pub subscriber_for : Rules → Plan → ℕ → Fk → Key → Key → Row → Option Subscriber
subscriber_for rules p n fk b k v = option_map (λ h. record { hash = h; part = named rules p n k }) (hash_for rules fk b k v)

-- once nothing waits, and no two rows of a left key collide: each subscription store has exactly the present row's hash, with the
-- partition of the left key's task where subscriptions name it, at the foreign key and the left key, in the task of the foreign key
abbrev pub HashesRest : Type 0
HashesRest = (rules : Rules) (d : DraftView) (records : List Input) (schedule : List (Option TaskId × Place)) → IsWellFormed d →
    let p = plan_of d in
    let st = state_of rules p records schedule in
    IsDrained st → NoCollision rules p st →
    (n l r : ℕ) (fk : Fk) (kind : JoinKind) (set : Set) → IsNode p n (ForeignKeyJoin l r fk kind set) → (u : TaskId) (b k : Key) →
    map.get ((st.stores u).hashes n b) k
    ≡ cond (same_task u (home_task rules p r b)) (option_and_then (subscriber_for rules p n fk b k) (row_at st (home_task rules p l k) l k)) None

-- and the join's table is the query's where its inputs are
abbrev pub JoinsRest : Type 0
JoinsRest = (rules : Rules) (d : DraftView) (records : List Input) (schedule : List (Option TaskId × Place)) → IsWellFormed d →
    let p = plan_of d in
    let st = state_of rules p records schedule in
    IsDrained st → NoCollision rules p st →
    (n l r : ℕ) (fk : Fk) (kind : JoinKind) (set : Set) → IsNode p n (ForeignKeyJoin l r fk kind set) →
    IsQuery rules p records st l → IsQuery rules p records st r → IsQuery rules p records st n

-- a table that isn't a windowed count
abbrev pub is_table : Kind → Bool
is_table k = not (is_stream k) && not (is_windowed k)

-- at rest, each of them is the query's over all its tasks
abbrev pub TablesRest : Type 0
TablesRest = (rules : Rules) (d : DraftView) (records : List Input) (schedule : List (Option TaskId × Place)) → IsWellFormed d →
    let p = plan_of d in
    let st = state_of rules p records schedule in
    IsAtRest rules p st → (n : ℕ) (k : Kind) → IsNode p n k → is_table k ≡ true → IsQuery rules p records st n
