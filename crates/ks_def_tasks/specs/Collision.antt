-- Rows of one left key with one hash: what a join on a foreign key cannot tell apart (KIP-213 compares rows by a hash alone).
use Rattle.std.specs.Prelude.{◌≡◌, ◌≢◌, ℕ, ◌⊎◌, List, [], ◌∷◌, Some, cond, slice_get}
use Rattle.ks_record.specs.declared.record.TaskId.{TaskId}
use Rattle.ks_expr.specs.declared.terms.JoinKind.{JoinKind}
use Rattle.ks_expr.specs.declared.terms.Fk.{Fk}
use Rattle.ks_expr.specs.Terms.{Set}
use Rattle.ks_expr.specs.Eval.{Row, same_bytes}
use Rattle.ks_plan.specs.Plan.{Plan, Kind}
use Rattle.ks_plan.specs.Plan.Kind.{ForeignKeyJoin}
use Rattle.ks_plan.specs.declared.node.Topic.TheVariants.{Changelog}
use Rattle.ks_plan.specs.Layout.{sub_of}
use Rattle.ks_def_runs.specs.Run.{RunState}
use Rattle.ks_query.specs.Streams.{Key}
use Rattle.ks_def_tasks.specs.Messages.{Place, shown, Message, Item, Store, Rules}
use Rattle.ks_def_tasks.specs.Messages.Message.{Kept}

-- ---- the past of a changelog's partition: all records that the task which keeps the store ever wrote there
abbrev pub past : Plan → RunState TaskId Place Store Item → ℕ → ℕ → List Item
past p st n part = st.given (Some (record { sub = sub_of p n; part = part })) (record { topic = Changelog n; part = part })

-- ---- the rows that a key has had in it; of an aggregate, the rows that it was shown as
abbrev pub had_in : Key → Message → List Row → List Row
had_in k (Kept q (Some x)) rows = cond (same_bytes q k) (shown x ∷ rows) rows
had_in k _ rows = rows

abbrev pub rows_had : Key → List Item → List Row
rows_had k [] = []
rows_had k (x ∷ xs) = had_in k x.message (rows_had k xs)

abbrev pub In : {A : Type 0} → A → List A → Type 0
In v [] = ⊥
In v (x ∷ xs) = (v ≡ x) ⊎ In v xs

-- ---- collisions
-- two rows that differ and have one hash
pub record IsPair (hash : Row → ℕ) (rows : List Row) (v w : Row) : Type 0 where
  pub first : In v rows
  pub second : In w rows
  pub differ : v ≢ w
  pub same_hash : hash v ≡ hash w

-- there are none
abbrev pub NoneCollides : (Row → ℕ) → List Row → Type 0
NoneCollides hash rows = (v w : Row) → In v rows → In w rows → hash v ≡ hash w → v ≡ w

-- the node n of a plan
abbrev pub IsNode : Plan → ℕ → Kind → Type 0
IsNode p n k = slice_get p.kinds n ≡ Some k

-- of the left node of a join on a foreign key, in one partition of its changelog, two such rows of one key
pub record Collides (rules : Rules) (p : Plan) (st : RunState TaskId Place Store Item) : Type 0 where
  pub node : ℕ
  pub left : ℕ
  pub right : ℕ
  pub fk : Fk
  pub kind : JoinKind
  pub set : Set
  pub is_join : IsNode p node (ForeignKeyJoin left right fk kind set)
  pub part : ℕ
  pub key : Key
  pub one : Row
  pub other : Row
  pub pair : IsPair rules.hash (rows_had key (past p st left part)) one other

abbrev pub NoCollision : Rules → Plan → RunState TaskId Place Store Item → Type 0
NoCollision rules p st = (n l r : ℕ) (fk : Fk) (kind : JoinKind) (s : Set) → IsNode p n (ForeignKeyJoin l r fk kind s) →
    (part : ℕ) (k : Key) → NoneCollides rules.hash (rows_had k (past p st l part))
