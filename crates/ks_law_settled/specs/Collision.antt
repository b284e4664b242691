-- Hash collisions in a cluster's changelogs: two decided records of one left key whose rows differ and have one hash.
-- KIP-213: a join on a foreign key compares left rows by their hashes alone.
use Rattle.std.specs.Prelude.{◌≡◌, ℕ, suc, ◌&&◌, not, Bool, false, List, [], ◌∷◌, ◌++◌, Option, Some, None, cond, option_map, nat_eq}
use Rattle.std.specs.Option.{option_or}
use Rattle.ks_record.specs.Records.{Record as Rec}
use Rattle.ks_expr.specs.declared.terms.JoinKind.{JoinKind}
use Rattle.ks_expr.specs.declared.terms.Fk.{Fk}
use Rattle.ks_expr.specs.Terms.{Set}
use Rattle.ks_expr.specs.Eval.{Row, same_bytes}
use Rattle.ks_plan.specs.Plan.{Plan, Kind}
use Rattle.ks_plan.specs.Plan.Kind.{ForeignKeyJoin}
use Rattle.ks_plan.specs.Layout.{up_to, parts_of, kind_at}
use Rattle.ks_history.specs.State.{State}
use Rattle.ks_history.specs.Reads.{decided_records}
use Rattle.ks_def_tasks.specs.Messages.{same_row}
use Rattle.ks_def_tasks.specs.Collision.{IsNode}
use Rattle.ks_law_settled.specs.Folded.{log_part, row_from}

-- ---- the row that a record of a table's changelog tells: of an aggregate, the row that it is shown as; none of a deletion
abbrev pub row_by : Kind → Option (List ℕ) → Option Row
row_by kind None = None
row_by kind (Some bytes) = row_from kind bytes

-- both have a key, and the same one
abbrev pub same_keys : Option (List ℕ) → Option (List ℕ) → Bool
same_keys (Some a) (Some b) = same_bytes a b
same_keys a b = false

-- two records of one key, with rows that differ and have one hash
abbrev pub rows_collide : (Row → ℕ) → Option Row → Option Row → Bool
rows_collide hash (Some v) (Some w) = not (same_row v w) && nat_eq (hash v) (hash w)
rows_collide hash v w = false

abbrev pub collide : (Row → ℕ) → Kind → Rec → Rec → Bool
collide hash kind a b = same_keys a.key b.key && rows_collide hash (row_by kind a.value) (row_by kind b.value)

-- ---- the first pair: by the greater offset, then by the lesser one
-- the first of these earlier records with which this one collides
abbrev pub earlier : (Row → ℕ) → Kind → Rec → List (ℕ × Rec) → Option ℕ
earlier hash kind r [] = None
earlier hash kind r (x ∷ xs) = cond (collide hash kind x.1 r) (Some x.0) (earlier hash kind r xs)

-- two records of a partition, by their offsets: the lesser, the greater
pub record OffsetPair : Type 0 where
  pub key : Option (List ℕ)
  pub first : ℕ
  pub second : ℕ

abbrev pub pair_at : ℕ × Rec → Option ℕ → Option OffsetPair
pair_at x None = None
pair_at x (Some first) = Some (record { key = x.1.key; first = first; second = x.0 })

-- those before this one are given in order
abbrev pub first_from : (Row → ℕ) → Kind → List (ℕ × Rec) → List (ℕ × Rec) → Option OffsetPair
first_from hash kind before [] = None
first_from hash kind before (x ∷ xs) = option_or (pair_at x (earlier hash kind x.1 before)) (first_from hash kind (before ++ x ∷ []) xs)

abbrev pub first_in : (Row → ℕ) → Kind → List (ℕ × Rec) → Option OffsetPair
first_in hash kind xs = first_from hash kind [] xs

-- ---- of a node's changelog: the first partition that has one
abbrev pub in_parts : (Row → ℕ) → Plan → State → ℕ → List ℕ → Option OffsetPair
in_parts hash p s l [] = None
in_parts hash p s l (part ∷ parts) = option_or (first_in hash (kind_at p l) (decided_records s (log_part p l part))) (in_parts hash p s l parts)

-- of a join on a foreign key
pub record NodePair : Type 0 where
  -- the join, by its number
  pub node : ℕ
  pub pair : OffsetPair

abbrev pub of_node : (Row → ℕ) → Plan → State → ℕ → Kind → Option NodePair
of_node hash p s n (ForeignKeyJoin l r fk kind set) = option_map (λ pair. record { node = n; pair = pair }) (in_parts hash p s l (up_to (parts_of p l)))
of_node hash p s n _ = None

abbrev pub of_nodes : (Row → ℕ) → Plan → State → ℕ → List Kind → Option NodePair
of_nodes hash p s n [] = None
of_nodes hash p s n (k ∷ ks) = option_or (of_node hash p s n k) (of_nodes hash p s (suc n) ks)

-- by node, partition, greater and lesser offset
abbrev pub first_pair : (Row → ℕ) → Plan → State → Option NodePair
first_pair hash p s = of_nodes hash p s 0 p.kinds

-- ---- none of any two decided records of a partition collides, the earlier with the later
abbrev pub NoneWith : (Row → ℕ) → Kind → ℕ × Rec → List (ℕ × Rec) → Type 0
NoneWith hash kind x [] = Unit {0}
NoneWith hash kind x (y ∷ ys) = (collide hash kind x.1 y.1 ≡ false) × NoneWith hash kind x ys

abbrev pub NonePaired : (Row → ℕ) → Kind → List (ℕ × Rec) → Type 0
NonePaired hash kind [] = Unit {0}
NonePaired hash kind (x ∷ xs) = NoneWith hash kind x xs × NonePaired hash kind xs

-- in no changelog of a join's left node
abbrev pub NoneInJournal : (Row → ℕ) → Plan → State → Type 0
NoneInJournal hash p s = (n l r : ℕ) (fk : Fk) (kind : JoinKind) (set : Set) → IsNode p n (ForeignKeyJoin l r fk kind set) → (part : ℕ) → NonePaired hash (kind_at p l) (decided_records s (log_part p l part))
