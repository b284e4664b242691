-- Values that have a spelling: what projections, joins, keys of fields and aggregates make of such values is such again.
use Rattle.std.specs.Prelude.{ℕ, List, [], ◌∷◌, Option, Some, None}
use Rattle.std.specs.Int.{w64}
use Rattle.std.specs.Int.RustNames.{FitsSigned}
use Rattle.ks_record.specs.Texts.{IsKey, IsName, IsText}
use Rattle.ks_row.specs.Spelling.{FitsRow}
use Rattle.ks_row.specs.FieldKeys.{field_key}
use Rattle.ks_wire.specs.Spelling.{FitsAgg}
use Rattle.ks_wire.specs.declared.values.Agg.{Agg}
use Rattle.ks_wire.specs.declared.values.Delta.{Delta}
use Rattle.ks_expr.specs.declared.terms.JoinKind.{JoinKind}
use Rattle.ks_expr.specs.Terms.{Term, Set}
use Rattle.ks_expr.specs.Terms.Term.{FieldOf, LeftOf, RightOf, Number, Words, Plus, Minus, Times}
use Rattle.ks_expr.specs.Eval.{Row, project, joined}
use Rattle.ks_query.specs.Aggregates.{stream_add, table_apply}

-- of a value that may be absent
abbrev pub IfThere : {A : Type 0} → (A → Type 0) → Option A → Type 0
IfThere P None = Unit {0}
IfThere P (Some x) = P x

-- constants of expressions, and names of projections
abbrev pub FitsTerm : Term → Type 0
FitsTerm (FieldOf name) = Unit {0}
FitsTerm (LeftOf name) = Unit {0}
FitsTerm (RightOf name) = Unit {0}
FitsTerm (Number z) = FitsSigned w64 z
FitsTerm (Words s) = IsText s
FitsTerm (Plus a b) = FitsTerm a × FitsTerm b
FitsTerm (Minus a b) = FitsTerm a × FitsTerm b
FitsTerm (Times a b) = FitsTerm a × FitsTerm b

abbrev pub FitsSet : Set → Type 0
FitsSet [] = Unit {0}
FitsSet (m ∷ ms) = (IsName m.0 × FitsTerm m.1) × FitsSet ms

-- of names and constants that have a spelling
abbrev pub ProjectionsFit : Type 0
ProjectionsFit = (set : Set) (l r : Option Row) → FitsSet set → IfThere FitsRow l → IfThere FitsRow r → IfThere FitsRow (project set l r)

abbrev pub JoinsFit : Type 0
JoinsFit = (kind : JoinKind) (set : Set) (l r : Option Row) → FitsSet set → IfThere FitsRow l → IfThere FitsRow r → IfThere FitsRow (joined kind set l r)

abbrev pub KeysFit : Type 0
KeysFit = (name : List ℕ) (row : Row) → FitsRow row → IfThere IsKey (field_key name row)

abbrev pub ItemsFit : Type 0
ItemsFit = (field : Option (List ℕ)) (old : Option Agg) (row : Row) → FitsAgg (stream_add field old row)

abbrev pub DeltasFit : Type 0
DeltasFit = (old : Option Agg) (d : Delta) → IfThere FitsAgg (table_apply old d)
