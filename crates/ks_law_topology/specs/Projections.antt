-- When a projection gives a row.
use Rattle.std.specs.Prelude.{◌≡◌, ◌≤◌, Bool, true, ◌&&◌, [], ◌∷◌, Option, is_none, length}
use Rattle.ks_expr.specs.Terms.{Set}
use Rattle.ks_expr.specs.Eval.{Row, eval, project}

-- each field's expression is absent
abbrev pub are_absent : Set → Option Row → Option Row → Bool
are_absent [] l r = true
are_absent (m ∷ set) l r = is_none (eval m.1 l r) && are_absent set l r

-- of at most 64 fields there is no row exactly where each field's expression is absent
abbrev pub ProjectionsAreRows : Type 0
ProjectionsAreRows = (set : Set) (l r : Option Row) → length set ≤ 64 → is_none (project set l r) ≡ are_absent set l r
