-- The names of printed tables, and whether these have windows.
use Rattle.std.proofs.Common.{◌≡◌, ℕ, zero, suc, ◌+◌, ◌<◌, Bool, List, [], ◌∷◌, length, get_or, take, drop, refl, sym, ap, ◌∙◌, arith}
use Rattle.std.specs.Prelude.{Option, Some, None}
use Rattle.ks_plan.specs.Drafts.{Name, DraftView}
use Rattle.ks_plan.specs.declared.node.Node.{Node}
use Rattle.ks_settle.specs.Rows.{node_named, IsPrinted}
use Rattle.ks_settle.proofs.Folds.{printed_at}
use Rattle.ks_settle.proofs.Named.{Shows, no_node, has_store, is_kept}
use Rattle.ks_audit_verdict.specs.Places.{has_windows}
use Rattle.ks_run_audit.specs.Outputs.{windows_of}

pub windows_are : (d : DraftView) (nodes : List Node) (name : Name) → Shows d nodes → IsPrinted d name → windows_of (node_named nodes name) ≡ has_windows d name
windows_are d nodes name shows printed = by (node_named nodes name) refl
  where
    by : (o : Option Node) → node_named nodes name ≡ o → windows_of o ≡ has_windows d name
    by None e = absurd (no_node d nodes name shows printed e)
    by (Some node) e = sym (is_kept d nodes name node _ shows printed e (has_store d nodes name node shows printed e)).windowed

get_same : (xs : List Name) (i : ℕ) (a b : Name) → i < length xs → get_or xs i a ≡ get_or xs i b
get_same [] i a b l = absurd (omega arith)
get_same (x ∷ xs) zero a b l = refl
get_same (x ∷ xs) (suc i) a b l = get_same xs i a b (omega arith)

pub name_is : (names print : List Name) (i : ℕ) (x name : Name) → names ≡ print → i < length names → x ≡ get_or names i x → name ≡ x → name ≡ get_or print i []
name_is names print i x name e l at is = is ∙ at ∙ get_same names i x [] l ∙ ap (λ ns. get_or ns i []) e

pub name_printed : (d : DraftView) (i : ℕ) (name : Name) → i < length d.print → name ≡ get_or d.print i [] → IsPrinted d name
name_printed d i name l is = printed_at d d.print i (get_or d.print i []) name refl l (get_same d.print i [] (get_or d.print i []) l) is
