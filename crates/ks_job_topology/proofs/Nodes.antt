-- Lists that grow, as contracts see them.
use Rattle.std.proofs.Common.{◌≡◌, ℕ, suc, ap, List, [], ◌∷◌, ◌++◌, length, refl}
use Rattle.std.specs.Prelude.{map}
use Rattle.std.proofs.lemmas.List.{map-append}
use Rattle.ks_expr.specs.declared.terms.Expr.{Expr}
use Rattle.ks_expr.specs.Terms.{Set, Term, term_of}
use Rattle.ks_plan.specs.declared.draft.NodeDraft.{NodeDraft}
use Rattle.ks_plan.specs.Drafts.{node_view, nodes_view}

abbrev pub entry_seen : List ℕ × Expr → List ℕ × Term
entry_seen e = (e.0, term_of e.1)

abbrev pub set_seen : List (List ℕ × Expr) → Set
set_seen es = map entry_seen es

pub set_push : (es : List (List ℕ × Expr)) (e : List ℕ × Expr) → set_seen (es ++ e ∷ []) ≡ set_seen es ++ (e.0, term_of e.1) ∷ []
set_push es e = map-append entry_seen es (e ∷ [])

pub nodes_push : (ns : List NodeDraft) (n : NodeDraft) → nodes_view (ns ++ n ∷ []) ≡ nodes_view ns ++ node_view n ∷ []
nodes_push ns n = map-append node_view ns (n ∷ [])

pub no_entries : (es : List (List ℕ × Expr)) → length (set_seen es) ≡ length es
no_entries [] = refl
no_entries (e ∷ es) = ap suc (no_entries es)
