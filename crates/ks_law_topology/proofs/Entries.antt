-- What holds of each entry of a map.
use Rattle.std.proofs.Common.{◌≡◌, true, false, cond, List, [], ◌∷◌, Some, None, refl, sym, ap, ◌∙◌, T}
use Rattle.std.specs.Ordering.{eq_by_cmp, is_eq}
use Rattle.std.specs.Cmp.{tied_itself}
use Rattle.std.specs.Cmp.Lexicographic.{nat_list_cmp_total}
use Rattle.std.specs.FinMap.{slice_cmp-IsAntisymmetric, nat_cmp-IsAntisymmetric}
use Rattle.std.specs.FinMap.Entries.{find, is_sorted}
use Rattle.ks_def_runs.specs.Bytes.{by_bytes}
use Rattle.ks_def_runs.proofs.Tables.{equal, find_below, head_of, tail_of}
use Rattle.ks_query.specs.Streams.{Key}
use Rattle.ks_law_topology.proofs.Each.{Each, each_nothing, each_first}

-- each entry of a map is what is got at its key
pub each_entry : {X : Type 0} (P : Key × X → Type 0) (es : List (Key × X)) → T (is_sorted by_bytes es) → ((k : Key) (x : X) → find by_bytes k es ≡ Some x → P (k, x)) → Each P es
each_entry P [] sorted h = each_nothing P
each_entry P (e ∷ es) sorted h = each_first P e es
    (h e.0 e.1 (ap (λ b. cond b (Some e.1) (find by_bytes e.0 es)) (ap is_eq (tied_itself nat_list_cmp_total e.0))))
    (each_entry P es (tail_of _ _ sorted) (λ k x f. h k x (elim (eq_by_cmp by_bytes k e.0) as (λ b. eq_by_cmp by_bytes k e.0 ≡ b → cond b (Some e.1) (find by_bytes k es) ≡ Some x) [
      | true ↦ λ b.
          let is : k ≡ e.0 = slice_cmp-IsAntisymmetric nat_cmp-IsAntisymmetric k e.0 (equal _ b) in
          let none : find by_bytes k es ≡ None = ap (λ q. find by_bytes q es) is ∙ find_below nat_list_cmp_total (λ x. 0) e.0 es (head_of _ _ sorted) in
          let no : None ≡ Some x = sym none ∙ f in cc
      | false ↦ λ b. f
    ] refl)))
