-- No fault is no line that fits.
use Rattle.std.proofs.Common.{◌≡◌, true, false, List, [], ◌∷◌, ◌++◌, Option, Some, None, refl, sym, ap, ap₂, subst, ◌∙◌, append_assoc, append-nil}
use Rattle.std.specs.Option.{option_or}
use Rattle.ks_plan.specs.Drafts.{Name, Topics, NodeView, DraftView}
use Rattle.ks_plan.specs.Faults.{Line, first_fitting, first_of, size_lines, node_table, nodes_fault, print_lines, printed_fault, parts_fault, fault_of}
use Rattle.ks_topo.specs.WellFormed.{NoneFits, NoneOf, IsWellFormed}

none_of : {A : Type 0} (x y : Option A) → option_or x y ≡ None → (x ≡ None) × (y ≡ None)
none_of None y e = (refl, e)
none_of (Some x) y e = cc

both_none : {A : Type 0} (x y : Option A) → x ≡ None → y ≡ None → option_or x y ≡ None
both_none x y e f = ap₂ option_or e f

none_fits : (ls : List Line) → first_fitting ls ≡ None → NoneFits ls
none_fits [] e = tt
none_fits ((true, f) ∷ ls) e = cc
none_fits ((false, f) ∷ ls) e = (refl, none_fits ls e)

none_first : (ls : List Line) → NoneFits ls → first_fitting ls ≡ None
none_first [] h = refl
none_first ((true, f) ∷ ls) h = let e = h.0 in cc
none_first ((false, f) ∷ ls) h = none_first ls h.1

groups_fit : (gs : List (List Line)) → first_of gs ≡ None → NoneOf gs
groups_fit [] e = tt
groups_fit (g ∷ gs) e = let both = none_of (first_fitting g) (first_of gs) e in (none_fits g both.0, groups_fit gs both.1)

groups_first : (gs : List (List Line)) → NoneOf gs → first_of gs ≡ None
groups_first [] h = refl
groups_first (g ∷ gs) h = both_none (first_fitting g) (first_of gs) (none_first g h.0) (groups_first gs h.1)

-- ---- nodes
abbrev EachNode : DraftView → List NodeView → List NodeView → Type 0
EachNode d start ns = (before : List NodeView) (n : NodeView) (after : List NodeView) → ns ≡ before ++ n ∷ after → NoneOf (node_table d (start ++ before) n)

abbrev head_or : {A : Type 0} → A → List A → A
head_or d [] = d
head_or d (x ∷ xs) = x

abbrev rest_of : {A : Type 0} → List A → List A
rest_of [] = []
rest_of (x ∷ xs) = xs

heads : {A : Type 0} (x y : A) (xs ys : List A) → x ∷ xs ≡ y ∷ ys → (x ≡ y) × (xs ≡ ys)
heads x y xs ys e = (ap (head_or x) e, ap rest_of e)

each_node : (d : DraftView) (start ns : List NodeView) → nodes_fault d start ns ≡ None → EachNode d start ns
each_node d start [] e [] n after s = cc
each_node d start [] e (b ∷ bs) n after s = cc
each_node d start (m ∷ ms) e [] n after s =
    let both = none_of (first_of (node_table d start m)) (nodes_fault d (start ++ m ∷ []) ms) e in
    subst (λ l. NoneOf (node_table d l n)) (sym (append-nil start)) (subst (λ x. NoneOf (node_table d start x)) (heads m n ms after s).0 (groups_fit (node_table d start m) both.0))
each_node d start (m ∷ ms) e (b ∷ bs) n after s =
    let both = none_of (first_of (node_table d start m)) (nodes_fault d (start ++ m ∷ []) ms) e in
    let same = heads m b ms (bs ++ n ∷ after) s in
    subst (λ l. NoneOf (node_table d l n)) (append_assoc start (m ∷ []) bs ∙ ap (λ x. start ++ x ∷ bs) same.0) (each_node d (start ++ m ∷ []) ms both.1 bs n after same.1)

nodes_none : (d : DraftView) (start ns : List NodeView) → EachNode d start ns → nodes_fault d start ns ≡ None
nodes_none d start [] h = refl
nodes_none d start (m ∷ ms) h =
    both_none (first_of (node_table d start m)) (nodes_fault d (start ++ m ∷ []) ms)
    (groups_first (node_table d start m) (subst (λ l. NoneOf (node_table d l m)) (append-nil start) (h [] m ms refl)))
    (nodes_none d (start ++ m ∷ []) ms (λ before n after s. subst (λ l. NoneOf (node_table d l n)) (sym (append_assoc start (m ∷ []) before)) (h (m ∷ before) n after (ap (λ l. m ∷ l) s))))

-- ---- printed names
abbrev EachName : Topics → List NodeView → List Name → List Name → Type 0
EachName ts ns start ps = (before : List Name) (n : Name) (after : List Name) → ps ≡ before ++ n ∷ after → NoneFits (print_lines ts ns (start ++ before) n)

each_name : (ts : Topics) (ns : List NodeView) (start ps : List Name) → printed_fault ts ns start ps ≡ None → EachName ts ns start ps
each_name ts ns start [] e [] n after s = cc
each_name ts ns start [] e (b ∷ bs) n after s = cc
each_name ts ns start (m ∷ ms) e [] n after s =
    let both = none_of (first_fitting (print_lines ts ns start m)) (printed_fault ts ns (start ++ m ∷ []) ms) e in
    subst (λ l. NoneFits (print_lines ts ns l n)) (sym (append-nil start)) (subst (λ x. NoneFits (print_lines ts ns start x)) (heads m n ms after s).0 (none_fits (print_lines ts ns start m) both.0))
each_name ts ns start (m ∷ ms) e (b ∷ bs) n after s =
    let both = none_of (first_fitting (print_lines ts ns start m)) (printed_fault ts ns (start ++ m ∷ []) ms) e in
    let same = heads m b ms (bs ++ n ∷ after) s in
    subst (λ l. NoneFits (print_lines ts ns l n)) (append_assoc start (m ∷ []) bs ∙ ap (λ x. start ++ x ∷ bs) same.0) (each_name ts ns (start ++ m ∷ []) ms both.1 bs n after same.1)

names_none : (ts : Topics) (ns : List NodeView) (start ps : List Name) → EachName ts ns start ps → printed_fault ts ns start ps ≡ None
names_none ts ns start [] h = refl
names_none ts ns start (m ∷ ms) h =
    both_none (first_fitting (print_lines ts ns start m)) (printed_fault ts ns (start ++ m ∷ []) ms)
    (none_first (print_lines ts ns start m) (subst (λ l. NoneFits (print_lines ts ns l m)) (append-nil start) (h [] m ms refl)))
    (names_none ts ns (start ++ m ∷ []) ms (λ before n after s. subst (λ l. NoneFits (print_lines ts ns l n)) (sym (append_assoc start (m ∷ []) before)) (h (m ∷ before) n after (ap (λ l. m ∷ l) s))))

-- ---- the whole
pub no_line : (d : DraftView) → fault_of d ≡ None → IsWellFormed d
no_line d e =
    let sizes = none_of (first_fitting (size_lines d)) (parts_fault d) e in
    let parts = none_of (nodes_fault d [] d.nodes) (printed_fault d.topics d.nodes [] d.print) sizes.1 in
    record {
      sizes = none_fits (size_lines d) sizes.0;
      nodes = each_node d [] d.nodes parts.0;
      print = each_name d.topics d.nodes [] d.print parts.1;
    }

pub no_fault : (d : DraftView) → IsWellFormed d → fault_of d ≡ None
no_fault d h =
    both_none (first_fitting (size_lines d)) (parts_fault d) (none_first (size_lines d) h.sizes)
    (both_none (nodes_fault d [] d.nodes) (printed_fault d.topics d.nodes [] d.print) (nodes_none d [] d.nodes h.nodes) (names_none d.topics d.nodes [] d.print h.print))
