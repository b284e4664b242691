-- Nodes by number.
use Rattle.std.proofs.Common.{◌≡◌, ◌<◌, arith, ℕ, zero, suc, ◌+◌, List, length, [], ◌∷◌, map, get_or, true, eq-eqb, Some, refl, sym, ap, ap₂, ◌∙◌}
use Rattle.std.specs.Prelude.{slice_get}
use Rattle.std.proofs.lemmas.Bool.{and_from}
use Rattle.ks_plan.specs.Plan.{Plan, Kind}
use Rattle.ks_plan.specs.Layout.{no_kind}
use Rattle.ks_task_nodes.specs.declared.processor.ProcessorNode.{ProcessorNode}
use Rattle.ks_task_nodes.specs.Nodes.{TaskNode, kind_of, node_view, kinds_in, node_of, nodes_from}
use Rattle.ks_task_nodes.specs.Reach.{are_numbered}

pub get_node : {A : Type 0} (g : TaskNode → A) (p : Plan) (sub m i : ℕ) (ks : List Kind) (k : Kind) (d : A) → slice_get ks i ≡ Some k → get_or (map g (nodes_from p sub m ks)) i d ≡ g (node_of p sub (m + i) k)
get_node g p sub m i [] k d e = absurd cc
get_node g p sub m zero (x ∷ ks) k d e =
    let s : x ≡ k = cc in
    let z : m ≡ m + 0 = omega arith in
    ap₂ (λ j y. g (node_of p sub j y)) z s
get_node g p sub m (suc i) (x ∷ ks) k d e =
    let z : suc m + i ≡ m + suc i = omega arith in
    get_node g p sub (suc m) i ks k d e ∙ ap (λ j. g (node_of p sub j k)) z

pub kinds_from : (p : Plan) (sub n : ℕ) (ks : List Kind) → kinds_in (nodes_from p sub n ks) ≡ ks
kinds_from p sub n [] = refl
kinds_from p sub n (k ∷ ks) = ap (λ l. k ∷ l) (kinds_from p sub (suc n) ks)

pub found : {A : Type 0} (xs : List A) (n : ℕ) → n < length xs → (x : A) × (slice_get xs n ≡ Some x)
found [] n lt = absurd (omega (arith, lt))
found (x ∷ xs) zero lt = (x, refl)
found (x ∷ xs) (suc n) lt = found xs n (omega (arith, lt))

-- the node at a place, as a slice hands it out
pub kind_there : (ns : List ProcessorNode) (n : ℕ) → n < length ns → (x : ProcessorNode) → ((d : ProcessorNode) → x ≡ get_or ns n d) → get_or (kinds_in (map node_view ns)) n no_kind ≡ kind_of x.processor
kind_there [] n lt x h = absurd (omega (arith, lt))
kind_there (y ∷ ns) zero lt x h = sym (ap (λ (z : ProcessorNode). kind_of z.processor) (h y))
kind_there (y ∷ ns) (suc n) lt x h = kind_there ns n (omega (arith, lt)) x h

-- the nodes of a plan stand at their numbers
pub nodes_numbered : (p : Plan) (sub n : ℕ) (ks : List Kind) → are_numbered n (nodes_from p sub n ks) ≡ true
nodes_numbered p sub n [] = refl
nodes_numbered p sub n (k ∷ ks) = and_from _ _ (eq-eqb n n refl) (nodes_numbered p sub (suc n) ks)
