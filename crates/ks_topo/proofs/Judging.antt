-- One more node of a draft.
use Rattle.std.proofs.Common.{◌≡◌, ℕ, suc, ◌+◌, ◌<◌, List, [], ◌∷◌, ◌++◌, length, map, fold, get_or, take, drop, Option, Some, None, refl, sym, ap, ap₂, subst, ◌∙◌, arith, drop-cons}
use Rattle.std.proofs.Math.Seq.{take-suc}
use Rattle.std.specs.Prelude.{Result, Ok, Err, IsErr, IsErrAnd, IfOk}
use Rattle.std.specs.Option.{option_or}
use Rattle.std.proofs.lemmas.List.{map-append}
use Rattle.ks_plan.specs.declared.draft.NodeDraft.{NodeDraft}
use Rattle.ks_plan.specs.declared.draft.Draft.{Draft}
use Rattle.ks_plan.specs.declared.fault.TopoFault.{TopoFault}
use Rattle.ks_topo.specs.declared.stop.Refusal.{Refusal}
use Rattle.ks_topo.specs.declared.stop.Refusal.TheVariants.{Memory, Fault}
use Rattle.ks_plan.specs.Drafts.{Topics, NodeView, DraftView, op_view, node_view, nodes_view, draft_view}
use Rattle.ks_topo.specs.Earlier.{fault_at, IsNode}
use Rattle.ks_plan.specs.Plan.{Known, Kind, wiring_of, learn, known_from, plan_of}
use Rattle.ks_plan.specs.Layout.{wired_parts, node_parts, with_origin, node_origins}
use Rattle.ks_plan.specs.Faults.{node_lines, nodes_fault, parts_before, origins_before, first_of}
use Rattle.ks_topo_layout.specs.Resolve.{resolved, resolved_from, resolved_op}
use Rattle.ks_topo.specs.Finds.{Stops, Finds}
use Rattle.ks_topo_layout.specs.declared.resolve.Resolved.{Resolved}

pub fold_push : {A B : Type 0} (f : A → B → A) (a : A) (xs : List B) (x : B) → fold f a (xs ++ x ∷ []) ≡ f (fold f a xs) x
fold_push f a [] x = refl
fold_push f a (y ∷ ys) x = fold_push f (f a y) ys x

pub resolved_push : (ts : Topics) (ns : List NodeView) (n : NodeView) → resolved_from ts (ns ++ n ∷ []) ≡ resolved_from ts ns ++ resolved_op ts ns n.op ∷ []
resolved_push ts ns n = ap (map resolved) (fold_push (learn ts) [] ns n) ∙ map-append resolved (known_from ts ns) _

pub parts_push : (d : DraftView) (ns : List NodeView) (n : NodeView) → parts_before d (ns ++ n ∷ []) ≡ wired_parts (plan_of d).counts (parts_before d ns) (resolved_op d.topics ns n.op).wiring
parts_push d ns n =
    let counts = (plan_of d).counts in
    ap (λ (ks : List Known). node_parts counts (map (λ k. k.kind) ks)) (fold_push (learn d.topics) [] ns n)
    ∙ (ap (node_parts counts) (map-append (λ (k : Known). k.kind) (known_from d.topics ns) _)
    ∙ fold_push (λ cs (k : Kind). wired_parts counts cs (wiring_of k)) [] (map (λ k. k.kind) (known_from d.topics ns)) _)

pub origins_push : (d : DraftView) (ns : List NodeView) (n : NodeView) → origins_before d (ns ++ n ∷ []) ≡ with_origin (origins_before d ns) (resolved_op d.topics ns n.op).wiring
origins_push d ns n =
    ap (λ (ks : List Known). node_origins (map (λ k. k.kind) ks)) (fold_push (learn d.topics) [] ns n)
    ∙ (ap node_origins (map-append (λ (k : Known). k.kind) (known_from d.topics ns) _)
    ∙ fold_push (λ os (k : Kind). with_origin os (wiring_of k)) [] (map (λ k. k.kind) (known_from d.topics ns)) _)

add_one : (i : ℕ) → i + 1 ≡ suc i
add_one i = omega arith

pub one_more : (ns : List NodeDraft) (i : ℕ) (x : NodeDraft) → i < length ns → nodes_view (take (i + 1) ns) ≡ nodes_view (take i ns) ++ node_view (get_or ns i x) ∷ []
one_more ns i x h = ap nodes_view (ap (λ n. take n ns) (add_one i) ∙ take-suc ns i x h) ∙ map-append node_view (take i ns) (get_or ns i x ∷ [])

pub stops_first : (e : Refusal) (x y : Option TopoFault) → Stops e x → Stops e (option_or x y)
stops_first Memory x y h = tt
stops_first (Fault f) None y h = cc
stops_first (Fault f) (Some g) y h = h

pub none_first : (x y : Option TopoFault) → x ≡ None → option_or x y ≡ y
none_first x y e = ap (λ o. option_or o y) e

-- ---- over the variables of the walk
-- the first of the rest, and those behind it
rest_at : (ns : List NodeDraft) (i : ℕ) (x : NodeDraft) → i < length ns → drop i ns ≡ get_or ns i x ∷ drop (i + 1) ns
rest_at ns i x h = drop-cons ns i x h ∙ ap (λ j. get_or ns i x ∷ drop j ns) (sym (add_one i))

-- some node there is
some_node : (ns : List NodeDraft) (i : ℕ) → i < length ns → NodeDraft
some_node [] i h = absurd (omega (arith, h))
some_node (x ∷ xs) i h = x

pub next_fault : (d : Draft) (i : ℕ) → i < length d.nodes
    → nodes_fault (draft_view d) (nodes_view (take i d.nodes)) (nodes_view (drop i d.nodes))
    ≡ option_or (fault_at d (parts_before (draft_view d) (nodes_view (take i d.nodes))) (origins_before (draft_view d) (nodes_view (take i d.nodes))) (take i d.nodes) (drop i d.nodes)) (nodes_fault (draft_view d) (nodes_view (take (i + 1) d.nodes)) (nodes_view (drop (i + 1) d.nodes)))
next_fault d i h =
    let x = some_node d.nodes i h in
    let y = get_or d.nodes i x in
    let b = nodes_view (take i d.nodes) in
    ap (λ l. nodes_fault (draft_view d) b (nodes_view l)) (rest_at d.nodes i x h)
    ∙ ap₂ (λ l m. option_or (fault_at d (parts_before (draft_view d) b) (origins_before (draft_view d) b) (take i d.nodes) l) (nodes_fault (draft_view d) m (nodes_view (drop (i + 1) d.nodes)))) (sym (rest_at d.nodes i x h)) (sym (one_more d.nodes i x h))

pub judged_err : {X : Type 0} (d : Draft) (parts : List ℕ) (origins : List (Option ℕ)) (i : ℕ) (r : Result X Refusal) (e : Refusal)
    → i < length d.nodes → parts ≡ parts_before (draft_view d) (nodes_view (take i d.nodes)) → origins ≡ origins_before (draft_view d) (nodes_view (take i d.nodes))
    → nodes_fault (draft_view d) (nodes_view (take i d.nodes)) (nodes_view (drop i d.nodes)) ≡ nodes_fault (draft_view d) [] (nodes_view d.nodes)
    → IsErr r → IsErrAnd r (λ y. y ≡ e) → Stops e (fault_at d parts origins (take i d.nodes) (drop i d.nodes))
    → Finds r (nodes_fault (draft_view d) [] (nodes_view d.nodes))
judged_err d parts origins i (Ok y) e h p o f s b st = absurd (cc)
judged_err d parts origins i (Err y) e h p o f s b st =
    let before = nodes_view (take i d.nodes) in
    let here : Stops e (fault_at d (parts_before (draft_view d) before) (origins_before (draft_view d) before) (take i d.nodes) (drop i d.nodes)) =
    subst (λ l. Stops e (fault_at d (parts_before (draft_view d) before) l (take i d.nodes) (drop i d.nodes))) o (subst (λ l. Stops e (fault_at d l origins (take i d.nodes) (drop i d.nodes))) p st) in
    let later = stops_first e _ (nodes_fault (draft_view d) (nodes_view (take (i + 1) d.nodes)) (nodes_view (drop (i + 1) d.nodes))) here in
    subst (λ z. Stops z (nodes_fault (draft_view d) [] (nodes_view d.nodes))) (sym b) (subst (Stops e) (sym (next_fault d i h) ∙ f) later)

pub judged_on : (d : Draft) (parts : List ℕ) (origins : List (Option ℕ)) (i : ℕ)
    → i < length d.nodes → parts ≡ parts_before (draft_view d) (nodes_view (take i d.nodes)) → origins ≡ origins_before (draft_view d) (nodes_view (take i d.nodes))
    → nodes_fault (draft_view d) (nodes_view (take i d.nodes)) (nodes_view (drop i d.nodes)) ≡ nodes_fault (draft_view d) [] (nodes_view d.nodes)
    → fault_at d parts origins (take i d.nodes) (drop i d.nodes) ≡ None
    → nodes_fault (draft_view d) (nodes_view (take (i + 1) d.nodes)) (nodes_view (drop (i + 1) d.nodes)) ≡ nodes_fault (draft_view d) [] (nodes_view d.nodes)
judged_on d parts origins i h p o f st =
    sym (none_first (fault_at d (parts_before (draft_view d) (nodes_view (take i d.nodes))) (origins_before (draft_view d) (nodes_view (take i d.nodes))) (take i d.nodes) (drop i d.nodes)) (nodes_fault (draft_view d) (nodes_view (take (i + 1) d.nodes)) (nodes_view (drop (i + 1) d.nodes)))
    (ap₂ (λ l m. fault_at d l m (take i d.nodes) (drop i d.nodes)) (sym p) (sym o) ∙ st))
    ∙ (sym (next_fault d i h) ∙ f)

-- what the node of this number is
node_is : (ts : Topics) (ns : List NodeDraft) (i : ℕ) (x : NodeDraft) (r : Resolved) → i < length ns → IsNode ts (take i ns) (drop i ns) r → r ≡ resolved_op ts (nodes_view (take i ns)) (op_view (get_or ns i x).op)
node_is ts ns i x r h e = subst (λ l. IsNode ts (take i ns) l r) (rest_at ns i x h) e

pub known_on : (d : Draft) (known more : List Resolved) (i : ℕ) (r : Resolved)
    → i < length d.nodes → known ≡ resolved_from d.topics (nodes_view (take i d.nodes)) → IsNode d.topics (take i d.nodes) (drop i d.nodes) r → more ≡ known ++ r ∷ []
    → more ≡ resolved_from d.topics (nodes_view (take (i + 1) d.nodes))
known_on d known more i r h k e m =
    let x = some_node d.nodes i h in
    m ∙ (ap₂ (λ l y. l ++ y ∷ []) k (node_is d.topics d.nodes i x r h e)
    ∙ (sym (resolved_push d.topics (nodes_view (take i d.nodes)) (node_view (get_or d.nodes i x))) ∙ ap (resolved_from d.topics) (sym (one_more d.nodes i x h))))

pub parts_on : (d : Draft) (counts parts more : List ℕ) (i : ℕ) (r : Resolved)
    → i < length d.nodes → counts ≡ (plan_of (draft_view d)).counts → parts ≡ parts_before (draft_view d) (nodes_view (take i d.nodes)) → IsNode d.topics (take i d.nodes) (drop i d.nodes) r → more ≡ wired_parts counts parts r.wiring
    → more ≡ parts_before (draft_view d) (nodes_view (take (i + 1) d.nodes))
parts_on d counts parts more i r h c p e m =
    let x = some_node d.nodes i h in
    m ∙ (ap₂ (λ k l. wired_parts k l r.wiring) c p ∙ (ap (λ y. wired_parts (plan_of (draft_view d)).counts (parts_before (draft_view d) (nodes_view (take i d.nodes))) y.wiring) (node_is d.topics d.nodes i x r h e)
    ∙ (sym (parts_push (draft_view d) (nodes_view (take i d.nodes)) (node_view (get_or d.nodes i x))) ∙ ap (parts_before (draft_view d)) (sym (one_more d.nodes i x h)))))

pub origins_on : (d : Draft) (origins more : List (Option ℕ)) (i : ℕ) (r : Resolved)
    → i < length d.nodes → origins ≡ origins_before (draft_view d) (nodes_view (take i d.nodes)) → IsNode d.topics (take i d.nodes) (drop i d.nodes) r → more ≡ with_origin origins r.wiring
    → more ≡ origins_before (draft_view d) (nodes_view (take (i + 1) d.nodes))
origins_on d origins more i r h o e m =
    let x = some_node d.nodes i h in
    m ∙ (ap (λ l. with_origin l r.wiring) o ∙ (ap (λ y. with_origin (origins_before (draft_view d) (nodes_view (take i d.nodes))) y.wiring) (node_is d.topics d.nodes i x r h e)
    ∙ (sym (origins_push (draft_view d) (nodes_view (take i d.nodes)) (node_view (get_or d.nodes i x))) ∙ ap (origins_before (draft_view d)) (sym (one_more d.nodes i x h)))))

-- ---- one node
here : (d : Draft) (ts : Topics) (parts : List ℕ) (origins : List (Option ℕ)) (ns before : List NodeDraft) (i : ℕ) (x : NodeDraft) → i < length d.nodes → ts ≡ d.topics → ns ≡ d.nodes → before ≡ take i ns → x ≡ get_or ns i x
    → first_of (node_lines d.app ts parts origins (nodes_view before) (node_view x)) ≡ fault_at d parts origins (take i d.nodes) (drop i d.nodes)
here d ts parts origins ns before i x h t a b e =
    let y : x ≡ get_or d.nodes i x = e ∙ ap (λ l. get_or l i x) a in
    ap₂ (λ t b. first_of (node_lines d.app t parts origins (nodes_view b) (node_view x))) t (b ∙ ap (λ l. take i l) a)
    ∙ (ap (λ z. first_of (node_lines d.app d.topics parts origins (nodes_view (take i d.nodes)) (node_view z))) y
    ∙ ap (λ l. fault_at d parts origins (take i d.nodes) l) (sym (rest_at d.nodes i x h)))

pub found_here : {X : Type 0} (d : Draft) (ts : Topics) (parts : List ℕ) (origins : List (Option ℕ)) (ns before : List NodeDraft) (i : ℕ) (x : NodeDraft) (r : Result X Refusal) → i < length d.nodes → ts ≡ d.topics → ns ≡ d.nodes → before ≡ take i ns → x ≡ get_or ns i x
    → Finds r (first_of (node_lines d.app ts parts origins (nodes_view before) (node_view x))) → Finds r (fault_at d parts origins (take i d.nodes) (drop i d.nodes))
found_here d ts parts origins ns before i x r h t a b e f = subst (Finds r) (here d ts parts origins ns before i x h t a b e) f

pub is_here : (d : Draft) (ts : Topics) (ns before : List NodeDraft) (i : ℕ) (x : NodeDraft) (r : Result Resolved Refusal) → i < length d.nodes → ts ≡ d.topics → ns ≡ d.nodes → before ≡ take i ns → x ≡ get_or ns i x
    → IfOk r (λ s. s ≡ resolved_op ts (nodes_view before) (op_view x.op)) → IfOk r (λ s. IsNode d.topics (take i d.nodes) (drop i d.nodes) s)
is_here d ts ns before i x (Err s) h t a b e f = tt
is_here d ts ns before i x (Ok s) h t a b e f =
    let y : x ≡ get_or d.nodes i x = e ∙ ap (λ l. get_or l i x) a in
    let g : s ≡ resolved_op d.topics (nodes_view (take i d.nodes)) (op_view (get_or d.nodes i x).op) = f ∙ (ap₂ (λ t b. resolved_op t (nodes_view b) (op_view x.op)) t (b ∙ ap (λ l. take i l) a) ∙ ap (λ z. resolved_op d.topics (nodes_view (take i d.nodes)) (op_view z.op)) y) in
    subst (λ l. IsNode d.topics (take i d.nodes) l s) (sym (rest_at d.nodes i x h)) g
