-- What is known of resolved nodes.
use Rattle.std.proofs.Common.{◌≡◌, ℕ, zero, suc, List, [], ◌∷◌, ◌++◌, map, fold, get_or, refl, sym, ap, ap₂, ◌∙◌, append-nil, append_assoc}
use Rattle.std.proofs.lemmas.List.{map-append}
use Rattle.ks_topo_layout.specs.declared.resolve.Resolved.{Resolved}
use Rattle.ks_topo_layout.specs.declared.resolve.Input.{Input}
use Rattle.ks_plan.specs.Drafts.{Name, Topics, NodeView}
use Rattle.ks_plan.specs.Plan.{Known, learn, known_from, known_names, known_at, node_number, name_place, nothing_known}
use Rattle.ks_plan.specs.Faults.{names_of}
use Rattle.ks_topo_layout.specs.Resolve.{resolved, resolved_from, input_in}

names_onto : (ts : Topics) (ks : List Known) (ns : List NodeView) → known_names (fold (learn ts) ks ns) ≡ known_names ks ++ names_of ns
names_onto ts ks [] = sym (append-nil (known_names ks))
names_onto ts ks (n ∷ ns) = names_onto ts (learn ts ks n) ns ∙ (ap (λ l. l ++ names_of ns) (map-append (λ k. k.name) ks _) ∙ append_assoc (known_names ks) (n.name ∷ []) (names_of ns))

pub known_names_from : (ts : Topics) (ns : List NodeView) → known_names (known_from ts ns) ≡ names_of ns
known_names_from ts ns = names_onto ts [] ns

resolved_at : (ks : List Known) (i : ℕ) → get_or (map resolved ks) i (resolved nothing_known) ≡ resolved (get_or ks i nothing_known)
resolved_at [] i = refl
resolved_at (k ∷ ks) zero = refl
resolved_at (k ∷ ks) (suc i) = resolved_at ks i

abbrev input_of : ℕ → Resolved → Input
input_of n r = record { number = n; wiring = r.wiring; rekeyed = r.rekeyed }

pub input_found : (ts : Topics) (ns : List NodeView) (name : Name) (n : ℕ) (known : List Resolved) (r : Resolved) → n ≡ name_place (names_of ns) name → known ≡ resolved_from ts ns → r ≡ get_or known n (resolved nothing_known)
    → ◌≡◌ {A = Input} record { number = n; wiring = r.wiring; rekeyed = r.rekeyed } (input_in (known_from ts ns) name)
input_found ts ns name n known r p k e =
    let place : n ≡ node_number (known_from ts ns) name = p ∙ ap (λ l. name_place l name) (sym (known_names_from ts ns)) in
    let there : r ≡ resolved (get_or (known_from ts ns) n nothing_known) = e ∙ (ap (λ l. get_or l n (resolved nothing_known)) k ∙ resolved_at (known_from ts ns) n) in
    let same : r ≡ resolved (known_at (known_from ts ns) name) = there ∙ ap (λ i. resolved (get_or (known_from ts ns) i nothing_known)) place in
    ap₂ input_of place same
