-- Each printed node of a well-formed draft is a node of its plan, and no stream.
use Rattle.std.proofs.Common.{◌≡◌, ℕ, zero, suc, ◌<◌, Bool, true, false, cond, not, ◌||◌, List, length, [], ◌∷◌, ◌++◌, map, get_or, Option, Some, None, fold, refl, sym, ap, subst, ◌∙◌, arith, append_assoc, append-nil}
use Rattle.std.specs.Prelude.{ℤ}
use Rattle.std.specs.List.{AllByRecursion}
use Rattle.std.specs.Option.{option_or}
use Rattle.ks_expr.specs.Eval.{same_bytes}
use Rattle.ks_plan.specs.declared.fault.TopoFault.TheVariants.{UnknownInput, DuplicateName, WrongKind}
use Rattle.ks_plan.specs.Drafts.{Topics, Name, NodeView, DraftView}
use Rattle.ks_plan.specs.Plan.{Known, gives_stream, is_stream, known_of, learn, known_from, known_names, known_nodes, name_place, node_number, plan_of, nothing_known}
use Rattle.ks_plan.specs.Layout.{kind_at, no_kind}
use Rattle.ks_plan.specs.Faults.{Line, first_fitting, has_name, names_of, wiring_in, nodes_fault, print_lines, printed_fault, print_fault, size_lines}
use Rattle.ks_law_topology.specs.WellFormed.{IsWellFormed}

pub none_of : {A : Type 0} (x y : Option A) → option_or x y ≡ None → (x ≡ None) × (y ≡ None)
none_of None y e = (refl, e)
none_of (Some x) y e = cc

pub not_first : (x : Line) (xs : List Line) → first_fitting (x ∷ xs) ≡ None → (x.0 ≡ false) × (first_fitting xs ≡ None)
not_first (true, f) xs e = cc
not_first (false, f) xs e = (refl, e)

pub of_not : (b : Bool) → not b ≡ false → b ≡ true
of_not true e = refl
of_not false e = cc

place_within : (ns : List Name) (n : Name) → has_name ns n ≡ true → name_place ns n < length ns
place_within [] n e = cc
place_within (m ∷ ms) n e = by (same_bytes m n) e (λ g. place_within ms n g)
  where
    by : (b : Bool) → (b || has_name ms n) ≡ true → (has_name ms n ≡ true → name_place ms n < length ms) → cond b 0 (suc (name_place ms n)) < length (m ∷ ms)
    by true e f = omega arith
    by false e f = omega (arith, f e)

pub map-append : {A B : Type 0} (f : A → B) (xs ys : List A) → map f (xs ++ ys) ≡ map f xs ++ map f ys
map-append f [] ys = refl
map-append f (x ∷ xs) ys = ap (λ l. f x ∷ l) (map-append f xs ys)

pub map_length : {A B : Type 0} (f : A → B) (xs : List A) → length (map f xs) ≡ length xs
map_length f [] = refl
map_length f (x ∷ xs) = ap (λ n. suc n) (map_length f xs)

module _ (d : DraftView) where
  abbrev ts : Topics
  ts = d.topics

  names_are : (ks : List Known) (ns : List NodeView) → known_names (fold (learn ts) ks ns) ≡ known_names ks ++ names_of ns
  names_are ks [] = sym (append-nil _)
  names_are ks (n ∷ ns) =
      let k : Known = record { name = n.name; kind = (known_of ts ks n.op).0; rekeyed = (known_of ts ks n.op).1 } in
      names_are (ks ++ k ∷ []) ns ∙ ap (λ l. l ++ names_of ns) (map-append (λ k. k.name) ks (k ∷ [])) ∙ append_assoc (known_names ks) (n.name ∷ []) (names_of ns)

  -- a name among nodes is that of one of them
  pub number_within : (ns : List NodeView) (f : Name) → has_name (names_of ns) f ≡ true → node_number (known_from ts ns) f < length (known_from ts ns)
  number_within ns f e =
      let named : known_names (known_from ts ns) ≡ names_of ns = names_are [] ns in
      let at : name_place (names_of ns) f < length (names_of ns) = place_within (names_of ns) f e in
      let same : name_place (known_names (known_from ts ns)) f < length (known_names (known_from ts ns)) = subst (λ l. name_place l f < length l) (sym named) at in
      omega (arith, same, map_length (λ k. k.name) (known_from ts ns))

  kind_of : (ks : List Known) (i : ℕ) → get_or (map (λ k. k.kind) ks) i no_kind ≡ (get_or ks i nothing_known).kind
  kind_of [] i = refl
  kind_of (k ∷ ks) zero = refl
  kind_of (k ∷ ks) (suc i) = kind_of ks i

  abbrev Prints : Name → Type 0
  Prints name = (node_number (known_nodes d) name < length (plan_of d).kinds) × (is_stream (kind_at (plan_of d) (node_number (known_nodes d) name)) ≡ false)

  each_name : (before names : List Name) → printed_fault ts d.nodes before names ≡ None → AllByRecursion Prints names
  each_name before [] e = tt
  each_name before (n ∷ ps) e =
      let both = none_of (first_fitting (print_lines ts d.nodes before n)) (printed_fault ts d.nodes (before ++ n ∷ []) ps) e in
      let first = not_first (not (has_name (names_of d.nodes) n), UnknownInput n) ((has_name before n, DuplicateName n) ∷ (gives_stream (wiring_in (known_from ts d.nodes) n), WrongKind n) ∷ []) both.0 in
      let second = not_first (has_name before n, DuplicateName n) ((gives_stream (wiring_in (known_from ts d.nodes) n), WrongKind n) ∷ []) first.1 in
      let third = not_first (gives_stream (wiring_in (known_from ts d.nodes) n), WrongKind n) [] second.1 in
      let within : node_number (known_nodes d) n < length (known_nodes d) = number_within d.nodes n (of_not _ first.0) in
      ((omega (arith, within, map_length (λ (k : Known). k.kind) (known_nodes d)), ap is_stream (kind_of (known_nodes d) (node_number (known_nodes d) n)) ∙ third.0), each_name (before ++ n ∷ []) ps both.1)

  pub prints_tables : IsWellFormed d → AllByRecursion Prints d.print
  prints_tables well =
      let rest = (none_of (first_fitting (size_lines d)) _ well).1 in
      let print = (none_of (nodes_fault d [] d.nodes) (print_fault d [] d.print) rest).1 in
      each_name [] d.print print
