-- What the laws need of each node of a plan: its inputs stand before it, and those that share its tasks have its subtopology
-- and its partitions.
use Rattle.std.proofs.Common.{get_or, Bool, Option, None, ◌≡◌, ℕ, zero, suc, ◌+◌, ◌<◌, true, false, cond, ◌||◌, List, length, [], ◌∷◌, ◌++◌, map, slice_get, Some, fold, refl, sym, ap, ap₂, subst, ◌∙◌, arith, append_assoc, length-append, nat_eq, inl, inr, ⊎_elim}
use Rattle.std.specs.Prelude.{min, max}
use Rattle.std.proofs.lemmas.Bool.Decides.{Decides-eqb}
use Rattle.std.proofs.lemmas.Bool.{eqb-false}
use Rattle.std.proofs.lemmas.List.Sums.{fold-append}
use Rattle.ks_plan.specs.Plan.{Plan, Kind, wiring_of}
use Rattle.ks_plan.specs.Plan.Kind.{StreamSource, TableSource, StreamFilter, TableFilter, StreamMap, TableMap, KeySelected, StreamAggregate, TableAggregate, Windowed, KeyJoin, ForeignKeyJoin}
use Rattle.ks_plan.specs.declared.node.Topic.TheVariants.{Input as InputTopic}
use Rattle.ks_plan.specs.Layout.{at, origin_at, wired_origin, with_origin, node_origins, stated_for, before_of, spread_of, spread_of_topic, relabel, join_labels, label_next, labels, firsts, sub_of, wired_parts, parts_of, is_source_of, any_source_of, is_read, first_source_of, source_of}
use Rattle.ks_law_topology.proofs.Mixed.{Stands_at}

abbrev parts_next : Plan → List ℕ → Kind → List ℕ
parts_next p cs k = wired_parts p.counts cs (wiring_of k)

-- the node f shares the tasks and the partitions of n
pub record Beside (p : Plan) (f n : ℕ) : Type 0 where
  pub before : f < n
  pub sub : sub_of p f ≡ sub_of p n
  pub parts : parts_of p f ≡ parts_of p n
  pub spread : spread_of p f ≡ spread_of p n

-- the source n reads its topic alone
pub record Sourced (p : Plan) (t n : ℕ) : Type 0 where
  pub read : is_read p t ≡ true
  pub sub : sub_of p (source_of p t) ≡ sub_of p n
  pub parts : at p.counts t ≡ parts_of p n
  pub spread : spread_of_topic p (InputTopic t) ≡ spread_of p n

-- ---- streams whose items have the keys of their records
abbrev pub own_next : List Bool → Kind → List Bool
own_next bs (StreamSource t) = bs ++ true ∷ []
own_next bs (StreamFilter f x) = bs ++ get_or bs f false ∷ []
own_next bs (StreamMap f s) = bs ++ get_or bs f false ∷ []
own_next bs k = bs ++ false ∷ []

abbrev pub own_keys : List Kind → List Bool
own_keys ks = fold own_next [] ks

-- an aggregate without a repartition topic groups by the keys of its records
abbrev pub GroupsByKey : List Bool → ℕ → Option (List ℕ) → Type 0
GroupsByKey bs f by = (by ≡ None) × (get_or bs f false ≡ true)

abbrev pub NodeFits : Plan → ℕ → Kind → Type 0
NodeFits p n (StreamSource t) = Sourced p t n
NodeFits p n (TableSource t) = Sourced p t n
NodeFits p n (StreamFilter f x) = Beside p f n
NodeFits p n (TableFilter f x) = Beside p f n
NodeFits p n (StreamMap f s) = Beside p f n
NodeFits p n (TableMap f s) = Beside p f n
NodeFits p n (KeySelected f k) = Beside p f n
NodeFits p n (StreamAggregate f by field through) = (f < n) × (through ≡ false → Beside p f n) × (through ≡ false → GroupsByKey (own_keys p.kinds) f by)
NodeFits p n (TableAggregate f by field) = f < n
NodeFits p n (Windowed f by w through) = (f < n) × (through ≡ false → Beside p f n) × (through ≡ false → GroupsByKey (own_keys p.kinds) f by) × (0 < w.advance)
NodeFits p n (KeyJoin l r kind s) = Beside p l n × Beside p r n
NodeFits p n (ForeignKeyJoin l r fk kind s) = Beside p l n × (r < n)

abbrev pub EachFits : Plan → ℕ → List Kind → Type 0
EachFits p n [] = Unit {0}
EachFits p n (k ∷ ks) = NodeFits p n k × EachFits p (suc n) ks

abbrev pub Fits : Plan → Type 0
Fits p = EachFits p 0 p.kinds

-- ---- numbers in lists that grow at their end
pub at_before : (xs ys : List ℕ) (n : ℕ) → n < length xs → at (xs ++ ys) n ≡ at xs n
at_before [] ys n lt = absurd (omega arith)
at_before (x ∷ xs) ys zero lt = refl
at_before (x ∷ xs) ys (suc n) lt = at_before xs ys n (omega arith)

at_end : (xs : List ℕ) (x : ℕ) (ys : List ℕ) → at (xs ++ x ∷ ys) (length xs) ≡ x
at_end [] x ys = refl
at_end (y ∷ xs) x ys = at_end xs x ys

pub at_map : (f : ℕ → ℕ) (xs : List ℕ) (n : ℕ) → n < length xs → at (map f xs) n ≡ f (at xs n)
at_map f [] n lt = absurd (omega arith)
at_map f (x ∷ xs) zero lt = refl
at_map f (x ∷ xs) (suc n) lt = at_map f xs n (omega arith)

length_map : {A B : Type 0} (f : A → B) (xs : List A) → length (map f xs) ≡ length xs
length_map f [] = refl
length_map f (x ∷ xs) = ap (λ n. suc n) (length_map f xs)

-- ---- origins: each kind adds one
abbrev origin_next : List (Option ℕ) → Kind → List (Option ℕ)
origin_next os k = with_origin os (wiring_of k)

origin_before : (xs ys : List (Option ℕ)) (n : ℕ) → n < length xs → origin_at (xs ++ ys) n ≡ origin_at xs n
origin_before [] ys n lt = absurd (omega arith)
origin_before (x ∷ xs) ys zero lt = refl
origin_before (x ∷ xs) ys (suc n) lt = origin_before xs ys n (omega arith)

origin_end : (xs : List (Option ℕ)) (x : Option ℕ) (ys : List (Option ℕ)) → origin_at (xs ++ x ∷ ys) (length xs) ≡ x
origin_end [] x ys = refl
origin_end (y ∷ xs) x ys = origin_end xs x ys

origins_count : (os : List (Option ℕ)) (ks : List Kind) → length (fold origin_next os ks) ≡ length os + length ks
origins_count os [] = omega arith
origins_count os (k ∷ ks) = omega (arith, origins_count (origin_next os k) ks, length-append os (wired_origin os (wiring_of k) ∷ []))

origins_stay : (os : List (Option ℕ)) (ks : List Kind) (f : ℕ) → f < length os → origin_at (fold origin_next os ks) f ≡ origin_at os f
origins_stay os [] f lt = refl
origins_stay os (k ∷ ks) f lt = origins_stay (origin_next os k) ks f (omega (arith, length-append os (wired_origin os (wiring_of k) ∷ []))) ∙ origin_before os (wired_origin os (wiring_of k) ∷ []) f lt

-- ---- labels: each kind adds one, and nodes with one label keep one label
pub one_more : (xs : List ℕ) (x : ℕ) → length (xs ++ x ∷ []) ≡ suc (length xs)
one_more xs x = omega (arith, length-append xs (x ∷ []))

pub label_count : (ls : List ℕ) (k : Kind) → length (label_next ls k) ≡ suc (length ls)
label_count ls (KeyJoin l r kind s) =
    let a = min (at ls l) (at ls r) in
    let b = max (at ls l) (at ls r) in
    one_more (relabel a b ls) a ∙ ap (λ n. suc n) (length_map (λ x. cond (nat_eq x b) a x) ls)
label_count ls (StreamSource t) = one_more ls _
label_count ls (TableSource t) = one_more ls _
label_count ls (StreamFilter f p) = one_more ls _
label_count ls (TableFilter f p) = one_more ls _
label_count ls (StreamMap f s) = one_more ls _
label_count ls (TableMap f s) = one_more ls _
label_count ls (KeySelected f k) = one_more ls _
label_count ls (StreamAggregate f by field through) = one_more ls _
label_count ls (TableAggregate f by field) = one_more ls _
label_count ls (Windowed f by w through) = one_more ls _
label_count ls (ForeignKeyJoin l r fk kind s) = one_more ls _

-- both are nodes of the list, with one label
pub record Linked (ls : List ℕ) (f n : ℕ) : Type 0 where
  pub first : f < length ls
  pub second : n < length ls
  pub same : at ls f ≡ at ls n

linked_grow : (ls : List ℕ) (x f n : ℕ) → Linked ls f n → Linked (ls ++ x ∷ []) f n
linked_grow ls x f n h = record {
  first = omega (arith, h.first, one_more ls x);
  second = omega (arith, h.second, one_more ls x);
  same = at_before ls (x ∷ []) f h.first ∙ h.same ∙ sym (at_before ls (x ∷ []) n h.second);
}

linked_map : (g : ℕ → ℕ) (ls : List ℕ) (f n : ℕ) → Linked ls f n → Linked (map g ls) f n
linked_map g ls f n h = record {
  first = omega (arith, h.first, length_map g ls);
  second = omega (arith, h.second, length_map g ls);
  same = at_map g ls f h.first ∙ ap g h.same ∙ sym (at_map g ls n h.second);
}

linked_next : (ls : List ℕ) (k : Kind) (f n : ℕ) → Linked ls f n → Linked (label_next ls k) f n
linked_next ls (KeyJoin l r kind s) f n h =
    let a = min (at ls l) (at ls r) in
    let b = max (at ls l) (at ls r) in
    linked_grow (relabel a b ls) a f n (linked_map (λ x. cond (nat_eq x b) a x) ls f n h)
linked_next ls (StreamSource t) f n h = linked_grow ls _ f n h
linked_next ls (TableSource t) f n h = linked_grow ls _ f n h
linked_next ls (StreamFilter g p) f n h = linked_grow ls _ f n h
linked_next ls (TableFilter g p) f n h = linked_grow ls _ f n h
linked_next ls (StreamMap g s) f n h = linked_grow ls _ f n h
linked_next ls (TableMap g s) f n h = linked_grow ls _ f n h
linked_next ls (KeySelected g k) f n h = linked_grow ls _ f n h
linked_next ls (StreamAggregate g by field through) f n h = linked_grow ls _ f n h
linked_next ls (TableAggregate g by field) f n h = linked_grow ls _ f n h
linked_next ls (Windowed g by w through) f n h = linked_grow ls _ f n h
linked_next ls (ForeignKeyJoin l r fk kind s) f n h = linked_grow ls _ f n h

pub linked_all : (ls : List ℕ) (ks : List Kind) (f n : ℕ) → Linked ls f n → Linked (fold label_next ls ks) f n
linked_all ls [] f n h = h
linked_all ls (k ∷ ks) f n h = linked_all (label_next ls k) ks f n (linked_next ls k f n h)

-- a node with the label of its input
linked_new : (ls : List ℕ) (f : ℕ) → f < length ls → Linked (ls ++ at ls f ∷ []) f (length ls)
linked_new ls f lt = record {
  first = omega (arith, lt, one_more ls (at ls f));
  second = omega (arith, one_more ls (at ls f));
  same = at_before ls (at ls f ∷ []) f lt ∙ sym (at_end ls (at ls f) []);
}

-- the greater of two labels becomes the less
pub left_label : (l r : ℕ) → cond (nat_eq l (max l r)) (min l r) l ≡ min l r
left_label l r = elim (nat_eq l (max l r)) as (λ b. nat_eq l (max l r) ≡ b → cond b (min l r) l ≡ min l r) [
  | true ↦ λ e. refl
  | false ↦ λ e. let ne = eqb-false l (max l r) e in omega arith
] refl

pub right_label : (l r : ℕ) → cond (nat_eq r (max l r)) (min l r) r ≡ min l r
right_label l r = elim (nat_eq r (max l r)) as (λ b. nat_eq r (max l r) ≡ b → cond b (min l r) r ≡ min l r) [
  | true ↦ λ e. refl
  | false ↦ λ e. let ne = eqb-false r (max l r) e in omega arith
] refl

module _ (ls : List ℕ) (l r : ℕ) where
  abbrev lesser : ℕ
  lesser = min (at ls l) (at ls r)

  abbrev greater : ℕ
  greater = max (at ls l) (at ls r)

  abbrev turned : List ℕ
  turned = relabel lesser greater ls

  joined_new : (f : ℕ) → f < length ls → cond (nat_eq (at ls f) greater) lesser (at ls f) ≡ lesser → Linked (join_labels ls (at ls l) (at ls r)) f (length ls)
  joined_new f lt e =
      let long : length turned ≡ length ls = length_map (λ x. cond (nat_eq x greater) lesser x) ls in
      record {
        first = omega (arith, lt, one_more turned lesser);
        second = omega (arith, one_more turned lesser);
        same = at_before turned (lesser ∷ []) f (omega arith) ∙ at_map (λ x. cond (nat_eq x greater) lesser x) ls f lt ∙ e
            ∙ sym (ap (at (turned ++ lesser ∷ [])) (sym long) ∙ at_end turned lesser []);
      }

-- ---- the shape of a list of kinds: what stands before each
abbrev pub Before : List Kind → ℕ → Type 0
Before before f = f < length before

abbrev pub NodeShape : Plan → List Kind → Kind → Type 0
NodeShape p before (StreamSource t) = any_source_of t before ≡ false
NodeShape p before (TableSource t) = any_source_of t before ≡ false
NodeShape p before (StreamFilter f x) = Before before f
NodeShape p before (TableFilter f x) = Before before f
NodeShape p before (StreamMap f s) = Before before f
NodeShape p before (TableMap f s) = Before before f
NodeShape p before (KeySelected f k) = Before before f
NodeShape p before (StreamAggregate f by field through) = Before before f × (through ≡ false → GroupsByKey (own_keys before) f by)
NodeShape p before (TableAggregate f by field) = Before before f
NodeShape p before (Windowed f by w through) = Before before f × (through ≡ false → GroupsByKey (own_keys before) f by) × (0 < w.advance)
NodeShape p before (KeyJoin l r kind s) =
    Before before l × Before before r × (at (fold (parts_next p) [] before) l ≡ at (fold (parts_next p) [] before) r)
    × (stated_for p.befores (origin_at (node_origins before) l) ≡ stated_for p.befores (origin_at (node_origins before) r))
NodeShape p before (ForeignKeyJoin l r fk kind s) = Before before l × Before before r

abbrev pub EachShape : Plan → List Kind → List Kind → Type 0
EachShape p before [] = Unit {0}
EachShape p before (k ∷ ks) = NodeShape p before k × EachShape p (before ++ k ∷ []) ks

pub flag_before : (xs ys : List Bool) (n : ℕ) → n < length xs → get_or (xs ++ ys) n false ≡ get_or xs n false
flag_before [] ys n lt = absurd (omega arith)
flag_before (x ∷ xs) ys zero lt = refl
flag_before (x ∷ xs) ys (suc n) lt = flag_before xs ys n (omega arith)

one_flag : (bs : List Bool) (b : Bool) → length (bs ++ b ∷ []) ≡ suc (length bs)
one_flag bs b = omega (arith, length-append bs (b ∷ []))

pub own_one : (bs : List Bool) (k : Kind) → length (own_next bs k) ≡ suc (length bs)
own_one bs (StreamSource t) = one_flag bs _
own_one bs (TableSource t) = one_flag bs _
own_one bs (StreamFilter f x) = one_flag bs _
own_one bs (TableFilter f x) = one_flag bs _
own_one bs (StreamMap f s) = one_flag bs _
own_one bs (TableMap f s) = one_flag bs _
own_one bs (KeySelected f k) = one_flag bs _
own_one bs (StreamAggregate f by field through) = one_flag bs _
own_one bs (TableAggregate f by field) = one_flag bs _
own_one bs (Windowed f by w through) = one_flag bs _
own_one bs (KeyJoin l r kind s) = one_flag bs _
own_one bs (ForeignKeyJoin l r fk kind s) = one_flag bs _

pub own_same : (bs : List Bool) (k : Kind) (f : ℕ) → f < length bs → get_or (own_next bs k) f false ≡ get_or bs f false
own_same bs (StreamSource t) f lt = flag_before bs _ f lt
own_same bs (TableSource t) f lt = flag_before bs _ f lt
own_same bs (StreamFilter g x) f lt = flag_before bs _ f lt
own_same bs (TableFilter g x) f lt = flag_before bs _ f lt
own_same bs (StreamMap g s) f lt = flag_before bs _ f lt
own_same bs (TableMap g s) f lt = flag_before bs _ f lt
own_same bs (KeySelected g k) f lt = flag_before bs _ f lt
own_same bs (StreamAggregate g by field through) f lt = flag_before bs _ f lt
own_same bs (TableAggregate g by field) f lt = flag_before bs _ f lt
own_same bs (Windowed g by w through) f lt = flag_before bs _ f lt
own_same bs (KeyJoin l r kind s) f lt = flag_before bs _ f lt
own_same bs (ForeignKeyJoin l r fk kind s) f lt = flag_before bs _ f lt

module _ (p : Plan) where
  parts_count : (cs : List ℕ) (k : Kind) → length (parts_next p cs k) ≡ suc (length cs)
  parts_count cs (KeyJoin l r kind s) = one_more cs _
  parts_count cs (StreamSource t) = one_more cs _
  parts_count cs (TableSource t) = one_more cs _
  parts_count cs (StreamFilter f x) = one_more cs _
  parts_count cs (TableFilter f x) = one_more cs _
  parts_count cs (StreamMap f s) = one_more cs _
  parts_count cs (TableMap f s) = one_more cs _
  parts_count cs (KeySelected f k) = one_more cs _
  parts_count cs (StreamAggregate f by field through) = one_more cs _
  parts_count cs (TableAggregate f by field) = one_more cs _
  parts_count cs (Windowed f by w through) = one_more cs _
  parts_count cs (ForeignKeyJoin l r fk kind s) = one_more cs _

  part_stays : (cs : List ℕ) (k : Kind) (f : ℕ) → f < length cs → at (parts_next p cs k) f ≡ at cs f
  part_stays cs (KeyJoin l r kind s) f lt = at_before cs _ f lt
  part_stays cs (StreamSource t) f lt = at_before cs _ f lt
  part_stays cs (TableSource t) f lt = at_before cs _ f lt
  part_stays cs (StreamFilter g x) f lt = at_before cs _ f lt
  part_stays cs (TableFilter g x) f lt = at_before cs _ f lt
  part_stays cs (StreamMap g s) f lt = at_before cs _ f lt
  part_stays cs (TableMap g s) f lt = at_before cs _ f lt
  part_stays cs (KeySelected g k) f lt = at_before cs _ f lt
  part_stays cs (StreamAggregate g by field through) f lt = at_before cs _ f lt
  part_stays cs (TableAggregate g by field) f lt = at_before cs _ f lt
  part_stays cs (Windowed g by w through) f lt = at_before cs _ f lt
  part_stays cs (ForeignKeyJoin l r fk kind s) f lt = at_before cs _ f lt

  parts_stay : (cs : List ℕ) (ks : List Kind) (f : ℕ) → f < length cs → at (fold (parts_next p) cs ks) f ≡ at cs f
  parts_stay cs [] f lt = refl
  parts_stay cs (k ∷ ks) f lt = parts_stay (parts_next p cs k) ks f (omega (arith, parts_count cs k)) ∙ part_stays cs k f lt

  labels_count : (ls : List ℕ) (ks : List Kind) → length (fold label_next ls ks) ≡ length ls + length ks
  labels_count ls [] = omega arith
  labels_count ls (k ∷ ks) = omega (arith, labels_count (label_next ls k) ks, label_count ls k)

  counts_count : (cs : List ℕ) (ks : List Kind) → length (fold (parts_next p) cs ks) ≡ length cs + length ks
  counts_count cs [] = omega arith
  counts_count cs (k ∷ ks) = omega (arith, counts_count (parts_next p cs k) ks, parts_count cs k)

  sources_append : (t : ℕ) (xs : List Kind) (k : Kind) (ys : List Kind) → is_source_of t k ≡ true → any_source_of t (xs ++ k ∷ ys) ≡ true
  sources_append t [] k ys e = ap (λ b. b || any_source_of t ys) e
  sources_append t (x ∷ xs) k ys e = elim (is_source_of t x) as (λ b. (b || any_source_of t (xs ++ k ∷ ys)) ≡ true) [ true ↦ refl | false ↦ sources_append t xs k ys e ]

  first_source : (t n : ℕ) (xs : List Kind) (k : Kind) (ys : List Kind) → any_source_of t xs ≡ false → is_source_of t k ≡ true → first_source_of t n (xs ++ k ∷ ys) ≡ n + length xs
  first_source t n [] k ys none e = rw e (omega arith)
  first_source t n (x ∷ xs) k ys none e =
      elim (is_source_of t x) as (λ b. (b || any_source_of t xs) ≡ false → cond b n (first_source_of t (suc n) (xs ++ k ∷ ys)) ≡ n + suc (length xs)) [
        | true ↦ λ h. cc
        | false ↦ λ h. first_source t (suc n) xs k ys h e ∙ omega arith
      ] none

  -- one node of the plan, with what stands before it and after it
  module _ (before : List Kind) (k : Kind) (rest : List Kind) (all : p.kinds ≡ before ++ k ∷ rest) where
    abbrev ls : List ℕ
    ls = fold label_next [] before

    abbrev cs : List ℕ
    cs = fold (parts_next p) [] before

    labels_are : labels p ≡ fold label_next (label_next ls k) rest
    labels_are = ap (fold label_next []) all ∙ fold-append label_next [] before (k ∷ rest)

    parts_are : (n : ℕ) → parts_of p n ≡ at (fold (parts_next p) (parts_next p cs k) rest) n
    parts_are n = ap (λ l. at l n) (ap (fold (parts_next p) []) all ∙ fold-append (parts_next p) [] before (k ∷ rest))

    same_sub : (f : ℕ) → Linked (label_next ls k) f (length before) → sub_of p f ≡ sub_of p (length before)
    same_sub f h =
        let linked = linked_all (label_next ls k) rest f (length before) h in
        ap (firsts (labels p)) (ap (λ l. at l f) labels_are ∙ linked.same ∙ ap (λ l. at l (length before)) (sym labels_are))

    part_before : (f : ℕ) → f < length before → parts_of p f ≡ at cs f
    part_before f lt =
        let n : length cs ≡ 0 + length before = counts_count [] before in
        parts_are f ∙ parts_stay (parts_next p cs k) rest f (omega (arith, parts_count cs k)) ∙ part_stays cs k f (omega arith)

    part_here : (c : ℕ) → parts_next p cs k ≡ cs ++ c ∷ [] → parts_of p (length before) ≡ c
    part_here c e =
        let n : length cs ≡ 0 + length before = counts_count [] before in
        let m : length cs ≡ length before = omega arith in
        parts_are (length before) ∙ parts_stay (parts_next p cs k) rest (length before) (omega (arith, parts_count cs k))
        ∙ ap (λ l. at l (length before)) e ∙ ap (at (cs ++ c ∷ [])) (sym m) ∙ at_end cs c []

    abbrev os : List (Option ℕ)
    os = node_origins before

    origins_are : (n : ℕ) → origin_at (node_origins p.kinds) n ≡ origin_at (fold origin_next (origin_next os k) rest) n
    origins_are n = ap (λ l. origin_at l n) (ap (fold origin_next []) all ∙ fold-append origin_next [] before (k ∷ rest))

    stated_before : (f : ℕ) → f < length before → before_of p f ≡ stated_for p.befores (origin_at os f)
    stated_before f lt =
        let n : length os ≡ 0 + length before = origins_count [] before in
        ap (stated_for p.befores) (origins_are f ∙ origins_stay (origin_next os k) rest f (omega (arith, length-append os (wired_origin os (wiring_of k) ∷ []))) ∙ origin_before os (wired_origin os (wiring_of k) ∷ []) f (omega arith))

    stated_here : before_of p (length before) ≡ stated_for p.befores (wired_origin os (wiring_of k))
    stated_here =
        let n : length os ≡ 0 + length before = origins_count [] before in
        let m : length os ≡ length before = omega arith in
        ap (stated_for p.befores) (origins_are (length before) ∙ origins_stay (origin_next os k) rest (length before) (omega (arith, length-append os (wired_origin os (wiring_of k) ∷ [])))
        ∙ ap (origin_at (os ++ wired_origin os (wiring_of k) ∷ [])) (sym m) ∙ origin_end os (wired_origin os (wiring_of k)) [])

    -- where the keys of no input topic are its own they are spread as a whole
    pub plain_here : wired_origin os (wiring_of k) ≡ None → before_of p (length before) ≡ None
    plain_here o = stated_here ∙ ap (stated_for p.befores) o

    count_is : length ls ≡ length before
    count_is = let n : length ls ≡ 0 + length before = labels_count [] before in omega arith

    beside : (f : ℕ) → f < length before → Linked (label_next ls k) f (length ls) → parts_next p cs k ≡ cs ++ at cs f ∷ [] → stated_for p.befores (wired_origin os (wiring_of k)) ≡ stated_for p.befores (origin_at os f) → Beside p f (length before)
    beside f lt h e o =
        let parts = part_before f lt ∙ sym (part_here (at cs f) e) in
        record {
          before = lt;
          sub = same_sub f (subst (Linked (label_next ls k) f) count_is h);
          parts = parts;
          spread = ap₂ (λ n b. record { parts = n; before = b }) parts (stated_before f lt ∙ sym (stated_here ∙ o));
        }

    sourced : (t : ℕ) → any_source_of t before ≡ false → is_source_of t k ≡ true → parts_next p cs k ≡ cs ++ at p.counts t ∷ [] → wired_origin os (wiring_of k) ≡ Some t → Sourced p t (length before)
    sourced t none is e o = record {
      read = ap (any_source_of t) all ∙ sources_append t before k rest is;
      sub =
          let n : 0 + length before ≡ length before = omega arith in
          ap (sub_of p) (ap (first_source_of t 0) all ∙ first_source t 0 before k rest none is ∙ n);
      parts = sym (part_here (at p.counts t) e);
      spread = ap₂ (λ n b. record { parts = n; before = b }) (sym (part_here (at p.counts t) e)) (sym (stated_here ∙ ap (stated_for p.befores) o));
    }

    within : (f : ℕ) → f < length before → f < length ls
    within f lt = let e = count_is in omega arith

  pub own_count : (bs : List Bool) (ks : List Kind) → length (fold own_next bs ks) ≡ length bs + length ks
  own_count bs [] = omega arith
  own_count bs (k ∷ ks) = omega (arith, own_count (own_next bs k) ks, own_one bs k)

  own_stay : (bs : List Bool) (ks : List Kind) (f : ℕ) → f < length bs → get_or (fold own_next bs ks) f false ≡ get_or bs f false
  own_stay bs [] f lt = refl
  own_stay bs (k ∷ ks) f lt = own_stay (own_next bs k) ks f (omega (arith, own_one bs k)) ∙ own_same bs k f lt

  keys_fit : (before : List Kind) (k : Kind) (rest : List Kind) → p.kinds ≡ before ++ k ∷ rest → (f : ℕ) (by : Option (List ℕ)) → f < length before → GroupsByKey (own_keys before) f by → GroupsByKey (own_keys p.kinds) f by
  keys_fit before k rest all f by lt h =
      let count : length (own_keys before) ≡ 0 + length before = own_count [] before in
      (h.0, ap (λ l. get_or (own_keys l) f false) all ∙ ap (λ bs. get_or bs f false) (fold-append own_next [] before (k ∷ rest)) ∙ own_stay (own_keys before) (k ∷ rest) f (omega arith) ∙ h.1)

  node_fits : (before : List Kind) (k : Kind) (rest : List Kind) → p.kinds ≡ before ++ k ∷ rest → NodeShape p before k → NodeFits p (length before) k
  node_fits before (StreamSource t) rest all h = sourced before (StreamSource t) rest all t h ((Decides-eqb t t).1 refl) refl refl
  node_fits before (TableSource t) rest all h = sourced before (TableSource t) rest all t h ((Decides-eqb t t).1 refl) refl refl
  node_fits before (StreamFilter f x) rest all h = beside before (StreamFilter f x) rest all f h (linked_new _ f (within before (StreamFilter f x) rest all f h)) refl refl
  node_fits before (TableFilter f x) rest all h = beside before (TableFilter f x) rest all f h (linked_new _ f (within before (TableFilter f x) rest all f h)) refl refl
  node_fits before (StreamMap f s) rest all h = beside before (StreamMap f s) rest all f h (linked_new _ f (within before (StreamMap f s) rest all f h)) refl refl
  node_fits before (TableMap f s) rest all h = beside before (TableMap f s) rest all f h (linked_new _ f (within before (TableMap f s) rest all f h)) refl refl
  node_fits before (KeySelected f k) rest all h = beside before (KeySelected f k) rest all f h (linked_new _ f (within before (KeySelected f k) rest all f h)) refl refl
  node_fits before (StreamAggregate f by field true) rest all h = (h.0, λ e. cc, λ e. cc)
  node_fits before (StreamAggregate f by field false) rest all h =
      (h.0, λ e. beside before (StreamAggregate f by field false) rest all f h.0 (linked_new _ f (within before (StreamAggregate f by field false) rest all f h.0)) refl refl, λ e. keys_fit before (StreamAggregate f by field false) rest all f by h.0 (h.1 refl))
  node_fits before (TableAggregate f by field) rest all h = h
  node_fits before (Windowed f by w true) rest all h = (h.0, λ e. cc, λ e. cc, h.2)
  node_fits before (Windowed f by w false) rest all h =
      (h.0, λ e. beside before (Windowed f by w false) rest all f h.0 (linked_new _ f (within before (Windowed f by w false) rest all f h.0)) refl refl, λ e. keys_fit before (Windowed f by w false) rest all f by h.0 (h.1 refl), h.2)
  node_fits before (KeyJoin l r kind s) rest all h =
      let k = KeyJoin l r kind s in
      let ls = fold label_next [] before in
      let cs = fold (parts_next p) [] before in (
        beside before k rest all l h.0 (joined_new ls l r l (within before k rest all l h.0) (left_label (at ls l) (at ls r))) refl refl,
        beside before k rest all r h.1 (joined_new ls l r r (within before k rest all r h.1) (right_label (at ls l) (at ls r))) (ap (λ c. cs ++ c ∷ []) h.2) h.3,
      )
  node_fits before (ForeignKeyJoin l r fk kind s) rest all h =
      (beside before (ForeignKeyJoin l r fk kind s) rest all l h.0 (linked_new _ l (within before (ForeignKeyJoin l r fk kind s) rest all l h.0)) refl refl, h.1)

  -- of a node behind a repartition topic
  plain_from : (before ks : List Kind) → p.kinds ≡ before ++ ks → (i : ℕ) (k : Kind) → slice_get ks i ≡ Some k → ((os : List (Option ℕ)) → wired_origin os (wiring_of k) ≡ None) → before_of p (length before + i) ≡ None
  plain_from before [] all i k e h = absurd cc
  plain_from before (x ∷ ks) all zero k e h =
      let is : x ≡ k = cc in
      let z : length before ≡ length before + 0 = omega arith in
      ap (before_of p) (sym z) ∙ plain_here before x ks all (subst (λ (y : Kind). wired_origin (node_origins before) (wiring_of y) ≡ None) (sym is) (h (node_origins before)))
  plain_from before (x ∷ ks) all (suc i) k e h =
      let push : before ++ x ∷ ks ≡ (before ++ x ∷ []) ++ ks = sym (append_assoc before (x ∷ []) ks) in
      let z : length (before ++ x ∷ []) + i ≡ length before + suc i = omega (arith, length-append before (x ∷ [])) in
      ap (before_of p) (sym z) ∙ plain_from (before ++ x ∷ []) ks (all ∙ push) i k e h

  pub plain_node : (n : ℕ) (k : Kind) → slice_get p.kinds n ≡ Some k → ((os : List (Option ℕ)) → wired_origin os (wiring_of k) ≡ None) → before_of p n ≡ None
  plain_node n k e h = let z : 0 + n ≡ n = omega arith in ap (before_of p) (sym z) ∙ plain_from [] p.kinds refl n k e h

  each_fits : (before ks : List Kind) → p.kinds ≡ before ++ ks → EachShape p before ks → EachFits p (length before) ks
  each_fits before [] all h = tt
  each_fits before (k ∷ ks) all h =
      let push : before ++ k ∷ ks ≡ (before ++ k ∷ []) ++ ks = sym (append_assoc before (k ∷ []) ks) in
      let long : length (before ++ k ∷ []) ≡ suc (length before) = omega (arith, length-append before (k ∷ [])) in
      (node_fits before k ks all h.0, subst (λ n. EachFits p n ks) long (each_fits (before ++ k ∷ []) ks (all ∙ push) h.1))

  -- from the shape of its kinds
  pub fits_of_shape : EachShape p [] p.kinds → Fits p
  fits_of_shape h = each_fits [] p.kinds refl h

-- ---- one node of a plan
pub each_at : (p : Plan) (n : ℕ) (ks : List Kind) (a : ℕ) (k : Kind) → EachFits p n ks → Stands_at a k n ks → NodeFits p a k
each_at p n [] a k h s = absurd s
each_at p n (y ∷ ys) a k h s = ⊎_elim
    (λ (e : (n ≡ a) × (y ≡ k)). subst (λ m. NodeFits p m k) e.0 (subst (NodeFits p n) e.1 h.0))
    (λ (e : (n < a) × Stands_at a k (suc n) ys). each_at p (suc n) ys a k h.1 e.1) s

pub stands : (m i : ℕ) (ks : List Kind) (k : Kind) → slice_get ks i ≡ Some k → Stands_at (m + i) k m ks
stands m i [] k e = cc
stands m zero (y ∷ ys) k e = let is : y ≡ k = cc in inl (omega arith, is)
stands m (suc i) (y ∷ ys) k e = inr (omega arith, subst (λ n. Stands_at n k (suc m) ys) (omega arith) (stands (suc m) i ys k e))

pub node_stands : (p : Plan) (n : ℕ) (k : Kind) → slice_get p.kinds n ≡ Some k → Stands_at n k 0 p.kinds
node_stands p n k e = subst (λ m. Stands_at m k 0 p.kinds) (omega arith) (stands 0 n p.kinds k e)

pub stands_after : (m : ℕ) (xs : List Kind) (k : Kind) (ys : List Kind) → Stands_at (m + length xs) k m (xs ++ k ∷ ys)
stands_after m [] k ys = inl (omega arith, refl)
stands_after m (x ∷ xs) k ys = inr (omega arith, subst (λ n. Stands_at n k (suc m) (xs ++ k ∷ ys)) (omega arith) (stands_after (suc m) xs k ys))

-- a node's inputs are nodes of the plan
pub stands_within : (m : ℕ) (ks : List Kind) (a : ℕ) (k : Kind) → Stands_at a k m ks → {c : ℕ} → c < a → c < m + length ks
stands_within m [] a k s lt = absurd s
stands_within m (x ∷ xs) a k s lt = ⊎_elim
    (λ (e : (m ≡ a) × (x ≡ k)). let is : m ≡ a = e.0 in omega arith)
    (λ (e : (m < a) × Stands_at a k (suc m) xs). let rest = stands_within (suc m) xs a k e.1 lt in omega arith) s
