-- Labels are connected: each node's label is the first node that it is connected with.
use Rattle.std.proofs.Common.{◌≡◌, ℕ, zero, suc, ◌+◌, ◌≤◌, ◌<◌, true, false, cond, List, length, length-append, [], ◌∷◌, ◌++◌, map, fold, get_or, refl, sym, ap, ap₂, subst, ◌∙◌, arith, append_assoc, nat_eq, ⊎_elim, ◌⊎◌, inl, inr}
use Rattle.std.specs.Prelude.{min, max}
use Rattle.std.proofs.lemmas.List.{length-map}
use Rattle.std.proofs.lemmas.Bool.{cases_order}
use Rattle.std.proofs.lemmas.Bool.Decides.{Decides-eqb}
use Rattle.ks_plan.specs.Plan.{Plan, Kind}
use Rattle.ks_plan.specs.Plan.Kind.{StreamSource, TableSource, StreamFilter, TableFilter, StreamMap, TableMap, KeySelected, StreamAggregate, TableAggregate, Windowed, KeyJoin, ForeignKeyJoin}
use Rattle.ks_plan.specs.Layout.{at, relabel, join_labels, label_next, labels, firsts, sub_of, kind_at, no_kind}
use Rattle.ks_law_restated.specs.Connected.{ReadsDirectly, LiesWith, Connected, InputsComeFirst, SameSubtopologyIsConnected, ConnectedIsSameSubtopology}
use Rattle.ks_law_restated.specs.Connected.Connected.{Itself, Edge, Back, Chain}
use Rattle.ks_law_topology.proofs.Fits.{at_before, at_map, left_label, one_more, right_label}
use Rattle.ks_law_topology.proofs.Labels.{at_end, either}

-- a place of a list with one more is the last, or one of the list
last : (xs : List ℕ) (x i : ℕ) → i < length (xs ++ x ∷ []) → (i ≡ length xs) ⊎ (i < length xs)
last xs x i lt = ⊎_elim (λ (e : i ≡ length xs). inl e)
    (λ (o : (i < length xs) ⊎ (length xs < i)). ⊎_elim (λ (a : i < length xs). inr a) (λ (b : length xs < i). absurd (omega (arith, b, lt, one_more xs x))) o)
    (cases_order i (length xs))

-- ---- nodes at their numbers
abbrev AtPlace : Plan → ℕ → List Kind → Type 0
AtPlace p n [] = Unit {0}
AtPlace p n (k ∷ ks) = (kind_at p n ≡ k) × AtPlace p (suc n) ks

pub get_end : (xs : List Kind) (x : Kind) (ys : List Kind) → get_or (xs ++ x ∷ ys) (length xs) no_kind ≡ x
get_end [] x ys = refl
get_end (y ∷ xs) x ys = get_end xs x ys

at_places : (p : Plan) (before ks : List Kind) → p.kinds ≡ before ++ ks → (n : ℕ) → n ≡ length before → AtPlace p n ks
at_places p before [] is n e = tt
at_places p before (k ∷ ks) is n e = (
  ap₂ (λ (l : List Kind) (m : ℕ). get_or l m no_kind) is e ∙ get_end before k ks,
  at_places p (before ++ k ∷ []) ks (is ∙ sym (append_assoc before (k ∷ []) ks)) (suc n) (omega (arith, e, length-append before (k ∷ []))),
)

pub kind_past : (ks : List Kind) (n : ℕ) → length ks ≤ n → get_or ks n no_kind ≡ no_kind
kind_past [] n le = refl
kind_past (k ∷ ks) zero le = absurd (omega arith)
kind_past (k ∷ ks) (suc n) le = kind_past ks n (omega arith)

either_greater : (Q : ℕ → Type 0) (x y : ℕ) → Q x → Q y → Q (max x y)
either_greater Q x y a b = ⊎_elim (λ (e : x ≡ y). let f : max x y ≡ x = omega (arith, e) in subst Q (sym f) a)
    (λ (o : (x < y) ⊎ (y < x)). ⊎_elim (λ (l : x < y). let f : max x y ≡ y = omega (arith, l) in subst Q (sym f) b) (λ (l : y < x). let f : max x y ≡ x = omega (arith, l) in subst Q (sym f) a) o)
    (cases_order x y)

-- ---- the labels of the first nodes
module _ (p : Plan) (ordered : InputsComeFirst p) where
  -- each label is that of a node before it which labels itself; it is connected with it; an edge joins nodes of one label
  pub record Labelled (ls : List ℕ) : Type 0 where
    pub low : (i : ℕ) → i < length ls → at ls i ≤ i
    pub own : (i : ℕ) → i < length ls → at ls (at ls i) ≡ at ls i
    pub linked : (i : ℕ) → i < length ls → Connected p i (at ls i)
    pub edges : (i m : ℕ) → i < length ls → LiesWith p i m → at ls i ≡ at ls m

  -- one more node, which labels itself or is labelled as one before it
  grown : (ls : List ℕ) (x : ℕ) → Labelled ls → x ≤ length ls → at (ls ++ x ∷ []) x ≡ x → Connected p (length ls) x → ((m : ℕ) → LiesWith p (length ls) m → x ≡ at ls m) → Labelled (ls ++ x ∷ [])
  grown ls x h low own linked edges = record {
    low = λ i lt. ⊎_elim (λ (e : i ≡ length ls). low_here i e) (λ (l : i < length ls). omega (arith, at_before ls (x ∷ []) i l, h.low i l)) (last ls x i lt);
    own = λ i lt. ⊎_elim (λ (e : i ≡ length ls). own_here i e) (λ (l : i < length ls). own_there i l) (last ls x i lt);
    linked = λ i lt. ⊎_elim (λ (e : i ≡ length ls). linked_here i e) (λ (l : i < length ls). subst (Connected p i) (sym (at_before ls (x ∷ []) i l)) (h.linked i l)) (last ls x i lt);
    edges = λ i m lt d. ⊎_elim (λ (e : i ≡ length ls). edges_here i m e d) (λ (l : i < length ls). edges_there i m l d) (last ls x i lt);
  }
    where
      here : (i : ℕ) → i ≡ length ls → at (ls ++ x ∷ []) i ≡ x
      here i e = ap (at (ls ++ x ∷ [])) e ∙ at_end ls x

      low_here : (i : ℕ) → i ≡ length ls → at (ls ++ x ∷ []) i ≤ i
      low_here i e = omega (arith, here i e, e, low)

      own_here : (i : ℕ) → i ≡ length ls → at (ls ++ x ∷ []) (at (ls ++ x ∷ []) i) ≡ at (ls ++ x ∷ []) i
      own_here i e = ap (at (ls ++ x ∷ [])) (here i e) ∙ own ∙ sym (here i e)

      own_there : (i : ℕ) → i < length ls → at (ls ++ x ∷ []) (at (ls ++ x ∷ []) i) ≡ at (ls ++ x ∷ []) i
      own_there i l =
          let same = at_before ls (x ∷ []) i l in
          ap (at (ls ++ x ∷ [])) same ∙ at_before ls (x ∷ []) (at ls i) (omega (arith, h.low i l, l)) ∙ h.own i l ∙ sym same

      linked_here : (i : ℕ) → i ≡ length ls → Connected p i (at (ls ++ x ∷ []) i)
      linked_here i e = subst (Connected p i) (sym (here i e)) (subst (λ j. Connected p j x) (sym e) linked)

      edges_here : (i m : ℕ) → i ≡ length ls → LiesWith p i m → at (ls ++ x ∷ []) i ≡ at (ls ++ x ∷ []) m
      edges_here i m e d = here i e ∙ edges m (subst (λ j. LiesWith p j m) e d) ∙ sym (at_before ls (x ∷ []) m (omega (arith, ordered i m d, e)))

      edges_there : (i m : ℕ) → i < length ls → LiesWith p i m → at (ls ++ x ∷ []) i ≡ at (ls ++ x ∷ []) m
      edges_there i m l d = at_before ls (x ∷ []) i l ∙ h.edges i m l d ∙ sym (at_before ls (x ∷ []) m (omega (arith, ordered i m d, l)))

  fresh : (ls : List ℕ) → Labelled ls → ((m : ℕ) → LiesWith p (length ls) m → ⊥) → Labelled (ls ++ length ls ∷ [])
  fresh ls h none = grown ls (length ls) h (omega arith) (at_end ls (length ls)) (Itself (length ls)) (λ m d. absurd (none m d))

  follows : (ls : List ℕ) (f : ℕ) → Labelled ls → LiesWith p (length ls) f → ((m : ℕ) → LiesWith p (length ls) m → m ≡ f) → Labelled (ls ++ at ls f ∷ [])
  follows ls f h edge only =
      let lt : f < length ls = ordered (length ls) f edge in
      grown ls (at ls f) h (omega (arith, h.low f lt, lt)) (at_before ls (at ls f ∷ []) (at ls f) (omega (arith, h.low f lt, lt)) ∙ h.own f lt)
      (Chain (length ls) f (at ls f) (Edge (length ls) f edge) (h.linked f lt)) (λ m d. ap (at ls) (sym (only m d)))

  -- one label in place of a greater one
  module _ (ls : List ℕ) (a b : ℕ) (h : Labelled ls) (less : a ≤ b) (own_a : at ls a ≡ a) (same : Connected p b a) (inside : a < length ls) where
    abbrev g : ℕ → ℕ
    g x = cond (nat_eq x b) a x

    g_is : (y : ℕ) (Q : ℕ → Type 0) → (y ≡ b → Q a) → (nat_eq y b ≡ false → Q y) → Q (g y)
    g_is y Q here other = elim (nat_eq y b) as (λ c. nat_eq y b ≡ c → Q (cond c a y)) [ true ↦ λ e. here ((Decides-eqb y b).0 e) | false ↦ λ e. other e ] refl

    relabelled : Labelled (relabel a b ls)
    relabelled = record {
      low = λ i lt. let l : i < length ls = short i lt in
          g_is (at ls i) (λ v. at (map g ls) i ≡ v → at (map g ls) i ≤ i)
          (λ e is. omega (arith, is, e, less, h.low i l)) (λ n is. omega (arith, is, h.low i l)) (at_map g ls i l);
      own = λ i lt. let l : i < length ls = short i lt in ap (at (map g ls)) (at_map g ls i l) ∙ own_g (at ls i) (h.own i l) (omega (arith, h.low i l, l)) ∙ sym (at_map g ls i l);
      linked = λ i lt. let l : i < length ls = short i lt in
          subst (Connected p i) (sym (at_map g ls i l)) (g_is (at ls i) (Connected p i) (λ e. Chain i b a (subst (Connected p i) e (h.linked i l)) same) (λ n. h.linked i l));
      edges = λ i m lt d. let l : i < length ls = short i lt in
          at_map g ls i l ∙ ap g (h.edges i m l d) ∙ sym (at_map g ls m (omega (arith, ordered i m d, l)));
    }
      where
        short : (i : ℕ) → i < length (map g ls) → i < length ls
        short i lt = omega (arith, lt, length-map ls g)

        g_a : g a ≡ a
        g_a = g_is a (λ v. v ≡ a) (λ e. refl) (λ n. refl)

        own_g : (y : ℕ) → at ls y ≡ y → y < length ls → at (map g ls) (g y) ≡ g y
        own_g y o lt = g_is y (λ v. at (map g ls) v ≡ v)
            (λ e. at_map g ls a inside ∙ ap g own_a ∙ g_a)
            (λ n. at_map g ls y lt ∙ ap g o ∙ ap (λ c. cond c a y) n)

  -- a node that lies with two others makes their labels one
  joins : (ls : List ℕ) (l r : ℕ) → Labelled ls → LiesWith p (length ls) l → LiesWith p (length ls) r → ((m : ℕ) → LiesWith p (length ls) m → (m ≡ l) ⊎ (m ≡ r)) → Labelled (join_labels ls (at ls l) (at ls r))
  joins ls l r h edge_l edge_r only =
      let left : l < length ls = ordered (length ls) l edge_l in
      let right : r < length ls = ordered (length ls) r edge_r in
      let a = min (at ls l) (at ls r) in
      let b = max (at ls l) (at ls r) in
      let less : a ≤ b = omega arith in
      let inside : a < length ls = omega (arith, h.low l left, left) in
      let own_a : at ls a ≡ a = either (λ x. at ls x ≡ x) (at ls l) (at ls r) (h.own l left) (h.own r right) in
      let to_l : Connected p (length ls) (at ls l) = Chain (length ls) l (at ls l) (Edge (length ls) l edge_l) (h.linked l left) in
      let to_r : Connected p (length ls) (at ls r) = Chain (length ls) r (at ls r) (Edge (length ls) r edge_r) (h.linked r right) in
      let to_a : Connected p (length ls) a = either (Connected p (length ls)) (at ls l) (at ls r) to_l to_r in
      let to_b : Connected p (length ls) b = either_greater (Connected p (length ls)) (at ls l) (at ls r) to_l to_r in
      let turned : Labelled (relabel a b ls) = relabelled ls a b h less own_a (Chain b (length ls) a (Back (length ls) b to_b) to_a) inside in
      let long : length (relabel a b ls) ≡ length ls = length-map ls (λ x. cond (nat_eq x b) a x) in
      let here : at (relabel a b ls) a ≡ a = at_map (λ x. cond (nat_eq x b) a x) ls a inside ∙ ap (λ x. cond (nat_eq x b) a x) own_a ∙ stays a b in
      let at_l : at (relabel a b ls) l ≡ a = at_map (λ x. cond (nat_eq x b) a x) ls l left ∙ left_label (at ls l) (at ls r) in
      let at_r : at (relabel a b ls) r ≡ a = at_map (λ x. cond (nat_eq x b) a x) ls r right ∙ right_label (at ls l) (at ls r) in
      grown (relabel a b ls) a turned (omega (arith, inside, long)) (at_before (relabel a b ls) (a ∷ []) a (omega (arith, inside, long)) ∙ here)
      (subst (λ n. Connected p n a) (sym long) to_a)
      (λ m d. ⊎_elim (λ (e : m ≡ l). sym (ap (at (relabel a b ls)) e ∙ at_l)) (λ (e : m ≡ r). sym (ap (at (relabel a b ls)) e ∙ at_r)) (only m (subst (λ n. LiesWith p n m) long d)))
    where
      stays : (a b : ℕ) → cond (nat_eq a b) a a ≡ a
      stays a b = elim (nat_eq a b) as (λ c. cond c a a ≡ a) [ true ↦ refl | false ↦ refl ]

  -- ---- kind by kind
  module _ (ls : List ℕ) (h : Labelled ls) where
    labelled_next : (k : Kind) → kind_at p (length ls) ≡ k → Labelled (label_next ls k)
    labelled_next (StreamSource t) e = fresh ls h (λ m d. subst (λ k. ReadsDirectly k m) e d)
    labelled_next (TableSource t) e = fresh ls h (λ m d. subst (λ k. ReadsDirectly k m) e d)
    labelled_next (StreamFilter f x) e = follows ls f h (subst (λ k. ReadsDirectly k f) (sym e) refl) (λ m d. subst (λ k. ReadsDirectly k m) e d)
    labelled_next (TableFilter f x) e = follows ls f h (subst (λ k. ReadsDirectly k f) (sym e) refl) (λ m d. subst (λ k. ReadsDirectly k m) e d)
    labelled_next (StreamMap f s) e = follows ls f h (subst (λ k. ReadsDirectly k f) (sym e) refl) (λ m d. subst (λ k. ReadsDirectly k m) e d)
    labelled_next (TableMap f s) e = follows ls f h (subst (λ k. ReadsDirectly k f) (sym e) refl) (λ m d. subst (λ k. ReadsDirectly k m) e d)
    labelled_next (KeySelected f x) e = follows ls f h (subst (λ k. ReadsDirectly k f) (sym e) refl) (λ m d. subst (λ k. ReadsDirectly k m) e d)
    labelled_next (StreamAggregate f y field true) e = fresh ls h (λ m d. not_through (subst (λ k. ReadsDirectly k m) e d).0)
      where
        not_through : true ≡ false → ⊥
        not_through same = cc
    labelled_next (StreamAggregate f y field false) e = follows ls f h (subst (λ k. ReadsDirectly k f) (sym e) (refl, refl)) (λ m d. (subst (λ k. ReadsDirectly k m) e d).1)
    labelled_next (TableAggregate f y field) e = fresh ls h (λ m d. subst (λ k. ReadsDirectly k m) e d)
    labelled_next (Windowed f y w true) e = fresh ls h (λ m d. not_through (subst (λ k. ReadsDirectly k m) e d).0)
      where
        not_through : true ≡ false → ⊥
        not_through same = cc
    labelled_next (Windowed f y w false) e = follows ls f h (subst (λ k. ReadsDirectly k f) (sym e) (refl, refl)) (λ m d. (subst (λ k. ReadsDirectly k m) e d).1)
    labelled_next (KeyJoin l r kind s) e = joins ls l r h (subst (λ k. ReadsDirectly k l) (sym e) (inl refl)) (subst (λ k. ReadsDirectly k r) (sym e) (inr refl)) (λ m d. subst (λ k. ReadsDirectly k m) e d)
    labelled_next (ForeignKeyJoin l r key kind s) e = follows ls l h (subst (λ k. ReadsDirectly k l) (sym e) refl) (λ m d. subst (λ k. ReadsDirectly k m) e d)

  label_count : (ls : List ℕ) (k : Kind) → length (label_next ls k) ≡ suc (length ls)
  label_count ls (KeyJoin l r kind s) =
      let a = min (at ls l) (at ls r) in
      let b = max (at ls l) (at ls r) in
      one_more (relabel a b ls) a ∙ ap (λ n. suc n) (length-map ls (λ x. cond (nat_eq x b) a x))
  label_count ls (StreamSource t) = one_more ls _
  label_count ls (TableSource t) = one_more ls _
  label_count ls (StreamFilter f x) = one_more ls _
  label_count ls (TableFilter f x) = one_more ls _
  label_count ls (StreamMap f s) = one_more ls _
  label_count ls (TableMap f s) = one_more ls _
  label_count ls (KeySelected f x) = one_more ls _
  label_count ls (StreamAggregate f y field through) = one_more ls _
  label_count ls (TableAggregate f y field) = one_more ls _
  label_count ls (Windowed f y w through) = one_more ls _
  label_count ls (ForeignKeyJoin l r key kind s) = one_more ls _

  labelled_all : (ls : List ℕ) (n : ℕ) (ks : List Kind) → n ≡ length ls → Labelled ls → AtPlace p n ks → Labelled (fold label_next ls ks) × (length (fold label_next ls ks) ≡ n + length ks)
  labelled_all ls n [] e h places = (h, omega (arith, e))
  labelled_all ls n (k ∷ ks) e h places =
      let next = labelled_next ls h k (subst (λ m. kind_at p m ≡ k) e places.0) in
      let more = labelled_all (label_next ls k) (suc n) ks (omega (arith, e, label_count ls k)) next places.1 in
      (more.0, omega (arith, more.1))

  pub all_labels : Labelled (labels p) × (length (labels p) ≡ 0 + length p.kinds)
  all_labels = labelled_all [] 0 p.kinds refl (record {
    low = λ i lt. absurd (omega (arith, lt));
    own = λ i lt. absurd (omega (arith, lt));
    linked = λ i lt. absurd (omega (arith, lt));
    edges = λ i m lt d. absurd (omega (arith, lt));
  }) (at_places p [] p.kinds refl 0 refl)

  pub within : (n : ℕ) → n < length p.kinds → n < length (labels p)
  within n lt = omega (arith, lt, all_labels.1)

  -- ---- connected nodes have one label
  edge_label : (n m : ℕ) → LiesWith p n m → at (labels p) n ≡ at (labels p) m
  edge_label n m d = ⊎_elim (λ (e : n ≡ length p.kinds). absurd (past n m (omega (arith, e)) d))
      (λ (o : (n < length p.kinds) ⊎ (length p.kinds < n)). ⊎_elim (λ (l : n < length p.kinds). all_labels.0.edges n m (within n l) d) (λ (g : length p.kinds < n). absurd (past n m (omega (arith, g)) d)) o)
      (cases_order n (length p.kinds))
    where
      past : (n m : ℕ) → length p.kinds ≤ n → LiesWith p n m → ⊥
      past n m le d = subst (λ k. ReadsDirectly k m) (kind_past p.kinds n le) d

  pub one_label : (n m : ℕ) → Connected p n m → at (labels p) n ≡ at (labels p) m
  one_label n m (Itself i) = refl
  one_label n m (Edge i j d) = edge_label i j d
  one_label n m (Back i j c) = sym (one_label i j c)
  one_label n m (Chain i j k c d) = one_label i j c ∙ one_label j k d

  -- ---- numbers of subtopologies
  firsts-rise : (a b : ℕ) → a ≤ b → firsts (labels p) a ≤ firsts (labels p) b
  firsts-rise a zero h = let e : a ≡ 0 = omega (arith, h) in subst (λ x. firsts (labels p) x ≤ firsts (labels p) 0) (sym e) (omega arith)
  firsts-rise a (suc b) h = ⊎_elim
      (λ (e : a ≡ suc b). subst (λ x. firsts (labels p) x ≤ firsts (labels p) (suc b)) (sym e) (omega arith))
      (λ (o : (a < suc b) ⊎ (suc b < a)). ⊎_elim (λ (l : a < suc b). let m : firsts (labels p) a ≤ firsts (labels p) b = firsts-rise a b (omega (arith, l)) in omega arith) (λ (l : suc b < a). absurd (omega (arith, l, h))) o)
      (cases_order a (suc b))

  pub firsts-more : (a b : ℕ) → at (labels p) a ≡ a → a < b → firsts (labels p) a < firsts (labels p) b
  firsts-more a b own lt =
      let one : firsts (labels p) (suc a) ≡ firsts (labels p) a + 1 = ap (λ c. firsts (labels p) a + cond {A = ℕ} c 1 0) ((Decides-eqb (at (labels p) a) a).1 own) in
      omega (arith, one, firsts-rise (suc a) b (omega (arith, lt)))

  same_first : (a b : ℕ) → at (labels p) a ≡ a → at (labels p) b ≡ b → firsts (labels p) a ≡ firsts (labels p) b → a ≡ b
  same_first a b oa ob e = ⊎_elim (λ (s : a ≡ b). s)
      (λ (o : (a < b) ⊎ (b < a)). ⊎_elim (λ (l : a < b). absurd (omega (arith, firsts-more a b oa l, e))) (λ (l : b < a). absurd (omega (arith, firsts-more b a ob l, e))) o)
      (cases_order a b)

  pub same_sub : (n m : ℕ) → n < length p.kinds → m < length p.kinds → sub_of p n ≡ sub_of p m → Connected p n m
  same_sub n m ln lm same =
      let h = all_labels.0 in
      let one : at (labels p) n ≡ at (labels p) m = same_first (at (labels p) n) (at (labels p) m) (h.own n (within n ln)) (h.own m (within m lm)) same in
      let to : Connected p n (at (labels p) m) = subst (Connected p n) one (h.linked n (within n ln)) in
      Chain n (at (labels p) m) m to (Back m (at (labels p) m) (h.linked m (within m lm)))

pub same_subtopology_is_connected : SameSubtopologyIsConnected
same_subtopology_is_connected p ordered n m ln lm e = same_sub p ordered n m ln lm e

pub connected_is_same_subtopology : ConnectedIsSameSubtopology
connected_is_same_subtopology p ordered n m c = ap (firsts (labels p)) (one_label p ordered n m c)
