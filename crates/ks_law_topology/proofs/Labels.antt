-- Nodes of one subtopology have one number of partitions.
use Rattle.std.proofs.Common.{◌≡◌, ℕ, zero, suc, ◌+◌, ◌≤◌, ◌<◌, true, false, cond, List, length, [], ◌∷◌, ◌++◌, map, fold, refl, sym, ap, subst, ◌∙◌, arith, nat_eq, ⊎_elim, ◌⊎◌, inl, inr}
use Rattle.std.specs.Prelude.{min, max}
use Rattle.std.proofs.lemmas.List.{length-map}
use Rattle.std.proofs.lemmas.Bool.{cases_order}
use Rattle.std.proofs.lemmas.Bool.Decides.{Decides-eqb}
use Rattle.ks_plan.specs.Plan.{Plan, Kind}
use Rattle.ks_plan.specs.Plan.Kind.{StreamSource, TableSource, StreamFilter, TableFilter, StreamMap, TableMap, KeySelected, StreamAggregate, TableAggregate, Windowed, KeyJoin, ForeignKeyJoin}
use Rattle.ks_plan.specs.Layout.{at, relabel, join_labels, label_next, labels, firsts, sub_of, parts_of}
use Rattle.ks_law_topology.proofs.Fits.{Fits, NodeFits, EachFits, one_more, label_count, at_before, at_map, left_label}

pub at_end : (xs : List ℕ) (x : ℕ) → at (xs ++ x ∷ []) (length xs) ≡ x
at_end [] x = refl
at_end (y ∷ xs) x = at_end xs x

-- each label is that of a node before it, which labels itself, with the same partitions
record Labelled (P : ℕ → ℕ) (ls : List ℕ) : Type 0 where
  low : (i : ℕ) → i < length ls → at ls i ≤ i
  own : (i : ℕ) → i < length ls → at ls (at ls i) ≡ at ls i
  parts : (i : ℕ) → i < length ls → P (at ls i) ≡ P i

-- one more node, which labels itself or is labelled as one before it
grown : (P : ℕ → ℕ) (ls : List ℕ) (x : ℕ) → Labelled P ls → x ≤ length ls → at (ls ++ x ∷ []) x ≡ x → P x ≡ P (length ls) → Labelled P (ls ++ x ∷ [])
grown P ls x h low own parts = record {
  low = λ i lt. ⊎_elim (λ (e : i ≡ length ls). low_here i e) (λ (l : i < length ls). omega (arith, at_before ls (x ∷ []) i l, h.low i l)) (last i lt);
  own = λ i lt. ⊎_elim (λ (e : i ≡ length ls). own_here i e) (λ (l : i < length ls). own_there i l) (last i lt);
  parts = λ i lt. ⊎_elim (λ (e : i ≡ length ls). parts_here i e) (λ (l : i < length ls). ap P (at_before ls (x ∷ []) i l) ∙ h.parts i l) (last i lt);
}
  where
    last : (i : ℕ) → i < length (ls ++ x ∷ []) → (i ≡ length ls) ⊎ (i < length ls)
    last i lt = ⊎_elim (λ (e : i ≡ length ls). inl e) (λ (o : (i < length ls) ⊎ (length ls < i)). ⊎_elim (λ (a : i < length ls). inr a) (λ (b : length ls < i). absurd (omega (arith, b, lt, one_more ls x))) o) (cases_order i (length ls))

    here : (i : ℕ) → i ≡ length ls → at (ls ++ x ∷ []) i ≡ x
    here i e = ap (at (ls ++ x ∷ [])) e ∙ at_end ls x

    low_here : (i : ℕ) → i ≡ length ls → at (ls ++ x ∷ []) i ≤ i
    low_here i e = omega (arith, here i e, e, low)

    own_here : (i : ℕ) → i ≡ length ls → at (ls ++ x ∷ []) (at (ls ++ x ∷ []) i) ≡ at (ls ++ x ∷ []) i
    own_here i e = ap (at (ls ++ x ∷ [])) (here i e) ∙ own ∙ sym (here i e)

    own_there : (i : ℕ) → i < length ls → at (ls ++ x ∷ []) (at (ls ++ x ∷ []) i) ≡ at (ls ++ x ∷ []) i
    own_there i l =
        let same = at_before ls (x ∷ []) i l in
        ap (at (ls ++ x ∷ [])) same ∙ at_before ls (x ∷ []) (at ls i) (omega (arith, h.low i l, l)) ∙ h.own i l ∙ sym same

    parts_here : (i : ℕ) → i ≡ length ls → P (at (ls ++ x ∷ []) i) ≡ P i
    parts_here i e = ap P (here i e) ∙ parts ∙ ap P (sym e)

fresh : (P : ℕ → ℕ) (ls : List ℕ) → Labelled P ls → Labelled P (ls ++ length ls ∷ [])
fresh P ls h = grown P ls (length ls) h (omega arith) (at_end ls (length ls)) refl

follows : (P : ℕ → ℕ) (ls : List ℕ) (f : ℕ) → Labelled P ls → f < length ls → P f ≡ P (length ls) → Labelled P (ls ++ at ls f ∷ [])
follows P ls f h lt same =
    grown P ls (at ls f) h (omega (arith, h.low f lt, lt)) (at_before ls (at ls f ∷ []) (at ls f) (omega (arith, h.low f lt, lt)) ∙ h.own f lt) (h.parts f lt ∙ same)

-- one label in place of a greater one
module _ (P : ℕ → ℕ) (ls : List ℕ) (a b : ℕ) (h : Labelled P ls) (less : a ≤ b) (own_a : at ls a ≡ a) (same : P a ≡ P b) (inside : a < length ls) where
  abbrev g : ℕ → ℕ
  g x = cond (nat_eq x b) a x

  g_is : (y : ℕ) (Q : ℕ → Type 0) → (y ≡ b → Q a) → (nat_eq y b ≡ false → Q y) → Q (g y)
  g_is y Q here other = elim (nat_eq y b) as (λ c. nat_eq y b ≡ c → Q (cond c a y)) [ true ↦ λ e. here ((Decides-eqb y b).0 e) | false ↦ λ e. other e ] refl

  relabelled : Labelled P (relabel a b ls)
  relabelled = record {
    low = λ i lt. let l : i < length ls = short i lt in
        g_is (at ls i) (λ v. at (map g ls) i ≡ v → at (map g ls) i ≤ i)
        (λ e is. omega (arith, is, e, less, h.low i l)) (λ n is. omega (arith, is, h.low i l)) (at_map g ls i l);
    own = λ i lt. let l : i < length ls = short i lt in ap (at (map g ls)) (at_map g ls i l) ∙ own_g (at ls i) (h.own i l) (omega (arith, h.low i l, l)) ∙ sym (at_map g ls i l);
    parts = λ i lt. let l : i < length ls = short i lt in
        ap P (at_map g ls i l) ∙ g_is (at ls i) (λ v. P v ≡ P i) (λ e. same ∙ ap P (sym e) ∙ h.parts i l) (λ n. h.parts i l);
  }
    where
      short : (i : ℕ) → i < length (map g ls) → i < length ls
      short i lt = omega (arith, lt, length-map ls g)

      g_a : g a ≡ a
      g_a = g_is a (λ v. v ≡ a) (λ e. refl) (λ n. refl)

      own_g : (y : ℕ) → at ls y ≡ y → y < length ls → at (map g ls) (g y) ≡ g y
      own_g y o lt = g_is y (λ v. at (map g ls) v ≡ v)
          (λ e. at_map g ls a inside ∙ ap g own_a ∙ g_a)
          (λ n. at_map g ls y lt ∙ ap g o ∙ ap (λ c. cond c a y) n)

pub either : (Q : ℕ → Type 0) (x y : ℕ) → Q x → Q y → Q (min x y)
either Q x y a b = ⊎_elim (λ (e : x ≡ y). let f : min x y ≡ x = omega (arith, e) in subst Q (sym f) a)
    (λ (o : (x < y) ⊎ (y < x)). ⊎_elim (λ (l : x < y). let f : min x y ≡ x = omega (arith, l) in subst Q (sym f) a) (λ (l : y < x). let f : min x y ≡ y = omega (arith, l) in subst Q (sym f) b) o)
    (cases_order x y)

both_same : (P : ℕ → ℕ) (x y : ℕ) → P x ≡ P y → P (min x y) ≡ P (max x y)
both_same P x y e = ⊎_elim (λ (o : x ≡ y). let f : min x y ≡ max x y = omega (arith, o) in ap P f)
    (λ (o : (x < y) ⊎ (y < x)). ⊎_elim (λ (l : x < y). let f : min x y ≡ x = omega (arith, l) in let g : max x y ≡ y = omega (arith, l) in ap P f ∙ e ∙ ap P (sym g))
    (λ (l : y < x). let f : min x y ≡ y = omega (arith, l) in let g : max x y ≡ x = omega (arith, l) in ap P f ∙ sym e ∙ ap P (sym g)) o)
    (cases_order x y)

joins : (P : ℕ → ℕ) (ls : List ℕ) (l r : ℕ) → Labelled P ls → l < length ls → r < length ls → P l ≡ P (length ls) → P r ≡ P (length ls) → Labelled P (join_labels ls (at ls l) (at ls r))
joins P ls l r h left right pl pr =
    let a = min (at ls l) (at ls r) in
    let b = max (at ls l) (at ls r) in
    let less : a ≤ b = omega arith in
    let both : P (at ls l) ≡ P (at ls r) = h.parts l left ∙ pl ∙ sym (h.parts r right ∙ pr) in
    let inside : a < length ls = omega (arith, h.low l left, left) in
    let own_a : at ls a ≡ a = either (λ x. at ls x ≡ x) (at ls l) (at ls r) (h.own l left) (h.own r right) in
    let turned : Labelled P (relabel a b ls) = relabelled P ls a b h less own_a (both_same P (at ls l) (at ls r) both) inside in
    let long : length (relabel a b ls) ≡ length ls = length-map ls (λ x. cond (nat_eq x b) a x) in
    let label : at (relabel a b ls) l ≡ a = at_map (λ x. cond (nat_eq x b) a x) ls l left ∙ left_label (at ls l) (at ls r) in
    let more : Labelled P (relabel a b ls ++ at (relabel a b ls) l ∷ []) = follows P (relabel a b ls) l turned (omega (arith, left, long)) (pl ∙ ap P (sym long)) in
    subst (λ x. Labelled P (relabel a b ls ++ x ∷ [])) label more

module _ (p : Plan) where
  labelled_next : (ls : List ℕ) (k : Kind) → Labelled (parts_of p) ls → NodeFits p (length ls) k → Labelled (parts_of p) (label_next ls k)
  labelled_next ls (StreamSource t) h fit = fresh (parts_of p) ls h
  labelled_next ls (TableSource t) h fit = fresh (parts_of p) ls h
  labelled_next ls (StreamFilter f x) h fit = follows (parts_of p) ls f h fit.before fit.parts
  labelled_next ls (TableFilter f x) h fit = follows (parts_of p) ls f h fit.before fit.parts
  labelled_next ls (StreamMap f s) h fit = follows (parts_of p) ls f h fit.before fit.parts
  labelled_next ls (TableMap f s) h fit = follows (parts_of p) ls f h fit.before fit.parts
  labelled_next ls (KeySelected f k) h fit = follows (parts_of p) ls f h fit.before fit.parts
  labelled_next ls (StreamAggregate f by field true) h fit = fresh (parts_of p) ls h
  labelled_next ls (StreamAggregate f by field false) h fit = let b = fit.1 refl in follows (parts_of p) ls f h b.before b.parts
  labelled_next ls (TableAggregate f by field) h fit = fresh (parts_of p) ls h
  labelled_next ls (Windowed f by w true) h fit = fresh (parts_of p) ls h
  labelled_next ls (Windowed f by w false) h fit = let b = fit.1 refl in follows (parts_of p) ls f h b.before b.parts
  labelled_next ls (KeyJoin l r kind s) h fit = joins (parts_of p) ls l r h fit.0.before fit.1.before fit.0.parts fit.1.parts
  labelled_next ls (ForeignKeyJoin l r fk kind s) h fit = follows (parts_of p) ls l h fit.0.before fit.0.parts

  labelled_all : (ls : List ℕ) (n : ℕ) (ks : List Kind) → n ≡ length ls → Labelled (parts_of p) ls → EachFits p n ks → Labelled (parts_of p) (fold label_next ls ks) × (length (fold label_next ls ks) ≡ n + length ks)
  labelled_all ls n [] e h fit = (h, omega (arith, e))
  labelled_all ls n (k ∷ ks) e h fit =
      let next = labelled_next ls k h (subst (λ m. NodeFits p m k) e fit.0) in
      let more = labelled_all (label_next ls k) (suc n) ks (omega (arith, e, label_count ls k)) next fit.1 in
      (more.0, omega (arith, more.1))

  module _ (fits : Fits p) where
    nodes_labelled : Labelled (parts_of p) (labels p) × (length (labels p) ≡ 0 + length p.kinds)
    nodes_labelled = labelled_all [] 0 p.kinds refl (record { low = λ i lt. absurd (omega (arith, lt)); own = λ i lt. absurd (omega (arith, lt)); parts = λ i lt. absurd (omega (arith, lt)) }) fits

    firsts-rise : (a b : ℕ) → a ≤ b → firsts (labels p) a ≤ firsts (labels p) b
    firsts-rise a zero h = let e : a ≡ 0 = omega (arith, h) in subst (λ x. firsts (labels p) x ≤ firsts (labels p) 0) (sym e) (omega arith)
    firsts-rise a (suc b) h = ⊎_elim
        (λ (e : a ≡ suc b). subst (λ x. firsts (labels p) x ≤ firsts (labels p) (suc b)) (sym e) (omega arith))
        (λ (o : (a < suc b) ⊎ (suc b < a)). ⊎_elim (λ (l : a < suc b). let m : firsts (labels p) a ≤ firsts (labels p) b = firsts-rise a b (omega (arith, l)) in omega arith) (λ (l : suc b < a). absurd (omega (arith, l, h))) o)
        (cases_order a (suc b))

    firsts-more : (a b : ℕ) → at (labels p) a ≡ a → a < b → firsts (labels p) a < firsts (labels p) b
    firsts-more a b own lt =
        let one : firsts (labels p) (suc a) ≡ firsts (labels p) a + 1 = ap (λ c. firsts (labels p) a + cond {A = ℕ} c 1 0) ((Decides-eqb (at (labels p) a) a).1 own) in
        omega (arith, one, firsts-rise (suc a) b (omega (arith, lt)))

    same_label : (a b : ℕ) → at (labels p) a ≡ a → at (labels p) b ≡ b → firsts (labels p) a ≡ firsts (labels p) b → a ≡ b
    same_label a b oa ob e = ⊎_elim (λ (s : a ≡ b). s)
        (λ (o : (a < b) ⊎ (b < a)). ⊎_elim (λ (l : a < b). absurd (omega (arith, firsts-more a b oa l, e))) (λ (l : b < a). absurd (omega (arith, firsts-more b a ob l, e))) o)
        (cases_order a b)

    pub one_count : (m n : ℕ) → m < length p.kinds → n < length p.kinds → sub_of p m ≡ sub_of p n → parts_of p m ≡ parts_of p n
    one_count m n lm ln same =
        let h = nodes_labelled.0 in
        let im : m < length (labels p) = omega (arith, lm, nodes_labelled.1) in
        let jn : n < length (labels p) = omega (arith, ln, nodes_labelled.1) in
        sym (h.parts m im) ∙ ap (parts_of p) (same_label (at (labels p) m) (at (labels p) n) (h.own m im) (h.own n jn) same) ∙ h.parts n jn

    -- a node's subtopology is one of the plan's
    pub sub_within : (m : ℕ) → m < length p.kinds → sub_of p m < firsts (labels p) (length p.kinds)
    sub_within m lm =
        let h = nodes_labelled.0 in
        let im : m < length (labels p) = omega (arith, lm, nodes_labelled.1) in
        firsts-more (at (labels p) m) (length p.kinds) (h.own m im) (omega (arith, h.low m im, lm))
