-- Subtopologies are numbered by their first nodes.
use Rattle.std.proofs.Common.{◌≡◌, ℕ, zero, suc, ◌+◌, ◌≤◌, ◌<◌, Bool, true, false, cond, List, length, [], ◌∷◌, refl, sym, ap, subst, ◌∙◌, arith, nat_eq, ⊎_elim, ◌⊎◌}
use Rattle.std.proofs.lemmas.Bool.{eqb-false, cases_order}
use Rattle.std.proofs.lemmas.Bool.Decides.{Decides-eqb}
use Rattle.ks_plan.specs.Plan.{Plan}
use Rattle.ks_plan.specs.Layout.{at, labels, firsts, sub_of, sub_count}
use Rattle.ks_law_restated.specs.Connected.{InputsComeFirst, IsFirstOf, IsFirst, HasFirsts, LabelsAreFirstNodes, SubtopologiesAreNumberedByFirstNodes, SubtopologiesAreCounted, NodesLieInSubtopologies, SubtopologiesHaveNodes}
use Rattle.ks_law_restated.specs.Connected.HasFirsts.{NoNodes, OneMore, AsMany}
use Rattle.ks_law_restated.proofs.Labels.{all_labels, within, one_label, firsts-more}

at_past : (ls : List ℕ) (n : ℕ) → length ls ≤ n → at ls n ≡ 0
at_past [] n le = refl
at_past (l ∷ ls) zero le = absurd (omega arith)
at_past (l ∷ ls) (suc n) le = at_past ls n (omega arith)

module _ (p : Plan) (ordered : InputsComeFirst p) where
  -- no label is beyond its node
  label_low : (n : ℕ) → at (labels p) n ≤ n
  label_low n = ⊎_elim (λ (e : n ≡ length (labels p)). past (omega (arith, e)))
      (λ (o : (n < length (labels p)) ⊎ (length (labels p) < n)). ⊎_elim (λ (l : n < length (labels p)). (all_labels p ordered).0.low n l) (λ (g : length (labels p) < n). past (omega (arith, g))) o)
      (cases_order n (length (labels p)))
    where
      past : length (labels p) ≤ n → at (labels p) n ≤ n
      past le = omega (arith, at_past (labels p) n le)

  label_is_first : (n : ℕ) → n < length p.kinds → IsFirstOf p n (at (labels p) n)
  label_is_first n lt = record {
    connected = (all_labels p ordered).0.linked n (within p ordered n lt);
    least = λ m c. omega (arith, one_label p ordered n m c, label_low m);
  }

  -- there is one first node
  first_is_label : (n f : ℕ) → n < length p.kinds → IsFirstOf p n f → f ≡ at (labels p) n
  first_is_label n f lt h = omega (arith, h.least (at (labels p) n) (label_is_first n lt).connected, one_label p ordered n f h.connected, label_low f)

  own_label : (n : ℕ) → n < length p.kinds → at (labels p) n ≡ n → IsFirst p n
  own_label n lt e = subst (IsFirstOf p n) e (label_is_first n lt)

  has_firsts : (n : ℕ) → n ≤ length p.kinds → HasFirsts p n (firsts (labels p) n)
  has_firsts zero le = NoNodes
  has_firsts (suc n) le = by (nat_eq (at (labels p) n) n) refl (has_firsts n (omega (arith, le)))
    where
      one : (c : ℕ) → suc c ≡ c + 1
      one c = omega arith

      none : (c : ℕ) → c ≡ c + 0
      none c = omega arith

      by : (b : Bool) → nat_eq (at (labels p) n) n ≡ b → HasFirsts p n (firsts (labels p) n) → HasFirsts p (suc n) (firsts (labels p) n + cond {A = ℕ} b 1 0)
      by true e h = subst (HasFirsts p (suc n)) (one (firsts (labels p) n)) (OneMore n (firsts (labels p) n) h (own_label n (omega (arith, le)) ((Decides-eqb (at (labels p) n) n).0 e)))
      by false e h = subst (HasFirsts p (suc n)) (none (firsts (labels p) n)) (AsMany n (firsts (labels p) n) h (λ (f : IsFirst p n). eqb-false (at (labels p) n) n e (sym (first_is_label n n (omega (arith, le)) f))))

  number_is : (n f : ℕ) → n < length p.kinds → IsFirstOf p n f → HasFirsts p f (sub_of p n)
  number_is n f lt h = subst (λ g. HasFirsts p g (sub_of p n)) (sym (first_is_label n f lt h)) (has_firsts (at (labels p) n) (omega (arith, label_low n, lt)))

  sub_within : (n : ℕ) → n < length p.kinds → sub_of p n < sub_count p
  sub_within n lt = firsts-more p ordered (at (labels p) n) (length p.kinds) ((all_labels p ordered).0.own n (within p ordered n lt)) (omega (arith, label_low n, lt))

  -- of the nodes below n
  node_of : (s n : ℕ) → s < firsts (labels p) n → (m : ℕ) × (m < n) × (sub_of p m ≡ s)
  node_of s zero lt = absurd (omega (arith, lt))
  node_of s (suc n) lt = by (nat_eq (at (labels p) n) n) refl lt (λ less. node_of s n less)
    where
      by : (b : Bool) → nat_eq (at (labels p) n) n ≡ b → s < firsts (labels p) n + cond {A = ℕ} b 1 0 → (s < firsts (labels p) n → (m : ℕ) × (m < n) × (sub_of p m ≡ s)) → (m : ℕ) × (m < suc n) × (sub_of p m ≡ s)
      by false e l more = let x = more (omega (arith, l)) in (x.0, omega (arith, x.1), x.2)
      by true e l more = ⊎_elim
          (λ (same : s ≡ firsts (labels p) n). (n, omega arith, ap (firsts (labels p)) ((Decides-eqb (at (labels p) n) n).0 e) ∙ sym same))
          (λ (o : (s < firsts (labels p) n) ⊎ (firsts (labels p) n < s)). ⊎_elim
          (λ (less : s < firsts (labels p) n). let x = more less in (x.0, omega (arith, x.1), x.2))
          (λ (g : firsts (labels p) n < s). absurd (omega (arith, g, l))) o)
          (cases_order s (firsts (labels p) n))

pub labels_are_first_nodes : LabelsAreFirstNodes
labels_are_first_nodes p ordered n lt = label_is_first p ordered n lt

pub numbered_by_first_nodes : SubtopologiesAreNumberedByFirstNodes
numbered_by_first_nodes p ordered n f lt h = number_is p ordered n f lt h

pub counted : SubtopologiesAreCounted
counted p ordered = has_firsts p ordered (length p.kinds) (omega arith)

pub nodes_lie_in_subtopologies : NodesLieInSubtopologies
nodes_lie_in_subtopologies p ordered n lt = sub_within p ordered n lt

pub subtopologies_have_nodes : SubtopologiesHaveNodes
subtopologies_have_nodes p ordered s lt = node_of p ordered s (length p.kinds) lt
