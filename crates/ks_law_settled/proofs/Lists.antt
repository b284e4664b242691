-- Members of lists, by recursion, and numbers of topics among those of a list.
use Rattle.std.proofs.Common.{◌≡◌, ℕ, zero, suc, ◌+◌, ◌<◌, Bool, true, false, cond, List, length, [], ◌∷◌, ◌++◌, map, slice_get, Some, refl, sym, subst, ◌∙◌, arith, append_assoc, length-append, ⊎_elim}
use Rattle.std.specs.Prelude.{◌==◌}
use Rattle.std.specs.List.{filter}
use Rattle.std.proofs.lemmas.Bool.{or_cases, or_left, or_right, eq-eqb, eqb-true, true≢false}
use Rattle.ks_history.specs.Machine.{has_topic}
use Rattle.ks_plan.specs.Plan.{Kind}
use Rattle.ks_plan.specs.Layout.{by_node, up_to}
use Rattle.ks_plan.specs.declared.node.Topic.{Topic}
use Rattle.ks_def_tasks.proofs.Each.{AllOf, all_map, all_left, all_right, all_append}

-- ---- what holds of each of a list
-- of those that a filter keeps
pub all_kept : {A : Type 0} (P : A → Type 0) (f : A → Bool) (xs : List A) → AllOf P (filter f xs) → AllOf (λ x. f x ≡ true → P x) xs
all_kept P f [] h = tt
all_kept P f (x ∷ xs) h = by (f x) refl h (λ g. all_kept P f xs g)
  where
    by : (b : Bool) → f x ≡ b → AllOf P (cond b (x ∷ filter f xs) (filter f xs)) → (AllOf P (filter f xs) → AllOf (λ x. f x ≡ true → P x) xs) → AllOf (λ x. f x ≡ true → P x) (x ∷ xs)
    by true e g more = (λ t. g.0, more g.1)
    by false e g more = (λ t. absurd (true≢false (sym t ∙ e)), more g)

pub all_mapped : {A B : Type 0} (P : B → Type 0) (f : A → B) (xs : List A) → AllOf (λ x. P (f x)) xs → AllOf P (map f xs)
all_mapped P f [] h = tt
all_mapped P f (x ∷ xs) h = (h.0, all_mapped P f xs h.1)

pub all_unmapped : {A B : Type 0} (P : B → Type 0) (f : A → B) (xs : List A) → AllOf P (map f xs) → AllOf (λ x. P (f x)) xs
all_unmapped P f [] h = tt
all_unmapped P f (x ∷ xs) h = (h.0, all_unmapped P f xs h.1)

-- ---- of the numbers below another
pub all_up_to : (P : ℕ → Type 0) (n : ℕ) → AllOf P (up_to n) → (i : ℕ) → i < n → P i
all_up_to P zero h i lt = absurd (omega arith)
all_up_to P (suc n) h i lt = by (i == n) refl (λ less. all_up_to P n (all_left P (up_to n) (n ∷ []) h) i less)
  where
    by : (b : Bool) → (i == n) ≡ b → (i < n → P i) → P i
    by true e more = subst P (sym (eqb-true i n e)) (all_right P (up_to n) (n ∷ []) h).0
    by false e more =
        let ne : i ≡ n → ⊥ = λ is. true≢false (sym (eq-eqb i n is) ∙ e) in
        more (omega (arith, lt))

-- ---- of each node of a plan, by its number
abbrev pub EachNode : (ℕ → Kind → Type 0) → ℕ → List Kind → Type 0
EachNode P n [] = Unit {0}
EachNode P n (k ∷ ks) = P n k × EachNode P (suc n) ks

each_from : (P : ℕ → Kind → Type 0) (all : List Kind) → ((before : List Kind) (k : Kind) (rest : List Kind) → all ≡ before ++ k ∷ rest → P (length before) k) →
    (before ks : List Kind) → all ≡ before ++ ks → (n : ℕ) → n ≡ length before → EachNode P n ks
each_from P all f before [] is n e = tt
each_from P all f before (k ∷ ks) is n e = (
  subst (λ m. P m k) (sym e) (f before k ks is),
  each_from P all f (before ++ k ∷ []) ks (is ∙ sym (append_assoc before (k ∷ []) ks)) (suc n) (omega (arith, e, length-append before (k ∷ []))),
)

pub each_node : (P : ℕ → Kind → Type 0) (all : List Kind) → ((before : List Kind) (k : Kind) (rest : List Kind) → all ≡ before ++ k ∷ rest → P (length before) k) → EachNode P 0 all
each_node P all f = each_from P all f [] all refl 0 refl

pub node_at : (P : ℕ → Kind → Type 0) (n : ℕ) (ks : List Kind) → EachNode P n ks → (i : ℕ) (k : Kind) → slice_get ks i ≡ Some k → P (n + i) k
node_at P n [] h i k e = absurd cc
node_at P n (y ∷ ys) h zero k e = let is : y ≡ k = cc in subst (λ m. P m k) (omega arith) (subst (P n) is h.0)
node_at P n (y ∷ ys) h (suc i) k e = subst (λ m. P m k) (omega arith) (node_at P (suc n) ys h.1 i k e)

pub at_node : (P : ℕ → Kind → Type 0) (ks : List Kind) → EachNode P 0 ks → (i : ℕ) (k : Kind) → slice_get ks i ≡ Some k → P i k
at_node P ks h i k e = subst (λ m. P m k) (omega arith) (node_at P 0 ks h i k e)

pub each_map : (P Q : ℕ → Kind → Type 0) → ((n : ℕ) (k : Kind) → P n k → Q n k) → (n : ℕ) (ks : List Kind) → EachNode P n ks → EachNode Q n ks
each_map P Q f n [] h = tt
each_map P Q f n (k ∷ ks) h = (f n k h.0, each_map P Q f (suc n) ks h.1)

pub each_both : (P Q : ℕ → Kind → Type 0) (n : ℕ) (ks : List Kind) → EachNode P n ks → EachNode Q n ks → EachNode (λ n k. P n k × Q n k) n ks
each_both P Q n [] g h = tt
each_both P Q n (k ∷ ks) g h = ((g.0, h.0), each_both P Q (suc n) ks g.1 h.1)

-- what holds of the topics of all nodes
pub of_nodes : (P : Topic → Type 0) (f : ℕ → Kind → List Topic) (n : ℕ) (ks : List Kind) → AllOf P (by_node f n ks) → EachNode (λ n k. AllOf P (f n k)) n ks
of_nodes P f n [] h = tt
of_nodes P f n (k ∷ ks) h = (all_left P (f n k) (by_node f (suc n) ks) h, of_nodes P f (suc n) ks (all_right P (f n k) (by_node f (suc n) ks) h))

pub by_nodes : (P : Topic → Type 0) (f : ℕ → Kind → List Topic) (n : ℕ) (ks : List Kind) → EachNode (λ n k. AllOf P (f n k)) n ks → AllOf P (by_node f n ks)
by_nodes P f n [] h = tt
by_nodes P f n (k ∷ ks) h = all_append P (f n k) (by_node f (suc n) ks) h.0 (by_nodes P f (suc n) ks h.1)

-- ---- numbers among those of a list
-- of those that a filter keeps
pub all_numbered : {A : Type 0} (f : A → ℕ) (xs : List A) → AllOf (λ x. (g : A → Bool) → g x ≡ true → has_topic (f x) (map f (filter g xs)) ≡ true) xs
all_numbered f [] = tt
all_numbered {A} f (y ∷ ys) = (
  λ g e. first g (g y) e,
  all_map (λ x. (g : A → Bool) → g x ≡ true → has_topic (f x) (map f (filter g ys)) ≡ true) (λ x. (g : A → Bool) → g x ≡ true → has_topic (f x) (map f (filter g (y ∷ ys))) ≡ true)
      (λ x h g e. more x g (g y) (h g e)) ys (all_numbered f ys),
)
  where
    first : (g : A → Bool) (b : Bool) → b ≡ true → has_topic (f y) (map f (cond b (y ∷ filter g ys) (filter g ys))) ≡ true
    first g true e = or_left (f y == f y) _ (eq-eqb (f y) (f y) refl)
    first g false e = absurd (true≢false (sym e))

    more : (x : A) (g : A → Bool) (b : Bool) → has_topic (f x) (map f (filter g ys)) ≡ true → has_topic (f x) (map f (cond b (y ∷ filter g ys) (filter g ys))) ≡ true
    more x g true h = or_right (f x == f y) _ h
    more x g false h = h

pub record Numbered {A : Type 0} (P : A → Type 0) (f : A → ℕ) (n : ℕ) : Type 0 where
  pub member : A
  pub holds : P member
  pub is : n ≡ f member

pub numbered : {A : Type 0} (P : A → Type 0) (f : A → ℕ) (n : ℕ) (xs : List A) → AllOf P xs → has_topic n (map f xs) ≡ true → Numbered P f n
numbered P f n [] h there = absurd (true≢false (sym there))
numbered P f n (x ∷ xs) h there = ⊎_elim
    (λ (e : (n == f x) ≡ true). record { member = x; holds = h.0; is = eqb-true n (f x) e })
    (λ (g : has_topic n (map f xs) ≡ true). numbered P f n xs h.1 g)
    (or_cases (n == f x) (has_topic n (map f xs)) there)
