-- The topics of a plan as a list: its first ones are the inputs, by number.
use Rattle.std.proofs.Common.{◌≡◌, ℕ, zero, suc, ◌+◌, ◌<◌, ◌≤◌, List, [], ◌∷◌, ◌++◌, length, map, get_or, refl, sym, ap, ◌∙◌, arith, length-append, ◌⊎◌, inl, inr}
use Rattle.std.proofs.lemmas.List.{length-map}
use Rattle.std.proofs.lemmas.Bool.{cases_lt}
use Rattle.ks_plan.specs.declared.node.Topic.TheVariants.{Input as InputTopic}
use Rattle.ks_plan.specs.Plan.{Plan}
use Rattle.ks_plan.specs.Layout.{up_to, by_node, through_topics, changelogs_of, input_topics, topics_of}

-- ---- input topics by number
pub length_up_to : (n : ℕ) → length (up_to n) ≡ n
length_up_to zero = refl
length_up_to (suc n) = let e = length_up_to n in let f = length-append (up_to n) (n ∷ []) in omega arith

pub get_first : {A : Type 0} (xs ys : List A) (i : ℕ) (d : A) → i < length xs → get_or (xs ++ ys) i d ≡ get_or xs i d
get_first [] ys i d l = absurd (omega arith)
get_first (x ∷ xs) ys zero d l = refl
get_first (x ∷ xs) ys (suc i) d l = get_first xs ys i d (omega arith)

pub get_last : {A : Type 0} (xs : List A) (y d : A) → get_or (xs ++ y ∷ []) (length xs) d ≡ y
get_last [] y d = refl
get_last (x ∷ xs) y d = get_last xs y d

pub up_to_at : (n i d : ℕ) → i < suc n → (i < n → get_or (up_to n) i d ≡ i) → (i < n) ⊎ (n ≤ i) → get_or (up_to n ++ n ∷ []) i d ≡ i
up_to_at n i d l go (inl k) = get_first (up_to n) (n ∷ []) i d (omega (arith, k, length_up_to n)) ∙ go k
up_to_at n i d l go (inr k) = let is : i ≡ n = omega arith in ap (λ j. get_or (up_to n ++ n ∷ []) j d) (is ∙ sym (length_up_to n)) ∙ get_last (up_to n) n d ∙ sym is

pub get_up_to : (n i d : ℕ) → i < n → get_or (up_to n) i d ≡ i
get_up_to zero i d l = absurd (omega arith)
get_up_to (suc n) i d l = up_to_at n i d l (λ k. get_up_to n i d k) (cases_lt i n)

pub get_mapped : {A B : Type 0} (f : A → B) (xs : List A) (i : ℕ) (d : A) (e : B) → i < length xs → get_or (map f xs) i e ≡ f (get_or xs i d)
get_mapped f [] i d e l = absurd (omega arith)
get_mapped f (x ∷ xs) zero d e l = refl
get_mapped f (x ∷ xs) (suc i) d e l = get_mapped f xs i d e (omega arith)

pub topic_is : (p : Plan) (i : ℕ) → i < length p.counts → get_or (topics_of p) i (InputTopic 0) ≡ InputTopic i
topic_is p i l =
    let inputs : length (input_topics p) ≡ length p.counts = length-map (up_to (length p.counts)) InputTopic ∙ length_up_to (length p.counts) in
    get_first (input_topics p ++ by_node through_topics 0 p.kinds) (by_node changelogs_of 0 p.kinds) i (InputTopic 0) (omega (arith, inputs, length-append (input_topics p) (by_node through_topics 0 p.kinds)))
    ∙ get_first (input_topics p) (by_node through_topics 0 p.kinds) i (InputTopic 0) (omega (arith, inputs))
    ∙ get_mapped InputTopic (up_to (length p.counts)) i 0 (InputTopic 0) (omega (arith, length_up_to (length p.counts)))
    ∙ ap InputTopic (get_up_to (length p.counts) i 0 l)
