-- The list of a plan's topics has each topic once: a rank rises along it.
use Rattle.std.proofs.Common.{◌≡◌, ℕ, zero, suc, ◌+◌, ◌≤◌, true, false, cond, List, length, [], ◌∷◌, ◌++◌, map, Some, refl, sym, ap, subst, ◌∙◌, arith}
use Rattle.std.specs.Prelude.{slice_get}
use Rattle.std.proofs.lemmas.Option.{slice_get_read}
use Rattle.std.proofs.lemmas.Bool.Decides.{Decides-eqb}
use Rattle.ks_plan.specs.declared.node.Topic.{Topic}
use Rattle.ks_plan.specs.declared.node.Topic.TheVariants.{Input, Repartition, Subscriptions, Responses, Changelog, HashChangelog}
use Rattle.ks_plan.specs.Plan.{Plan, Kind}
use Rattle.ks_plan.specs.Plan.Kind.{StreamSource, TableSource, StreamFilter, TableFilter, StreamMap, TableMap, KeySelected, StreamAggregate, TableAggregate, Windowed, KeyJoin, ForeignKeyJoin}
use Rattle.ks_plan.specs.Layout.{same_topic, place_of, topics_of, topic_at, by_node, through_topics, changelogs_of, input_topics, up_to}
use Rattle.ks_law_restated.specs.Topics.{NumbersArePlaces, TopicsStandAtTheirNumbers, TopicsHaveTheirOwnNumbers}

topic-is : (a b : Topic) → same_topic a b ≡ true → a ≡ b
topic-is (Input a) (Input b) e = ap Input ((Decides-eqb a b).0 e)
topic-is (Repartition a) (Repartition b) e = ap Repartition ((Decides-eqb a b).0 e)
topic-is (Subscriptions a) (Subscriptions b) e = ap Subscriptions ((Decides-eqb a b).0 e)
topic-is (Responses a) (Responses b) e = ap Responses ((Decides-eqb a b).0 e)
topic-is (Changelog a) (Changelog b) e = ap Changelog ((Decides-eqb a b).0 e)
topic-is (HashChangelog a) (HashChangelog b) e = ap HashChangelog ((Decides-eqb a b).0 e)
topic-is _ _ e = cc

topic_itself : (a : Topic) → same_topic a a ≡ true
topic_itself (Input a) = (Decides-eqb a a).1 refl
topic_itself (Repartition a) = (Decides-eqb a a).1 refl
topic_itself (Subscriptions a) = (Decides-eqb a a).1 refl
topic_itself (Responses a) = (Decides-eqb a a).1 refl
topic_itself (Changelog a) = (Decides-eqb a a).1 refl
topic_itself (HashChangelog a) = (Decides-eqb a a).1 refl

same_some : (a b : Topic) → Some a ≡ Some b → a ≡ b
same_some a b e = cc

-- ---- ranks, of so many inputs and so many nodes
module _ (inputs nodes : ℕ) where
  abbrev rank : Topic → ℕ
  rank (Input n) = n
  rank (Repartition n) = inputs + (n + n)
  rank (Subscriptions n) = inputs + (n + n)
  rank (Responses n) = suc (inputs + (n + n))
  rank (Changelog n) = inputs + (nodes + nodes) + (n + n)
  rank (HashChangelog n) = suc (inputs + (nodes + nodes) + (n + n))

  -- ranks rise from the low bound, and are below the high one
  abbrev Rises : ℕ → ℕ → List Topic → Type 0
  Rises low high [] = low ≤ high
  Rises low high (t ∷ ts) = (low ≤ rank t) × Rises (suc (rank t)) high ts

  rises_later : (low later high : ℕ) (ts : List Topic) → low ≤ later → Rises later high ts → Rises low high ts
  rises_later low later high [] le h = omega (arith, le, h)
  rises_later low later high (t ∷ ts) le h = (omega (arith, le, h.0), h.1)

  rises_both : (low mid high : ℕ) (ts us : List Topic) → Rises low mid ts → Rises mid high us → Rises low high (ts ++ us)
  rises_both low mid high [] us h g = rises_later low mid high us h g
  rises_both low mid high (t ∷ ts) us h g = (h.0, rises_both (suc (rank t)) mid high ts us h.1 g)

  at_least : (low high : ℕ) (ts : List Topic) (i : ℕ) (t : Topic) → Rises low high ts → slice_get ts i ≡ Some t → low ≤ rank t
  at_least low high [] i t h e = cc
  at_least low high (u ∷ ts) zero t h e = subst (λ v. low ≤ rank v) (same_some u t e) h.0
  at_least low high (u ∷ ts) (suc i) t h e = omega (arith, h.0, at_least (suc (rank u)) high ts i t h.1 e)

  place-is : (low high : ℕ) (ts : List Topic) (i : ℕ) (t : Topic) → Rises low high ts → slice_get ts i ≡ Some t → place_of ts t ≡ i
  place-is low high [] i t h e = cc
  place-is low high (u ∷ ts) zero t h e = ap (λ b. cond b 0 (suc (place_of ts t))) (ap (λ v. same_topic v t) (same_some u t e) ∙ topic_itself t)
  place-is low high (u ∷ ts) (suc i) t h e = elim (same_topic u t) as (λ b. same_topic u t ≡ b → cond b 0 (suc (place_of ts t)) ≡ suc i) [
    | true ↦ λ s. absurd (omega (arith, at_least (suc (rank u)) high ts i t h.1 e, ap rank (topic-is u t s)))
    | false ↦ λ s. ap (λ n. suc n) (place-is (suc (rank u)) high ts i t h.1 e)
  ] refl

  -- ---- the three parts of the list
  inputs_rise : (n : ℕ) → Rises 0 n (map Input (up_to n))
  inputs_rise zero = omega arith
  inputs_rise (suc n) = subst (Rises 0 (suc n)) (sym (map_last (up_to n) n)) (rises_both 0 n (suc n) (map Input (up_to n)) (Input n ∷ []) (inputs_rise n) (omega arith, omega arith))
    where
      map_last : (ns : List ℕ) (n : ℕ) → map Input (ns ++ n ∷ []) ≡ map Input ns ++ Input n ∷ []
      map_last [] n = refl
      map_last (m ∷ ns) n = ap (λ l. Input m ∷ l) (map_last ns n)

  -- each node has two ranks behind a base
  abbrev NodeRises : ℕ → (ℕ → Kind → List Topic) → Type 0
  NodeRises base f = (n : ℕ) (k : Kind) → Rises (base + (n + n)) (suc (suc (base + (n + n)))) (f n k)

  nodes_rise : (base : ℕ) (f : ℕ → Kind → List Topic) → NodeRises base f → (n : ℕ) (ks : List Kind) → (m : ℕ) → m ≡ n + length ks → Rises (base + (n + n)) (base + (m + m)) (by_node f n ks)
  nodes_rise base f h n [] m e = omega (arith, e)
  nodes_rise base f h n (k ∷ ks) m e = rises_both (base + (n + n)) (suc (suc (base + (n + n)))) (base + (m + m)) (f n k) (by_node f (suc n) ks) (h n k)
      (rises_later (suc (suc (base + (n + n)))) (base + (suc n + suc n)) (base + (m + m)) (by_node f (suc n) ks) (omega arith) (nodes_rise base f h (suc n) ks m (omega (arith, e))))

  through_rise : NodeRises inputs through_topics
  through_rise n (StreamAggregate f by field true) = (omega arith, omega arith)
  through_rise n (StreamAggregate f by field false) = omega arith
  through_rise n (TableAggregate f by field) = (omega arith, omega arith)
  through_rise n (Windowed f by w true) = (omega arith, omega arith)
  through_rise n (Windowed f by w false) = omega arith
  through_rise n (ForeignKeyJoin l r fk kind s) = (omega arith, (omega arith, omega arith))
  through_rise n (StreamSource t) = omega arith
  through_rise n (TableSource t) = omega arith
  through_rise n (StreamFilter f x) = omega arith
  through_rise n (TableFilter f x) = omega arith
  through_rise n (StreamMap f s) = omega arith
  through_rise n (TableMap f s) = omega arith
  through_rise n (KeySelected f x) = omega arith
  through_rise n (KeyJoin l r kind s) = omega arith

  logs_rise : NodeRises (inputs + (nodes + nodes)) changelogs_of
  logs_rise n (ForeignKeyJoin l r fk kind s) = (omega arith, (omega arith, omega arith))
  logs_rise n (StreamAggregate f by field through) = (omega arith, omega arith)
  logs_rise n (TableAggregate f by field) = (omega arith, omega arith)
  logs_rise n (Windowed f by w through) = (omega arith, omega arith)
  logs_rise n (TableSource t) = (omega arith, omega arith)
  logs_rise n (TableFilter f x) = (omega arith, omega arith)
  logs_rise n (TableMap f s) = (omega arith, omega arith)
  logs_rise n (KeyJoin l r kind s) = (omega arith, omega arith)
  logs_rise n (StreamSource t) = omega arith
  logs_rise n (StreamFilter f x) = omega arith
  logs_rise n (StreamMap f s) = omega arith
  logs_rise n (KeySelected f x) = omega arith

module _ (p : Plan) where
  abbrev inputs : ℕ
  inputs = length p.counts

  abbrev nodes : ℕ
  nodes = length p.kinds

  abbrev high : ℕ
  high = inputs + (nodes + nodes) + (nodes + nodes)

  abbrev InOrder : ℕ → ℕ → List Topic → Type 0
  InOrder low upper ts = Rises inputs nodes low upper ts

  through_part : InOrder inputs (inputs + (nodes + nodes)) (by_node through_topics 0 p.kinds)
  through_part = rises_later inputs nodes inputs (inputs + (0 + 0)) (inputs + (nodes + nodes)) (by_node through_topics 0 p.kinds) (omega arith)
      (nodes_rise inputs nodes inputs through_topics (through_rise inputs nodes) 0 p.kinds nodes (omega arith))

  logs_part : InOrder (inputs + (nodes + nodes)) high (by_node changelogs_of 0 p.kinds)
  logs_part = rises_later inputs nodes (inputs + (nodes + nodes)) (inputs + (nodes + nodes) + (0 + 0)) high (by_node changelogs_of 0 p.kinds) (omega arith)
      (nodes_rise inputs nodes (inputs + (nodes + nodes)) changelogs_of (logs_rise inputs nodes) 0 p.kinds nodes (omega arith))

  topics_rise : InOrder 0 high (topics_of p)
  topics_rise = rises_both inputs nodes 0 (inputs + (nodes + nodes)) high (input_topics p ++ by_node through_topics 0 p.kinds) (by_node changelogs_of 0 p.kinds)
      (rises_both inputs nodes 0 inputs (inputs + (nodes + nodes)) (input_topics p) (by_node through_topics 0 p.kinds) (inputs_rise inputs nodes inputs) through_part)
      logs_part

pub numbers_are_places : NumbersArePlaces
numbers_are_places p n t e = place-is (length p.counts) (length p.kinds) 0 (high p) (topics_of p) n t (topics_rise p) e

pub topics_stand_at_their_numbers : TopicsStandAtTheirNumbers
topics_stand_at_their_numbers p t h =
    let there : topic_at p h.0 ≡ Some t = slice_get_read (topics_of p) (length (topics_of p)) h.0 t refl h.1 (sym h.2) in
    ap (topic_at p) (numbers_are_places p h.0 t there) ∙ there

pub topics_have_their_own_numbers : TopicsHaveTheirOwnNumbers
topics_have_their_own_numbers p t u h g e = same_some t u (sym (topics_stand_at_their_numbers p t h) ∙ ap (topic_at p) e ∙ topics_stand_at_their_numbers p u g)
