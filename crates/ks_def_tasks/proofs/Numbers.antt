-- Topics by number: what a number says of its topic.
use Rattle.std.proofs.Common.{◌≡◌, ℕ, ◌+◌, ◌≤◌, Bool, true, false, cond, ◌==◌, nat_eq, List, [], ◌∷◌, ◌++◌, length, map, Some, refl, sym, ap, subst, ◌∙◌, arith, append_assoc, ⊎_elim, zero, suc}
use Rattle.std.specs.Prelude.{slice_get}
use Rattle.std.specs.List.{filter}
use Rattle.std.proofs.lemmas.Bool.{or_cases}
use Rattle.std.proofs.lemmas.Bool.Decides.{Decides-eqb}
use Rattle.ks_plan.specs.declared.node.Topic.{Topic}
use Rattle.ks_plan.specs.declared.node.Topic.TheVariants.{Input, Repartition, Subscriptions, Responses, Changelog, HashChangelog}
use Rattle.ks_plan.specs.declared.node.Wiring.{Wiring}
use Rattle.ks_plan.specs.declared.node.Wiring.TheVariants as wired
use Rattle.ks_plan.specs.Plan.{Plan, Kind, wiring_of}
use Rattle.ks_plan.specs.Layout.{same_topic, place_of, topics_of, number_of, topic_at, reads, sub_count, by_node, wired_through, wired_changelogs, through_topics, changelogs_of, input_topics, drain_order, inputs, changelogs, up_to, is_drained}
use Rattle.ks_plan.specs.Infos.{input_numbers}
use Rattle.ks_def_tasks.specs.Tasks.{is_changelog}
use Rattle.ks_def_tasks.specs.Bytes.{has_number, is_own_number, taker_at, reader_number}
use Rattle.ks_def_tasks.specs.Laws.{IsApart}
use Rattle.ks_def_tasks.proofs.Names.{topic-is, topic_itself}
use Rattle.ks_def_tasks.proofs.Numbered.{length_up_to}
use Rattle.ks_def_tasks.proofs.Each.{AllOf, all_map, all_left, all_right, all_append, all_both, all_filter, all_cond}

all_nodes : (P : Topic → Type 0) (f : ℕ → Kind → List Topic) → ((n : ℕ) (k : Kind) → AllOf P (f n k)) → (n : ℕ) (ks : List Kind) → AllOf P (by_node f n ks)
all_nodes P f h n [] = tt
all_nodes P f h n (k ∷ ks) = all_append P (f n k) (by_node f (suc n) ks) (h n k) (all_nodes P f h (suc n) ks)

-- ---- which topics are changelogs
abbrev pub IsLog : Topic → Type 0
IsLog t = is_changelog t ≡ true

abbrev pub NoLog : Topic → Type 0
NoLog t = is_changelog t ≡ false

pub through_none : (n : ℕ) (w : Wiring) → AllOf NoLog (wired_through n w)
through_none n (wired.StreamSource t) = tt
through_none n (wired.TableSource t) = tt
through_none n (wired.StreamFilter f) = tt
through_none n (wired.TableFilter f) = tt
through_none n (wired.StreamMap f) = tt
through_none n (wired.TableMap f) = tt
through_none n (wired.KeySelected f) = tt
through_none n (wired.StreamAggregate f through) = all_cond NoLog through (Repartition n ∷ []) [] (refl, tt) tt
through_none n (wired.TableAggregate f) = (refl, tt)
through_none n (wired.Windowed f through) = all_cond NoLog through (Repartition n ∷ []) [] (refl, tt) tt
through_none n (wired.KeyJoin l r) = tt
through_none n (wired.ForeignKeyJoin l r) = (refl, (refl, tt))

logs_all : (n : ℕ) (w : Wiring) → AllOf IsLog (wired_changelogs n w)
logs_all n (wired.StreamSource t) = tt
logs_all n (wired.TableSource t) = (refl, tt)
logs_all n (wired.StreamFilter f) = tt
logs_all n (wired.TableFilter f) = (refl, tt)
logs_all n (wired.StreamMap f) = tt
logs_all n (wired.TableMap f) = (refl, tt)
logs_all n (wired.KeySelected f) = tt
logs_all n (wired.StreamAggregate f through) = (refl, tt)
logs_all n (wired.TableAggregate f) = (refl, tt)
logs_all n (wired.Windowed f through) = (refl, tt)
logs_all n (wired.KeyJoin l r) = (refl, tt)
logs_all n (wired.ForeignKeyJoin l r) = (refl, (refl, tt))

inputs_none : (ns : List ℕ) → AllOf NoLog (map Input ns)
inputs_none [] = tt
inputs_none (n ∷ ns) = (refl, inputs_none ns)

-- ---- places: the topic at a topic's place is that topic
abbrev pub Found : List Topic → Topic → Type 0
Found us t = slice_get us (place_of us t) ≡ Some t

found_more : (y : Topic) (us : List Topic) (t : Topic) → Found us t → Found (y ∷ us) t
found_more y us t h = elim (same_topic y t) as (λ b. same_topic y t ≡ b → slice_get (y ∷ us) (cond b 0 (suc (place_of us t))) ≡ Some t) [
  | true ↦ λ e. ap Some (topic-is y t e)
  | false ↦ λ e. h
] refl

found_first : (y : Topic) (us : List Topic) → Found (y ∷ us) y
found_first y us = rw (topic_itself y) refl

all_found : (us : List Topic) → AllOf (Found us) us
all_found [] = tt
all_found (y ∷ us) = (found_first y us, all_map (Found us) (Found (y ∷ us)) (λ t h. found_more y us t h) us (all_found us))

-- what stands at a topic's place is no other
pub place-is : (us : List Topic) (t w : Topic) → slice_get us (place_of us t) ≡ Some w → w ≡ t
place-is [] t w e = absurd (cc)
place-is (y ∷ us) t w e = elim (same_topic y t) as (λ b. same_topic y t ≡ b → slice_get (y ∷ us) (cond b 0 (suc (place_of us t))) ≡ Some w → w ≡ t) [
  | true ↦ λ s f. some_is y w f ∙ topic-is y t s
  | false ↦ λ s f. place-is us t w f
] refl e
  where
    some_is : (a b : Topic) → Some a ≡ Some b → b ≡ a
    some_is a b f = cc

-- ---- a number among those of a list is that of one of its topics
pub record Named (P : Topic → Type 0) (f : Topic → ℕ) (n : ℕ) : Type 0 where
  pub topic : Topic
  pub holds : P topic
  pub is : n ≡ f topic

named_by : (P : Topic → Type 0) (f : Topic → ℕ) (n : ℕ) (xs : List Topic) → AllOf P xs → has_number n (map f xs) ≡ true → Named P f n
named_by P f n [] a h = absurd (cc)
named_by P f n (x ∷ xs) a h = ⊎_elim (λ (e : (n == f x) ≡ true). record { topic = x; holds = a.0; is = (Decides-eqb n (f x)).0 e })
    (λ (e : has_number n (map f xs) ≡ true). named_by P f n xs a.1 e) (or_cases (n == f x) (has_number n (map f xs)) h)

module _ (p : Plan) where
  abbrev pub At : Topic → Type 0
  At t = Found (topics_of p) t

  found_topics : AllOf At (topics_of p)
  found_topics = all_found (topics_of p)

  found_drawn : AllOf At (input_topics p ++ by_node through_topics 0 p.kinds)
  found_drawn = all_left At (input_topics p ++ by_node through_topics 0 p.kinds) (by_node changelogs_of 0 p.kinds) found_topics

  found_logs : AllOf At (by_node changelogs_of 0 p.kinds)
  found_logs = all_right At (input_topics p ++ by_node through_topics 0 p.kinds) (by_node changelogs_of 0 p.kinds) found_topics

  abbrev IsTaken : ℕ → Topic → Type 0
  IsTaken sub t = (At t × NoLog t) × (nat_eq (reads p t) sub ≡ true)

  abbrev pub IsKept : ℕ → Topic → Type 0
  IsKept sub t = (At t × IsLog t) × (nat_eq (reads p t) sub ≡ true)

  none_drained : AllOf (λ t. At t × NoLog t) (drain_order p)
  none_drained =
      let all = input_topics p ++ by_node through_topics 0 p.kinds in
      all_map (λ t. (At t × NoLog t) × (is_drained p t ≡ true)) (λ t. At t × NoLog t) (λ t h. h.0) (drain_order p)
      (all_filter (λ t. At t × NoLog t) (is_drained p) all
      (all_both At NoLog all found_drawn
      (all_append NoLog (input_topics p) (by_node through_topics 0 p.kinds) (inputs_none (up_to (length p.counts))) (all_nodes NoLog through_topics (λ n k. through_none n (wiring_of k)) 0 p.kinds))))

  taken_all : (sub : ℕ) → AllOf (IsTaken sub) (inputs p sub)
  taken_all sub = all_filter (λ t. At t × NoLog t) (λ t. nat_eq (reads p t) sub) (drain_order p) none_drained

  kept_all : (sub : ℕ) → AllOf (IsKept sub) (changelogs p sub)
  kept_all sub = all_filter (λ t. At t × IsLog t) (λ t. nat_eq (reads p t) sub) (by_node changelogs_of 0 p.kinds)
      (all_both At IsLog (by_node changelogs_of 0 p.kinds) found_logs (all_nodes IsLog changelogs_of (λ n k. logs_all n (wiring_of k)) 0 p.kinds))

  -- of a changelog's number: the changelog
  pub kept_at : (sub n : ℕ) → is_own_number p sub n ≡ true → Named (IsKept sub) (number_of p) n
  kept_at sub n h = named_by (IsKept sub) (number_of p) n (changelogs p sub) (kept_all sub) h

  one_reader : (sub n : ℕ) → has_number n (input_numbers p sub) ≡ true → reader_number p n ≡ sub
  one_reader sub n h =
      let x = named_by (IsTaken sub) (number_of p) n (inputs p sub) (taken_all sub) h in
      let at : topic_at p n ≡ Some x.topic = ap (topic_at p) x.is ∙ x.holds.0.0 in
      ap (taker_at p) at ∙ ap (λ b. cond b (sub_count p) (reads p x.topic)) x.holds.0.1 ∙ (Decides-eqb (reads p x.topic) sub).0 x.holds.1

  same_some : (a b : Topic) → Some a ≡ Some b → a ≡ b
  same_some a b f = cc

  one_keeper : (sub other n : ℕ) → is_own_number p sub n ≡ true → is_own_number p other n ≡ true → sub ≡ other
  one_keeper sub other n g h =
      let x = kept_at sub n g in
      let y = kept_at other n h in
      let same : x.topic ≡ y.topic = same_some x.topic y.topic (sym (ap (topic_at p) x.is ∙ x.holds.0.0) ∙ (ap (topic_at p) y.is ∙ y.holds.0.0)) in
      sym ((Decides-eqb (reads p x.topic) sub).0 x.holds.1) ∙ ap (reads p) same ∙ (Decides-eqb (reads p y.topic) other).0 y.holds.1

  -- ---- changelogs come after the inputs
  no_input_log : (n : ℕ) (t : Topic) → IsLog t → same_topic (Input n) t ≡ false
  no_input_log n (Input m) h = absurd (cc)
  no_input_log n (Repartition m) h = refl
  no_input_log n (Subscriptions m) h = refl
  no_input_log n (Responses m) h = refl
  no_input_log n (Changelog m) h = refl
  no_input_log n (HashChangelog m) h = refl

  after_inputs : (ns : List ℕ) (ys : List Topic) (t : Topic) → IsLog t → length ns ≤ place_of (map Input ns ++ ys) t
  after_inputs [] ys t h = omega arith
  after_inputs (n ∷ ns) ys t h =
      let rest : length ns ≤ place_of (map Input ns ++ ys) t = after_inputs ns ys t h in
      rw (no_input_log n t h) (omega arith)

  no_source : (sub n : ℕ) → is_own_number p sub n ≡ true → length p.counts ≤ n
  no_source sub n h =
      let x = kept_at sub n h in
      let e : length (up_to (length p.counts)) ≡ length p.counts = length_up_to (length p.counts) in
      let f : length (up_to (length p.counts)) ≤ number_of p x.topic =
      subst (λ l. length (up_to (length p.counts)) ≤ place_of l x.topic) (sym (append_assoc (input_topics p) (by_node through_topics 0 p.kinds) (by_node changelogs_of 0 p.kinds)))
      (after_inputs (up_to (length p.counts)) (by_node through_topics 0 p.kinds ++ by_node changelogs_of 0 p.kinds) x.topic x.holds.0.1) in
      let g : n ≡ number_of p x.topic = x.is in
      omega arith

  -- ---- a number that is taken is no changelog's
  no_reader : (sub other n : ℕ) → is_own_number p sub n ≡ true → has_number n (input_numbers p other) ≡ false
  no_reader sub other n h = by (has_number n (input_numbers p other)) refl
    where
      by : (b : Bool) → has_number n (input_numbers p other) ≡ b → b ≡ false
      by false e = refl
      by true e =
          let x = kept_at sub n h in
          let y = named_by (IsTaken other) (number_of p) n (inputs p other) (taken_all other) e in
          let same : x.topic ≡ y.topic = same_some x.topic y.topic (sym (ap (topic_at p) x.is ∙ x.holds.0.0) ∙ (ap (topic_at p) y.is ∙ y.holds.0.0)) in
          sym x.holds.0.1 ∙ ap is_changelog same ∙ y.holds.0.1

  pub apart : IsApart p
  apart = record { one_reader = one_reader; no_source = no_source; one_keeper = one_keeper; no_reader = no_reader }
