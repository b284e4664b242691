-- The topics that the tasks of a plan read, by number, and their places.
use Rattle.std.proofs.Common.{◌≡◌, ℕ, zero, suc, ◌<◌, Bool, true, false, cond, ◌&&◌, ◌||◌, List, length, [], ◌∷◌, ◌++◌, map, slice_get, Some, refl, sym, ap, subst, ◌∙◌, arith, nat_eq, append_assoc}
use Rattle.std.specs.Prelude.{◌==◌}
use Rattle.std.specs.List.{filter}
use Rattle.std.proofs.lemmas.Bool.{eq-eqb, eqb-true, true≢false}
use Rattle.std.proofs.lemmas.Bool.Decides.{Decides-eqb}
use Rattle.ks_record.specs.Parts.{same_part}
use Rattle.ks_plan.specs.declared.node.Topic.{Topic}
use Rattle.ks_plan.specs.declared.node.Topic.TheVariants.{Input}
use Rattle.ks_plan.specs.Plan.{Plan, Kind, wiring_of}
use Rattle.ks_plan.specs.Layout.{same_topic, up_to, place_of, topics_of, number_of, topic_at, reads, is_read, is_drained, drain_order, inputs, by_node, through_topics, changelogs_of, input_topics, tasks, parts_of_topic}
use Rattle.ks_plan.specs.Infos.{input_numbers}
use Rattle.ks_history.specs.Machine.{has_topic}
use Rattle.ks_history.specs.State.{has_task}
use Rattle.ks_def_tasks.specs.Messages.{Place, same_place}
use Rattle.ks_def_tasks.specs.Tasks.{is_changelog}
use Rattle.ks_def_tasks.specs.Bytes.{part_id, has_number}
use Rattle.ks_def_tasks.proofs.Names.{topic-is, topic_itself}
use Rattle.ks_def_tasks.proofs.Numbers.{place-is}
use Rattle.ks_def_tasks.proofs.Each.{AllOf, all_map, all_left, all_right, all_append, all_both, all_filter}
use Rattle.ks_law_settled.proofs.Lists.{all_kept, all_unmapped, all_up_to, EachNode, of_nodes, all_numbered, Numbered, numbered}
use Rattle.ks_def_tasks.proofs.Numbered.{length_up_to}
use Rattle.ks_def_tasks.proofs.Numbers.{NoLog, through_none}

-- ---- places in a list of topics
abbrev Found : List Topic → Topic → Type 0
Found us t = slice_get us (place_of us t) ≡ Some t

found_more : (y : Topic) (us : List Topic) (t : Topic) → Found us t → Found (y ∷ us) t
found_more y us t h = elim (same_topic y t) as (λ b. same_topic y t ≡ b → slice_get (y ∷ us) (cond b 0 (suc (place_of us t))) ≡ Some t) [
  | true ↦ λ e. ap (λ (v : Topic). Some v) (topic-is y t e)
  | false ↦ λ e. h
] refl

all_found : (us : List Topic) → AllOf (Found us) us
all_found [] = tt
all_found (y ∷ us) = (ap (λ b. slice_get (y ∷ us) (cond b 0 (suc (place_of us y)))) (topic_itself y), all_map (Found us) (Found (y ∷ us)) (found_more y us) us (all_found us))

-- ---- which topics are changelogs
through_nodes : (n : ℕ) (ks : List Kind) → AllOf NoLog (by_node through_topics n ks)
through_nodes n [] = tt
through_nodes n (k ∷ ks) = all_append NoLog (through_topics n k) (by_node through_topics (suc n) ks) (through_none n (wiring_of k)) (through_nodes (suc n) ks)

inputs_none : (ns : List ℕ) → AllOf NoLog (map Input ns)
inputs_none [] = tt
inputs_none (n ∷ ns) = (refl, inputs_none ns)

pub number_is : (n : ℕ) (ns : List ℕ) → has_number n ns ≡ has_topic n ns
number_is n [] = refl
number_is n (m ∷ ms) = ap (λ b. (n == m) || b) (number_is n ms)

-- ---- numbers of inputs are those of the topics
place_past : (m : ℕ) (xs : List ℕ) (ys : List Topic) → AllOf (λ x. x < m) xs → place_of (map Input xs ++ Input m ∷ ys) (Input m) ≡ length xs
place_past m [] ys h = ap (λ b. cond {A = ℕ} b 0 (suc (place_of ys (Input m)))) (topic_itself (Input m))
place_past m (x ∷ xs) ys h =
    let lt : x < m = h.0 in
    let ne : nat_eq x m ≡ false = other (nat_eq x m) refl lt in
    ap (λ b. cond {A = ℕ} b 0 (suc (place_of (map Input xs ++ Input m ∷ ys) (Input m)))) ne ∙ ap (λ n. suc n) (place_past m xs ys h.1)
  where
    other : (b : Bool) → nat_eq x m ≡ b → x < m → b ≡ false
    other true e lt = let is : x ≡ m = (Decides-eqb x m).0 e in absurd (omega (arith, is, lt))
    other false e lt = refl

all_below : (n m : ℕ) → n < suc m → AllOf (λ x. x < m) (up_to n)
all_below zero m le = tt
all_below (suc n) m le = all_append (λ x. x < m) (up_to n) (n ∷ []) (all_below n m (omega (arith, le))) (omega (arith, le), tt)

map_inputs : (xs : List ℕ) (n : ℕ) (ys : List Topic) → map Input (xs ++ n ∷ []) ++ ys ≡ map Input xs ++ Input n ∷ ys
map_inputs [] n ys = refl
map_inputs (x ∷ xs) n ys = ap (λ (l : List Topic). Input x ∷ l) (map_inputs xs n ys)

place_input : (n : ℕ) (ys : List Topic) (t : ℕ) → t < n → place_of (map Input (up_to n) ++ ys) (Input t) ≡ t
place_input zero ys t lt = absurd (omega (arith, lt))
place_input (suc n) ys t lt = ap (λ l. place_of l (Input t)) (map_inputs (up_to n) n ys) ∙ by (t == n) refl (λ less. place_input n (Input n ∷ ys) t less)
  where
    by : (b : Bool) → (t == n) ≡ b → (t < n → place_of (map Input (up_to n) ++ Input n ∷ ys) (Input t) ≡ t) → place_of (map Input (up_to n) ++ Input n ∷ ys) (Input t) ≡ t
    by true e more =
        let is : t ≡ n = eqb-true t n e in
        subst (λ m. place_of (map Input (up_to n) ++ Input n ∷ ys) (Input m) ≡ m) (sym is) (place_past n (up_to n) ys (all_below n n (omega arith)) ∙ length_up_to n)
    by false e more =
        let ne : t ≡ n → ⊥ = λ is. true≢false (sym (eq-eqb t n is) ∙ e) in
        more (omega (arith, lt))

module _ (p : Plan) where
  -- a topic of the plan
  abbrev pub At : Topic → Type 0
  At t = topic_at p (number_of p t) ≡ Some t

  -- a topic that tasks read
  pub record IsTopic (t : Topic) : Type 0 where
    pub there : At t
    pub drawn : is_drained p t ≡ true
    pub log : is_changelog t ≡ false
    pub read : has_topic (number_of p t) (input_numbers p (reads p t)) ≡ true

  found_topics : AllOf At (topics_of p)
  found_topics = all_found (topics_of p)

  pub found_logs : AllOf At (by_node changelogs_of 0 p.kinds)
  found_logs = all_right At (input_topics p ++ by_node through_topics 0 p.kinds) (by_node changelogs_of 0 p.kinds) found_topics

  pub drawn_topics : AllOf IsTopic (drain_order p)
  drawn_topics =
      let all = input_topics p ++ by_node through_topics 0 p.kinds in
      let none : AllOf NoLog all = all_append NoLog (input_topics p) (by_node through_topics 0 p.kinds) (inputs_none (up_to (length p.counts))) (through_nodes 0 p.kinds) in
      let found : AllOf At all = all_left At all (by_node changelogs_of 0 p.kinds) found_topics in
      let drawn : AllOf (λ t. (At t × NoLog t) × (is_drained p t ≡ true)) (drain_order p) = all_filter (λ t. At t × NoLog t) (is_drained p) all (all_both At NoLog all found none) in
      all_map (λ t. ((At t × NoLog t) × (is_drained p t ≡ true)) × ((g : Topic → Bool) → g t ≡ true → has_topic (number_of p t) (map (number_of p) (filter g (drain_order p))) ≡ true)) IsTopic
      (λ t h. record { there = h.0.0.0; drawn = h.0.1; log = h.0.0.1; read = h.1 (λ u. nat_eq (reads p u) (reads p t)) ((Decides-eqb (reads p t) (reads p t)).1 refl) })
      (drain_order p)
      (all_both (λ t. (At t × NoLog t) × (is_drained p t ≡ true)) (λ t. (g : Topic → Bool) → g t ≡ true → has_topic (number_of p t) (map (number_of p) (filter g (drain_order p))) ≡ true) (drain_order p) drawn (all_numbered (number_of p) (drain_order p)))

  -- of a number among a subtopology's inputs: the topic
  pub read_topic : (sub n : ℕ) → has_topic n (input_numbers p sub) ≡ true → Numbered (λ t. IsTopic t × (nat_eq (reads p t) sub ≡ true)) (number_of p) n
  read_topic sub n h = numbered (λ t. IsTopic t × (nat_eq (reads p t) sub ≡ true)) (number_of p) n (inputs p sub) (all_filter IsTopic (λ t. nat_eq (reads p t) sub) (drain_order p) drawn_topics) h

  -- a topic's number is no other's
  pub same_number : (t u : Topic) → At t → number_of p t ≡ number_of p u → t ≡ u
  same_number t u there e = place-is (topics_of p) u t (ap (topic_at p) (sym e) ∙ there)

  numbers_are : (t u : Topic) → At t → (number_of p t == number_of p u) ≡ same_topic t u
  numbers_are t u there = by (same_topic t u) refl
    where
      by : (b : Bool) → same_topic t u ≡ b → (number_of p t == number_of p u) ≡ b
      by true e = eq-eqb (number_of p t) (number_of p u) (ap (number_of p) (topic-is t u e))
      by false e = other (number_of p t == number_of p u) refl
        where
          other : (c : Bool) → (number_of p t == number_of p u) ≡ c → c ≡ false
          other true f =
              let is : t ≡ u = same_number t u there (eqb-true (number_of p t) (number_of p u) f) in
              sym (subst (λ v. same_topic t v ≡ true) is (topic_itself t)) ∙ e
          other false f = refl

  pub same_part-is : (q r : Place) → At q.topic → same_part (part_id p q) (part_id p r) ≡ same_place q r
  same_part-is q r there = ap (λ b. b && nat_eq q.part r.part) (numbers_are q.topic r.topic there)

  -- inputs have the first numbers
  pub input_number : (t : ℕ) → t < length p.counts → number_of p (Input t) ≡ t
  input_number t lt =
      ap (λ l. place_of l (Input t)) (append_assoc (input_topics p) (by_node through_topics 0 p.kinds) (by_node changelogs_of 0 p.kinds))
      ∙ place_input (length p.counts) (by_node through_topics 0 p.kinds ++ by_node changelogs_of 0 p.kinds) t lt

  changelog_topics : AllOf (λ t. is_drained p t ≡ true → IsTopic t) (input_topics p ++ by_node through_topics 0 p.kinds)
  changelog_topics = all_kept IsTopic (is_drained p) (input_topics p ++ by_node through_topics 0 p.kinds) drawn_topics

  pub input_topic : (t : ℕ) → t < length p.counts → is_read p t ≡ true → IsTopic (Input t)
  input_topic t lt read =
      let all : AllOf (λ t. is_drained p t ≡ true → IsTopic t) (map Input (up_to (length p.counts))) = all_left (λ t. is_drained p t ≡ true → IsTopic t) (input_topics p) (by_node through_topics 0 p.kinds) changelog_topics in
      all_up_to (λ t. is_read p t ≡ true → IsTopic (Input t)) (length p.counts) (all_unmapped (λ t. is_drained p t ≡ true → IsTopic t) Input (up_to (length p.counts)) all) t lt read

  pub through_topic : EachNode (λ n k. AllOf (λ t. is_drained p t ≡ true → IsTopic t) (through_topics n k)) 0 p.kinds
  through_topic = of_nodes (λ t. is_drained p t ≡ true → IsTopic t) through_topics 0 p.kinds (all_right (λ t. is_drained p t ≡ true → IsTopic t) (input_topics p) (by_node through_topics 0 p.kinds) changelog_topics)

-- a place of such a topic that a task reads
pub record IsPlace (p : Plan) (q : Place) : Type 0 where
  pub topic : IsTopic p q.topic
  pub task : has_task (record { sub = reads p q.topic; part = q.part }) (tasks p) ≡ true
  pub part : q.part < parts_of_topic p q.topic
