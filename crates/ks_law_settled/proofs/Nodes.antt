-- The topics of a plan's nodes, their numbers and their partitions.
use Rattle.std.proofs.Common.{◌≡◌, ℕ, zero, suc, ◌+◌, ◌<◌, Bool, true, false, cond, ◌⊎◌, inl, inr, List, [], ◌∷◌, ◌++◌, length, map, fold, Some, slice_get, refl, sym, ap, ◌∙◌, arith, append_assoc, length-append, ⊎_elim}
use Rattle.std.specs.Prelude.{◌==◌, slice_index}
use Rattle.std.specs.List.{filter}
use Rattle.std.proofs.lemmas.List.{length-map}
use Rattle.std.proofs.lemmas.Option.{slice_get_within, get_or_from_slice_get}
use Rattle.std.proofs.lemmas.Bool.{eq-eqb, or_left, or_right, true≢false}
use Rattle.ks_plan.specs.declared.node.Topic.{Topic}
use Rattle.ks_plan.specs.declared.node.Topic.TheVariants.{Input as InputTopic, Repartition, Subscriptions, Changelog, HashChangelog}
use Rattle.ks_plan.specs.Plan.{Plan, Kind, wiring_of}
use Rattle.ks_plan.specs.Plan.Kind.{StreamSource, TableSource, StreamFilter, TableFilter, StreamMap, TableMap, KeySelected, StreamAggregate, TableAggregate, Windowed, KeyJoin, ForeignKeyJoin}
use Rattle.ks_plan.specs.Layout.{same_topic, at, wired_parts, parts_of, parts_of_topic, through_topics, changelogs_of, by_node, topics_of, place_of, number_of, up_to}
use Rattle.ks_def_tasks.specs.Messages.{Rules}
use Rattle.ks_def_tasks.proofs.Names.{topic-is, topic_itself}
use Rattle.ks_history.specs.Machine.{has_topic}
use Rattle.ks_history.specs.State.{IsPart}
use Rattle.ks_law_topology.specs.Work.{setup_of}
use Rattle.ks_def_tasks.proofs.Numbered.{get_map}

-- ---- lists of topics
abbrev pub Among : Topic → List Topic → Type 0
Among t [] = ⊥
Among t (u ∷ us) = (u ≡ t) ⊎ Among t us

pub among_left : (t : Topic) (xs ys : List Topic) → Among t xs → Among t (xs ++ ys)
among_left t [] ys h = absurd h
among_left t (x ∷ xs) ys (inl e) = inl e
among_left t (x ∷ xs) ys (inr h) = inr (among_left t xs ys h)

pub among_right : (t : Topic) (xs ys : List Topic) → Among t ys → Among t (xs ++ ys)
among_right t [] ys h = h
among_right t (x ∷ xs) ys h = inr (among_right t xs ys h)

pub among_either : (t : Topic) (xs ys : List Topic) → Among t (xs ++ ys) → Among t xs ⊎ Among t ys
among_either t [] ys h = inr h
among_either t (x ∷ xs) ys (inl e) = inl (inl e)
among_either t (x ∷ xs) ys (inr h) = ⊎_elim (λ (a : Among t xs). inl (inr a)) (λ (b : Among t ys). inr b) (among_either t xs ys h)

pub among_at : (t : Topic) (us : List Topic) (i : ℕ) → slice_get us i ≡ Some t → Among t us
among_at t [] i e = absurd cc
among_at t (u ∷ us) zero e = let is : u ≡ t = cc in inl is
among_at t (u ∷ us) (suc i) e = inr (among_at t us i e)

pub found : (t : Topic) (us : List Topic) → Among t us → slice_get us (place_of us t) ≡ Some t
found t [] h = absurd h
found t (u ∷ us) h = by (same_topic u t) refl h (λ g. found t us g)
  where
    by : (b : Bool) → same_topic u t ≡ b → (u ≡ t) ⊎ Among t us → (Among t us → slice_get us (place_of us t) ≡ Some t) → slice_get (u ∷ us) (cond b 0 (suc (place_of us t))) ≡ Some t
    by true is g f = ap (λ (v : Topic). Some v) (topic-is u t is)
    by false is (inl e) f = absurd (true≢false (sym (topic_itself t) ∙ ap (λ v. same_topic v t) (sym e) ∙ is))
    by false is (inr g) f = f g

-- the numbers of some of them
pub named : (number : Topic → ℕ) (f : Topic → Bool) (t : Topic) (xs : List Topic) → Among t xs → f t ≡ true → has_topic (number t) (map number (filter f xs)) ≡ true
named number f t [] h e = absurd h
named number f t (x ∷ xs) h e = by (f x) refl h (λ g. named number f t xs g e)
  where
    by : (b : Bool) → f x ≡ b → (x ≡ t) ⊎ Among t xs → (Among t xs → has_topic (number t) (map number (filter f xs)) ≡ true) → has_topic (number t) (map number (cond b (x ∷ filter f xs) (filter f xs))) ≡ true
    by true is (inl g) k = or_left (number t == number x) _ (eq-eqb (number t) (number x) (ap number (sym g)))
    by true is (inr g) k = or_right (number t == number x) _ (k g)
    by false is (inl g) k = absurd (true≢false (sym e ∙ ap f (sym g) ∙ is))
    by false is (inr g) k = k g

module _ (rules : Rules) (p : Plan) where
  -- as many partitions as the topic has
  pub count_at : (n : ℕ) (t : Topic) → slice_get (topics_of p) n ≡ Some t → slice_index (map (parts_of_topic p) (topics_of p)) n ≡ parts_of_topic p t
  count_at n t at = get_or_from_slice_get (map (parts_of_topic p) (topics_of p)) n (parts_of_topic p t) 0 (get_map (parts_of_topic p) (topics_of p) n t at)

  pub is_part : (t : Topic) (part : ℕ) → Among t (topics_of p) → part < parts_of_topic p t → IsPart (setup_of rules p) (record { topic = number_of p t; part = part })
  is_part t part there lt =
      let at : slice_get (topics_of p) (number_of p t) ≡ Some t = found t (topics_of p) there in
      record {
        topic = omega (arith, slice_get_within (topics_of p) (number_of p t) t at, length-map (topics_of p) (parts_of_topic p));
        part = omega (arith, lt, count_at (number_of p t) t at);
      }

-- ---- nodes by place
module _ (p : Plan) where
  abbrev pub Located : ℕ → List Kind → Type 0
  Located n [] = Unit {0}
  Located n (k ∷ ks) = (slice_get p.kinds n ≡ Some k) × Located (suc n) ks

  pub located : (before ks : List Kind) → p.kinds ≡ before ++ ks → (n : ℕ) → n ≡ length before → Located n ks
  located before [] is n e = tt
  located before (k ∷ ks) is n e = (
    ap (λ l. slice_get l n) is ∙ ap (slice_get (before ++ k ∷ ks)) e ∙ there before,
    located (before ++ k ∷ []) ks (is ∙ sym (append_assoc before (k ∷ []) ks)) (suc n) (omega (arith, e, length-append before (k ∷ []))),
  )
    where
      there : (xs : List Kind) → slice_get (xs ++ k ∷ ks) (length xs) ≡ Some k
      there [] = refl
      there (x ∷ xs) = there xs

  -- ---- partition counts of nodes
  abbrev step : List ℕ → Kind → List ℕ
  step cs k = wired_parts p.counts cs (wiring_of k)

  one_more : (cs : List ℕ) (k : Kind) → (x : ℕ) × (wired_parts p.counts cs (wiring_of k) ≡ cs ++ x ∷ [])
  one_more cs (StreamSource t) = (at p.counts t, refl)
  one_more cs (TableSource t) = (at p.counts t, refl)
  one_more cs (StreamFilter f x) = (at cs f, refl)
  one_more cs (TableFilter f x) = (at cs f, refl)
  one_more cs (StreamMap f s) = (at cs f, refl)
  one_more cs (TableMap f s) = (at cs f, refl)
  one_more cs (KeySelected f k) = (at cs f, refl)
  one_more cs (StreamAggregate f by field through) = (at cs f, refl)
  one_more cs (TableAggregate f by field) = (at cs f, refl)
  one_more cs (Windowed f by w through) = (at cs f, refl)
  one_more cs (KeyJoin l r kind s) = (at cs l, refl)
  one_more cs (ForeignKeyJoin l r fk kind s) = (at cs l, refl)

  at_before : (xs ys : List ℕ) (n : ℕ) → n < length xs → at (xs ++ ys) n ≡ at xs n
  at_before [] ys n lt = absurd (omega arith)
  at_before (x ∷ xs) ys zero lt = refl
  at_before (x ∷ xs) ys (suc n) lt = at_before xs ys n (omega arith)

  at_end : (xs : List ℕ) (x : ℕ) → at (xs ++ x ∷ []) (length xs) ≡ x
  at_end [] x = refl
  at_end (y ∷ xs) x = at_end xs x

  longer : (cs : List ℕ) (k : Kind) → length (step cs k) ≡ suc (length cs)
  longer cs k = let o = one_more cs k in omega (arith, ap length o.1, length-append cs (o.0 ∷ []))

  stays : (ks : List Kind) (cs : List ℕ) (i : ℕ) → i < length cs → at (fold step cs ks) i ≡ at cs i
  stays [] cs i lt = refl
  stays (k ∷ ks) cs i lt =
      let o = one_more cs k in
      stays ks (step cs k) i (omega (arith, lt, longer cs k)) ∙ ap (λ l. at l i) o.1 ∙ at_before cs (o.0 ∷ []) i lt

  same_from : (ks : List Kind) (cs : List ℕ) (i : ℕ) (k : Kind) (f n : ℕ) → slice_get ks i ≡ Some k → ((l : List ℕ) → step l k ≡ l ++ at l f ∷ []) → n ≡ length cs + i → f < n →
      at (fold step cs ks) n ≡ at (fold step cs ks) f
  same_from [] cs i k f n e takes is lt = absurd cc
  same_from (x ∷ ks) cs zero k f n e takes is lt =
      let same : x ≡ k = cc in
      let now : step cs x ≡ cs ++ at cs f ∷ [] = ap (step cs) same ∙ takes cs in
      let last : n ≡ length cs = omega (arith, is) in
      stays ks (step cs x) n (omega (arith, longer cs x, last))
      ∙ ap (λ l. at l n) now ∙ ap (at (cs ++ at cs f ∷ [])) last ∙ at_end cs (at cs f)
      ∙ sym (stays ks (step cs x) f (omega (arith, longer cs x, last, lt)) ∙ ap (λ l. at l f) now ∙ at_before cs (at cs f ∷ []) f (omega (arith, last, lt)))
  same_from (x ∷ ks) cs (suc i) k f n e takes is lt = same_from ks (step cs x) i k f n e takes (omega (arith, is, longer cs x)) lt

  -- a node has the partitions of the node that it takes from
  pub parts_from : (n f : ℕ) (k : Kind) → slice_get p.kinds n ≡ Some k → ((l : List ℕ) → wired_parts p.counts l (wiring_of k) ≡ l ++ at l f ∷ []) → f < n → parts_of p n ≡ parts_of p f
  parts_from n f k at takes lt = same_from p.kinds [] n k f n at takes (omega arith) lt

  -- ---- a join that gets subscriptions keeps hashes
  keeps_hashes : (n i : ℕ) (ks : List Kind) → Among (Subscriptions n) (by_node through_topics i ks) → Among (HashChangelog n) (by_node changelogs_of i ks)
  keeps_hashes n i [] h = absurd h
  keeps_hashes n i (k ∷ ks) h = ⊎_elim
      (λ (a : Among (Subscriptions n) (through_topics i k)). among_left (HashChangelog n) (changelogs_of i k) (by_node changelogs_of (suc i) ks) (here k a))
      (λ (b : Among (Subscriptions n) (by_node through_topics (suc i) ks)). among_right (HashChangelog n) (changelogs_of i k) (by_node changelogs_of (suc i) ks) (keeps_hashes n (suc i) ks b))
      (among_either (Subscriptions n) (through_topics i k) (by_node through_topics (suc i) ks) h)
    where
      regroups : (b : Bool) → Among (Subscriptions n) (cond b (Repartition i ∷ []) []) → ⊥
      regroups true (inl e) = absurd cc
      regroups true (inr g) = g
      regroups false g = g

      here : (k : Kind) → Among (Subscriptions n) (through_topics i k) → Among (HashChangelog n) (changelogs_of i k)
      here (ForeignKeyJoin l r fk kind s) (inl e) = let is : i ≡ n = cc in inr (inl (ap (λ m. HashChangelog m) is))
      here (ForeignKeyJoin l r fk kind s) (inr (inl e)) = absurd cc
      here (ForeignKeyJoin l r fk kind s) (inr (inr g)) = absurd g
      here (StreamAggregate f by field through) g = absurd (regroups through g)
      here (TableAggregate f by field) g = absurd (regroups true g)
      here (Windowed f by w through) g = absurd (regroups through g)
      here (StreamSource t) g = absurd g
      here (TableSource t) g = absurd g
      here (StreamFilter f x) g = absurd g
      here (TableFilter f x) g = absurd g
      here (StreamMap f s) g = absurd g
      here (TableMap f s) g = absurd g
      here (KeySelected f c) g = absurd g
      here (KeyJoin l r kind s) g = absurd g

  no_input : (n : ℕ) (xs : List ℕ) → Among (Subscriptions n) (map InputTopic xs) → ⊥
  no_input n [] h = h
  no_input n (x ∷ xs) (inl e) = absurd cc
  no_input n (x ∷ xs) (inr h) = no_input n xs h

  no_log : (n i : ℕ) (ks : List Kind) → Among (Subscriptions n) (by_node changelogs_of i ks) → ⊥
  no_log n i [] h = h
  no_log n i (k ∷ ks) h = ⊎_elim
      (λ (a : Among (Subscriptions n) (changelogs_of i k)). here k a)
      (λ (b : Among (Subscriptions n) (by_node changelogs_of (suc i) ks)). no_log n (suc i) ks b)
      (among_either (Subscriptions n) (changelogs_of i k) (by_node changelogs_of (suc i) ks) h)
    where
      one : Among (Subscriptions n) (Changelog i ∷ []) → ⊥
      one (inl e) = absurd cc
      one (inr g) = g

      here : (k : Kind) → Among (Subscriptions n) (changelogs_of i k) → ⊥
      here (ForeignKeyJoin l r fk kind s) (inl e) = absurd cc
      here (ForeignKeyJoin l r fk kind s) (inr (inl e)) = absurd cc
      here (ForeignKeyJoin l r fk kind s) (inr (inr g)) = g
      here (StreamAggregate f by field through) g = one g
      here (TableAggregate f by field) g = one g
      here (Windowed f by w through) g = one g
      here (StreamSource t) g = g
      here (TableSource t) g = one g
      here (StreamFilter f x) g = g
      here (TableFilter f x) g = one g
      here (StreamMap f s) g = g
      here (TableMap f s) g = one g
      here (KeySelected f c) g = g
      here (KeyJoin l r kind s) g = one g

  pub subscribed_keeps : (n : ℕ) → Among (Subscriptions n) (topics_of p) → Among (HashChangelog n) (by_node changelogs_of 0 p.kinds)
  subscribed_keeps n h = ⊎_elim
      (λ (a : Among (Subscriptions n) (map InputTopic (up_to (length p.counts)) ++ by_node through_topics 0 p.kinds)). ⊎_elim
      (λ (c : Among (Subscriptions n) (map InputTopic (up_to (length p.counts)))). absurd (no_input n (up_to (length p.counts)) c))
      (λ (d : Among (Subscriptions n) (by_node through_topics 0 p.kinds)). keeps_hashes n 0 p.kinds d)
      (among_either (Subscriptions n) (map InputTopic (up_to (length p.counts))) (by_node through_topics 0 p.kinds) a))
      (λ (b : Among (Subscriptions n) (by_node changelogs_of 0 p.kinds)). absurd (no_log n 0 p.kinds b))
      (among_either (Subscriptions n) (map InputTopic (up_to (length p.counts)) ++ by_node through_topics 0 p.kinds) (by_node changelogs_of 0 p.kinds) h)
