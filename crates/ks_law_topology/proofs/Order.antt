-- Each topic comes after all whose records cause its records.
use Rattle.std.proofs.Common.{◌≡◌, ℕ, zero, suc, ◌+◌, ◌≤◌, ◌<◌, Bool, true, false, cond, List, length, [], ◌∷◌, ◌++◌, map, Some, refl, sym, ap, subst, ◌∙◌, arith, append_assoc, length-append}
use Rattle.std.specs.Prelude.{slice_get}
use Rattle.std.specs.List.{filter, slice_index}
use Rattle.std.specs.List.Sorted.{IsStrictlyIncreasing}
use Rattle.ks_plan.specs.declared.node.Topic.{Topic}
use Rattle.ks_plan.specs.declared.node.Topic.TheVariants.{Input, Repartition, Subscriptions, Responses, Changelog, HashChangelog}
use Rattle.ks_plan.specs.declared.node.Wiring.{Wiring}
use Rattle.ks_plan.specs.declared.node.Wiring.TheVariants as wired
use Rattle.ks_plan.specs.Plan.{Plan, Kind, wiring_of}
use Rattle.ks_plan.specs.Layout.{same_topic, up_to, by_node, wired_through, wired_changelogs, through_topics, changelogs_of, input_topics, topics_of, place_of, number_of, is_drained}
use Rattle.ks_plan.specs.Infos.{drain_numbers}
use Rattle.ks_def_tasks.specs.Tasks.{is_changelog}
use Rattle.ks_def_tasks.proofs.Names.{topic-is, topic_itself}
use Rattle.ks_law_topology.specs.Order.{DrainRises}

map-append : {A B : Type 0} (f : A → B) (xs ys : List A) → map f (xs ++ ys) ≡ map f xs ++ map f ys
map-append f [] ys = refl
map-append f (x ∷ xs) ys = ap (λ l. f x ∷ l) (map-append f xs ys)

module _ (p : Plan) where
  abbrev pub sources : ℕ
  sources = length p.counts

  abbrev pub nodes : ℕ
  nodes = length p.kinds

  -- a number for each topic, which rises along the list of all
  abbrev pub rank : Topic → ℕ
  rank (Input a) = a
  rank (Repartition n) = length p.counts + n + n
  rank (Subscriptions n) = length p.counts + n + n
  rank (Responses n) = suc (length p.counts + n + n)
  rank (Changelog n) = length p.counts + length p.kinds + length p.kinds + n + n
  rank (HashChangelog n) = suc (length p.counts + length p.kinds + length p.kinds + n + n)

  -- a topic of the plan's sources and nodes
  abbrev pub IsWithin : Topic → Type 0
  IsWithin (Input a) = a < length p.counts
  IsWithin (Repartition n) = n < length p.kinds
  IsWithin (Subscriptions n) = n < length p.kinds
  IsWithin (Responses n) = n < length p.kinds
  IsWithin (Changelog n) = Unit {0}
  IsWithin (HashChangelog n) = Unit {0}

  -- the ranks rise, from the first number to below the second
  abbrev pub Between : ℕ → ℕ → List Topic → Type 0
  Between lo hi [] = lo ≤ hi
  Between lo hi (t ∷ ts) = ((lo ≤ rank t) × IsWithin t) × Between (suc (rank t)) hi ts

  lower : (lo mid hi : ℕ) (ts : List Topic) → lo ≤ mid → Between mid hi ts → Between lo hi ts
  lower lo mid hi [] le h = omega (arith, le, h)
  lower lo mid hi (t ∷ ts) le h = ((omega (arith, le, h.0.0), h.0.1), h.1)

  Between-append : (lo mid hi : ℕ) (xs ys : List Topic) → Between lo mid xs → Between mid hi ys → Between lo hi (xs ++ ys)
  Between-append lo mid hi [] ys a b = lower lo mid hi ys a b
  Between-append lo mid hi (x ∷ xs) ys a b = (a.0, Between-append (suc (rank x)) mid hi xs ys a.1 b)

  between_cond : (lo hi : ℕ) (c : Bool) (ts : List Topic) → lo ≤ hi → Between lo hi ts → Between lo hi (cond c ts [])
  between_cond lo hi true ts le h = h
  between_cond lo hi false ts le h = le

  between_nodes : (base : ℕ) (f : ℕ → Kind → List Topic) → ((n : ℕ) (k : Kind) → n < length p.kinds → Between (base + n + n) (base + suc n + suc n) (f n k)) →
      (n : ℕ) (ks : List Kind) → n + length ks ≡ length p.kinds → Between (base + n + n) (base + length p.kinds + length p.kinds) (by_node f n ks)
  between_nodes base f h n [] e = omega (arith, e)
  between_nodes base f h n (k ∷ ks) e =
      Between-append (base + n + n) (base + suc n + suc n) (base + length p.kinds + length p.kinds) (f n k) (by_node f (suc n) ks)
      (h n k (omega (arith, e))) (between_nodes base f h (suc n) ks (omega (arith, e)))

  of_repartition : (n : ℕ) → n < length p.kinds → Between (length p.counts + n + n) (length p.counts + suc n + suc n) (Repartition n ∷ [])
  of_repartition n lt = ((omega arith, lt), omega arith)

  through_between : (n : ℕ) (w : Wiring) → n < length p.kinds → Between (length p.counts + n + n) (length p.counts + suc n + suc n) (wired_through n w)
  through_between n (wired.StreamSource t) lt = omega arith
  through_between n (wired.TableSource t) lt = omega arith
  through_between n (wired.StreamFilter f) lt = omega arith
  through_between n (wired.TableFilter f) lt = omega arith
  through_between n (wired.StreamMap f) lt = omega arith
  through_between n (wired.TableMap f) lt = omega arith
  through_between n (wired.KeySelected f) lt = omega arith
  through_between n (wired.StreamAggregate f through) lt = between_cond _ _ through (Repartition n ∷ []) (omega arith) (of_repartition n lt)
  through_between n (wired.TableAggregate f) lt = of_repartition n lt
  through_between n (wired.Windowed f through) lt = between_cond _ _ through (Repartition n ∷ []) (omega arith) (of_repartition n lt)
  through_between n (wired.KeyJoin l r) lt = omega arith
  through_between n (wired.ForeignKeyJoin l r) lt = ((omega arith, lt), ((omega arith, lt), omega arith))

  abbrev pub logs : ℕ
  logs = length p.counts + length p.kinds + length p.kinds

  of_changelog : (n : ℕ) → Between (logs + n + n) (logs + suc n + suc n) (Changelog n ∷ [])
  of_changelog n = ((omega arith, tt), omega arith)

  logs_between : (n : ℕ) (w : Wiring) → Between (logs + n + n) (logs + suc n + suc n) (wired_changelogs n w)
  logs_between n (wired.StreamSource t) = omega arith
  logs_between n (wired.TableSource t) = of_changelog n
  logs_between n (wired.StreamFilter f) = omega arith
  logs_between n (wired.TableFilter f) = of_changelog n
  logs_between n (wired.StreamMap f) = omega arith
  logs_between n (wired.TableMap f) = of_changelog n
  logs_between n (wired.KeySelected f) = omega arith
  logs_between n (wired.StreamAggregate f through) = of_changelog n
  logs_between n (wired.TableAggregate f) = of_changelog n
  logs_between n (wired.Windowed f through) = of_changelog n
  logs_between n (wired.KeyJoin l r) = of_changelog n
  logs_between n (wired.ForeignKeyJoin l r) = ((omega arith, tt), ((omega arith, tt), omega arith))

  inputs_between : (n : ℕ) → n ≤ length p.counts → Between 0 n (map Input (up_to n))
  inputs_between zero le = omega arith
  inputs_between (suc n) le =
      subst (Between 0 (suc n)) (sym (map-append Input (up_to n) (n ∷ [])))
      (Between-append 0 n (suc n) (map Input (up_to n)) (Input n ∷ []) (inputs_between n (omega arith)) ((omega arith, omega arith), omega arith))

  pub drawn_between : Between 0 logs (input_topics p ++ by_node through_topics 0 p.kinds)
  drawn_between = Between-append 0 (length p.counts) logs (input_topics p) (by_node through_topics 0 p.kinds) (inputs_between (length p.counts) (omega arith))
      (lower (length p.counts) (length p.counts + 0 + 0) logs _ (omega arith) (between_nodes (length p.counts) through_topics (λ n k lt. through_between n (wiring_of k) lt) 0 p.kinds (omega arith)))

  pub all_between : Between 0 (logs + length p.kinds + length p.kinds) (topics_of p)
  all_between = Between-append 0 logs _ (input_topics p ++ by_node through_topics 0 p.kinds) (by_node changelogs_of 0 p.kinds) drawn_between
      (lower logs (logs + 0 + 0) _ _ (omega arith) (between_nodes logs changelogs_of (λ n k lt. logs_between n (wiring_of k)) 0 p.kinds (omega arith)))

  -- ---- places
  pub at_place : (lo hi : ℕ) (us : List Topic) (i : ℕ) (u : Topic) → Between lo hi us → slice_get us i ≡ Some u → (lo ≤ rank u) × IsWithin u
  at_place lo hi [] i u h e = absurd cc
  at_place lo hi (y ∷ us) zero u h e = let is : y ≡ u = cc in subst (λ w. (lo ≤ rank w) × IsWithin w) is h.0
  at_place lo hi (y ∷ us) (suc i) u h e = let more = at_place (suc (rank y)) hi us i u h.1 e in (omega (arith, h.0.0, more.0), more.1)

  -- a topic of greater rank has a greater number
  pub place_after : (lo hi : ℕ) (us : List Topic) (i : ℕ) (u t : Topic) → Between lo hi us → slice_get us i ≡ Some u → rank u < rank t → i < place_of us t
  place_after lo hi [] i u t h e lt = absurd cc
  place_after lo hi (y ∷ us) zero u t h e lt = elim (same_topic y t) as (λ b. same_topic y t ≡ b → 0 < cond b 0 (suc (place_of us t))) [
    | true ↦ λ s. absurd (let is : y ≡ u = cc in let same : rank y ≡ rank u = ap rank is in let other : rank y ≡ rank t = ap rank (topic-is y t s) in omega (arith, same, other, lt))
    | false ↦ λ s. omega arith
  ] refl
  place_after lo hi (y ∷ us) (suc i) u t h e lt =
      let more : i < place_of us t = place_after (suc (rank y)) hi us i u t h.1 e lt in
      let least = (at_place (suc (rank y)) hi us i u h.1 e).0 in
      elim (same_topic y t) as (λ b. same_topic y t ≡ b → suc i < cond b 0 (suc (place_of us t))) [
        | true ↦ λ s. absurd (let other : rank y ≡ rank t = ap rank (topic-is y t s) in omega (arith, least, other, lt))
        | false ↦ λ s. omega (arith, more)
      ] refl

  -- ---- what is in no changelog stands before all of them
  pub before_logs : (t : Topic) → IsWithin t → is_changelog t ≡ false → rank t < logs
  before_logs (Input a) h e = omega arith
  before_logs (Repartition n) h e = omega arith
  before_logs (Subscriptions n) h e = omega arith
  before_logs (Responses n) h e = omega arith
  before_logs (Changelog n) h e = absurd cc
  before_logs (HashChangelog n) h e = absurd cc

  -- ---- numbers
  abbrev Rising : ℕ → List ℕ → Type 0
  Rising lo [] = Unit {0}
  Rising lo (n ∷ ns) = (lo ≤ n) × Rising (suc n) ns

  low_rising : (lo hi : ℕ) (ns : List ℕ) → lo ≤ hi → Rising hi ns → Rising lo ns
  low_rising lo hi [] le h = tt
  low_rising lo hi (n ∷ ns) le h = (omega (arith, le, h.0), h.1)

  increasing : (lo : ℕ) (ns : List ℕ) → Rising lo ns → IsStrictlyIncreasing ns
  increasing lo [] h k lt = absurd (omega (arith, lt))
  increasing lo (n ∷ []) h k lt = absurd (omega (arith, lt))
  increasing lo (n ∷ m ∷ ms) h zero lt = omega (arith, h.1.0)
  increasing lo (n ∷ m ∷ ms) h (suc k) lt =
      let same : suc (k + 1) ≡ suc k + 1 = omega arith in
      subst (λ j. slice_index (n ∷ m ∷ ms) (suc k) < slice_index (n ∷ m ∷ ms) j) same (increasing (suc n) (m ∷ ms) h.1 k (omega (arith, lt)))

  least : (lo hi : ℕ) (before : List Topic) (x : Topic) (rest : List Topic) → Between lo hi (before ++ x ∷ rest) → lo ≤ rank x
  least lo hi [] x rest h = h.0.0
  least lo hi (y ∷ ys) x rest h = let more = least (suc (rank y)) hi ys x rest h.1 in omega (arith, more, h.0.0)

  -- each topic's place is where it stands
  place_here : (lo hi : ℕ) (before : List Topic) (x : Topic) (rest : List Topic) → Between lo hi (before ++ x ∷ rest) → place_of (before ++ x ∷ rest) x ≡ length before
  place_here lo hi [] x rest h = rw (topic_itself x) refl
  place_here lo hi (y ∷ ys) x rest h =
      let more = place_here (suc (rank y)) hi ys x rest h.1 in
      let low = least (suc (rank y)) hi ys x rest h.1 in
      elim (same_topic y x) as (λ b. same_topic y x ≡ b → cond b 0 (suc (place_of (ys ++ x ∷ rest) x)) ≡ suc (length ys)) [
        | true ↦ λ s. absurd (let is : rank y ≡ rank x = ap rank (topic-is y x s) in omega (arith, is, low))
        | false ↦ λ s. ap (λ n. suc n) more
      ] refl

  rising_from : (f : Topic → Bool) (before xs zs : List Topic) → topics_of p ≡ before ++ (xs ++ zs) → Rising (length before) (map (number_of p) (filter f xs))
  rising_from f before [] zs e = tt
  rising_from f before (x ∷ xs) zs e =
      let push : before ++ x ∷ (xs ++ zs) ≡ (before ++ x ∷ []) ++ (xs ++ zs) = sym (append_assoc before (x ∷ []) (xs ++ zs)) in
      let long : length (before ++ x ∷ []) ≡ suc (length before) = omega (arith, length-append before (x ∷ [])) in
      let more = subst (λ n. Rising n (map (number_of p) (filter f xs))) long (rising_from f (before ++ x ∷ []) xs zs (e ∙ push)) in
      let here : number_of p x ≡ length before = ap (λ us. place_of us x) e ∙ place_here 0 _ before x (xs ++ zs) (subst (Between 0 (logs + length p.kinds + length p.kinds)) e all_between) in
      by (f x) here more
    where
      by : (b : Bool) → number_of p x ≡ length before → Rising (suc (length before)) (map (number_of p) (filter f xs)) → Rising (length before) (map (number_of p) (cond b (x ∷ filter f xs) (filter f xs)))
      by true here more = (omega (arith, here), subst (λ n. Rising (suc n) (map (number_of p) (filter f xs))) (sym here) more)
      by false here more = low_rising _ _ (map (number_of p) (filter f xs)) (omega arith) more

pub drain_rises : DrainRises
drain_rises p = increasing p 0 (drain_numbers p) (rising_from p (is_drained p) [] (input_topics p ++ by_node through_topics 0 p.kinds) (by_node changelogs_of 0 p.kinds) refl)
