-- The layout over wirings is that of the plan.
use Rattle.std.proofs.Common.{◌≡◌, ℕ, zero, suc, ◌*◌, ◌≤◌, Bool, ◌||◌, cond, List, [], ◌∷◌, ◌++◌, length, map, fold, get_or, refl, ap, ap₂, ◌∙◌, arith, nat_eq, length-append}
use Rattle.std.specs.List.{filter, flat_map}
use Rattle.ks_plan.specs.declared.node.Topic.{Topic}
use Rattle.ks_plan.specs.declared.node.Topic.TheVariants.{Input, Repartition, Subscriptions, Responses, Changelog, HashChangelog}
use Rattle.ks_plan.specs.declared.node.Wiring.{Wiring}
use Rattle.ks_plan.specs.declared.node.Wiring.TheVariants as wired
use Rattle.ks_topo_layout.specs.declared.shape.Shape.{Shape}
use Rattle.ks_plan.specs.Plan.{Plan, Kind, wiring_of}
use Rattle.ks_plan.specs.Layout.{at, origin_at, with_origin, node_origins, stated_for, before_of, before_of_topic, up_to, firsts, first_in, wired_label, wired_parts, wired_right, wired_reads, wired_through, wired_changelogs, labels, node_parts, parts_of, sub_of, sub_count, kind_at, no_kind, right_of, through_topics, changelogs_of, by_node, input_topics, topics_of, parts_of_topic, any_source_of, is_read, first_source_of, source_of, reads, is_drained, drain_order, subs, tasks_in, tasks}
use Rattle.ks_topo_layout.specs.Wired.{wired_labels, wired_counts, wired_origins, topic_origin, any_wired, first_wired, right_in, flowing, kept, topic_parts, sub_at, subs_in, topic_reader, flows, read_in, subs_of, tasks_to, tasks_of_sub, all_tasks, numbers_in, numbers_read}
use Rattle.ks_plan.specs.Infos.{input_numbers, changelog_numbers}
use Rattle.ks_topo.specs.Built.{IsShapeOf}

fold_over : {A B C : Type 0} (f : A → C → A) (g : B → C) (a : A) (xs : List B) → fold f a (map g xs) ≡ fold (λ a x. f a (g x)) a xs
fold_over f g a [] = refl
fold_over f g a (x ∷ xs) = fold_over f g (f a (g x)) xs

pub length_over : {A B : Type 0} (f : A → B) (xs : List A) → length (map f xs) ≡ length xs
length_over f [] = refl
length_over f (x ∷ xs) = ap (λ n. suc n) (length_over f xs)

nodes_over : (f : ℕ → Wiring → List Topic) (n : ℕ) (ks : List Kind) → by_node f n (map wiring_of ks) ≡ by_node (λ n k. f n (wiring_of k)) n ks
nodes_over f n [] = refl
nodes_over f n (k ∷ ks) = ap (λ l. f n (wiring_of k) ++ l) (nodes_over f (suc n) ks)

any_over : (t : ℕ) (ks : List Kind) → any_wired t (map wiring_of ks) ≡ any_source_of t ks
any_over t [] = refl
any_over t (k ∷ ks) = ap (λ b. wired_reads t (wiring_of k) || b) (any_over t ks)

first_over : (t n : ℕ) (ks : List Kind) → first_wired t n (map wiring_of ks) ≡ first_source_of t n ks
first_over t n [] = refl
first_over t n (k ∷ ks) = ap (λ m. cond (wired_reads t (wiring_of k)) n m) (first_over t (suc n) ks)

pub wiring_over : (ks : List Kind) (n : ℕ) → get_or (map wiring_of ks) n (wired.StreamSource 0) ≡ wiring_of (get_or ks n no_kind)
wiring_over [] n = refl
wiring_over (k ∷ ks) zero = refl
wiring_over (k ∷ ks) (suc n) = wiring_over ks n

filter_same : {A : Type 0} (f g : A → Bool) (xs : List A) → ((x : A) → f x ≡ g x) → filter f xs ≡ filter g xs
filter_same f g [] e = refl
filter_same f g (x ∷ xs) e = ap₂ (λ b l. cond b (x ∷ l) l) (e x) (filter_same f g xs e)

pub map_same : {A B : Type 0} (f g : A → B) (xs : List A) → ((x : A) → f x ≡ g x) → map f xs ≡ map g xs
map_same f g [] e = refl
map_same f g (x ∷ xs) e = ap₂ (λ y l. y ∷ l) (e x) (map_same f g xs e)

flat_same : {A B : Type 0} (f g : A → List B) (xs : List A) → ((x : A) → f x ≡ g x) → flat_map f xs ≡ flat_map g xs
flat_same f g [] e = refl
flat_same f g (x ∷ xs) e = ap₂ (λ y l. y ++ l) (e x) (flat_same f g xs e)

module _ (s : Shape) (p : Plan) (h : IsShapeOf s p) where
  pub same_labels : s.labels.items ≡ labels p
  same_labels = h.labels ∙ (ap wired_labels h.wirings ∙ fold_over wired_label wiring_of [] p.kinds)

  pub same_parts : s.parts.items ≡ node_parts p.counts p.kinds
  same_parts = h.parts ∙ (ap₂ wired_counts h.counts h.wirings ∙ fold_over (wired_parts p.counts) wiring_of [] p.kinds)

  pub same_number : length s.wirings.items ≡ length p.kinds
  same_number = ap length h.wirings ∙ length_over wiring_of p.kinds

  pub same_part : (n : ℕ) → at s.parts.items n ≡ parts_of p n
  same_part n = ap (λ l. at l n) same_parts

  pub same_sub : (n : ℕ) → sub_at s n ≡ sub_of p n
  same_sub n = ap (λ l. firsts l (at l n)) same_labels

  pub same_subs : subs_in s ≡ sub_count p
  same_subs = ap₂ firsts same_labels same_number

  pub same_wiring : (n : ℕ) → get_or s.wirings.items n (wired.StreamSource 0) ≡ wiring_of (kind_at p n)
  same_wiring n = ap (λ l. get_or l n (wired.StreamSource 0)) h.wirings ∙ wiring_over p.kinds n

  same_right : (n : ℕ) → right_in s.wirings.items n ≡ right_of (kind_at p n)
  same_right n = ap wired_right (same_wiring n)

  pub same_topic_parts : (t : Topic) → topic_parts s t ≡ parts_of_topic p t
  same_topic_parts (Input t) = ap (λ l. at l t) h.counts
  same_topic_parts (Repartition n) = same_part n
  same_topic_parts (Subscriptions n) = ap (at s.parts.items) (same_right n) ∙ same_part (right_of (kind_at p n))
  same_topic_parts (Responses n) = same_part n
  same_topic_parts (Changelog n) = same_part n
  same_topic_parts (HashChangelog n) = ap (at s.parts.items) (same_right n) ∙ same_part (right_of (kind_at p n))

  same_origins : s.origins.items ≡ node_origins p.kinds
  same_origins = h.origins ∙ (ap wired_origins h.wirings ∙ fold_over with_origin wiring_of [] p.kinds)

  same_stated : (n : ℕ) → stated_for p.befores (origin_at s.origins.items n) ≡ before_of p n
  same_stated n = ap (λ l. stated_for p.befores (origin_at l n)) same_origins

  pub same_topic_before : (t : Topic) → stated_for p.befores (topic_origin s t) ≡ before_of_topic p t
  same_topic_before (Input t) = refl
  same_topic_before (Repartition n) = same_stated n
  same_topic_before (Subscriptions n) = ap (λ m. stated_for p.befores (origin_at s.origins.items m)) (same_right n) ∙ same_stated (right_of (kind_at p n))
  same_topic_before (Responses n) = same_stated n
  same_topic_before (Changelog n) = same_stated n
  same_topic_before (HashChangelog n) = ap (λ m. stated_for p.befores (origin_at s.origins.items m)) (same_right n) ∙ same_stated (right_of (kind_at p n))

  same_any : (t : ℕ) → any_wired t s.wirings.items ≡ is_read p t
  same_any t = ap (any_wired t) h.wirings ∙ any_over t p.kinds

  same_first : (t : ℕ) → first_wired t 0 s.wirings.items ≡ source_of p t
  same_first t = ap (first_wired t 0) h.wirings ∙ first_over t 0 p.kinds

  same_right_sub : (n : ℕ) → sub_at s (right_in s.wirings.items n) ≡ sub_of p (right_of (kind_at p n))
  same_right_sub n = ap (sub_at s) (same_right n) ∙ same_sub (right_of (kind_at p n))

  same_reader : (t : Topic) → topic_reader s t ≡ reads p t
  same_reader (Input t) = ap₂ (λ b n. cond b n (subs_in s)) (same_any t) (ap (sub_at s) (same_first t) ∙ same_sub (source_of p t)) ∙ ap (cond (is_read p t) (sub_of p (source_of p t))) same_subs
  same_reader (Repartition n) = same_sub n
  same_reader (Subscriptions n) = same_right_sub n
  same_reader (Responses n) = same_sub n
  same_reader (Changelog n) = same_sub n
  same_reader (HashChangelog n) = same_right_sub n

  same_flows : (t : Topic) → flows s t ≡ is_drained p t
  same_flows (Input t) = same_any t
  same_flows (Repartition n) = refl
  same_flows (Subscriptions n) = refl
  same_flows (Responses n) = refl
  same_flows (Changelog n) = refl
  same_flows (HashChangelog n) = refl

  pub same_flowing : flowing (length s.counts.items) s.wirings.items ≡ input_topics p ++ by_node through_topics 0 p.kinds
  same_flowing = ap₂ (λ n l. flowing (length n) l) h.counts h.wirings ∙ ap (λ l. input_topics p ++ l) (nodes_over wired_through 0 p.kinds)

  pub same_kept : kept s.wirings.items ≡ by_node changelogs_of 0 p.kinds
  same_kept = ap kept h.wirings ∙ nodes_over wired_changelogs 0 p.kinds

  pub same_drained : filter (flows s) (input_topics p ++ by_node through_topics 0 p.kinds) ≡ drain_order p
  same_drained = filter_same (flows s) (is_drained p) _ same_flows

  same_read : (sub : ℕ) (ts : List Topic) → read_in s sub ts ≡ filter (λ t. nat_eq (reads p t) sub) ts
  same_read sub ts = filter_same (λ t. nat_eq (topic_reader s t) sub) (λ t. nat_eq (reads p t) sub) ts (λ t. ap (λ n. nat_eq n sub) (same_reader t))

  pub same_inputs : numbers_read s (topics_of p) (drain_order p) ≡ map (input_numbers p) (up_to (sub_count p))
  same_inputs = ap (λ n. map (λ sub. numbers_in (topics_of p) (read_in s sub (drain_order p))) (up_to n)) same_subs ∙ map_same _ (input_numbers p) (up_to (sub_count p)) (λ sub. ap (numbers_in (topics_of p)) (same_read sub (drain_order p)))

  pub same_changelogs : numbers_read s (topics_of p) (by_node changelogs_of 0 p.kinds) ≡ map (changelog_numbers p) (up_to (sub_count p))
  same_changelogs = ap (λ n. map (λ sub. numbers_in (topics_of p) (read_in s sub (by_node changelogs_of 0 p.kinds))) (up_to n)) same_subs ∙ map_same _ (changelog_numbers p) (up_to (sub_count p)) (λ sub. ap (numbers_in (topics_of p)) (same_read sub (by_node changelogs_of 0 p.kinds)))

  same_node_subs : subs_of s ≡ subs p
  same_node_subs = ap (λ n. map (sub_at s) (up_to n)) same_number ∙ map_same (sub_at s) (sub_of p) (up_to (length p.kinds)) same_sub

  same_tasks_in : (sub : ℕ) → tasks_of_sub s sub ≡ tasks_in p sub
  same_tasks_in sub = ap (tasks_to sub) (ap (λ l. at s.parts.items (first_in sub l)) same_node_subs ∙ same_part (first_in sub (subs p)))

  pub same_tasks : all_tasks s ≡ tasks p
  same_tasks = ap (λ n. flat_map (tasks_of_sub s) (up_to n)) same_subs ∙ flat_same (tasks_of_sub s) (tasks_in p) (up_to (sub_count p)) same_tasks_in

-- ---- how many topics there are
pub few_each : (f : ℕ → Wiring → List Topic) → ((n : ℕ) (w : Wiring) → length (f n w) ≤ 2) → (n : ℕ) (ws : List Wiring) → length (by_node f n ws) ≤ 2 * length ws
few_each f h n [] = omega arith
few_each f h n (w ∷ ws) = let a = h n w in let b = few_each f h (suc n) ws in let e = length-append (f n w) (by_node f (suc n) ws) in omega (arith, a, b, e)
