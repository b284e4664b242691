-- The partition counts of a job's topics.
use Rattle.std.proofs.Common.{◌≡◌, ℕ, zero, suc, ◌+◌, ◌<◌, ◌≤◌, List, [], ◌∷◌, ◌++◌, length, map, get_or, Bool, true, false, cond, ◌||◌, refl, ap, ◌∙◌, arith, length-append, negsuc}
use Rattle.std.specs.Prelude.{ℤ, pos, Option, Some, None, fold, slice_index, nat_lt, codes}
use Rattle.ks_plan.specs.declared.fault.TopoFault.TheVariants.{TooMany}
use Rattle.std.specs.Option.{option_or}
use Rattle.std.proofs.lemmas.List.{length-map}
use Rattle.std.proofs.lemmas.Bool.{ltb-false}
use Rattle.std.specs.Ordering.{nat_cmp, is_lt}
use Rattle.std.specs.Cmp.Lexicographic.{slice_cmp}
use Rattle.ks_plan.specs.declared.node.Topic.TheVariants.{Input as InputTopic}
use Rattle.ks_plan.specs.Drafts.{Topics, Name, DraftView}
use Rattle.ks_plan.specs.Plan.{Plan, natural, with_topic, sorted_topics, plan_of}
use Rattle.ks_plan.specs.Layout.{at, up_to, by_node, through_topics, changelogs_of, input_topics, topics_of, parts_of_topic}
use Rattle.ks_plan.specs.Infos.{info_of, topic_infos}
use Rattle.ks_plan.specs.declared.node.TopicInfo.{TopicInfo}
use Rattle.ks_plan.specs.Faults.{first_fitting, is_past, any_past, size_lines, parts_fault, fault_of}
use Rattle.ks_plan.specs.declared.draft.TopicDraft.{TopicDraft}
use Rattle.ks_topo.proofs.Sorting.{past_sorted}
use Rattle.ks_law_inputs.specs.Records.{HavePartitions}
use Rattle.ks_topo.specs.Places.{spread_in, HasPlaces}
use Rattle.ks_plan.proofs.TopicLists.{length_up_to, get_mapped, topic_is}

none_of : {A : Type 0} (a b : Option A) → option_or a b ≡ None → (a ≡ None) × (b ≡ None)
none_of None b e = (refl, e)
none_of (Some x) b e = absurd (cc)

no_line : {A : Type 0} (b : Bool) (x : A) (r : Option A) → cond b (Some x) r ≡ None → (b ≡ false) × (r ≡ None)
no_line true x r e = absurd (cc)
no_line false x r e = (refl, e)

neither : (a b : Bool) → a || b ≡ false → (a ≡ false) × (b ≡ false)
neither true b e = absurd (cc)
neither false b e = (refl, e)

-- ---- sorted topics
with_length : (ys : Topics) (x : Name × TopicDraft) → length (with_topic ys x) ≡ suc (length ys)
with_length [] x = refl
with_length (y ∷ ys) x = by (is_lt (slice_cmp nat_cmp x.0 y.0)) (with_length ys x)
  where
    by : (b : Bool) → length (with_topic ys x) ≡ suc (length ys) → length (cond b (x ∷ y ∷ ys) (y ∷ with_topic ys x)) ≡ suc (suc (length ys))
    by true e = refl
    by false e = ap suc e

sorted_length_from : (ys ts : Topics) → length (fold with_topic ys ts) ≡ length ys + length ts
sorted_length_from ys [] = omega arith
sorted_length_from ys (t ∷ ts) = let e = sorted_length_from (with_topic ys t) ts in let f = with_length ys t in omega arith

have_with : (ys : Topics) (x : Name × TopicDraft) → HavePartitions ys → 1 ≤ natural x.1.parts → HavePartitions (with_topic ys x)
have_with [] x h e = (e, tt)
have_with (y ∷ ys) x h e = by (is_lt (slice_cmp nat_cmp x.0 y.0)) (have_with ys x h.1 e)
  where
    by : (b : Bool) → HavePartitions (with_topic ys x) → HavePartitions (cond b (x ∷ y ∷ ys) (y ∷ with_topic ys x))
    by true g = (e, h)
    by false g = (h.0, g)

have_sorted : (ys ts : Topics) → HavePartitions ys → HavePartitions ts → HavePartitions (fold with_topic ys ts)
have_sorted ys [] h g = h
have_sorted ys (t ∷ ts) h g = have_sorted (with_topic ys t) ts (have_with ys t h g.0) g.1

-- ---- counts
pub record IsCount (n : ℕ) : Type 0 where
  pub some : 1 ≤ n
  pub most : n ≤ 64

not_past : (z : ℤ) → is_past z ≡ false → natural z ≤ 64
not_past (pos n) e = ltb-false 64 n e
not_past (negsuc n) e = omega arith

count_at : (ts : Topics) (i : ℕ) → HavePartitions ts → any_past ts ≡ false → i < length ts → IsCount (get_or (map (λ (x : Name × TopicDraft). natural x.1.parts) ts) i 0)
count_at [] i h e l = absurd (omega arith)
count_at (t ∷ ts) zero h e l = record { some = h.0; most = not_past t.1.parts (neither (is_past t.1.parts) (any_past ts) e).0 }
count_at (t ∷ ts) (suc i) h e l = count_at ts i h.1 (neither (is_past t.1.parts) (any_past ts) e).1 (omega arith)

pub counts_length : (d : DraftView) → length (plan_of d).counts ≡ length d.topics
counts_length d = let e = sorted_length_from [] d.topics in let f = length-map (sorted_topics d) (λ (x : Name × TopicDraft). natural x.1.parts) in omega arith

pub plan_count : (d : DraftView) (i : ℕ) → fault_of d ≡ None → HavePartitions d.topics → i < length (plan_of d).counts → IsCount (at (plan_of d).counts i)
plan_count d i e h l =
    let sizes = (none_of (first_fitting (size_lines d)) (parts_fault d) e).0 in
    let topics = no_line (nat_lt 64 (length d.topics)) (TooMany (codes "topics") 64) ((first_fitting ((any_past d.topics, TooMany (codes "partitions") 64) ∷ (nat_lt 64 (length d.nodes), TooMany (codes "nodes") 64) ∷ []))) sizes in
    let past = no_line (any_past d.topics) (TooMany (codes "partitions") 64) (first_fitting ((nat_lt 64 (length d.nodes), TooMany (codes "nodes") 64) ∷ [])) topics.1 in
    count_at (sorted_topics d) i (have_sorted [] d.topics tt h) (past_sorted d.topics past.0) (omega (arith, l, counts_length d, sorted_length_from [] d.topics))

topics_length : (p : Plan) → length p.counts ≤ length (topics_of p)
topics_length p = omega (
  arith,
  length-append (input_topics p ++ by_node through_topics 0 p.kinds) (by_node changelogs_of 0 p.kinds),
  length-append (input_topics p) (by_node through_topics 0 p.kinds),
  length-map (up_to (length p.counts)) InputTopic,
  length_up_to (length p.counts),
)

pub part_count : (p : Plan) (i : ℕ) → i < length p.counts → slice_index (map (parts_of_topic p) (topics_of p)) i ≡ at p.counts i
part_count p i l =
    get_mapped (parts_of_topic p) (topics_of p) i (InputTopic 0) 0 (omega (arith, topics_length p)) ∙ ap (parts_of_topic p) (topic_is p i l)

pub have_places : (d : DraftView) (topic : ℕ) → fault_of d ≡ None → HavePartitions d.topics → topic < length (plan_of d).counts → HasPlaces (plan_of d) topic
have_places d topic e h l =
    let p = plan_of d in
    let count = plan_count d topic e h l in
    let is : (spread_in p topic).parts ≡ at p.counts topic = ap (parts_of_topic p) (topic_is p topic l) in
    record {
      within = omega (arith, l, topics_length p);
      some = omega (arith, is, count.some);
      most = omega (arith, is, count.most);
    }

-- the counts that a topology shows
map_map : {A B C : Type 0} (f : B → C) (g : A → B) (xs : List A) → map f (map g xs) ≡ map (λ x. f (g x)) xs
map_map f g [] = refl
map_map f g (x ∷ xs) = ap (λ l. f (g x) ∷ l) (map_map f g xs)

pub shown_counts : (d : DraftView) → map (λ (i : TopicInfo). i.parts) (topic_infos d) ≡ map (parts_of_topic (plan_of d)) (topics_of (plan_of d))
shown_counts d = map_map (λ (i : TopicInfo). i.parts) (info_of d) (topics_of (plan_of d))
