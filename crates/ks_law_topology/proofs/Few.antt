-- No topic and no node of a well-formed topology has more than 64 partitions.
use Rattle.std.proofs.Common.{◌≡◌, ℕ, zero, suc, ◌<◌, ◌≤◌, List, [], ◌∷◌, ◌++◌, length, map, get_or, Bool, true, false, cond, ◌||◌, refl, sym, ap, ap₂, ◌∙◌, arith, negsuc}
use Rattle.std.specs.Prelude.{ℤ, pos, Option, Some, None, fold, nat_lt, codes}
use Rattle.std.specs.Option.{option_or}
use Rattle.std.specs.Ordering.{nat_cmp, is_lt}
use Rattle.std.specs.Cmp.Lexicographic.{slice_cmp}
use Rattle.std.proofs.lemmas.Bool.{ltb-false}
use Rattle.ks_plan.specs.declared.draft.TopicDraft.{TopicDraft}
use Rattle.ks_plan.specs.declared.fault.TopoFault.TheVariants.{TooMany}
use Rattle.ks_plan.specs.declared.node.Topic.{Topic}
use Rattle.ks_plan.specs.declared.node.Topic.TheVariants.{Input, Repartition, Subscriptions, Responses, Changelog, HashChangelog}
use Rattle.ks_plan.specs.declared.node.Wiring.{Wiring}
use Rattle.ks_plan.specs.declared.node.Wiring.TheVariants as wired
use Rattle.ks_plan.specs.Drafts.{Topics, Name, DraftView}
use Rattle.ks_plan.specs.Plan.{Plan, Kind, natural, with_topic, wiring_of, sorted_topics, plan_of}
use Rattle.ks_plan.specs.Layout.{at, wired_parts, parts_of, parts_of_topic, right_of, kind_at}
use Rattle.ks_plan.specs.Faults.{first_fitting, is_past, any_past, size_lines, parts_fault}
use Rattle.ks_law_topology.specs.WellFormed.{IsWellFormed}
use Rattle.ks_law_topology.specs.Work.{HaveFewParts}

-- ---- input topics
none_of : {A : Type 0} (a b : Option A) → option_or a b ≡ None → (a ≡ None) × (b ≡ None)
none_of None b e = (refl, e)
none_of (Some x) b e = absurd (cc)

no_line : {A : Type 0} (b : Bool) (x : A) (r : Option A) → cond b (Some x) r ≡ None → (b ≡ false) × (r ≡ None)
no_line true x r e = absurd (cc)
no_line false x r e = (refl, e)

neither : (a b : Bool) → a || b ≡ false → (a ≡ false) × (b ≡ false)
neither true b e = absurd (cc)
neither false b e = (refl, e)

neither_of : (a b : Bool) → a ≡ false → b ≡ false → a || b ≡ false
neither_of a b e f = ap₂ (λ x y. x || y) e f

past_with : (ys : Topics) (x : Name × TopicDraft) → any_past ys ≡ false → is_past x.1.parts ≡ false → any_past (with_topic ys x) ≡ false
past_with [] x e f = neither_of (is_past x.1.parts) false f refl
past_with (y ∷ ys) x e f = by (is_lt (slice_cmp nat_cmp x.0 y.0)) (past_with ys x (neither (is_past y.1.parts) (any_past ys) e).1 f)
  where
    by : (b : Bool) → any_past (with_topic ys x) ≡ false → any_past (cond b (x ∷ y ∷ ys) (y ∷ with_topic ys x)) ≡ false
    by true g = neither_of (is_past x.1.parts) (is_past y.1.parts || any_past ys) f e
    by false g = neither_of (is_past y.1.parts) (any_past (with_topic ys x)) (neither (is_past y.1.parts) (any_past ys) e).0 g

past_sorted : (ys ts : Topics) → any_past ys ≡ false → any_past ts ≡ false → any_past (fold with_topic ys ts) ≡ false
past_sorted ys [] e f = e
past_sorted ys (t ∷ ts) e f =
    let both = neither (is_past t.1.parts) (any_past ts) f in
    past_sorted (with_topic ys t) ts (past_with ys t e both.0) both.1

not_past : (z : ℤ) → is_past z ≡ false → natural z ≤ 64
not_past (pos n) e = ltb-false 64 n e
not_past (negsuc n) e = omega arith

count_few : (ts : Topics) → any_past ts ≡ false → (i : ℕ) → at (map (λ (x : Name × TopicDraft). natural x.1.parts) ts) i ≤ 64
count_few [] e i = omega arith
count_few (t ∷ ts) e zero = not_past t.1.parts (neither (is_past t.1.parts) (any_past ts) e).0
count_few (t ∷ ts) e (suc i) = count_few ts (neither (is_past t.1.parts) (any_past ts) e).1 i

counts_few : (d : DraftView) → IsWellFormed d → (i : ℕ) → at (plan_of d).counts i ≤ 64
counts_few d e i =
    let sizes = (none_of (first_fitting (size_lines d)) (parts_fault d) e).0 in
    let topics = no_line (nat_lt 64 (length d.topics)) (TooMany (codes "topics") 64) (first_fitting ((any_past d.topics, TooMany (codes "partitions") 64) ∷ (nat_lt 64 (length d.nodes), TooMany (codes "nodes") 64) ∷ [])) sizes in
    let past = no_line (any_past d.topics) (TooMany (codes "partitions") 64) (first_fitting ((nat_lt 64 (length d.nodes), TooMany (codes "nodes") 64) ∷ [])) topics.1 in
    count_few (sorted_topics d) (past_sorted [] d.topics refl past.0) i

-- ---- nodes
push_few : (cs : List ℕ) (x : ℕ) → ((i : ℕ) → at cs i ≤ 64) → x ≤ 64 → (i : ℕ) → at (cs ++ x ∷ []) i ≤ 64
push_few [] x h g zero = g
push_few [] x h g (suc i) = omega arith
push_few (c ∷ cs) x h g zero = h zero
push_few (c ∷ cs) x h g (suc i) = push_few cs x (λ j. h (suc j)) g i

module _ (counts : List ℕ) (few : (t : ℕ) → at counts t ≤ 64) where
  wired_few : (cs : List ℕ) → ((i : ℕ) → at cs i ≤ 64) → (w : Wiring) → (i : ℕ) → at (wired_parts counts cs w) i ≤ 64
  wired_few cs h (wired.StreamSource t) = push_few cs (at counts t) h (few t)
  wired_few cs h (wired.TableSource t) = push_few cs (at counts t) h (few t)
  wired_few cs h (wired.StreamFilter f) = push_few cs (at cs f) h (h f)
  wired_few cs h (wired.TableFilter f) = push_few cs (at cs f) h (h f)
  wired_few cs h (wired.StreamMap f) = push_few cs (at cs f) h (h f)
  wired_few cs h (wired.TableMap f) = push_few cs (at cs f) h (h f)
  wired_few cs h (wired.KeySelected f) = push_few cs (at cs f) h (h f)
  wired_few cs h (wired.StreamAggregate f through) = push_few cs (at cs f) h (h f)
  wired_few cs h (wired.TableAggregate f) = push_few cs (at cs f) h (h f)
  wired_few cs h (wired.Windowed f through) = push_few cs (at cs f) h (h f)
  wired_few cs h (wired.KeyJoin l r) = push_few cs (at cs l) h (h l)
  wired_few cs h (wired.ForeignKeyJoin l r) = push_few cs (at cs l) h (h l)

  nodes_few : (cs : List ℕ) → ((i : ℕ) → at cs i ≤ 64) → (ks : List Kind) (i : ℕ) → at (fold (λ (xs : List ℕ) k. wired_parts counts xs (wiring_of k)) cs ks) i ≤ 64
  nodes_few cs h [] i = h i
  nodes_few cs h (k ∷ ks) i = nodes_few (wired_parts counts cs (wiring_of k)) (wired_few cs h (wiring_of k)) ks i

pub node_few : (d : DraftView) → IsWellFormed d → (n : ℕ) → parts_of (plan_of d) n ≤ 64
node_few d e n = nodes_few (plan_of d).counts (counts_few d e) [] (λ i. omega arith) (plan_of d).kinds n

pub have_few : (d : DraftView) → IsWellFormed d → HaveFewParts (plan_of d)
have_few d e (Input t) = counts_few d e t
have_few d e (Repartition n) = node_few d e n
have_few d e (Subscriptions n) = node_few d e (right_of (kind_at (plan_of d) n))
have_few d e (Responses n) = node_few d e n
have_few d e (Changelog n) = node_few d e n
have_few d e (HashChangelog n) = node_few d e (right_of (kind_at (plan_of d) n))
