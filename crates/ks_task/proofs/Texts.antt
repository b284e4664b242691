-- The topics between the sides of a join on a foreign key stand at their numbers.
use Rattle.std.proofs.Common.{◌≡◌, ℕ, zero, suc, ◌+◌, Bool, true, false, cond, List, [], ◌∷◌, ◌++◌, Some, refl, sym, ap, subst, ◌∙◌, arith, inl, inr, ◌⊎◌}
use Rattle.std.specs.Prelude.{slice_get}
use Rattle.std.proofs.lemmas.Bool.{true≢false}
use Rattle.ks_expr.specs.declared.terms.JoinKind.{JoinKind}
use Rattle.ks_expr.specs.declared.terms.Fk.{Fk}
use Rattle.ks_expr.specs.Terms.{Set}
use Rattle.ks_plan.specs.Plan.{Plan, Kind}
use Rattle.ks_plan.specs.Plan.Kind.{ForeignKeyJoin}
use Rattle.ks_plan.specs.declared.node.Topic.{Topic}
use Rattle.ks_plan.specs.declared.node.Topic.TheVariants.{Subscriptions, Responses}
use Rattle.ks_plan.specs.Layout.{same_topic, place_of, topics_of, topic_at, number_of, input_topics, by_node, through_topics, changelogs_of}
use Rattle.ks_def_tasks.specs.Collision.{In}
use Rattle.ks_def_tasks.proofs.Names.{topic-is, topic_itself}

found : (t : Topic) (us : List Topic) → In t us → slice_get us (place_of us t) ≡ Some t
found t [] h = absurd h
found t (u ∷ us) h = by (same_topic u t) refl h (λ g. found t us g)
  where
    by : (b : Bool) → same_topic u t ≡ b → (t ≡ u) ⊎ In t us → (In t us → slice_get us (place_of us t) ≡ Some t) → slice_get (u ∷ us) (cond b 0 (suc (place_of us t))) ≡ Some t
    by true is g f = ap (λ (v : Topic). Some v) (topic-is u t is)
    by false is (inl e) f = absurd (true≢false (sym (topic_itself t) ∙ ap (λ v. same_topic v t) e ∙ is))
    by false is (inr g) f = f g

in_left : (t : Topic) (xs ys : List Topic) → In t xs → In t (xs ++ ys)
in_left t [] ys h = absurd h
in_left t (x ∷ xs) ys (inl e) = inl e
in_left t (x ∷ xs) ys (inr h) = inr (in_left t xs ys h)

in_right : (t : Topic) (xs ys : List Topic) → In t ys → In t (xs ++ ys)
in_right t [] ys h = h
in_right t (x ∷ xs) ys h = inr (in_right t xs ys h)

in_node : (f : ℕ → Kind → List Topic) (t : Topic) (m : ℕ) (ks : List Kind) (i : ℕ) (k : Kind) → slice_get ks i ≡ Some k → In t (f (m + i) k) → In t (by_node f m ks)
in_node f t m [] i k e h = absurd cc
in_node f t m (x ∷ ks) zero k e h =
    let is : k ≡ x = cc in
    let z : m + 0 ≡ m = omega arith in
    in_left t (f m x) (by_node f (suc m) ks) (subst (λ (y : Kind). In t (f m y)) is (subst (λ j. In t (f j k)) z h))
in_node f t m (x ∷ ks) (suc i) k e h =
    let z : m + suc i ≡ suc m + i = omega arith in
    in_right t (f m x) (by_node f (suc m) ks) (in_node f t (suc m) ks i k e (subst (λ j. In t (f j k)) z h))

there : (p : Plan) (n : ℕ) (k : Kind) (t : Topic) → slice_get p.kinds n ≡ Some k → In t (through_topics n k) → topic_at p (number_of p t) ≡ Some t
there p n k t e h =
    let z : n ≡ 0 + n = omega arith in
    found t (topics_of p) (in_left t (input_topics p ++ by_node through_topics 0 p.kinds) (by_node changelogs_of 0 p.kinds)
    (in_right t (input_topics p) (by_node through_topics 0 p.kinds) (in_node through_topics t 0 p.kinds n k e (subst (λ j. In t (through_topics j k)) z h))))

pub subscriptions_there : (p : Plan) (n l r : ℕ) (fk : Fk) (kind : JoinKind) (set : Set) → slice_get p.kinds n ≡ Some (ForeignKeyJoin l r fk kind set) → topic_at p (number_of p (Subscriptions n)) ≡ Some (Subscriptions n)
subscriptions_there p n l r fk kind set e = there p n (ForeignKeyJoin l r fk kind set) (Subscriptions n) e (inl refl)

pub responses_there : (p : Plan) (n l r : ℕ) (fk : Fk) (kind : JoinKind) (set : Set) → slice_get p.kinds n ≡ Some (ForeignKeyJoin l r fk kind set) → topic_at p (number_of p (Responses n)) ≡ Some (Responses n)
responses_there p n l r fk kind set e = there p n (ForeignKeyJoin l r fk kind set) (Responses n) e (inr (inl refl))
