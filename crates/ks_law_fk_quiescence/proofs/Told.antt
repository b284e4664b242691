-- What each state of a join's protocol tells: whose hashes are stored and wait, and that a row that went is told.
use Rattle.std.proofs.Common.{◌≡◌, ℕ, true, false, cond, List, [], ◌∷◌, ◌++◌, Option, Some, None, fold, refl, sym, ap, subst, ◌∙◌, ◌⊎◌, inl, inr, ⊎_elim, nat_eq, Decides}
use Rattle.std.proofs.lemmas.Bool.Decides.{Decides-eqb}
use Rattle.std.proofs.lemmas.Bool.{cases_eq}
use Rattle.ks_def_tasks.specs.Collision.{In}
use Rattle.ks_law_quiescence.specs.ForeignJoin.{Protocol, Subscription, Response, Event, Join, with_at, same_key, apply, key_of, sent_to_key, now_had, answer, answer_to, accept, subscription_comes, response_comes, happens, nothing_yet, run_of}
use Rattle.ks_law_quiescence.specs.ForeignJoin.Subscription.{Forget, ForgetAndAnswer, Ask}
use Rattle.ks_law_quiescence.specs.ForeignJoin.Event.{LeftChanges, RightChanges, SubscriptionComes, ResponseComes}
use Rattle.ks_law_quiescence.proofs.OneKey.{either_same, same_key-is, with_at-same, with_at-other}

-- ---- members of lists
pub in_append : {A : Type 0} (v : A) (xs ys : List A) → In v (xs ++ ys) → In v xs ⊎ In v ys
in_append v [] ys i = inr i
in_append v (x ∷ xs) ys i = ⊎_elim (λ (e : v ≡ x). inl (inl e)) (λ j. ⊎_elim (λ k. inl (inr k)) (λ k. inr k) (in_append v xs ys j)) i

pub in_left : {A : Type 0} (v : A) (xs ys : List A) → In v xs → In v (xs ++ ys)
in_left v [] ys i = absurd i
in_left v (x ∷ xs) ys i = ⊎_elim (λ (e : v ≡ x). inl e) (λ j. inr (in_left v xs ys j)) i

pub in_right : {A : Type 0} (v : A) (xs ys : List A) → In v ys → In v (xs ++ ys)
in_right v [] ys i = i
in_right v (x ∷ xs) ys i = inr (in_right v xs ys i)

module _ {K X Y Z : Type 0} (join : Protocol K X Y Z) (decides : (a b : K) → Decides (join.alike a b) (a ≡ b)) where
  abbrev pub HadHash : List X → K → ℕ → Type 0
  HadHash had b h = (v : X) × (In v had) × (join.hash v ≡ h) × (join.foreign_key v ≡ Some b)

  abbrev pub response : Option ℕ → Option Y → Response Y
  response h y = record { hash = h; row = y }

  abbrev pub Gone : Join K X Y Z → Type 0
  Gone st = (st.result ≡ None) ⊎ (((b : K) × In ForgetAndAnswer (st.subscriptions b)) ⊎ ((j : ℕ) × In (response None None) (st.responses j)))

  pub record Told (st : Join K X Y Z) : Type 0 where
    pub stored : (b : K) (h : ℕ) → st.stored b ≡ Some h → HadHash st.had b h
    pub asked : (b : K) (h : ℕ) → In (Ask h) (st.subscriptions b) → HadHash st.had b h
    pub answered : (j h : ℕ) (y : Option Y) → In (response (Some h) y) (st.responses j) → (b : K) × (join.part b ≡ j) × HadHash st.had b h
    pub gone : st.row ≡ None → Gone st

  told_nothing : Told (nothing_yet)
  told_nothing = record { stored = λ b h e. cc; asked = λ b h i. absurd i; answered = λ j h y i. absurd i; gone = λ e. inl refl }

  had_more : (w : Option X) (had : List X) (v : X) → In v had → In v (now_had w had)
  had_more None had v i = i
  had_more (Some w) had v i = inr i

  hash_more : (w : Option X) (had : List X) (b : K) (h : ℕ) → HadHash had b h → HadHash (now_had w had) b h
  hash_more w had b h i = (i.0, had_more w had i.0 i.1, i.2, i.3)

  -- ---- the left row changes
  asked_now : (had : List X) (old w : Option X) (b : K) (h : ℕ) → In (Ask h) (sent_to_key join old w b) → HadHash (now_had w had) b h
  asked_now had old None b h = elim (same_key join.alike (key_of join old) (Some b)) as (λ t. In (Ask h) (cond t (ForgetAndAnswer ∷ []) []) → HadHash had b h) [
    | true ↦ λ i. ⊎_elim (λ (e : Ask h ≡ ForgetAndAnswer). cc) (λ j. absurd j) i
    | false ↦ λ i. absurd i
  ]
  asked_now had old (Some v) b h =
      let k = same_key join.alike (key_of join old) (Some b) in
      (elim (same_key join.alike (join.foreign_key v) (Some b)) as (λ u. same_key join.alike (join.foreign_key v) (Some b) ≡ u → In (Ask h) (cond u (Ask (join.hash v) ∷ []) (cond k (Forget ∷ []) [])) → HadHash (v ∷ had) b h) [
        | true ↦ λ u i. ⊎_elim (λ (e : Ask h ≡ Ask (join.hash v)). let same : h ≡ join.hash v = cc in (v, inl refl, sym same, same_key-is join.alike decides (join.foreign_key v) (Some b) u)) (λ j. absurd j) i
        | false ↦ λ u. elim k as (λ t. In (Ask h) (cond t (Forget ∷ []) []) → HadHash (v ∷ had) b h) [
          | true ↦ λ i. ⊎_elim (λ (e : Ask h ≡ Forget). cc) (λ j. absurd j) i
          | false ↦ λ i. absurd i
        ]
      ]) refl

  gone_left : (st : Join K X Y Z) (w : Option X) → w ≡ None → Gone (happens join st (LeftChanges w))
  gone_left st (Some w) e = cc
  gone_left st None e = by_key (key_of join st.row) refl
    where
      by_key : (k : Option K) → key_of join st.row ≡ k → Gone (happens join st (LeftChanges None))
      by_key None f = inl (ap (λ k. cond (same_key join.alike k None) None st.result) f)
      by_key (Some b) f =
          let sent : sent_to_key join st.row None b ≡ ForgetAndAnswer ∷ [] =
          ap (λ k. cond (same_key join.alike k (Some b)) (ForgetAndAnswer ∷ []) []) f ∙ ap (λ t. cond t (ForgetAndAnswer ∷ []) []) ((decides b b).1 refl) in
          inr (inl (b, in_right ForgetAndAnswer (st.subscriptions b) _ (subst (In ForgetAndAnswer) (sym sent) (inl refl))))

  told_left : (st : Join K X Y Z) (w : Option X) → Told st → Told (happens join st (LeftChanges w))
  told_left st w t = record {
    stored = λ b h e. hash_more w st.had b h (t.stored b h e);
    asked = λ b h i. ⊎_elim (λ m. hash_more w st.had b h (t.asked b h m)) (λ m. asked_now st.had st.row w b h m) (in_append (Ask h) (st.subscriptions b) (sent_to_key join st.row w b) i);
    answered = λ j h y i. let was = t.answered j h y i in (was.0, was.1, hash_more w st.had was.0 h was.2);
    gone = λ e. gone_left st w e;
  }

  -- ---- more responses of one task
  more_answered : (st : Join K X Y Z) (c : K) (more : List (Response Y)) → Told st → ((h : ℕ) (y : Option Y) → In (response (Some h) y) more → HadHash st.had c h) → (j h : ℕ) (y : Option Y) →
      In (response (Some h) y) (with_at nat_eq st.responses (join.part c) (st.responses (join.part c) ++ more) j) → (b : K) × (join.part b ≡ j) × HadHash st.had b h
  more_answered st c more t new j h y i = ⊎_elim
      (λ (is : j ≡ join.part c).
      let there : In (response (Some h) y) (st.responses (join.part c) ++ more) = subst (In (response (Some h) y)) (with_at-same nat_eq Decides-eqb st.responses (join.part c) (st.responses (join.part c) ++ more) j is) i in
      ⊎_elim (λ m. let was = t.answered (join.part c) h y m in (was.0, was.1 ∙ sym is, was.2)) (λ m. (c, sym is, new h y m)) (in_append (response (Some h) y) (st.responses (join.part c)) more there))
      (λ ne. t.answered j h y (subst (In (response (Some h) y)) (with_at-other nat_eq Decides-eqb st.responses (join.part c) (st.responses (join.part c) ++ more) j ne) i))
      (cases_eq j (join.part c))

  none_kept : (st : Join K X Y Z) (c : ℕ) (more : List (Response Y)) (j : ℕ) → In (response None None) (st.responses j) → In (response None None) (with_at nat_eq st.responses c (st.responses c ++ more) j)
  none_kept st c more j i = ⊎_elim
      (λ (is : j ≡ c). subst (In (response None None)) (sym (with_at-same nat_eq Decides-eqb st.responses c (st.responses c ++ more) j is)) (in_left (response None None) (st.responses c) more (subst (λ n. In (response None None) (st.responses n)) is i)))
      (λ ne. subst (In (response None None)) (sym (with_at-other nat_eq Decides-eqb st.responses c (st.responses c ++ more) j ne)) i)
      (cases_eq j c)

  answer_new : (k : Option ℕ) (w : Option Y) (h : ℕ) (y : Option Y) → In (response (Some h) y) (answer k w) → k ≡ Some h
  answer_new None w h y i = absurd i
  answer_new (Some g) w h y i = ⊎_elim (λ (e : response (Some h) y ≡ response (Some g) w). sym (ap (λ (r : Response Y). r.hash) e)) (λ m. absurd m) i

  told_right : (st : Join K X Y Z) (b : K) (w : Option Y) → Told st → Told (happens join st (RightChanges b w))
  told_right st b w t = record {
    stored = t.stored;
    asked = t.asked;
    answered = λ j h y i. more_answered st b (answer (st.stored b) w) t (λ g z m. t.stored b g (answer_new (st.stored b) w g z m)) j h y i;
    gone = λ e. ⊎_elim (λ m. inl m) (⊎_elim (λ m. inr (inl m)) (λ m. inr (inr (m.0, none_kept st (join.part b) (answer (st.stored b) w) m.0 m.1)))) (t.gone e);
  }

  -- ---- the first waiting subscription of b
  applied : (s : Subscription) (old : Option ℕ) (h : ℕ) → apply old s ≡ Some h → s ≡ Ask h
  applied Forget old h e = cc
  applied ForgetAndAnswer old h e = cc
  applied (Ask k) old h e = cc

  answers_new : (s : Subscription) (w : Option Y) (h : ℕ) (y : Option Y) → In (response (Some h) y) (answer_to s w) → s ≡ Ask h
  answers_new Forget w h y i = absurd i
  answers_new ForgetAndAnswer w h y i = ⊎_elim (λ (e : response (Some h) y ≡ response None None). let f : Some h ≡ None = ap (λ (r : Response Y). r.hash) e in cc) (λ m. absurd m) i
  answers_new (Ask g) w h y i = ⊎_elim (λ (e : response (Some h) y ≡ response (Some g) w). let f : Some h ≡ Some g = ap (λ (r : Response Y). r.hash) e in let same : g ≡ h = cc in ap Ask same) (λ m. absurd m) i

  told_subscription : (st : Join K X Y Z) (b : K) (ss : List Subscription) → st.subscriptions b ≡ ss → Told st → Told (subscription_comes join st b ss)
  told_subscription st b [] is t = t
  told_subscription st b (s ∷ rest) is t = record {
    stored = λ c h. ⊎_elim
        (λ (e : c ≡ b) f. first c h e (applied s (st.stored b) h (sym (with_at-same join.alike decides st.stored b (apply (st.stored b) s) c e) ∙ f)))
        (λ ne f. t.stored c h (sym (with_at-other join.alike decides st.stored b (apply (st.stored b) s) c ne) ∙ f))
        (either_same join.alike decides c b);
    asked = λ c h. ⊎_elim
        (λ (e : c ≡ b) i. subst (λ d. HadHash st.had d h) (sym e) (t.asked b h (subst (In (Ask h)) (sym is) (inr (subst (In (Ask h)) (with_at-same join.alike decides st.subscriptions b rest c e) i)))))
        (λ ne i. t.asked c h (subst (In (Ask h)) (with_at-other join.alike decides st.subscriptions b rest c ne) i))
        (either_same join.alike decides c b);
    answered = λ j h y i. more_answered st b (answer_to s (st.right b)) t (λ g z m. first b g refl (answers_new s (st.right b) g z m)) j h y i;
    gone = λ e. ⊎_elim (λ m. inl m) (⊎_elim (λ m. asked_gone m.0 m.1) (λ m. inr (inr (m.0, none_kept st (join.part b) (answer_to s (st.right b)) m.0 m.1)))) (t.gone e);
  }
    where
      first : (c : K) (h : ℕ) → c ≡ b → s ≡ Ask h → HadHash st.had c h
      first c h e f = subst (λ d. HadHash st.had d h) (sym e) (t.asked b h (subst (In (Ask h)) (sym is) (inl (sym f))))

      asked_gone : (c : K) → In ForgetAndAnswer (st.subscriptions c) → Gone (subscription_comes join st b (s ∷ rest))
      asked_gone c i = ⊎_elim
          (λ (e : c ≡ b). ⊎_elim
          (λ (f : ForgetAndAnswer ≡ s). inr (inr (
            join.part b,
            subst (In (response None None)) (sym (with_at-same nat_eq Decides-eqb st.responses (join.part b) (st.responses (join.part b) ++ answer_to s (st.right b)) (join.part b) refl))
                (in_right (response None None) (st.responses (join.part b)) (answer_to s (st.right b)) (subst (λ z. In (response None None) (answer_to z (st.right b))) f (inl refl))),
          )))
          (λ m. inr (inl (b, subst (In ForgetAndAnswer) (sym (with_at-same join.alike decides st.subscriptions b rest b refl)) m)))
          (subst (In ForgetAndAnswer) (ap st.subscriptions e ∙ is) i))
          (λ ne. inr (inl (c, subst (In ForgetAndAnswer) (sym (with_at-other join.alike decides st.subscriptions b rest c ne)) i)))
          (either_same join.alike decides c b)

  -- ---- the first waiting response of the right task j
  told_response : (st : Join K X Y Z) (j : ℕ) (rs : List (Response Y)) → st.responses j ≡ rs → Told st → Told (response_comes join st j rs)
  told_response st j [] is t = t
  told_response st j (r ∷ rest) is t = record {
    stored = t.stored;
    asked = t.asked;
    answered = λ i h y. ⊎_elim
        (λ (e : i ≡ j) m. let was = t.answered j h y (subst (In (response (Some h) y)) (sym is) (inr (subst (In (response (Some h) y)) (with_at-same nat_eq Decides-eqb st.responses j rest i e) m))) in (was.0, was.1 ∙ sym e, was.2))
        (λ ne m. t.answered i h y (subst (In (response (Some h) y)) (with_at-other nat_eq Decides-eqb st.responses j rest i ne) m))
        (cases_eq i j);
    gone = λ e. ⊎_elim (λ m. inl (nothing_accepted e m)) (⊎_elim (λ m. inr (inl m)) (λ m. answered_gone e m.0 m.1)) (t.gone e);
  }
    where
      nothing_accepted : st.row ≡ None → st.result ≡ None → accept join st.row st.result r ≡ None
      nothing_accepted e f = ap (λ w. accept join w st.result r) e ∙ elim (same_key nat_eq None r.hash) as (λ t. cond t None st.result ≡ None) [ true ↦ refl | false ↦ f ]

      answered_gone : st.row ≡ None → (i : ℕ) → In (response None None) (st.responses i) → Gone (response_comes join st j (r ∷ rest))
      answered_gone e i m = ⊎_elim
          (λ (f : i ≡ j). ⊎_elim
          (λ (g : response None None ≡ r). inl (ap (λ w. accept join w st.result r) e ∙ ap (accept join None st.result) (sym g)))
          (λ n. inr (inr (j, subst (In (response None None)) (sym (with_at-same nat_eq Decides-eqb st.responses j rest j refl)) n)))
          (subst (In (response None None)) (ap st.responses f ∙ is) m))
          (λ ne. inr (inr (i, subst (In (response None None)) (sym (with_at-other nat_eq Decides-eqb st.responses j rest i ne)) m)))
          (cases_eq i j)

  told_next : (st : Join K X Y Z) (e : Event K X Y) → Told st → Told (happens join st e)
  told_next st (LeftChanges w) t = told_left st w t
  told_next st (RightChanges b y) t = told_right st b y t
  told_next st (SubscriptionComes b) t = told_subscription st b (st.subscriptions b) refl t
  told_next st (ResponseComes j) t = told_response st j (st.responses j) refl t

  told_from : (es : List (Event K X Y)) (st : Join K X Y Z) → Told st → Told (fold (happens join) st es)
  told_from [] st t = t
  told_from (e ∷ es) st t = told_from es (happens join st e) (told_next st e t)

  pub told_run : (es : List (Event K X Y)) → Told (run_of join es)
  told_run es = told_from es (nothing_yet) told_nothing
