-- What holds of a foreign-key join in each state, for one left key.
use Rattle.std.proofs.Common.{◌≡◌, ◌≢◌, ℕ, Bool, true, false, cond, ◌||◌, List, [], ◌∷◌, ◌++◌, Option, Some, None, fold, refl, sym, ap, ap₂, subst, ◌∙◌, ◌⊎◌, inl, inr, ⊎_elim, nat_eq, Decides, ne_eqb}
use Rattle.std.specs.Ordering.{is_eq}
use Rattle.std.specs.Cmp.{tied_itself}
use Rattle.std.specs.Cmp.Lexicographic.{nat_list_cmp_total}
use Rattle.std.specs.FinMap.{slice_cmp-IsAntisymmetric, nat_cmp-IsAntisymmetric}
use Rattle.ks_expr.specs.Eval.{same_bytes}
use Rattle.ks_query.specs.Streams.{Key}
use Rattle.ks_def_runs.proofs.Tables.{equal}
use Rattle.std.proofs.lemmas.Bool.{cases_eq, or_left, or_right}
use Rattle.std.proofs.lemmas.Bool.Decides.{Decides-eqb}
use Rattle.std.proofs.lemmas.List.Sums.{fold-append}
use Rattle.ks_def_tasks.specs.Collision.{In}
use Rattle.ks_law_quiescence.specs.ForeignJoin.{Protocol, Subscription, Response, Event, Join, with_at, same_key, apply, key_of, hash_of, sent_to_key, direct, now_had, answer, answer_to, accept, subscription_comes, response_comes, happens, nothing_yet, run_of, right_of, query, wanted, NoCollision}
use Rattle.ks_law_quiescence.specs.ForeignJoin.Subscription.{Forget, ForgetAndAnswer, Ask}
use Rattle.ks_law_quiescence.specs.ForeignJoin.Event.{LeftChanges, RightChanges, SubscriptionComes, ResponseComes}

pub either_same : {I : Type 0} (alike : I → I → Bool) → ((a b : I) → Decides (alike a b) (a ≡ b)) → (a b : I) → (a ≡ b) ⊎ (a ≢ b)
either_same alike d a b = elim (alike a b) as (λ t. alike a b ≡ t → (a ≡ b) ⊎ (a ≢ b)) [
  | true ↦ λ e. inl ((d a b).0 e)
  | false ↦ λ e. inr (λ is. let f = (d a b).1 is in cc)
] refl

differ : {I : Type 0} (alike : I → I → Bool) → ((a b : I) → Decides (alike a b) (a ≡ b)) → (a b : I) → a ≢ b → alike a b ≡ false
differ alike d a b ne = elim (alike a b) as (λ t. alike a b ≡ t → t ≡ false) [
  | true ↦ λ e. absurd (ne ((d a b).0 e))
  | false ↦ λ e. refl
] refl

pub same_key-is : {I : Type 0} (alike : I → I → Bool) → ((a b : I) → Decides (alike a b) (a ≡ b)) → (a b : Option I) → same_key alike a b ≡ true → a ≡ b
same_key-is alike d None None e = refl
same_key-is alike d None (Some b) e = cc
same_key-is alike d (Some a) None e = cc
same_key-is alike d (Some a) (Some b) e = ap (λ n. Some n) ((d a b).0 e)

pub with_at-same : {I A : Type 0} (alike : I → I → Bool) → ((a b : I) → Decides (alike a b) (a ≡ b)) → (f : I → A) (b : I) (x : A) (c : I) → c ≡ b → with_at alike f b x c ≡ x
with_at-same alike d f b x c e = ap (λ t. cond t x (f c)) ((d c b).1 e)

pub with_at-other : {I A : Type 0} (alike : I → I → Bool) → ((a b : I) → Decides (alike a b) (a ≡ b)) → (f : I → A) (b : I) (x : A) (c : I) → c ≢ b → with_at alike f b x c ≡ f c
with_at-other alike d f b x c ne = ap (λ t. cond t x (f c)) (differ alike d c b ne)

-- what holds of the old values and of the new one holds of all
at_each : {I A : Type 0} (alike : I → I → Bool) → ((a b : I) → Decides (alike a b) (a ≡ b)) → (P : I → A → Type 0) (f : I → A) (b : I) (x : A) → P b x → ((c : I) → P c (f c)) → (c : I) → P c (with_at alike f b x c)
at_each alike d P f b x here others c = ⊎_elim
    (λ (e : c ≡ b). subst (P c) (sym (with_at-same alike d f b x c e)) (subst (λ d. P d x) (sym e) here))
    (λ ne. subst (P c) (sym (with_at-other alike d f b x c ne)) (others c)) (either_same alike d c b)

abbrev has_answer : List Subscription → Bool
has_answer [] = false
has_answer (Forget ∷ ss) = has_answer ss
has_answer (ForgetAndAnswer ∷ ss) = true
has_answer (Ask h ∷ ss) = has_answer ss

has_answer-append : (xs ys : List Subscription) → has_answer (xs ++ ys) ≡ (has_answer xs || has_answer ys)
has_answer-append [] ys = refl
has_answer-append (Forget ∷ xs) ys = has_answer-append xs ys
has_answer-append (ForgetAndAnswer ∷ xs) ys = refl
has_answer-append (Ask h ∷ xs) ys = has_answer-append xs ys

abbrev no_hash : Option ℕ → Bool
no_hash None = true
no_hash (Some h) = false

abbrev has_none : {Y : Type 0} → List (Response Y) → Bool
has_none [] = false
has_none (r ∷ rs) = no_hash r.hash || has_none rs

has_none-append : {Y : Type 0} (xs ys : List (Response Y)) → has_none (xs ++ ys) ≡ (has_none xs || has_none ys)
has_none-append [] ys = refl
has_none-append (x ∷ xs) ys = elim (no_hash x.hash) as (λ b. (b || has_none (xs ++ ys)) ≡ ((b || has_none xs) || has_none ys)) [ true ↦ refl | false ↦ has_none-append xs ys ]

-- where nothing waits, P
abbrev where_empty : {A : Type 0} → List A → Type 0 → Type 0
where_empty [] P = P
where_empty (x ∷ xs) P = Unit {0}

where_pushed : {A : Type 0} (xs : List A) (x : A) (P : Type 0) → where_empty (xs ++ x ∷ []) P
where_pushed [] x P = tt
where_pushed (y ∷ ys) x P = tt

module _ {K X Y Z : Type 0} (join : Protocol K X Y Z) (decides : (a b : K) → Decides (join.alike a b) (a ≡ b)) where
  -- h is the hash of a row that the key has had, whose foreign key is b
  abbrev HadHash : List X → K → ℕ → Type 0
  HadHash had b h = (v : X) × (In v had) × (join.hash v ≡ h) × (join.foreign_key v ≡ Some b)

  abbrev AskedHad : List X → K → List Subscription → Type 0
  AskedHad had b [] = Unit {0}
  AskedHad had b (Forget ∷ ss) = AskedHad had b ss
  AskedHad had b (ForgetAndAnswer ∷ ss) = AskedHad had b ss
  AskedHad had b (Ask h ∷ ss) = HadHash had b h × AskedHad had b ss

  abbrev HashHad : List X → ℕ → Option ℕ → Type 0
  HashHad had j None = Unit {0}
  HashHad had j (Some h) = (b : K) × (join.part b ≡ j) × HadHash had b h

  abbrev AnsweredHad : List X → ℕ → List (Response Y) → Type 0
  AnsweredHad had j [] = Unit {0}
  AnsweredHad had j (r ∷ rs) = HashHad had j r.hash × AnsweredHad had j rs

  abbrev Settled : Join K X Y Z → Option X → Option K → Type 0
  Settled st None k = (st.result ≡ None) ⊎ (((b : K) × (has_answer (st.subscriptions b) ≡ true)) ⊎ ((j : ℕ) × (has_none (st.responses j) ≡ true)))
  Settled st (Some v) None = st.result ≡ join.joined v None
  Settled st (Some v) (Some a) = where_empty (st.subscriptions a) (fold (accept join (Some v)) st.result (st.responses (join.part a)) ≡ join.joined v (st.right a))

  pub record Sound (st : Join K X Y Z) : Type 0 where
    pub final : (b : K) → fold apply (st.stored b) (st.subscriptions b) ≡ wanted join st.row b
    pub present : (v : X) → st.row ≡ Some v → In v st.had
    pub stored_had : (b : K) (h : ℕ) → st.stored b ≡ Some h → HadHash st.had b h
    pub asked_had : (b : K) → AskedHad st.had b (st.subscriptions b)
    pub answered_had : (j : ℕ) → AnsweredHad st.had j (st.responses j)
    pub settled : Settled st st.row (key_of join st.row)

  Sound-nothing : Sound (nothing_yet)
  Sound-nothing = record {
    final = λ b. refl;
    present = λ v e. cc;
    stored_had = λ b h e. cc;
    asked_had = λ b. tt;
    answered_had = λ j. tt;
    settled = inl refl;
  }

  -- ---- a row that is had later, lists that grow
  had-more : (w : Option X) (had : List X) (v : X) → In v had → In v (now_had w had)
  had-more None had v i = i
  had-more (Some w) had v i = inr i

  HadHash-more : (w : Option X) (had : List X) (b : K) (h : ℕ) → HadHash had b h → HadHash (now_had w had) b h
  HadHash-more w had b h i = (i.0, had-more w had i.0 i.1, i.2, i.3)

  AskedHad-more : (w : Option X) (had : List X) (b : K) (ss : List Subscription) → AskedHad had b ss → AskedHad (now_had w had) b ss
  AskedHad-more w had b [] i = tt
  AskedHad-more w had b (Forget ∷ ss) i = AskedHad-more w had b ss i
  AskedHad-more w had b (ForgetAndAnswer ∷ ss) i = AskedHad-more w had b ss i
  AskedHad-more w had b (Ask h ∷ ss) i = (HadHash-more w had b h i.0, AskedHad-more w had b ss i.1)

  HashHad-more : (w : Option X) (had : List X) (j : ℕ) (h : Option ℕ) → HashHad had j h → HashHad (now_had w had) j h
  HashHad-more w had j None i = tt
  HashHad-more w had j (Some h) i = (i.0, i.1, HadHash-more w had i.0 h i.2)

  AnsweredHad-more : (w : Option X) (had : List X) (j : ℕ) (rs : List (Response Y)) → AnsweredHad had j rs → AnsweredHad (now_had w had) j rs
  AnsweredHad-more w had j [] i = tt
  AnsweredHad-more w had j (r ∷ rs) i = (HashHad-more w had j r.hash i.0, AnsweredHad-more w had j rs i.1)

  AskedHad-append : (had : List X) (b : K) (xs ys : List Subscription) → AskedHad had b xs → AskedHad had b ys → AskedHad had b (xs ++ ys)
  AskedHad-append had b [] ys i k = k
  AskedHad-append had b (Forget ∷ xs) ys i k = AskedHad-append had b xs ys i k
  AskedHad-append had b (ForgetAndAnswer ∷ xs) ys i k = AskedHad-append had b xs ys i k
  AskedHad-append had b (Ask h ∷ xs) ys i k = (i.0, AskedHad-append had b xs ys i.1 k)

  AnsweredHad-append : (had : List X) (j : ℕ) (xs ys : List (Response Y)) → AnsweredHad had j xs → AnsweredHad had j ys → AnsweredHad had j (xs ++ ys)
  AnsweredHad-append had j [] ys i k = k
  AnsweredHad-append had j (x ∷ xs) ys i k = (i.0, AnsweredHad-append had j xs ys i.1 k)

  -- ---- responses that aren't for the present row
  abbrev accepted : X → Option Z → Response Y → Option Z
  accepted v result r = accept join (Some v) result r

  -- a hash of another foreign key's row isn't that of the present row
  apart : (had : List X) → NoCollision join.hash had → (v : X) (b : K) (h : ℕ) → In v had → join.foreign_key v ≢ Some b → HadHash had b h → join.hash v ≢ h
  apart had none v b h i ne was e = ne (ap join.foreign_key (none v was.0 i was.1 (e ∙ sym was.2)) ∙ was.3)

  ignored : (v : X) (result : Option Z) (r : Response Y) → ((h : ℕ) → r.hash ≡ Some h → join.hash v ≢ h) → accepted v result r ≡ result
  ignored v result r ne = by_hash r.hash ne
    where
      by_hash : (k : Option ℕ) → ((h : ℕ) → k ≡ Some h → join.hash v ≢ h) → cond (same_key nat_eq (Some (join.hash v)) k) (join.joined v r.row) result ≡ result
      by_hash None ne = refl
      by_hash (Some h) ne = ap (λ t. cond t (join.joined v r.row) result) (ne_eqb (join.hash v) h (ne h refl))

  taken_now : (v : X) (result : Option Z) (y : Option Y) → accepted v result (record { hash = Some (join.hash v); row = y }) ≡ join.joined v y
  taken_now v result y = ap (λ t. cond t (join.joined v y) result) ((Decides-eqb (join.hash v) (join.hash v)).1 refl)

  abbrev next : Join K X Y Z → Event K X Y → Join K X Y Z
  next st e = happens join st e

  -- ---- the left row changes
  final-left : (old w : Option X) (b : K) → fold apply (wanted join old b) (sent_to_key join old w b) ≡ wanted join w b
  final-left old None b = elim (same_key join.alike (key_of join old) (Some b)) as (λ t. fold apply (cond t (hash_of join old) None) (cond t (ForgetAndAnswer ∷ []) []) ≡ None) [ true ↦ refl | false ↦ refl ]
  final-left old (Some v) b =
      let k = same_key join.alike (key_of join old) (Some b) in
      elim (same_key join.alike (join.foreign_key v) (Some b)) as (λ u. fold apply (cond k (hash_of join old) None) (cond u (Ask (join.hash v) ∷ []) (cond k (Forget ∷ []) [])) ≡ cond u (Some (join.hash v)) None) [
        | true ↦ refl
        | false ↦ elim k as (λ t. fold apply (cond t (hash_of join old) None) (cond t (Forget ∷ []) []) ≡ None) [ true ↦ refl | false ↦ refl ]
      ]

  asked-left : (had : List X) (old w : Option X) (b : K) → AskedHad (now_had w had) b (sent_to_key join old w b)
  asked-left had old None b = elim (same_key join.alike (key_of join old) (Some b)) as (λ t. AskedHad had b (cond t (ForgetAndAnswer ∷ []) [])) [ true ↦ tt | false ↦ tt ]
  asked-left had old (Some v) b =
      let k = same_key join.alike (key_of join old) (Some b) in
      elim (same_key join.alike (join.foreign_key v) (Some b)) as (λ u. same_key join.alike (join.foreign_key v) (Some b) ≡ u → AskedHad (v ∷ had) b (cond u (Ask (join.hash v) ∷ []) (cond k (Forget ∷ []) []))) [
        | true ↦ λ e. ((v, inl refl, refl, same_key-is join.alike decides (join.foreign_key v) (Some b) e), tt)
        | false ↦ λ e. elim k as (λ t. AskedHad (v ∷ had) b (cond t (Forget ∷ []) [])) [ true ↦ tt | false ↦ tt ]
      ] refl

  settled-left : (st : Join K X Y Z) (w : Option X) → Settled (next st (LeftChanges w)) w (key_of join w)
  settled-left st None = by_key (key_of join st.row) refl
    where
      by_key : (k : Option K) → key_of join st.row ≡ k → Settled (next st (LeftChanges None)) None None
      by_key None e = inl (ap (λ k. cond (same_key join.alike k None) None st.result) e)
      by_key (Some b) e = inr (inl (
        b,
        has_answer-append (st.subscriptions b) _ ∙ or_right (has_answer (st.subscriptions b)) _
            (ap (λ k. has_answer (cond (same_key join.alike k (Some b)) (ForgetAndAnswer ∷ []) [])) e ∙ ap (λ t. has_answer (cond t (ForgetAndAnswer ∷ []) [])) ((decides b b).1 refl)),
      ))
  settled-left st (Some v) = by_key (join.foreign_key v) refl
    where
      by_key : (k : Option K) → join.foreign_key v ≡ k → Settled (next st (LeftChanges (Some v))) (Some v) k
      by_key None e = ap (λ k. cond (same_key join.alike k None) (join.joined v None) st.result) e
      by_key (Some a) e =
          let asked : sent_to_key join st.row (Some v) a ≡ Ask (join.hash v) ∷ [] =
          ap (λ k. cond (same_key join.alike k (Some a)) (Ask (join.hash v) ∷ []) (cond (same_key join.alike (key_of join st.row) (Some a)) (Forget ∷ []) [])) e
          ∙ ap (λ t. cond t (Ask (join.hash v) ∷ []) (cond (same_key join.alike (key_of join st.row) (Some a)) (Forget ∷ []) [])) ((decides a a).1 refl) in
          let P = fold (accept join (Some v)) (direct join st.row (Some v) st.result) (st.responses (join.part a)) ≡ join.joined v (st.right a) in
          subst (λ l. where_empty (st.subscriptions a ++ l) P) (sym asked) (where_pushed (st.subscriptions a) (Ask (join.hash v)) P)

  Sound-left : (st : Join K X Y Z) (w : Option X) → Sound st → Sound (next st (LeftChanges w))
  Sound-left st w h = record {
    final = λ b. fold-append apply (st.stored b) (st.subscriptions b) _ ∙ ap (λ s. fold apply s (sent_to_key join st.row w b)) (h.final b) ∙ final-left st.row w b;
    present = λ v e. present_now w v e;
    stored_had = λ b k e. HadHash-more w st.had b k (h.stored_had b k e);
    asked_had = λ b. AskedHad-append _ b (st.subscriptions b) _ (AskedHad-more w st.had b (st.subscriptions b) (h.asked_had b)) (asked-left st.had st.row w b);
    answered_had = λ j. AnsweredHad-more w st.had j (st.responses j) (h.answered_had j);
    settled = settled-left st w;
  }
    where
      present_now : (w : Option X) (v : X) → w ≡ Some v → In v (now_had w st.had)
      present_now None v e = cc
      present_now (Some x) v e = let f : v ≡ x = cc in inl f

  -- ---- the right row of the foreign key b changes
  answer-had : (st : Join K X Y Z) → Sound st → (b : K) (y : Option Y) (k : Option ℕ) → st.stored b ≡ k → AnsweredHad st.had (join.part b) (answer k y)
  answer-had st h b y None e = tt
  answer-had st h b y (Some k) e = ((b, refl, h.stored_had b k e), tt)

  -- more responses, at one right task
  none_kept : (st : Join K X Y Z) (j : ℕ) (more : List (Response Y)) (i : ℕ) → has_none (st.responses i) ≡ true → has_none (with_at nat_eq st.responses j (st.responses j ++ more) i) ≡ true
  none_kept st j more i e = ⊎_elim
      (λ (is : i ≡ j). ap has_none (with_at-same nat_eq Decides-eqb st.responses j _ i is) ∙ has_none-append (st.responses j) more ∙ or_left _ _ (ap (λ k. has_none (st.responses k)) (sym is) ∙ e))
      (λ ne. ap has_none (with_at-other nat_eq Decides-eqb st.responses j _ i ne) ∙ e) (cases_eq i j)

  -- responses that are ignored change nothing, whichever task they come from
  fold_ignored : (st : Join K X Y Z) (v : X) (j : ℕ) (more : List (Response Y)) (i : ℕ) → ((result : Option Z) → fold (accept join (Some v)) result more ≡ result) →
      fold (accept join (Some v)) st.result (with_at nat_eq st.responses j (st.responses j ++ more) i) ≡ fold (accept join (Some v)) st.result (st.responses i)
  fold_ignored st v j more i none = ⊎_elim
      (λ (is : i ≡ j). ap (fold (accept join (Some v)) st.result) (with_at-same nat_eq Decides-eqb st.responses j _ i is) ∙ fold-append _ st.result (st.responses j) more ∙ none _
      ∙ ap (λ k. fold (accept join (Some v)) st.result (st.responses k)) (sym is))
      (λ ne. ap (fold (accept join (Some v)) st.result) (with_at-other nat_eq Decides-eqb st.responses j _ i ne)) (cases_eq i j)

  answer_ignored : (had : List X) → NoCollision join.hash had → (v : X) → In v had → (b : K) → join.foreign_key v ≢ Some b → (k : Option ℕ) → ((h : ℕ) → k ≡ Some h → HadHash had b h) → (y : Option Y) (result : Option Z) →
      fold (accept join (Some v)) result (answer k y) ≡ result
  answer_ignored had none v i b ne None was y result = refl
  answer_ignored had none v i b ne (Some h) was y result = ignored v result _ (λ (n : ℕ) (e : Some h ≡ Some n) is. let f : h ≡ n = cc in apart had none v b h i ne (was h refl) (is ∙ sym f))

  wanted_now : (st : Join K X Y Z) (v : X) → st.row ≡ Some v → (a : K) → key_of join (Some v) ≡ Some a → wanted join st.row a ≡ Some (join.hash v)
  wanted_now st v e a f = ap (λ r. wanted join r a) e ∙ ap (λ k. cond (same_key join.alike k (Some a)) (Some (join.hash v)) None) f ∙ ap (λ t. cond t (Some (join.hash v)) None) ((decides a a).1 refl)

  -- where no subscription for the present foreign key waits, the present row's hash is stored there
  stored_now : (st : Join K X Y Z) → Sound st → (v : X) → st.row ≡ Some v → (a : K) → key_of join (Some v) ≡ Some a → st.subscriptions a ≡ [] → st.stored a ≡ Some (join.hash v)
  stored_now st h v e a f w = sym (ap (fold apply (st.stored a)) w) ∙ h.final a ∙ wanted_now st v e a f

  settled-right : (st : Join K X Y Z) → Sound st → NoCollision join.hash st.had → (b : K) (y : Option Y) (row : Option X) → st.row ≡ row → (k : Option K) → key_of join row ≡ k → Settled st row k → Settled (next st (RightChanges b y)) row k
  settled-right st h none b y None e k f s = ⊎_elim (λ i. inl i) (⊎_elim (λ i. inr (inl i)) (λ i. inr (inr (i.0, none_kept st (join.part b) _ i.0 i.1)))) s
  settled-right st h none b y (Some v) e None f s = s
  settled-right st h none b y (Some v) e (Some a) f s = by_waiting (st.subscriptions a) refl s
    where
      reach : List (Response Y) → Option Z
      reach rs = fold (accept join (Some v)) st.result rs

      by_waiting : (ss : List Subscription) → st.subscriptions a ≡ ss → where_empty ss (reach (st.responses (join.part a)) ≡ join.joined v (st.right a)) →
          where_empty ss (reach (with_at nat_eq st.responses (join.part b) (st.responses (join.part b) ++ answer (st.stored b) y) (join.part a)) ≡ join.joined v (with_at join.alike st.right b y a))
      by_waiting (x ∷ xs) w s = tt
      by_waiting [] w s = ⊎_elim
          (λ (is : a ≡ b).
          let kept : st.stored b ≡ Some (join.hash v) = ap st.stored (sym is) ∙ stored_now st h v e a f w in
          ap reach (with_at-same nat_eq Decides-eqb st.responses (join.part b) _ (join.part a) (ap join.part is))
          ∙ ap (λ k. reach (st.responses (join.part b) ++ answer k y)) kept
          ∙ fold-append _ st.result (st.responses (join.part b)) _ ∙ taken_now v (reach (st.responses (join.part b))) y ∙ ap (join.joined v) (sym (with_at-same join.alike decides st.right b y a is)))
          (λ ne. fold_ignored st v (join.part b) _ (join.part a) (answer_ignored st.had none v (h.present v e) b (λ g. let same : a ≡ b = cc in ne same) (st.stored b) (λ n q. h.stored_had b n q) y)
          ∙ s ∙ ap (join.joined v) (sym (with_at-other join.alike decides st.right b y a ne)))
          (either_same join.alike decides a b)

  Sound-right : (st : Join K X Y Z) (b : K) (y : Option Y) → Sound st → NoCollision join.hash st.had → Sound (next st (RightChanges b y))
  Sound-right st b y h none = record {
    final = h.final;
    present = h.present;
    stored_had = h.stored_had;
    asked_had = h.asked_had;
    answered_had = at_each nat_eq Decides-eqb (λ j rs. AnsweredHad st.had j rs) st.responses (join.part b) _ (AnsweredHad-append st.had (join.part b) (st.responses (join.part b)) _ (h.answered_had (join.part b)) (answer-had st h b y (st.stored b) refl)) h.answered_had;
    settled = settled-right st h none b y st.row refl _ refl h.settled;
  }

  -- ---- the first waiting subscription of b is taken
  asked_first : (had : List X) (b : K) (s : Subscription) (rest : List Subscription) → AskedHad had b (s ∷ rest) → ((stored : Option ℕ) (k : ℕ) → apply stored s ≡ Some k → HadHash had b k) × AskedHad had b rest
  asked_first had b Forget rest i = (λ stored k e. cc, i)
  asked_first had b ForgetAndAnswer rest i = (λ stored k e. cc, i)
  asked_first had b (Ask h) rest i = (λ stored k (e : Some h ≡ Some k). let f : h ≡ k = cc in subst (HadHash had b) f i.0, i.1)

  answer_to-had : (had : List X) (b : K) (s : Subscription) (rest : List Subscription) (y : Option Y) → AskedHad had b (s ∷ rest) → AnsweredHad had (join.part b) (answer_to s y)
  answer_to-had had b Forget rest y i = tt
  answer_to-had had b ForgetAndAnswer rest y i = (tt, tt)
  answer_to-had had b (Ask h) rest y i = ((b, refl, i.0), tt)

  answer_to_ignored : (had : List X) → NoCollision join.hash had → (v : X) → In v had → (b : K) → join.foreign_key v ≢ Some b → (s : Subscription) (rest : List Subscription) → AskedHad had b (s ∷ rest) → (y : Option Y) (result : Option Z) →
      fold (accept join (Some v)) result (answer_to s y) ≡ result
  answer_to_ignored had none v i b ne Forget rest was y result = refl
  answer_to_ignored had none v i b ne ForgetAndAnswer rest was y result = refl
  answer_to_ignored had none v i b ne (Ask h) rest was y result = ignored v result _ (λ (n : ℕ) (e : Some h ≡ Some n) is. let f : h ≡ n = cc in apart had none v b h i ne was.0 (is ∙ sym f))

  asks_now : (s : Subscription) (stored : Option ℕ) (h : ℕ) → apply stored s ≡ Some h → s ≡ Ask h
  asks_now Forget stored h e = cc
  asks_now ForgetAndAnswer stored h e = cc
  asks_now (Ask k) stored h e = cc

  first_answer : (s : Subscription) (rest : List Subscription) → has_answer (s ∷ rest) ≡ true → (s ≡ ForgetAndAnswer) ⊎ (has_answer rest ≡ true)
  first_answer Forget rest e = inr e
  first_answer ForgetAndAnswer rest e = inl refl
  first_answer (Ask h) rest e = inr e

  settled-subscription : (st : Join K X Y Z) → Sound st → NoCollision join.hash st.had → (b : K) (s : Subscription) (rest : List Subscription) → st.subscriptions b ≡ s ∷ rest →
      (row : Option X) → st.row ≡ row → (k : Option K) → key_of join row ≡ k → Settled st row k → Settled (subscription_comes join st b (s ∷ rest)) row k
  settled-subscription st h none b s rest is None e k f (inl i) = inl i
  settled-subscription st h none b s rest is None e k f (inr (inr i)) = inr (inr (i.0, none_kept st (join.part b) _ i.0 i.1))
  settled-subscription st h none b s rest is None e k f (inr (inl i)) = ⊎_elim
      (λ (same : i.0 ≡ b). ⊎_elim
      (λ (answers : s ≡ ForgetAndAnswer). inr (inr (
        join.part b,
        ap has_none (with_at-same nat_eq Decides-eqb st.responses (join.part b) _ (join.part b) refl) ∙ has_none-append (st.responses (join.part b)) _ ∙ or_right (has_none (st.responses (join.part b))) _
            (ap (λ t. has_none (answer_to t (st.right b))) answers),
      )))
      (λ later. inr (inl (b, ap has_answer (with_at-same join.alike decides st.subscriptions b rest b refl) ∙ later)))
      (first_answer s rest (ap has_answer (sym is) ∙ ap (λ c. has_answer (st.subscriptions c)) (sym same) ∙ i.1)))
      (λ ne. inr (inl (i.0, ap has_answer (with_at-other join.alike decides st.subscriptions b rest i.0 ne) ∙ i.1)))
      (either_same join.alike decides i.0 b)
  settled-subscription st h none b s rest is (Some v) e None f i = i
  settled-subscription st h none b s rest is (Some v) e (Some a) f i = ⊎_elim
      (λ (same : a ≡ b). subst (λ l. where_empty l P) (sym (with_at-same join.alike decides st.subscriptions b rest a same)) (by_rest same rest refl))
      (λ ne. subst (λ l. where_empty l P) (sym (with_at-other join.alike decides st.subscriptions b rest a ne)) (by_waiting ne (st.subscriptions a) i))
      (either_same join.alike decides a b)
    where
      reach : List (Response Y) → Option Z
      reach rs = fold (accept join (Some v)) st.result rs

      responses_then : ℕ → List (Response Y)
      responses_then = with_at nat_eq st.responses (join.part b) (st.responses (join.part b) ++ answer_to s (st.right b))

      P : Type 0
      P = fold (accept join (Some v)) st.result (with_at nat_eq st.responses (join.part b) (st.responses (join.part b) ++ answer_to s (st.right b)) (join.part a)) ≡ join.joined v (st.right a)

      by_waiting : a ≢ b → (ss : List Subscription) → where_empty ss (fold (accept join (Some v)) st.result (st.responses (join.part a)) ≡ join.joined v (st.right a)) → where_empty ss P
      by_waiting ne (x ∷ xs) i = tt
      by_waiting ne [] i = fold_ignored st v (join.part b) _ (join.part a) (answer_to_ignored st.had none v (h.present v e) b (λ g. let is : a ≡ b = cc in ne is) s rest (subst (AskedHad st.had b) is (h.asked_had b)) (st.right b)) ∙ i

      by_rest : a ≡ b → (rs : List Subscription) → rest ≡ rs → where_empty rs P
      by_rest same (x ∷ xs) r = tt
      by_rest same [] r =
          let last : apply (st.stored b) s ≡ Some (join.hash v) =
          sym (ap (λ rs. fold apply (st.stored b) (s ∷ rs)) r) ∙ sym (ap (fold apply (st.stored b)) is) ∙ h.final b ∙ ap (wanted join st.row) (sym same) ∙ wanted_now st v e a f in
          ap (fold (accept join (Some v)) st.result) (with_at-same nat_eq Decides-eqb st.responses (join.part b) _ (join.part a) (ap join.part same))
          ∙ ap (λ t. fold (accept join (Some v)) st.result (st.responses (join.part b) ++ answer_to t (st.right b))) (asks_now s (st.stored b) (join.hash v) last)
          ∙ fold-append _ st.result (st.responses (join.part b)) _ ∙ taken_now v _ (st.right b) ∙ ap (λ c. join.joined v (st.right c)) (sym same)

  Sound-subscription : (st : Join K X Y Z) (b : K) (ss : List Subscription) → st.subscriptions b ≡ ss → Sound st → NoCollision join.hash st.had → Sound (subscription_comes join st b ss)
  Sound-subscription st b [] is h none = h
  Sound-subscription st b (s ∷ rest) is h none =
      let asked = subst (AskedHad st.had b) is (h.asked_had b) in
      let first = asked_first st.had b s rest asked in
      record {
        final = λ c. ⊎_elim
            (λ (e : c ≡ b). ap₂ (fold apply) (with_at-same join.alike decides st.stored b _ c e) (with_at-same join.alike decides st.subscriptions b rest c e) ∙ sym (ap (fold apply (st.stored b)) is) ∙ h.final b ∙ ap (wanted join st.row) (sym e))
            (λ ne. ap₂ (fold apply) (with_at-other join.alike decides st.stored b _ c ne) (with_at-other join.alike decides st.subscriptions b rest c ne) ∙ h.final c)
            (either_same join.alike decides c b);
        present = h.present;
        stored_had = at_each join.alike decides (λ c k. (n : ℕ) → k ≡ Some n → HadHash st.had c n) st.stored b _ (λ n e. first.0 (st.stored b) n e) h.stored_had;
        asked_had = at_each join.alike decides (AskedHad st.had) st.subscriptions b rest first.1 h.asked_had;
        answered_had = at_each nat_eq Decides-eqb (AnsweredHad st.had) st.responses (join.part b) _ (AnsweredHad-append st.had (join.part b) (st.responses (join.part b)) _ (h.answered_had (join.part b)) (answer_to-had st.had b s rest (st.right b) asked)) h.answered_had;
        settled = settled-subscription st h none b s rest is st.row refl _ refl h.settled;
      }

  -- ---- the first waiting response of the right task j is taken
  settled-response : (st : Join K X Y Z) → Sound st → NoCollision join.hash st.had → (j : ℕ) (r : Response Y) (rest : List (Response Y)) → st.responses j ≡ r ∷ rest →
      (row : Option X) → st.row ≡ row → (k : Option K) → key_of join row ≡ k → Settled st row k →
      Settled (record st { result = accept join row st.result r; responses = with_at nat_eq st.responses j rest }) row k
  settled-response st h none j r rest is None e k f i = by_hash r.hash refl i
    where
      by_hash : (n : Option ℕ) → r.hash ≡ n → Settled st None k → Settled (record st { result = accept join None st.result r; responses = with_at nat_eq st.responses j rest }) None k
      by_hash None g i = inl (ap (λ n. cond (same_key nat_eq None n) None st.result) g)
      by_hash (Some n) g (inl i) = inl (ap (λ n. cond (same_key nat_eq None n) None st.result) g ∙ i)
      by_hash (Some n) g (inr (inl i)) = inr (inl i)
      by_hash (Some n) g (inr (inr i)) = inr (inr (⊎_elim
          (λ (same : i.0 ≡ j). (j, ap has_none (with_at-same nat_eq Decides-eqb st.responses j rest j refl) ∙ (sym (ap (λ n. no_hash n || has_none rest) g) ∙ sym (ap has_none is) ∙ ap (λ c. has_none (st.responses c)) (sym same) ∙ i.1)))
          (λ ne. (i.0, ap has_none (with_at-other nat_eq Decides-eqb st.responses j rest i.0 ne) ∙ i.1))
          (cases_eq i.0 j)))
  settled-response st h none j r rest is (Some v) e None f i = ignored v st.result r (λ n g. let was = subst (HashHad st.had j) g (subst (AnsweredHad st.had j) is (h.answered_had j)).0 in
      apart st.had none v was.0 n (h.present v e) (λ k. cc) was.2) ∙ i
  settled-response st h none j r rest is (Some v) e (Some a) f i = by_waiting (st.subscriptions a) i
    where
      by_waiting : (ss : List Subscription) → where_empty ss (fold (accept join (Some v)) st.result (st.responses (join.part a)) ≡ join.joined v (st.right a)) →
          where_empty ss (fold (accept join (Some v)) (accept join (Some v) st.result r) (with_at nat_eq st.responses j rest (join.part a)) ≡ join.joined v (st.right a))
      by_waiting (x ∷ xs) i = tt
      by_waiting [] i = ⊎_elim
          (λ (same : join.part a ≡ j). ap (fold (accept join (Some v)) (accepted v st.result r)) (with_at-same nat_eq Decides-eqb st.responses j rest (join.part a) same)
          ∙ sym (ap (fold (accept join (Some v)) st.result) (ap st.responses same ∙ is)) ∙ i)
          (λ ne. ap₂ (fold (accept join (Some v)))
          (ignored v st.result r (λ n g. let was = subst (HashHad st.had j) g (subst (AnsweredHad st.had j) is (h.answered_had j)).0 in
          apart st.had none v was.0 n (h.present v e) (λ k. let same : a ≡ was.0 = cc in ne (ap join.part same ∙ was.1)) was.2))
          (with_at-other nat_eq Decides-eqb st.responses j rest (join.part a) ne) ∙ i)
          (cases_eq (join.part a) j)

  Sound-response : (st : Join K X Y Z) (j : ℕ) (rs : List (Response Y)) → st.responses j ≡ rs → Sound st → NoCollision join.hash st.had → Sound (response_comes join st j rs)
  Sound-response st j [] is h none = h
  Sound-response st j (r ∷ rest) is h none = record {
    final = h.final;
    present = h.present;
    stored_had = h.stored_had;
    asked_had = h.asked_had;
    answered_had = at_each nat_eq Decides-eqb (AnsweredHad st.had) st.responses j rest (subst (AnsweredHad st.had j) is (h.answered_had j)).1 h.answered_had;
    settled = settled-response st h none j r rest is st.row refl _ refl h.settled;
  }

  -- ---- whole runs
  NoCollision-before : (st : Join K X Y Z) (e : Event K X Y) → NoCollision join.hash (next st e).had → NoCollision join.hash st.had
  NoCollision-before st (LeftChanges w) none = λ a b i j e. none a b (had-more w st.had a i) (had-more w st.had b j) e
  NoCollision-before st (RightChanges b y) none = none
  NoCollision-before st (SubscriptionComes b) none = unchanged (st.subscriptions b) none
    where
      unchanged : (ss : List Subscription) → NoCollision join.hash (subscription_comes join st b ss).had → NoCollision join.hash st.had
      unchanged [] none = none
      unchanged (x ∷ xs) none = none
  NoCollision-before st (ResponseComes j) none = unchanged (st.responses j) none
    where
      unchanged : (rs : List (Response Y)) → NoCollision join.hash (response_comes join st j rs).had → NoCollision join.hash st.had
      unchanged [] none = none
      unchanged (x ∷ xs) none = none

  Sound-next : (st : Join K X Y Z) (e : Event K X Y) → Sound st → NoCollision join.hash st.had → Sound (next st e)
  Sound-next st (LeftChanges w) h none = Sound-left st w h
  Sound-next st (RightChanges b y) h none = Sound-right st b y h none
  Sound-next st (SubscriptionComes b) h none = Sound-subscription st b (st.subscriptions b) refl h none
  Sound-next st (ResponseComes j) h none = Sound-response st j (st.responses j) refl h none

  Sound-fold : (es : List (Event K X Y)) (st : Join K X Y Z) → (NoCollision join.hash st.had → Sound st) → NoCollision join.hash (fold next st es).had → Sound (fold next st es)
  Sound-fold [] st h none = h none
  Sound-fold (e ∷ es) st h none = Sound-fold es (next st e) (λ n. let before = NoCollision-before st e n in Sound-next st e (h before) before) none

  pub Sound-run : (es : List (Event K X Y)) → NoCollision join.hash (run_of join es).had → Sound (run_of join es)
  Sound-run es none = Sound-fold es (nothing_yet) (λ n. Sound-nothing) none

  -- ---- at rest
  pub stored_at_rest : (st : Join K X Y Z) → Sound st → ((b : K) → st.subscriptions b ≡ []) → (b : K) → st.stored b ≡ wanted join st.row b
  stored_at_rest st h rest b = sym (ap (fold apply (st.stored b)) (rest b)) ∙ h.final b

  pub result_at_rest : (st : Join K X Y Z) → Sound st → ((b : K) → st.subscriptions b ≡ []) → ((j : ℕ) → st.responses j ≡ []) → st.result ≡ query join st.row st.right
  result_at_rest st h subscriptions responses = by_row st.row (key_of join st.row) refl h.settled
    where
      by_row : (row : Option X) (k : Option K) → key_of join row ≡ k → Settled st row k → st.result ≡ query join row st.right
      by_row None k e (inl i) = i
      by_row None k e (inr (inl i)) = let f : false ≡ true = sym (ap has_answer (subscriptions i.0)) ∙ i.1 in cc
      by_row None k e (inr (inr i)) = let f : false ≡ true = sym (ap has_none (responses i.0)) ∙ i.1 in cc
      by_row (Some v) None e i = i ∙ ap (λ k. join.joined v (right_of st.right k)) (sym e)
      by_row (Some v) (Some a) e i =
          let now : fold (accept join (Some v)) st.result (st.responses (join.part a)) ≡ join.joined v (st.right a) =
          subst (λ ss. where_empty ss (fold (accept join (Some v)) st.result (st.responses (join.part a)) ≡ join.joined v (st.right a))) (subscriptions a) i in
          sym (ap (fold (accept join (Some v)) st.result) (responses (join.part a))) ∙ now ∙ ap (λ k. join.joined v (right_of st.right k)) (sym e)

pub keys_decided : (a b : Key) → Decides (same_bytes a b) (a ≡ b)
keys_decided a b = (
  λ e. slice_cmp-IsAntisymmetric nat_cmp-IsAntisymmetric a b (equal _ e),
  λ e. subst (λ c. same_bytes a c ≡ true) e (ap is_eq (tied_itself nat_list_cmp_total a)),
)
