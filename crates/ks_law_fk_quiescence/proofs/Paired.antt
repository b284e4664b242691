-- A join's protocol with results that keep both rows: its result, joined, is the join's. So a waiting response is known by its row.
use Rattle.std.proofs.Common.{◌≡◌, ℕ, Bool, true, false, cond, List, [], ◌∷◌, ◌++◌, Option, Some, None, fold, refl, sym, ap, ◌∙◌, ◌⊎◌, inl, inr, ⊎_elim, nat_eq}
use Rattle.std.specs.Prelude.{option_and_then}
use Rattle.std.specs.Option.{option_or}
use Rattle.ks_law_quiescence.specs.ForeignJoin.{Protocol, Subscription, Response, Event, Join, with_at, same_key, apply, key_of, sent_to_key, direct, now_had, answer, answer_to, accept, subscription_comes, response_comes, happens, nothing_yet, run_of}
use Rattle.ks_law_quiescence.specs.ForeignJoin.Subscription.{Forget, ForgetAndAnswer, Ask}
use Rattle.ks_law_quiescence.specs.ForeignJoin.Event.{LeftChanges, RightChanges, SubscriptionComes, ResponseComes}
use Rattle.ks_law_fk_quiescence.specs.Joins.{last_with}

module _ {K X Y Z : Type 0} (join : Protocol K X Y Z) where
  abbrev pub Pair : Type 0
  Pair = X × Option Y

  abbrev pub pairs : Protocol K X Y Pair
  pairs = record {
    alike = join.alike;
    foreign_key = join.foreign_key;
    hash = join.hash;
    part = join.part;
    joined = λ v y. Some (v, y);
  }

  abbrev pub of_pair : Pair → Option Z
  of_pair e = join.joined e.0 e.1

  abbrev pub as_joined : Join K X Y Pair → Join K X Y Z
  as_joined st = record {
    row = st.row;
    result = option_and_then of_pair st.result;
    had = st.had;
    right = st.right;
    stored = st.stored;
    subscriptions = st.subscriptions;
    responses = st.responses;
  }

  -- ---- each event's parts are the same
  key_same : (w : Option X) → key_of pairs w ≡ key_of join w
  key_same None = refl
  key_same (Some v) = refl

  sent_same : (old w : Option X) (b : K) → sent_to_key pairs old w b ≡ sent_to_key join old w b
  sent_same None None b = refl
  sent_same None (Some v) b = refl
  sent_same (Some u) None b = refl
  sent_same (Some u) (Some v) b = refl

  had_same : (w : Option X) (had : List X) → now_had w had ≡ now_had w had
  had_same None had = refl
  had_same (Some v) had = refl

  answer_same : (k : Option ℕ) (y : Option Y) → answer k y ≡ answer k y
  answer_same None y = refl
  answer_same (Some h) y = refl

  answer_to_same : (s : Subscription) (y : Option Y) → answer_to s y ≡ answer_to s y
  answer_to_same Forget y = refl
  answer_to_same ForgetAndAnswer y = refl
  answer_to_same (Ask h) y = refl

  either : (t : Bool) (a b : Option Pair) → option_and_then of_pair (cond t a b) ≡ cond t (option_and_then of_pair a) (option_and_then of_pair b)
  either true a b = refl
  either false a b = refl

  direct_same : (old w : Option X) (result : Option Pair) → option_and_then of_pair (direct pairs old w result) ≡ direct join old w (option_and_then of_pair result)
  direct_same None None result = refl
  direct_same (Some u) None result = either (same_key join.alike (join.foreign_key u) None) None result
  direct_same None (Some v) result = either (same_key join.alike (join.foreign_key v) None) (Some (v, None)) result
  direct_same (Some u) (Some v) result = either (same_key join.alike (join.foreign_key v) None) (Some (v, None)) result

  accept_same : (row : Option X) (result : Option Pair) (r : Response Y) → option_and_then of_pair (accept pairs row result r) ≡ accept join row (option_and_then of_pair result) r
  accept_same None result r = either (same_key nat_eq None r.hash) None result
  accept_same (Some v) result r = either (same_key nat_eq (Some (join.hash v)) r.hash) (Some (v, r.row)) result

  next_same : (st : Join K X Y Pair) (e : Event K X Y) → as_joined (happens pairs st e) ≡ happens join (as_joined st) e
  next_same st (LeftChanges w) = λ i. record {
    row = w;
    result = direct_same st.row w st.result i;
    had = had_same w st.had i;
    right = st.right;
    stored = st.stored;
    subscriptions = λ b. st.subscriptions b ++ sent_same st.row w b i;
    responses = st.responses;
  }
  next_same st (RightChanges b y) = λ i. record {
    row = st.row;
    result = option_and_then of_pair st.result;
    had = st.had;
    right = with_at join.alike st.right b y;
    stored = st.stored;
    subscriptions = st.subscriptions;
    responses = with_at nat_eq st.responses (join.part b) (st.responses (join.part b) ++ answer_same (st.stored b) y i);
  }
  next_same st (SubscriptionComes b) = by_list (st.subscriptions b)
    where
      by_list : (ss : List Subscription) → as_joined (subscription_comes pairs st b ss) ≡ subscription_comes join (as_joined st) b ss
      by_list [] = refl
      by_list (s ∷ rest) = λ i. record {
        row = st.row;
        result = option_and_then of_pair st.result;
        had = st.had;
        right = st.right;
        stored = with_at join.alike st.stored b (apply (st.stored b) s);
        subscriptions = with_at join.alike st.subscriptions b rest;
        responses = with_at nat_eq st.responses (join.part b) (st.responses (join.part b) ++ answer_to_same s (st.right b) i);
      }
  next_same st (ResponseComes j) = by_list (st.responses j)
    where
      by_list : (rs : List (Response Y)) → as_joined (response_comes pairs st j rs) ≡ response_comes join (as_joined st) j rs
      by_list [] = refl
      by_list (r ∷ rest) = λ i. record {
        row = st.row;
        result = accept_same st.row st.result r i;
        had = st.had;
        right = st.right;
        stored = st.stored;
        subscriptions = st.subscriptions;
        responses = with_at nat_eq st.responses j rest;
      }

  run_from : (es : List (Event K X Y)) (st : Join K X Y Pair) → as_joined (fold (happens pairs) st es) ≡ fold (happens join) (as_joined st) es
  run_from [] st = refl
  run_from (e ∷ es) st = run_from es (happens pairs st e) ∙ ap (λ j. fold (happens join) j es) (next_same st e)

  pub run_same : (es : List (Event K X Y)) → as_joined (run_of pairs es) ≡ run_of join es
  run_same es = run_from es (nothing_yet)

  -- ---- what is left of a list of responses: the last with the row's hash, or the result as it was
  pub answers_last : (v : X) (rs : List (Response Y)) (result w : Option Pair) → fold (accept pairs (Some v)) result rs ≡ w →
      ((y : Option Y) × (last_with (join.hash v) rs ≡ Some y) × (w ≡ Some (v, y))) ⊎ ((last_with (join.hash v) rs ≡ None) × (w ≡ result))
  answers_last v [] result w e = inr (refl, sym e)
  answers_last v (r ∷ rs) result w e = ⊎_elim
      (λ (m : (y : Option Y) × (last_with (join.hash v) rs ≡ Some y) × (w ≡ Some (v, y))). inl (m.0, ap (λ l. option_or l (cond (same_key nat_eq (Some (join.hash v)) r.hash) (Some r.row) None)) m.1, m.2))
      (λ (m : (last_with (join.hash v) rs ≡ None) × (w ≡ accept pairs (Some v) result r)). here (same_key nat_eq (Some (join.hash v)) r.hash) refl m.0 m.1)
      (answers_last v rs (accept pairs (Some v) result r) w e)
    where
      here : (t : Bool) → same_key nat_eq (Some (join.hash v)) r.hash ≡ t → last_with (join.hash v) rs ≡ None → w ≡ accept pairs (Some v) result r →
          ((y : Option Y) × (last_with (join.hash v) (r ∷ rs) ≡ Some y) × (w ≡ Some (v, y))) ⊎ ((last_with (join.hash v) (r ∷ rs) ≡ None) × (w ≡ result))
      here true t m f = inl (r.row, ap (λ l. option_or l (cond (same_key nat_eq (Some (join.hash v)) r.hash) (Some r.row) None)) m ∙ ap (λ b. cond b (Some r.row) None) t, f ∙ ap (λ b. cond b (Some (v, r.row)) result) t)
      here false t m f = inr (ap (λ l. option_or l (cond (same_key nat_eq (Some (join.hash v)) r.hash) (Some r.row) None)) m ∙ ap (λ b. cond b (Some r.row) None) t, f ∙ ap (λ b. cond b (Some (v, r.row)) result) t)
