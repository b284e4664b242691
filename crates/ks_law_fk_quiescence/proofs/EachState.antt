-- Joins on a foreign key in every state.
use Rattle.std.proofs.Common.{◌≡◌, ◌≢◌, ℕ, true, false, cond, List, [], ◌∷◌, Option, Some, None, fold, refl, sym, ap, ap₂, subst, ◌∙◌, ◌⊎◌, inl, inr, ⊎_elim, nat_eq}
use Rattle.std.specs.Prelude.{option_and_then}
use Rattle.std.specs.Option.{option_or}
use Rattle.std.proofs.lemmas.Bool.Decides.{Decides-eqb}
use Rattle.ks_record.specs.declared.record.TaskId.{TaskId}
use Rattle.ks_expr.specs.declared.terms.JoinKind.{JoinKind}
use Rattle.ks_expr.specs.Terms.{Set}
use Rattle.ks_expr.specs.Eval.{Row, same_bytes, joined}
use Rattle.ks_expr.specs.declared.terms.Fk.{Fk}
use Rattle.ks_plan.specs.declared.node.Topic.TheVariants.{Subscriptions, Responses}
use Rattle.ks_plan.specs.Plan.{Plan}
use Rattle.ks_plan.specs.Plan.Kind.{ForeignKeyJoin}
use Rattle.ks_query.specs.Streams.{Key, Input}
use Rattle.ks_def_tasks.specs.Messages.{Place, Message, Rules, same_option}
use Rattle.ks_def_tasks.specs.Messages.Message.{Asked, Answered}
use Rattle.ks_def_tasks.specs.Collision.{In, NoCollision}
use Rattle.ks_def_tasks.specs.Rest.{home}
use Rattle.ks_def_tasks.proofs.Same.{bytes-is, option-is}
use Rattle.ks_law_quiescence.specs.States.{State, state_of}
use Rattle.ks_law_topology.specs.Taken.{messages}
use Rattle.ks_law_quiescence.specs.ForeignJoin.{Subscription, Response, Join, apply, same_key, run_of}
use Rattle.ks_law_quiescence.specs.ForeignJoin as join
use Rattle.ks_law_quiescence.specs.ForeignJoin.Subscription.{Forget, ForgetAndAnswer, Ask}
use Rattle.ks_law_topology.proofs.Each.{Each, each_parts}
use Rattle.ks_law_topology.proofs.Fits.{Fits}
use Rattle.ks_law_topology.proofs.Mixed.{Stands_at}
use Rattle.ks_law_quiescence.proofs.OneKey.{Sound, Sound-run, keys_decided}
use Rattle.ks_law_topology.proofs.Placed.{FitsAt, NamesHome}
use Rattle.ks_law_fk_quiescence.specs.AtRest.{hash_for}
use Rattle.ks_law_fk_quiescence.specs.Joins.{IsAskedAt, IsAnsweredAt, HashesAreHad, HashesFollow, OthersAreForgotten, PresentIsAnswered, ResultsFollow, GoneIsTold, AloneIsJoined, HasHad, last, last_with, key_join_in}
use Rattle.ks_law_fk_quiescence.specs.KeyJoins.{JoinAt, join_at, protocol_of, KeyJoin, named_at}
use Rattle.ks_law_fk_quiescence.proofs.Waits.{Waits, IsAsked, IsAnswered, waits_run, asking_spread}
use Rattle.ks_law_fk_quiescence.proofs.Parts.{same_itself}
use Rattle.ks_law_fk_quiescence.proofs.Simulated.{see}
use Rattle.ks_law_fk_quiescence.proofs.Seeing.{Sees, IsSound, sees_run, sees_sound, had_apart}
use Rattle.ks_law_fk_quiescence.proofs.JoinsRest.{wanted_is, none_here}
use Rattle.ks_law_fk_quiescence.proofs.Told.{Told, HadHash, told_run}
use Rattle.ks_law_fk_quiescence.proofs.Paired.{pairs, as_joined, of_pair, run_same, answers_last}
use Rattle.ks_law_fk_quiescence.proofs.Settling.{settled_with, settled_without}
use Rattle.ks_expr.specs.Keys.{fk_of}
use Rattle.ks_wire.specs.declared.values.Subscriber.{Subscriber}
use Rattle.ks_def_runs.specs.FinMap as fin

-- ---- the last subscription and the hash after all
none_last : (s : Option ℕ) (ss : List Subscription) → fold apply s ss ≡ None → ((last ss ≡ Some Forget) ⊎ (last ss ≡ Some ForgetAndAnswer)) ⊎ ((ss ≡ []) × (s ≡ None))
none_last s [] e = inr (refl, e)
none_last s (Forget ∷ []) e = inl (inl refl)
none_last s (ForgetAndAnswer ∷ []) e = inl (inr refl)
none_last s (Ask h ∷ []) e = cc
none_last s (x ∷ y ∷ ys) e = ⊎_elim
    (λ m. inl (⊎_elim (λ (f : last (y ∷ ys) ≡ Some Forget). inl (ap (λ l. option_or l (Some x)) f)) (λ (f : last (y ∷ ys) ≡ Some ForgetAndAnswer). inr (ap (λ l. option_or l (Some x)) f)) m))
    (λ (m : (y ∷ ys ≡ []) × (apply s x ≡ None)). let f = m.0 in cc)
    (none_last (apply s x) (y ∷ ys) e)

some_last : (h : ℕ) (s : Option ℕ) (ss : List Subscription) → fold apply s ss ≡ Some h → (last ss ≡ Some (Ask h)) ⊎ ((ss ≡ []) × (s ≡ Some h))
some_last h s [] e = inr (refl, e)
some_last h s (Forget ∷ []) e = cc
some_last h s (ForgetAndAnswer ∷ []) e = cc
some_last h s (Ask k ∷ []) e = let same : k ≡ h = cc in inl (ap (λ n. Some (Ask n)) same)
some_last h s (x ∷ y ∷ ys) e = ⊎_elim
    (λ (f : last (y ∷ ys) ≡ Some (Ask h)). inl (ap (λ l. option_or l (Some x)) f))
    (λ (m : (y ∷ ys ≡ []) × (apply s x ≡ Some h)). let f = m.0 in cc)
    (some_last h (apply s x) (y ∷ ys) e)

-- a response that is the last with a hash is one with it
last_in : {Y : Type 0} (h : ℕ) (rs : List (Response Y)) (y : Option Y) → last_with h rs ≡ Some y → In (record { hash = Some h; row = y }) rs
last_in h [] y e = cc
last_in {Y} h (r ∷ rs) y e = by_rest (λ z f. last_in h rs z f) (last_with h rs) refl e
  where
    by_hash : (k : Option ℕ) → r.hash ≡ k → cond (same_key nat_eq (Some h) k) (Some r.row) None ≡ Some y → In (record { hash = Some h; row = y }) (r ∷ rs)
    by_hash None f g = cc
    by_hash (Some k) f g = (elim (nat_eq h k) as (λ b. nat_eq h k ≡ b → cond b (Some r.row) None ≡ Some y → In (record { hash = Some h; row = y }) (r ∷ rs)) [
      | true ↦ λ b g.
          let same : Some h ≡ r.hash = ap (λ n. Some n) ((Decides-eqb h k).0 b) ∙ sym f in
          let row : y ≡ r.row = cc in
          inl (ap₂ (λ (m : Option ℕ) (z : Option Y). record { hash = m; row = z }) same row)
      | false ↦ λ b g. cc
    ]) refl g

    by_rest : ((z : Option Y) → last_with h rs ≡ Some z → In (record { hash = Some h; row = z }) rs) → (w : Option (Option Y)) → last_with h rs ≡ w → option_or w (cond (same_key nat_eq (Some h) r.hash) (Some r.row) None) ≡ Some y → In (record { hash = Some h; row = y }) (r ∷ rs)
    by_rest more None f g = by_hash r.hash refl g
    by_rest more (Some z) f g = inr (more y (f ∙ g))

each_in : (P : Message → Type 0) (ms : List Message) → Each P ms → (m : Message) → In m ms → P m
each_in P [] e m i = absurd i
each_in P (x ∷ xs) e m i =
    let parts = each_parts P x xs e in
    ⊎_elim (λ (is : m ≡ x). subst P (sym is) parts.0) (λ more. each_in P xs parts.1 m more) i

module _ (rules : Rules) (p : Plan) (fits : Fits p) (a l r : ℕ) (fk : Fk) (kind : JoinKind) (set : Set) (stands : Stands_at a (ForeignKeyJoin l r fk kind set) 0 p.kinds) (records : List Input) (schedule : List (Option TaskId × Place)) where
  abbrev site : JoinAt
  site = join_at rules p a l r fk kind set

  abbrev st : State
  st = state_of rules p records schedule

  -- ---- what waits
  module _ (s : Option TaskId) (i : ℕ) where
    abbrev waits : Waits rules p fits a l r fk kind set stands st
    waits = waits_run rules p fits a l r fk kind set stands records schedule

    asked_there : (m : Message) → IsAsked rules p fits a l r fk kind set stands s m → FitsAt rules p (record { topic = Subscriptions a; part = i }) m → NamesHome rules p (Subscriptions a) m → IsAskedAt site s i m
    asked_there (Asked b k x) h f g = record { sender = h.0; part = f ∙ ap (rules.part b) (asking_spread rules p fits a l r fk kind set stands); asks = h.1; names = g }
    asked_there m h f g = absurd h

    answered_there : (m : Message) → IsAnswered rules p fits a l r fk kind set stands s m → FitsAt rules p (record { topic = Responses a; part = i }) m → IsAnsweredAt site s i m
    answered_there (Answered k y) h f = record { sender = h.0; part = f; answers = h.1 }
    answered_there m h f = absurd h

    pub asked_stands : (m : Message) → In m (messages (st.waiting s (record { topic = Subscriptions a; part = i }))) → IsAskedAt site s i m
    asked_stands m e =
        let ms = messages (st.waiting s (record { topic = Subscriptions a; part = i })) in
        asked_there m (each_in (IsAsked rules p fits a l r fk kind set stands s) ms (waits.asked s i) m e) (each_in (FitsAt rules p (record { topic = Subscriptions a; part = i })) ms (waits.placed.waiting s (record { topic = Subscriptions a; part = i }) refl) m e)
        (each_in (NamesHome rules p (Subscriptions a)) ms (waits.placed.names s (record { topic = Subscriptions a; part = i }) refl) m e)

    pub answered_stands : (m : Message) → In m (messages (st.waiting s (record { topic = Responses a; part = i }))) → IsAnsweredAt site s i m
    answered_stands m e =
        let ms = messages (st.waiting s (record { topic = Responses a; part = i })) in
        answered_there m (each_in (IsAnswered rules p fits a l r fk kind set stands s) ms (waits.answered s i) m e) (each_in (FitsAt rules p (record { topic = Responses a; part = i })) ms (waits.placed.waiting s (record { topic = Responses a; part = i }) refl) m e)

  -- so does what is kept
  pub kept_stands : (u : TaskId) (b k : Key) (x : Subscriber) → fin.get ((st.stores u).hashes a b) k ≡ Some x → x.part ≡ named_at site k
  kept_stands u b k x e = (waits_run rules p fits a l r fk kind set stands records schedule).placed.stored u a b k x e

  -- ---- what a left key sees
  module _ (none : NoCollision rules p st) (k : Key) where
    abbrev sees : Sees rules p fits a l r fk kind set stands k st
    sees = sees_run rules p fits a l r fk kind set stands k records schedule

    abbrev j : KeyJoin
    j = see rules p fits a l r fk kind set stands k sees.had st

    apart : join.NoCollision rules.hash sees.had
    apart = had_apart rules p fits a l r fk kind set stands k st sees (none_here rules p fits a l r fk kind set stands records schedule none k)

    sound : IsSound rules p fits a l r fk kind set stands k j
    sound = sees_sound rules p fits a l r fk kind set stands k st sees (none_here rules p fits a l r fk kind set stands records schedule none k)

    abbrev IsTold : KeyJoin → Type 0
    IsTold j = Told (protocol_of site k) keys_decided j

    told : IsTold j
    told = subst IsTold (sym sees.is) (told_run (protocol_of site k) keys_decided sees.events)

    in_past : (b : Key) (h : ℕ) → HadHash (protocol_of site k) keys_decided j.had b h → HasHad site k (key_join_in site k st) b h
    in_past b h was = (was.0, sees.within was.0 was.1, was.2, was.3)

    pub hashes_are_had : HashesAreHad site k (key_join_in site k st)
    hashes_are_had = record {
      stored = λ b h e. in_past b h (told.stored b h e);
      asked = λ b h i. in_past b h (told.asked b h i);
      answered = λ i h y e. let was = told.answered i h y e in (was.0, was.1, in_past was.0 h was.2);
    }

    pub hashes_follow : HashesFollow site k (key_join_in site k st)
    hashes_follow b = sound.final b ∙ wanted_is rules p fits a l r fk kind set stands records schedule k j.row b

    not_wanted : (row : Option Row) (b : Key) → option_and_then (fk_of fk k) row ≢ Some b → option_and_then (hash_for rules fk b k) row ≡ None
    not_wanted None b ne = refl
    not_wanted (Some v) b ne = elim (same_option same_bytes (fk_of fk k v) (Some b)) as (λ t. same_option same_bytes (fk_of fk k v) (Some b) ≡ t → cond t (Some (rules.hash v)) None ≡ None) [
      | true ↦ λ t. absurd (ne (option-is same_bytes bytes-is (fk_of fk k v) (Some b) t))
      | false ↦ λ t. refl
    ] refl

    pub others_are_forgotten : OthersAreForgotten site k (key_join_in site k st)
    others_are_forgotten b ne = none_last (j.stored b) (j.subscriptions b) (hashes_follow b ∙ not_wanted j.row b ne)

    pub results_follow : ResultsFollow site k (key_join_in site k st)
    results_follow v c e f w = settled_with (protocol_of site k) keys_decided j v c e f w sound

    pub alone_is_joined : AloneIsJoined site k (key_join_in site k st)
    alone_is_joined v e f = settled_without (protocol_of site k) keys_decided j v e f sound

    pub gone_is_told : GoneIsTold site k (key_join_in site k st)
    gone_is_told e = told.gone e

    -- the same events, with results that keep both rows
    abbrev both : Join Key Row Row (Row × Option Row)
    both = run_of (pairs (protocol_of site k)) sees.events

    both_is : as_joined (protocol_of site k) both ≡ j
    both_is = run_same (protocol_of site k) sees.events ∙ sym sees.is

    both_apart : join.NoCollision rules.hash both.had
    both_apart = subst (join.NoCollision rules.hash) (sym (ap (λ (s : KeyJoin). s.had) both_is)) apart

    both_sound : Sound (pairs (protocol_of site k)) keys_decided both
    both_sound = Sound-run (pairs (protocol_of site k)) keys_decided sees.events both_apart

    answers_stand : (v : Row) (c : Key) → j.row ≡ Some v → fk_of fk k v ≡ Some c → j.subscriptions c ≡ [] →
        (last_with (rules.hash v) (j.responses (home rules p r c)) ≡ Some (j.right c)) ⊎ ((last_with (rules.hash v) (j.responses (home rules p r c)) ≡ None) × (j.result ≡ joined kind set (Some v) (j.right c)))
    answers_stand v c e f w =
        let row : both.row ≡ Some v = ap (λ (s : KeyJoin). s.row) both_is ∙ e in
        let subscriptions : both.subscriptions c ≡ [] = ap (λ (s : KeyJoin). s.subscriptions c) both_is ∙ w in
        let responses : j.responses (home rules p r c) ≡ both.responses (home rules p r c) = sym (ap (λ (s : KeyJoin). s.responses (home rules p r c)) both_is) in
        let right : both.right c ≡ j.right c = ap (λ (s : KeyJoin). s.right c) both_is in
        let result : j.result ≡ option_and_then (of_pair (protocol_of site k)) both.result = sym (ap (λ (s : KeyJoin). s.result) both_is) in
        let all = settled_with (pairs (protocol_of site k)) keys_decided both v c row f subscriptions both_sound in
        ⊎_elim
        (λ (m : (y : Option Row) × (last_with (rules.hash v) (both.responses (home rules p r c)) ≡ Some y) × (Some (v, both.right c) ≡ Some (v, y))).
        let pair : (v, both.right c) ≡ (v, m.0) = some_is (v, both.right c) (v, m.0) m.2 in
        let same : both.right c ≡ m.0 = ap (λ (z : Row × Option Row). z.1) pair in
        inl (ap (last_with (rules.hash v)) responses ∙ m.1 ∙ ap (λ y. Some y) (sym same ∙ right)))
        (λ (m : (last_with (rules.hash v) (both.responses (home rules p r c)) ≡ None) × (Some (v, both.right c) ≡ both.result)).
        inr (ap (last_with (rules.hash v)) responses ∙ m.0, result ∙ ap (option_and_then (of_pair (protocol_of site k))) (sym m.1) ∙ ap (joined kind set (Some v)) right))
        (answers_last (protocol_of site k) v (both.responses (home rules p r c)) both.result (Some (v, both.right c)) all)
      where
        some_is : (x y : Row × Option Row) → Some x ≡ Some y → x ≡ y
        some_is x y e = cc

    answers_alone : (v : Row) (c : Key) → j.row ≡ Some v → fk_of fk k v ≡ Some c → (i : ℕ) → i ≢ home rules p r c → last_with (rules.hash v) (j.responses i) ≡ None
    answers_alone v c e f i ne = by_last (last_with (rules.hash v) (j.responses i)) refl
      where
        by_last : (w : Option (Option Row)) → last_with (rules.hash v) (j.responses i) ≡ w → w ≡ None
        by_last None g = refl
        by_last (Some y) g =
            let was = told.answered i (rules.hash v) y (last_in (rules.hash v) (j.responses i) y g) in
            let same : was.2.0 ≡ v = apart was.2.0 v was.2.1 (sound.present v e) was.2.2 in
            let key : Some was.0 ≡ Some c = sym was.2.3 ∙ ap (fk_of fk k) same ∙ f in
            let is : was.0 ≡ c = cc in
            absurd (ne (sym was.1 ∙ ap (home rules p r) is))

    wanted_here : (v : Row) (c : Key) → j.row ≡ Some v → fk_of fk k v ≡ Some c → option_and_then (hash_for rules fk c k) j.row ≡ Some (rules.hash v)
    wanted_here v c e f = ap (option_and_then (hash_for rules fk c k)) e ∙ ap (λ n. cond (same_option same_bytes n (Some c)) (Some (rules.hash v)) None) f ∙ ap (λ b. cond b (Some (rules.hash v)) None) (same_itself c)

    pub present_is_answered : PresentIsAnswered site k (key_join_in site k st)
    present_is_answered v c e f = record {
      stands = ⊎_elim (λ m. inl m)
          (λ (m : (j.subscriptions c ≡ []) × (j.stored c ≡ Some (rules.hash v))). inr (record { none_waits = m.0; stored = m.1; answered = answers_stand v c e f m.0 }))
          (some_last (rules.hash v) (j.stored c) (j.subscriptions c) (hashes_follow c ∙ wanted_here v c e f));
      alone = answers_alone v c e f;
    }
