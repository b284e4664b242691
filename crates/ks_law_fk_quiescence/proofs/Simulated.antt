-- Each step of the machine is none, one or two events of a left key's protocol.
use Rattle.std.proofs.Common.{◌≡◌, ℕ, ◌+◌, ◌<◌, Bool, true, false, cond, not, ◌&&◌, List, length, [], ◌∷◌, ◌++◌, Option, Some, None, fold, refl, sym, ap, ap₂, subst, ◌∙◌, nat_eq, append-nil, ◌⊎◌, inl, inr, ⊎_elim}
use Rattle.std.specs.Prelude.{option_map}
use Rattle.std.proofs.lemmas.Bool.Decides.{Decides-eqb}
use Rattle.ks_record.specs.declared.record.TaskId.{TaskId}
use Rattle.ks_record.specs.Parts.{same_task}
use Rattle.ks_expr.specs.declared.terms.JoinKind.{JoinKind}
use Rattle.ks_expr.specs.Terms.{Set}
use Rattle.ks_expr.specs.Eval.{Row, same_bytes}
use Rattle.ks_expr.specs.declared.terms.Fk.{Fk}
use Rattle.ks_plan.specs.declared.node.Topic.{Topic}
use Rattle.ks_plan.specs.declared.node.Topic.TheVariants.{Subscriptions, Responses, Changelog}
use Rattle.ks_plan.specs.Plan.{Plan, Kind}
use Rattle.ks_plan.specs.Plan.Kind.{ForeignKeyJoin}
use Rattle.ks_plan.specs.Layout.{same_topic, sub_of, spread_of_topic}
use Rattle.ks_def_runs.specs.FinMap as fin
use Rattle.ks_query.specs.Streams.{Key, StreamItem}
use Rattle.ks_def_runs.specs.Run.{same_channel, sent_to}
use Rattle.ks_def_tasks.specs.Messages.{Place, shown, Message, Item, Store, Rules, same_row, same_option, Subscription as Asking}
use Rattle.ks_def_tasks.specs.Messages.Message.{Asked, Answered}
use Rattle.ks_wire.specs.declared.values.Response.{Response as Answer}
use Rattle.ks_def_runs.specs.Bytes.{by_bytes}
use Rattle.ks_def_runs.specs.Table.{write}
use Rattle.ks_def_runs.proofs.Tables.{get-write}
use Rattle.std.specs.Cmp.Lexicographic.{nat_list_cmp_total}
use Rattle.ks_def_runs.proofs.Runs.{at_channel, same_channel_refl}
use Rattle.ks_def_tasks.specs.Collision.{past, rows_had, In}
use Rattle.ks_def_tasks.specs.Foreign.{subscriptions, answer_all, answer_to as to_answer, subscribed, respond, hash_by}
use Rattle.ks_def_tasks.specs.Step.{Arrival, Values, row_in, changed, arrived, step_key, whole_step, direct as direct_value, responded, answer_one, send_subscriptions, send_responses, olds_at, news_at, set_result, hashes_after, subscribe_at, answer_of}
use Rattle.ks_def_tasks.specs.Tasks.{arrival, machine, step, is_changelog}
use Rattle.ks_def_tasks.specs.Rest.{home}
use Rattle.ks_def_tasks.proofs.Names.{names, same_task-is, same_place-is, topic-is, topic_itself}
use Rattle.ks_law_quiescence.specs.States.{State, row_at, home_task}
use Rattle.ks_law_topology.specs.Taken.{messages}
use Rattle.ks_law_quiescence.specs.ForeignJoin.{Event, now_had, apply, accept, answer, answer_to}
use Rattle.ks_law_quiescence.specs.ForeignJoin as join
use Rattle.ks_law_topology.proofs.Each.{Each, each_parts, each_nothing, each_first, Each-map}
use Rattle.ks_law_topology.proofs.Fits.{Fits, each_at, stands_within}
use Rattle.ks_law_quiescence.proofs.Follow.{value_is}
use Rattle.ks_law_topology.proofs.Mixed.{Stands_at, picked, step_sends_own, apart_asked, apart_answered}
use Rattle.ks_law_quiescence.proofs.OneKey.{keys_decided}
use Rattle.ks_law_topology.proofs.Placed.{FitsAt, NamesHome}
use Rattle.ks_law_fk_quiescence.specs.KeyJoins.{asks, answers, asked_by, answered_to, right_task, answers_place, asking_place, key_join, JoinAt, join_at, protocol_of, KeyJoin, key_part, named_at}
use Rattle.ks_law_fk_quiescence.specs.Joins.{IsAsking, IsAnswer}
use Rattle.ks_law_fk_quiescence.proofs.Waits.{owner, left_home, beside, asking_spread, taken_by_right, asking_part, answering_part, asked_is, answered_is, Waits, IsAsked, IsAnswered, stays_unchanged}
use Rattle.ks_law_fk_quiescence.proofs.Parts.{same_itself, same_turned, one_answers, asked-append, answered-append, for_key, for_other, asked_sent, for_own, answered_sent, all_answers, NamesLeft}
use Rattle.ks_law_fk_quiescence.proofs.Steps as steps
use Rattle.ks_law_fk_quiescence.proofs.Steps.{either_same, unchanged}
use Rattle.ks_law_fk_quiescence.proofs.Assembled.{happen, both_events, left_sent, left_result, rows_change, nothing_happens, response_happens, subscription_happens, same_right, direct_shown, respond_shown, applied_is}
use Rattle.ks_law_fk_quiescence.proofs.Quiet.{no_items, quiet_values}
use Rattle.ks_law_fk_quiescence.proofs.Past.{had_before, had_after, row_written}
use Rattle.ks_wire.specs.declared.values.Subscriber.{Subscriber}
use Rattle.ks_law_topology.proofs.Entries.{each_entry}

and_true : (b : Bool) → (b && true) ≡ b
and_true true = refl
and_true false = refl

and_false : (b : Bool) → (b && false) ≡ false
and_false true = refl
and_false false = refl

-- one more row at most
had_grows : (w : Option Row) (had : List Row) (v : Row) → In v (now_had w had) → (w ≡ Some v) ⊎ In v had
had_grows None had v i = inr i
had_grows (Some u) had v i = ⊎_elim (λ (e : v ≡ u). inl (ap (λ n. Some n) (sym e))) (λ m. inr m) i

module _ (rules : Rules) (p : Plan) (fits : Fits p) (a l r : ℕ) (fk : Fk) (kind : JoinKind) (set : Set) (stands : Stands_at a (ForeignKeyJoin l r fk kind set) 0 p.kinds) where
  abbrev site : JoinAt
  site = join_at rules p a l r fk kind set

  abbrev pub see : Key → List Row → State → KeyJoin
  see k had st = key_join site k had st

  abbrev pub left_past : Key → State → List Row
  left_past k st = rows_had k (past p st l (home rules p l k))

  -- rows that were had are in the past of the left node's changelog
  abbrev pub IsPast : Key → List Row → State → Type 0
  IsPast k had st = (v : Row) → In v had → In v (left_past k st)

  pub record Step (k : Key) (had : List Row) (st next : State) : Type 0 where
    pub events : List (Event Key Row Row)
    pub then : List Row
    pub is : see k then next ≡ fold (happen site k) (see k had st) events
    pub within : IsPast k had st → IsPast k then next

  module _ (st : State) (s : Option TaskId) (q : Place) (x : Item) (rest : List Item) (waits : st.waiting s q ≡ x ∷ rest) (h : Waits rules p fits a l r fk kind set stands st) (k : Key) (had : List Row) where
    abbrev t : TaskId
    t = steps.taker_of rules p st s q x rest

    abbrev next : State
    next = steps.next rules p st s q x rest

    abbrev olds : Key → Values
    olds c = steps.olds rules p st s q x rest c

    abbrev news : Key → Values
    news c = steps.news rules p st s q x rest c

    abbrev now : Store
    now = st.stores t

    abbrev arr : Arrival
    arr = arrival p q x

    abbrev me : TaskId
    me = home_task rules p a k

    abbrev j : KeyJoin
    j = see k had st

    at_key : is_changelog q.topic ≡ false → FitsAt rules p q x.message
    at_key list = (each_parts (FitsAt rules p q) x.message (messages rest) (subst (λ l. Each (FitsAt rules p q) (messages l)) waits (h.placed.waiting s q list))).0

    abbrev kept_hash : Option Subscriber → Option ℕ
    kept_hash o = option_map (λ (w : Subscriber). w.hash) o

    -- what answers a changed right row goes to the left keys' partitions
    kept_named : (c : Key) (row : Option Row) → Each (NamesLeft site) (answer_all row (fin.entries (now.hashes a c)))
    kept_named c row = Each-map (NamesLeft site) (λ (e : Key × Subscriber). (e.0, record { hash = Some e.1.hash; right = row }, e.1.part)) (fin.entries (now.hashes a c))
        (each_entry (λ (e : Key × Subscriber). e.1.part ≡ named_at site e.0) (fin.entries (now.hashes a c)) (fin.entries_sorted (now.hashes a c))
        (λ n y e. h.placed.stored t a c n y (fin.get-entries (now.hashes a c) n ∙ e)))

    past_grows : (v : Row) → In v (left_past k st) → In v (left_past k next)
    past_grows v i = had_before k v (past p st l (home rules p l k)) _ i

    abbrev items : ℕ → Option StreamItem
    items = steps.items rules p st s q x rest

    abbrev node : Kind
    node = ForeignKeyJoin l r fk kind set

    left_before : l < a
    left_before = (beside rules p fits a l r fk kind set stands).before

    right_before : r < a
    right_before = (each_at p 0 p.kinds a (ForeignKeyJoin l r fk kind set) fits stands).1

    -- the join's own value after a step with a key
    result_value : (c : Key) → step_key x.message ≡ Some c →
        news c a ≡ cond (changed (olds c) (news c) l) (direct_value fk (Some c) kind set (row_in (olds c) l) (row_in (news c) l) (olds c a)) (responded rules kind set (row_in (news c) l) (arrived arr (Responses a)) (olds c a))
    result_value c key =
        let v = value_is rules arr items (olds c) (olds c) 0 p.kinds a (ForeignKeyJoin l r fk kind set) stands in
        let same : row_in v.0 l ≡ row_in (news c) l = ap (λ w. row_in (λ m. w) l) (v.2 l left_before) in
        v.1 ∙ ap (λ row. cond (not (same_option same_row (row_in (olds c) l) row)) (direct_value fk (step_key x.message) kind set (row_in (olds c) l) row (olds c a)) (responded rules kind set row (arrived arr (Responses a)) (olds c a))) same
        ∙ ap (λ k. cond (changed (olds c) (news c) l) (direct_value fk k kind set (row_in (olds c) l) (row_in (news c) l) (olds c a)) (responded rules kind set (row_in (news c) l) (arrived arr (Responses a)) (olds c a))) key

    -- ---- what the lists get
    asked_sends : (key : Option Key) → step_key x.message ≡ key → (i : ℕ) → picked rules p (record { topic = Subscriptions a; part = i }) (whole_step rules p now arr).sends
        ≡ picked rules p (record { topic = Subscriptions a; part = i }) (asking_part rules p a l r fk (arr.names a) now (olds_at now key) (news_at rules p arr items (olds_at now key) key) key)
    asked_sends key is i =
        step_sends_own rules p (Subscriptions a) a (apart_asked a) (ForeignKeyJoin l r fk kind set) stands now arr i
        ∙ asked_is rules p a l r fk (arr.names a) now (olds_at now (step_key x.message)) (news_at rules p arr items (olds_at now (step_key x.message)) (step_key x.message)) i (step_key x.message) (arrived arr (Subscriptions a))
        ∙ ap (λ key. picked rules p (record { topic = Subscriptions a; part = i }) (asking_part rules p a l r fk (arr.names a) now (olds_at now key) (news_at rules p arr items (olds_at now key) key) key)) is

    answered_sends : (key : Option Key) → step_key x.message ≡ key → (i : ℕ) → picked rules p (record { topic = Responses a; part = i }) (whole_step rules p now arr).sends
        ≡ picked rules p (record { topic = Responses a; part = i }) (answering_part rules p a l r fk (arr.names a) now (olds_at now key) (news_at rules p arr items (olds_at now key) key) key)
        ++ picked rules p (record { topic = Responses a; part = i }) (answer_one a now r (arrived arr (Subscriptions a)))
    answered_sends key is i =
        step_sends_own rules p (Responses a) a (apart_answered a) (ForeignKeyJoin l r fk kind set) stands now arr i
        ∙ answered_is rules p a l r fk (arr.names a) now (olds_at now (step_key x.message)) (news_at rules p arr items (olds_at now (step_key x.message)) (step_key x.message)) i (step_key x.message) (arrived arr (Subscriptions a))
        ∙ ap (λ key. picked rules p (record { topic = Responses a; part = i }) (answering_part rules p a l r fk (arr.names a) now (olds_at now key) (news_at rules p arr items (olds_at now key) key) key)
        ++ picked rules p (record { topic = Responses a; part = i }) (answer_one a now r (arrived arr (Subscriptions a)))) is

    -- ---- a record of another topic than the subscriptions'
    module _ (no_asking : same_topic q.topic (Subscriptions a) ≡ false) where
      stored_same : (b : Key) → (see k had next).stored b ≡ j.stored b
      stored_same b = ap kept_hash (steps.hash_kept rules p st s q x rest a no_asking (home_task rules p r b) b k)

      asked_grows : (key : Option Key) → step_key x.message ≡ key → (b : Key) →
          (see k had next).subscriptions b ≡ j.subscriptions b ++ cond (same_task me t) (asked_by b k (picked rules p (asking_place site b) (asking_part rules p a l r fk (arr.names a) now (olds_at now key) (news_at rules p arr items (olds_at now key) key) key))) []
      asked_grows key is b =
          steps.list_grows rules p st s q x rest (asked_by b k) (asked-append b k) refl me (Subscriptions a) (home rules p r b) refl no_asking
          ∙ ap (λ ms. j.subscriptions b ++ cond (same_task me t) (asked_by b k ms) []) (asked_sends key is (home rules p r b))

      answers_alone : (key : Option Key) → step_key x.message ≡ key → picked rules p (answers_place site k) (whole_step rules p now arr).sends
          ≡ picked rules p (answers_place site k) (answering_part rules p a l r fk (arr.names a) now (olds_at now key) (news_at rules p arr items (olds_at now key) key) key)
      answers_alone key is =
          let part = picked rules p (answers_place site k) (answering_part rules p a l r fk (arr.names a) now (olds_at now key) (news_at rules p arr items (olds_at now key) key) key) in
          answered_sends key is (home rules p a k)
          ∙ ap (λ b. part ++ picked rules p (answers_place site k) (answer_one a now r (cond b (Some x.message) None))) no_asking ∙ append-nil part

    -- ---- a record of neither of the join's topics
    module _ (no_asking : same_topic q.topic (Subscriptions a) ≡ false) (no_answer : same_topic q.topic (Responses a) ≡ false) where
      answered_grows : (key : Option Key) → step_key x.message ≡ key → (i : ℕ) →
          (see k had next).responses i ≡ j.responses i ++ cond (same_task (right_task site i) t) (answered_to k (picked rules p (answers_place site k) (answering_part rules p a l r fk (arr.names a) now (olds_at now key) (news_at rules p arr items (olds_at now key) key) key))) []
      answered_grows key is i =
          steps.list_grows rules p st s q x rest (answered_to k) (answered-append k) refl (right_task site i) (Responses a) (home rules p a k) refl no_answer
          ∙ ap (λ ms. j.responses i ++ cond (same_task (right_task site i) t) (answered_to k ms) []) (answers_alone no_asking key is)

      without_key : step_key x.message ≡ None → Step k had st next
      without_key none = record {
        events = [];
        then = had;
        is = rows_change site k false false j (see k had next) None k None
            (ap (option_map shown) (steps.table_kept rules p st s q x rest none me l k)) (ap (option_map shown) (steps.table_kept rules p st s q x rest none me a k)) refl
            (λ b. ap (option_map shown) (steps.table_kept rules p st s q x rest none (home_task rules p r b) r b)) (stored_same no_asking)
            (λ b. asked_grows no_asking None none b ∙ ap (λ l. j.subscriptions b ++ l) (either_same (same_task me t) []))
            (λ i. answered_grows None none i ∙ ap (λ l. j.responses i ++ l) (either_same (same_task (right_task site i) t) []));
        within = λ was v i. past_grows v (was v i);
      }

      module _ (c : Key) (is : step_key x.message ≡ Some c) where
        abbrev left : Bool
        left = changed (olds c) (news c) l

        abbrev right : Bool
        right = changed (olds c) (news c) r

        abbrev w : Option Row
        w = row_in (news c) l

        abbrev y : Option Row
        y = row_in (news c) r

        left_owner : left ≡ true → t ≡ home_task rules p l c
        left_owner e = owner rules p fits now q x l c is at_key e

        right_owner : right ≡ true → t ≡ home_task rules p r c
        right_owner e = owner rules p fits now q x r c is at_key e

        left_mine : left ≡ true → same_bytes k c ≡ true → me ≡ t
        left_mine e b = ap (home_task rules p a) ((keys_decided k c).0 b) ∙ sym (left_owner e ∙ left_home rules p fits a l r fk kind set stands c)

        right_mine : (b : Key) → right ≡ true → same_bytes b c ≡ true → home_task rules p r b ≡ t
        right_mine b e i = ap (home_task rules p r) ((keys_decided b c).0 i) ∙ sym (right_owner e)

        result_other : news c a ≡ cond left (direct_value fk (Some c) kind set (row_in (olds c) l) w (olds c a)) (olds c a)
        result_other = result_value c is ∙ ap (λ b. cond left (direct_value fk (Some c) kind set (row_in (olds c) l) w (olds c a)) (responded rules kind set w (cond b (Some x.message) None) (olds c a))) no_answer

        result_then : (see k had next).result ≡ cond (left && same_bytes k c) (left_result site k j.row w j.result) j.result
        result_then =
            steps.value_then rules p st s q x rest c is me a k (option_map shown) left left_mine
            (λ e. ap (option_map shown) (sym (result_other ∙ ap (λ b. cond b (direct_value fk (Some c) kind set (row_in (olds c) l) w (olds c a)) (olds c a)) e)))
            ∙ by_tests left (same_bytes k c) refl refl
          where
            by_tests : (g d : Bool) → left ≡ g → same_bytes k c ≡ d → cond (g && d) (option_map shown (news c a)) j.result ≡ cond (g && d) (left_result site k j.row w j.result) j.result
            by_tests true true g d =
                ap (option_map shown) (result_other ∙ ap (λ b. cond b (direct_value fk (Some c) kind set (row_in (olds c) l) w (olds c a)) (olds c a)) g)
                ∙ direct_shown site c (row_in (olds c) l) w (olds c a)
                ∙ ap₂ (λ (u : TaskId) (m : Key). left_result site m (row_at st u l m) w (row_at st u a m)) (sym (left_mine g d)) (sym ((keys_decided k c).0 d))
            by_tests true false g d = refl
            by_tests false true g d = refl
            by_tests false false g d = refl

        asked_then : (b : Key) → (see k had next).subscriptions b ≡ j.subscriptions b ++ cond (left && same_bytes k c) (left_sent site k j.row w b) []
        asked_then b = asked_grows no_asking (Some c) is b ∙ ap (λ l. j.subscriptions b ++ l) (by_tests (same_task me t) left (same_bytes k c) refl refl refl)
          where
            by_tests : (m g d : Bool) → same_task me t ≡ m → left ≡ g → same_bytes k c ≡ d →
                cond m (asked_by b k (picked rules p (asking_place site b) (cond g (send_subscriptions a c (subscriptions rules.hash fk c (arr.names a) (row_in (olds c) l) w)) []))) [] ≡ cond (g && d) (left_sent site k j.row w b) []
            by_tests true true true m g d =
                asked_sent site (asking_spread rules p fits a l r fk kind set stands) b k c (subscriptions rules.hash fk c (arr.names a) (row_in (olds c) l) w)
                ∙ ap (λ t. for_key b t (subscriptions rules.hash fk c (arr.names a) (row_in (olds c) l) w)) d
                ∙ for_own site (asking_spread rules p fits a l r fk kind set stands) c (arr.names a) b (row_in (olds c) l) w
                ∙ ap₂ (λ (u : TaskId) (m : Key). left_sent site m (row_at st u l m) w b) (sym (left_mine g d)) (sym ((keys_decided k c).0 d))
            by_tests true true false m g d =
                asked_sent site (asking_spread rules p fits a l r fk kind set stands) b k c (subscriptions rules.hash fk c (arr.names a) (row_in (olds c) l) w)
                ∙ ap (λ t. for_key b t (subscriptions rules.hash fk c (arr.names a) (row_in (olds c) l) w)) d ∙ for_other b (subscriptions rules.hash fk c (arr.names a) (row_in (olds c) l) w)
            by_tests true false d m g e = refl
            by_tests false true true m g d = let f : false ≡ true = sym m ∙ (same_task-is me t).1 (left_mine g d) in cc
            by_tests false true false m g d = refl
            by_tests false false d m g e = refl

        answered_then : (i : ℕ) → (see k had next).responses i ≡ j.responses i ++ cond (right && nat_eq i (key_part site c)) (answer (j.stored c) y) []
        answered_then i = answered_grows (Some c) is i ∙ ap (λ l. j.responses i ++ l) (by_test right refl)
          where
            by_test : (g : Bool) → right ≡ g → cond (same_task (right_task site i) t) (answered_to k (picked rules p (answers_place site k) (cond g (send_responses a (answer_all y (fin.entries (now.hashes a c)))) []))) []
                ≡ cond (g && nat_eq i (key_part site c)) (answer (j.stored c) y) []
            by_test true g = ap₂ (λ (m : Bool) l. cond m l [])
                (ap (same_task (right_task site i)) (right_owner g) ∙ same_right site i c)
                (answered_sent site k (answer_all y (fin.entries (now.hashes a c))) (kept_named c y) ∙ all_answers site k y (now.hashes a c)
                ∙ ap (λ u. answer (kept_hash (fin.get ((st.stores u).hashes a c) k)) y) (right_owner g))
            by_test false g = either_same (same_task (right_task site i) t) []

        left_within : l < 0 + length p.kinds
        left_within = stands_within 0 p.kinds a (ForeignKeyJoin l r fk kind set) stands left_before

        written : left ≡ true → same_bytes k c ≡ true → (v : Row) → w ≡ Some v → In v (left_past k next)
        written g d v e =
            let m = machine rules p in
            let same : c ≡ k = sym ((keys_decided k c).0 d) in
            let owns : t ≡ home_task rules p l k = left_owner g ∙ ap (home_task rules p l) same in
            let made = (step rules p t now q x).made in
            let base : In v (rows_had c (sent_to m (record { topic = Changelog l; part = t.part }) made)) = row_written rules p l left_within t now q x c is g v e in
            let mine : In v (rows_had k (sent_to m (record { topic = Changelog l; part = home rules p l k }) made)) =
            subst (λ n. In v (rows_had n (sent_to m (record { topic = Changelog l; part = home rules p l k }) made))) same (subst (λ (u : TaskId). In v (rows_had c (sent_to m (record { topic = Changelog l; part = u.part }) made))) owns base) in
            had_after k v (past p st l (home rules p l k)) (cond (same_task (home_task rules p l k) t) (sent_to m (record { topic = Changelog l; part = home rules p l k }) made) [])
            (subst (λ b. In v (rows_had k (cond b (sent_to m (record { topic = Changelog l; part = home rules p l k }) made) []))) (sym ((same_task-is (home_task rules p l k) t).1 (sym owns))) mine)

        then_within : IsPast k had st → (g d : Bool) → left ≡ g → same_bytes k c ≡ d → IsPast k (cond (g && d) (now_had w had) had) next
        then_within was true true g d v i = ⊎_elim (λ (e : w ≡ Some v). written g d v e) (λ m. past_grows v (was v m)) (had_grows w had v i)
        then_within was true false g d v i = past_grows v (was v i)
        then_within was false true g d v i = past_grows v (was v i)
        then_within was false false g d v i = past_grows v (was v i)

        with_key : Step k had st next
        with_key = record {
          events = both_events site k (left && same_bytes k c) right w c y;
          then = cond (left && same_bytes k c) (now_had w had) had;
          is = rows_change site k (left && same_bytes k c) right j (see k (cond (left && same_bytes k c) (now_had w had) had) next) w c y
              (steps.row_then rules p st s q x rest c is me l k left_mine) result_then refl
              (λ b. steps.row_then rules p st s q x rest c is (home_task rules p r b) r b (right_mine b)) (stored_same no_asking) asked_then answered_then;
          within = λ was. then_within was left (same_bytes k c) refl refl;
        }

    -- where the record was taken from
    channel_head : (u : Option TaskId) (at : Place) → same_channel (machine rules p) u at s q ≡ true → st.waiting u at ≡ x ∷ rest
    channel_head u at b = at_channel (machine rules p) (names rules p) st.waiting u s at q (x ∷ rest) waits b

    -- ---- a response
    module _ (at : q.topic ≡ Responses a) (n : Key) (y : Answer) (is : x.message ≡ Answered n y) (source : ℕ) (from : s ≡ Some (right_task site source)) (fit : IsAnswer y.hash y.right) where
      key : step_key x.message ≡ Some n
      key = ap step_key is

      not_asked : same_topic q.topic (Subscriptions a) ≡ false
      not_asked = ap (λ v. same_topic v (Subscriptions a)) at

      place : q ≡ answers_place site n
      place =
          let part : q.part ≡ rules.part n (spread_of_topic p q.topic) = subst (FitsAt rules p q) is (at_key (ap is_changelog at)) in
          ap₂ (λ (v : Topic) (i : ℕ). record { topic = v; part = i }) at (part ∙ ap (λ v. rules.part n (spread_of_topic p v)) at)

      taker_is : t ≡ home_task rules p a n
      taker_is = ap (machine rules p).reader place

      quiet : (c : ℕ) → c < a → news n c ≡ olds n c
      quiet c lt = quiet_values a arr at rules p items (no_items a arr at (λ m. None) 0 p.kinds (λ m. refl)) (olds n) (olds n) 0 p.kinds (λ m lt. refl) fits c lt

      left_quiet : changed (olds n) (news n) l ≡ false
      left_quiet = stays_unchanged (olds n) (news n) l (quiet l left_before)

      right_quiet : changed (olds n) (news n) r ≡ false
      right_quiet = stays_unchanged (olds n) (news n) r (quiet r right_before)

      row_same : (u : TaskId) (c : ℕ) (b : Key) → changed (olds n) (news n) c ≡ false → row_at next u c b ≡ row_at st u c b
      row_same u c b e = steps.row_then rules p st s q x rest n key u c b (λ f g. let z : true ≡ false = sym f ∙ e in cc) ∙ ap (λ t. cond (t && same_bytes b n) (row_in (news n) c) (row_at st u c b)) e

      asked_same : (b : Key) → (see k had next).subscriptions b ≡ j.subscriptions b
      asked_same b =
          let sent = send_subscriptions a n (subscriptions rules.hash fk n (arr.names a) (row_in (olds n) l) (row_in (news n) l)) in
          asked_grows not_asked (Some n) key b
          ∙ ap (λ g. j.subscriptions b ++ cond (same_task me t) (asked_by b k (picked rules p (asking_place site b) (cond g sent []))) []) left_quiet
          ∙ ap (λ l. j.subscriptions b ++ l) (either_same (same_task me t) []) ∙ append-nil (j.subscriptions b)

      answers_rest : (i : ℕ) → (see k had next).responses i ≡ answered_to k (messages (cond (same_channel (machine rules p) (Some (right_task site i)) (answers_place site k) s q) rest (st.waiting (Some (right_task site i)) (answers_place site k))))
      answers_rest i =
          let before = answered_to k (messages (cond (same_channel (machine rules p) (Some (right_task site i)) (answers_place site k) s q) rest (st.waiting (Some (right_task site i)) (answers_place site k)))) in
          let sent = send_responses a (answer_all (row_in (news n) r) (fin.entries (now.hashes a n))) in
          steps.list_then rules p st s q x rest (answered_to k) (answered-append k) refl (right_task site i) (answers_place site k) refl
          ∙ ap (λ ms. before ++ cond (same_task (right_task site i) t) (answered_to k ms) []) (answers_alone not_asked (Some n) key ∙ ap (λ g. picked rules p (answers_place site k) (cond g sent [])) right_quiet)
          ∙ ap (λ l. before ++ l) (either_same (same_task (right_task site i) t) []) ∙ append-nil before

      result_is : news n a ≡ set_result (respond rules.hash kind set (row_in (news n) l) y) (olds n a)
      result_is =
          let w = row_in (news n) l in
          let here : arrived arr (Responses a) ≡ Some (Answered n y) = ap₂ (λ b (m : Message). cond b (Some m) None) (ap (λ v. same_topic v (Responses a)) at ∙ topic_itself (Responses a)) is in
          result_value n key ∙ ap (λ b. cond b (direct_value fk (Some n) kind set (row_in (olds n) l) w (olds n a)) (responded rules kind set w (arrived arr (Responses a)) (olds n a))) left_quiet
          ∙ ap (λ m. responded rules kind set w m (olds n a)) here

      result_here : (see k had next).result ≡ cond (same_bytes k n) (option_map shown (news n a)) j.result
      result_here = steps.value_then rules p st s q x rest n key me a k (option_map shown) true (λ e b. ap (home_task rules p a) ((keys_decided k n).0 b) ∙ sym taker_is) (λ e. cc)

      answer_here : same_bytes k n ≡ true → Step k had st next
      answer_here d =
          let same : k ≡ n = (keys_decided k n).0 d in
          let to_me : answers_place site k ≡ q = ap (answers_place site) same ∙ sym place in
          let after = answered_to k (messages rest) in
          let head : st.waiting (Some (right_task site source)) (answers_place site k) ≡ x ∷ rest = ap₂ st.waiting (sym from) to_me ∙ waits in
          let channel : (i : ℕ) → same_channel (machine rules p) (Some (right_task site i)) (answers_place site k) s q ≡ nat_eq i source = λ i.
          ap₂ (λ u v. same_channel (machine rules p) (Some (right_task site i)) (answers_place site k) u v) from (sym to_me)
          ∙ ap₂ (λ b c. b && c) (ap (λ b. b && nat_eq i source) ((Decides-eqb (sub_of p r) (sub_of p r)).1 refl)) ((same_place-is (answers_place site k) (answers_place site k)).1 refl) ∙ and_true (nat_eq i source) in
          record {
            events = join.Event.ResponseComes source ∷ [];
            then = had;
            is = response_happens site k j (see k had next) source (answers y) after
                (ap (λ l. answered_to k (messages l)) head ∙ ap (λ m. answered_to k (m ∷ messages rest)) is ∙ ap (λ b. cond b (answers y ∷ after) after) d)
                (row_same me l k left_quiet)
                (result_here ∙ ap (λ b. cond b (option_map shown (news n a)) j.result) d ∙ ap (option_map shown) result_is ∙ respond_shown site k (row_in (news n) l) y (olds n a) fit
                ∙ ap (λ w. accept (protocol_of site k) w (option_map shown (olds n a)) (answers y)) (sym (unchanged (olds n) (news n) l left_quiet))
                ∙ ap₂ (λ (u : TaskId) (m : Key). accept (protocol_of site k) (row_at st u l m) (row_at st u a m) (answers y)) (taker_is ∙ ap (home_task rules p a) (sym same)) (sym same))
                refl
                (λ b. row_same (home_task rules p r b) r b right_quiet) (stored_same not_asked) asked_same
                (λ i. answers_rest i ∙ ap (λ b. answered_to k (messages (cond b rest (st.waiting (Some (right_task site i)) (answers_place site k))))) (channel i)
                ∙ elim (nat_eq i source) as (λ b. answered_to k (messages (cond b rest (st.waiting (Some (right_task site i)) (answers_place site k)))) ≡ cond b after (j.responses i)) [ true ↦ refl | false ↦ refl ]);
            within = λ was v i. past_grows v (was v i);
          }

      answer_other : same_bytes k n ≡ false → Step k had st next
      answer_other d = record {
        events = [];
        then = had;
        is = nothing_happens site k j (see k had next)
            (row_same me l k left_quiet) (result_here ∙ ap (λ b. cond b (option_map shown (news n a)) j.result) d) refl
            (λ b. row_same (home_task rules p r b) r b right_quiet) (stored_same not_asked) asked_same
            (λ i. answers_rest i ∙ elim (same_channel (machine rules p) (Some (right_task site i)) (answers_place site k) s q) as (λ b. same_channel (machine rules p) (Some (right_task site i)) (answers_place site k) s q ≡ b →
            answered_to k (messages (cond b rest (st.waiting (Some (right_task site i)) (answers_place site k)))) ≡ j.responses i) [
              | true ↦ λ b. sym (ap (λ l. answered_to k (messages l)) (channel_head (Some (right_task site i)) (answers_place site k) b) ∙ ap (λ m. answered_to k (m ∷ messages rest)) is
                  ∙ ap (λ c. cond c (answers y ∷ answered_to k (messages rest)) (answered_to k (messages rest))) d)
              | false ↦ λ b. refl
            ] refl);
        within = λ was v i. past_grows v (was v i);
      }

      answer_comes : Step k had st next
      answer_comes = elim (same_bytes k n) as (λ b. same_bytes k n ≡ b → Step k had st next) [ true ↦ answer_here | false ↦ answer_other ] refl

    -- ---- a subscription
    module _ (at : q.topic ≡ Subscriptions a) (c n : Key) (y : Asking) (is : x.message ≡ Asked c n y) (from : s ≡ Some (home_task rules p a n)) (fit : IsAsking y.instruction y.hash) where
      none : step_key x.message ≡ None
      none = ap step_key is

      not_answered : same_topic q.topic (Responses a) ≡ false
      not_answered = ap (λ v. same_topic v (Responses a)) at

      place_asked : q ≡ asking_place site c
      place_asked =
          let part : q.part ≡ rules.part c (spread_of_topic p q.topic) = subst (FitsAt rules p q) is (at_key (ap is_changelog at)) in
          ap₂ (λ (v : Topic) (i : ℕ). record { topic = v; part = i }) at (part ∙ ap (λ v. rules.part c (spread_of_topic p v)) at ∙ ap (rules.part c) (asking_spread rules p fits a l r fk kind set stands))

      right_taker : t ≡ home_task rules p r c
      right_taker = ap (machine rules p).reader place_asked ∙ taken_by_right rules p fits a l r fk kind set stands (home rules p r c)

      here : arrived arr (Subscriptions a) ≡ Some (Asked c n y)
      here = ap₂ (λ b (m : Message). cond b (Some m) None) (ap (λ v. same_topic v (Subscriptions a)) at ∙ topic_itself (Subscriptions a)) is

      row_kept : (u : TaskId) (i : ℕ) (b : Key) → row_at next u i b ≡ row_at st u i b
      row_kept u i b = ap (option_map shown) (steps.table_kept rules p st s q x rest none u i b)

      hash_is : (b : Key) → fin.get (hashes_after arr now a b) k ≡ cond (same_bytes b c && same_bytes k n) (subscribed y) (fin.get (now.hashes a b) k)
      hash_is b = ap (λ m. fin.get (subscribe_at m (now.hashes a) b) k) here
          ∙ elim (same_bytes b c) as (λ d. fin.get (cond d (write by_bytes (now.hashes a b) n (subscribed y)) (now.hashes a b)) k ≡ cond (d && same_bytes k n) (subscribed y) (fin.get (now.hashes a b) k)) [
            | true ↦ get-write nat_list_cmp_total (now.hashes a b) n (subscribed y) k
            | false ↦ refl
          ]

      kept_is : (b : Key) → fin.get ((next.stores (home_task rules p r b)).hashes a b) k ≡ cond (same_bytes b c && same_bytes k n) (subscribed y) (fin.get ((st.stores (home_task rules p r b)).hashes a b) k)
      kept_is b = steps.hash_then rules p st s q x rest (home_task rules p r b) a b k ∙ ap (λ v. cond (same_task (home_task rules p r b) t) v (fin.get ((st.stores (home_task rules p r b)).hashes a b) k)) (hash_is b)
          ∙ by_tests (same_task (home_task rules p r b) t) (same_bytes b c) refl refl
        where
          by_tests : (m d : Bool) → same_task (home_task rules p r b) t ≡ m → same_bytes b c ≡ d →
              cond m (cond (d && same_bytes k n) (subscribed y) (fin.get (now.hashes a b) k)) (fin.get ((st.stores (home_task rules p r b)).hashes a b) k) ≡ cond (d && same_bytes k n) (subscribed y) (fin.get ((st.stores (home_task rules p r b)).hashes a b) k)
          by_tests true true m d = ap (λ u. cond (same_bytes k n) (subscribed y) (fin.get ((st.stores u).hashes a b) k)) (sym ((same_task-is (home_task rules p r b) t).0 m))
          by_tests true false m d = ap (λ u. fin.get ((st.stores u).hashes a b) k) (sym ((same_task-is (home_task rules p r b) t).0 m))
          by_tests false true m d = let f : false ≡ true = sym m ∙ (same_task-is (home_task rules p r b) t).1 (ap (home_task rules p r) ((keys_decided b c).0 d) ∙ sym right_taker) in cc
          by_tests false false m d = refl

      hash_said : (o : Option ℕ) → kept_hash (option_map (λ w. record { hash = w; part = y.part }) o) ≡ o
      hash_said None = refl
      hash_said (Some w) = refl

      stored_is : (b : Key) → (see k had next).stored b ≡ cond (same_bytes b c && same_bytes k n) (hash_by y.instruction y.hash) (j.stored b)
      stored_is b = ap kept_hash (kept_is b) ∙ by_test (same_bytes b c && same_bytes k n)
        where
          by_test : (d : Bool) → kept_hash (cond d (subscribed y) (fin.get ((st.stores (home_task rules p r b)).hashes a b) k)) ≡ cond d (hash_by y.instruction y.hash) (j.stored b)
          by_test true = hash_said (hash_by y.instruction y.hash)
          by_test false = refl

      -- it names its left key's partition
      named_there : y.part ≡ named_at site n
      named_there =
          let head : NamesHome rules p q.topic x.message = (each_parts (NamesHome rules p q.topic) x.message (messages rest) (subst (λ l. Each (NamesHome rules p q.topic) (messages l)) waits (h.placed.names s q (ap is_changelog at)))).0 in
          subst (NamesHome rules p (Subscriptions a)) is (subst (λ v. NamesHome rules p v x.message) at head)

      names_one : (o : Option Answer) → Each (NamesLeft site) (answer_of n y.part o)
      names_one None = each_nothing (NamesLeft site)
      names_one (Some w) = each_first (NamesLeft site) (n, w, y.part) [] named_there (each_nothing (NamesLeft site))

      asks_rest : (b : Key) → (see k had next).subscriptions b ≡ asked_by b k (messages (cond (same_channel (machine rules p) (Some me) (asking_place site b) s q) rest (st.waiting (Some me) (asking_place site b))))
      asks_rest b =
          let before = asked_by b k (messages (cond (same_channel (machine rules p) (Some me) (asking_place site b) s q) rest (st.waiting (Some me) (asking_place site b)))) in
          steps.list_then rules p st s q x rest (asked_by b k) (asked-append b k) refl me (asking_place site b) refl
          ∙ ap (λ ms. before ++ cond (same_task me t) (asked_by b k ms) []) (asked_sends None none (home rules p r b))
          ∙ ap (λ l. before ++ l) (either_same (same_task me t) []) ∙ append-nil before

      answers_then : (i : ℕ) → (see k had next).responses i ≡ j.responses i ++ cond (nat_eq i (key_part site c)) (cond (same_bytes k n) (answer_to (asks y) (j.right c)) []) []
      answers_then i =
          let there = option_map shown (fin.get (now.tables r) c) in
          steps.list_grows rules p st s q x rest (answered_to k) (answered-append k) refl (right_task site i) (Responses a) (home rules p a k) refl not_answered
          ∙ ap (λ ms. j.responses i ++ cond (same_task (right_task site i) t) (answered_to k ms) [])
          (answered_sends None none (home rules p a k) ∙ ap (λ m. picked rules p (answers_place site k) (answer_one a now r m)) here)
          ∙ ap (λ l. j.responses i ++ cond (same_task (right_task site i) t) l []) (answered_sent site k (answer_of n y.part (to_answer y there)) (names_one (to_answer y there)) ∙ one_answers site k n y.part y.instruction y.hash there fit)
          ∙ ap₂ (λ (b : Bool) (w : Option Row). j.responses i ++ cond b (cond (same_bytes k n) (answer_to (asks y) w) []) [])
          (ap (same_task (right_task site i)) right_taker ∙ same_right site i c) (ap (λ u. row_at st u r c) right_taker)

      -- the head of a list that was taken, as b sees it
      head_seen : (b : Key) (d e : Bool) → same_bytes c b ≡ d → same_bytes k n ≡ e → st.waiting (Some me) (asking_place site b) ≡ x ∷ rest →
          j.subscriptions b ≡ cond (d && e) (asks y ∷ asked_by b k (messages rest)) (asked_by b k (messages rest))
      head_seen b d e f g head = ap (λ l. asked_by b k (messages l)) head ∙ ap (λ m. asked_by b k (m ∷ messages rest)) is
          ∙ ap₂ (λ u v. cond (u && v) (asks y ∷ asked_by b k (messages rest)) (asked_by b k (messages rest))) f g

      rest_of : (b : Key) (e : Bool) → same_bytes k n ≡ e → (same_bytes c b && e) ≡ false → (see k had next).subscriptions b ≡ j.subscriptions b
      rest_of b e g apart = asks_rest b ∙ elim (same_channel (machine rules p) (Some me) (asking_place site b) s q) as (λ t. same_channel (machine rules p) (Some me) (asking_place site b) s q ≡ t →
          asked_by b k (messages (cond t rest (st.waiting (Some me) (asking_place site b)))) ≡ j.subscriptions b) [
            | true ↦ λ t. sym (head_seen b (same_bytes c b) e refl g (channel_head (Some me) (asking_place site b) t) ∙ ap (λ u. cond u (asks y ∷ asked_by b k (messages rest)) (asked_by b k (messages rest))) apart)
            | false ↦ λ t. refl
          ] refl

      asking_here : same_bytes k n ≡ true → Step k had st next
      asking_here d =
          let same : k ≡ n = (keys_decided k n).0 d in
          let mine : s ≡ Some me = from ∙ ap (λ u. Some (home_task rules p a u)) (sym same) in
          let after = asked_by c k (messages rest) in
          let head : st.waiting (Some me) (asking_place site c) ≡ x ∷ rest = ap₂ st.waiting (sym mine) (sym place_asked) ∙ waits in
          record {
            events = join.Event.SubscriptionComes c ∷ [];
            then = had;
            is = subscription_happens site k j (see k had next) c (asks y) after (head_seen c true true (same_itself c) d head)
                (row_kept me l k) (row_kept me a k) refl (λ b. row_kept (home_task rules p r b) r b)
                (λ b. stored_is b ∙ ap₂ (λ u w. cond (same_bytes b c && u) w (j.stored b)) d (sym (applied_is site k (j.stored c) y.instruction y.hash fit))
                ∙ ap (λ t. cond t (apply (j.stored c) (asks y)) (j.stored b)) (and_true (same_bytes b c)))
                (λ b. elim (same_bytes b c) as (λ t. same_bytes b c ≡ t → (see k had next).subscriptions b ≡ cond t after (j.subscriptions b)) [
                  | true ↦ λ t.
                      let is_c : b ≡ c = (keys_decided b c).0 t in
                      let channel : same_channel (machine rules p) (Some me) (asking_place site b) s q ≡ true =
                      ap₂ (λ u v. same_channel (machine rules p) (Some me) (asking_place site b) u v) mine (place_asked ∙ ap (asking_place site) (sym is_c)) ∙ same_channel_refl (machine rules p) (names rules p) (Some me) (asking_place site b) in
                      asks_rest b ∙ ap (λ t. asked_by b k (messages (cond t rest (st.waiting (Some me) (asking_place site b))))) channel ∙ ap (λ b. asked_by b k (messages rest)) is_c
                  | false ↦ λ t. rest_of b true d (ap (λ u. u && true) (same_turned c b ∙ t))
                ] refl)
                (λ i. answers_then i ∙ ap (λ u. j.responses i ++ cond (nat_eq i (key_part site c)) (cond u (answer_to (asks y) (j.right c)) []) []) d);
            within = λ was v i. past_grows v (was v i);
          }

      asking_other : same_bytes k n ≡ false → Step k had st next
      asking_other d = record {
        events = [];
        then = had;
        is = nothing_happens site k j (see k had next) (row_kept me l k) (row_kept me a k) refl (λ b. row_kept (home_task rules p r b) r b)
            (λ b. stored_is b ∙ ap (λ u. cond (same_bytes b c && u) (hash_by y.instruction y.hash) (j.stored b)) d ∙ ap (λ t. cond t (hash_by y.instruction y.hash) (j.stored b)) (and_false (same_bytes b c)))
            (λ b. rest_of b false d (and_false (same_bytes c b)))
            (λ i. answers_then i ∙ ap (λ u. j.responses i ++ cond (nat_eq i (key_part site c)) (cond u (answer_to (asks y) (j.right c)) []) []) d
            ∙ ap (λ l. j.responses i ++ l) (either_same (nat_eq i (key_part site c)) []) ∙ append-nil (j.responses i));
        within = λ was v i. past_grows v (was v i);
      }

      asking_comes : Step k had st next
      asking_comes = elim (same_bytes k n) as (λ b. same_bytes k n ≡ b → Step k had st next) [ true ↦ asking_here | false ↦ asking_other ] refl

    -- ---- any record
    other_comes : same_topic q.topic (Subscriptions a) ≡ false → same_topic q.topic (Responses a) ≡ false → (key : Option Key) → step_key x.message ≡ key → Step k had st next
    other_comes d e None is = without_key d e is
    other_comes d e (Some c) is = with_key d e c is

    asking_any : q.topic ≡ Subscriptions a → (m : Message) → x.message ≡ m → IsAsked rules p fits a l r fk kind set stands s m → Step k had st next
    asking_any at (Asked c n y) is f = asking_comes at c n y is f.0 f.1
    asking_any at m is f = absurd f

    answer_any : q.topic ≡ Responses a → (m : Message) → x.message ≡ m → IsAnswered rules p fits a l r fk kind set stands s m → Step k had st next
    answer_any at (Answered n y) is f = answer_comes at n y is f.0.0 f.0.1 f.1
    answer_any at m is f = absurd f

    pub step_is_events : Step k had st next
    step_is_events = elim (same_topic q.topic (Subscriptions a)) as (λ b. same_topic q.topic (Subscriptions a) ≡ b → Step k had st next) [
      | true ↦ λ b.
          let at = topic-is q.topic (Subscriptions a) b in
          let here : st.waiting s (record { topic = Subscriptions a; part = q.part }) ≡ x ∷ rest = ap (λ v. st.waiting s (record { topic = v; part = q.part })) (sym at) ∙ waits in
          asking_any at x.message refl (each_parts (IsAsked rules p fits a l r fk kind set stands s) x.message (messages rest) (subst (λ ms. Each (IsAsked rules p fits a l r fk kind set stands s) (messages ms)) here (h.asked s q.part))).0
      | false ↦ λ b. elim (same_topic q.topic (Responses a)) as (λ c. same_topic q.topic (Responses a) ≡ c → Step k had st next) [
        | true ↦ λ c.
            let at = topic-is q.topic (Responses a) c in
            let here : st.waiting s (record { topic = Responses a; part = q.part }) ≡ x ∷ rest = ap (λ v. st.waiting s (record { topic = v; part = q.part })) (sym at) ∙ waits in
            answer_any at x.message refl (each_parts (IsAnswered rules p fits a l r fk kind set stands s) x.message (messages rest) (subst (λ ms. Each (IsAnswered rules p fits a l r fk kind set stands s) (messages ms)) here (h.answered s q.part))).0
        | false ↦ λ c. other_comes b c (step_key x.message) refl
      ] refl
    ] refl
