-- What waits for a join on a foreign key: a subscription comes from its left key's task, a response from a task of the right side.
use Rattle.std.proofs.Common.{◌≡◌, ℕ, suc, ◌+◌, ◌<◌, true, false, cond, not, List, [], ◌∷◌, ◌++◌, get_or, Option, Some, None, refl, sym, ap, ap₂, subst, ◌∙◌, arith, append-nil, inl, ⊎_elim}
use Rattle.std.specs.Prelude.{option_map}
use Rattle.std.specs.Ordering.{is_eq}
use Rattle.std.specs.Cmp.{tied_itself, int_cmp_total}
use Rattle.std.specs.Cmp.Lexicographic.{nat_list_cmp_total}
use Rattle.std.proofs.lemmas.Bool.{and_from}
use Rattle.ks_row.specs.declared.row.Field.{Field}
use Rattle.ks_row.specs.declared.row.Field.TheVariants.{Int, Text}
use Rattle.ks_record.specs.declared.record.TaskId.{TaskId}
use Rattle.ks_record.specs.Parts.{same_task}
use Rattle.ks_expr.specs.declared.terms.JoinKind.{JoinKind}
use Rattle.ks_expr.specs.Terms.{Set}
use Rattle.ks_expr.specs.Eval.{Row, same_field, same_bytes}
use Rattle.ks_expr.specs.declared.terms.Fk.{Fk}
use Rattle.ks_plan.specs.declared.node.Topic.{Topic}
use Rattle.ks_plan.specs.declared.node.Topic.TheVariants.{Subscriptions, Responses}
use Rattle.ks_plan.specs.Plan.{Plan, Kind}
use Rattle.ks_plan.specs.Plan.Kind.{ForeignKeyJoin}
use Rattle.ks_plan.specs.Layout.{same_topic, sub_of, spread_of, spread_of_topic, kind_at, no_kind, right_of}
use Rattle.ks_def_runs.specs.FinMap as fin
use Rattle.ks_query.specs.Streams.{Key, Input, StreamItem}
use Rattle.ks_def_runs.specs.Run.{Machine, RunState, is_from, same_channel, sent_to, take_first, initial, run}
use Rattle.ks_def_runs.proofs.Runs.{at_channel, kept_by_run}
use Rattle.ks_def_tasks.specs.Messages.{Place, same_place, shown, Instruction, Subscription, Message, Item, Store, Rules, same_row, same_option}
use Rattle.ks_def_tasks.specs.Messages.Instruction.{Delete, DeleteAndAnswer, Answer, AnswerIfThere}
use Rattle.ks_def_tasks.specs.Messages.Message.{Given, Keyed, Moved, Asked, Answered, Kept, KeptCount, KeptTime, KeptHash}
use Rattle.ks_def_tasks.specs.Foreign.{subscriptions, subscribe, key_of_row, answer_all, answer_by, answer_to, Sending}
use Rattle.ks_def_tasks.specs.Step.{Arrival, Sent, Values, row_in, changed, arrived, step_key, join_sends, send_subscriptions, send_responses, answer_of, answer_one, whole_step, items_from, olds_at, news_at, values_from}
use Rattle.ks_def_tasks.specs.Tasks.{arrival, machine, step, is_changelog, inputs_of, to_part}
use Rattle.ks_def_tasks.proofs.Names.{names, same_task-is, topic-is}
use Rattle.ks_law_topology.specs.Taken.{messages}
use Rattle.ks_law_quiescence.specs.States.{home_task}
use Rattle.ks_law_topology.proofs.Each.{Each, each_nothing, each_first, each_parts, Each-append, Each-cond}
use Rattle.ks_law_topology.proofs.Fits.{Fits, Beside, each_at}
use Rattle.ks_law_topology.proofs.Mixed.{messages-append, Stands_at, picked, picked-append, made_is, step_sends_own, apart_asked, apart_answered}
use Rattle.ks_law_topology.proofs.Placed.{FitsAt, Owned, Placed, values_owned, items_owned, fits_key, placed_step, placed_run}
use Rattle.ks_law_fk_quiescence.specs.Joins.{IsAsking, IsAnswer}
use Rattle.ks_law_fk_quiescence.specs.KeyJoins.{JoinAt, join_at, right_task}
use Rattle.ks_expr.specs.Keys.{fk_of}
use Rattle.ks_wire.specs.declared.values.Subscriber.{Subscriber}
use Rattle.ks_plan.specs.declared.node.Spread.{Spread}

-- ---- a row is the same as itself
field_itself : (f : Field) → same_field f f ≡ true
field_itself (Int z) = ap is_eq (tied_itself int_cmp_total z)
field_itself (Text t) = ap is_eq (tied_itself nat_list_cmp_total t)

row_itself : (r : Row) → same_row r r ≡ true
row_itself [] = refl
row_itself (m ∷ ms) = and_from _ _ (and_from _ _ (ap is_eq (tied_itself nat_list_cmp_total m.0)) (field_itself m.1)) (row_itself ms)

pub rows_themselves : (r : Option Row) → same_option same_row r r ≡ true
rows_themselves None = refl
rows_themselves (Some r) = row_itself r

-- a value that stays is no change
pub stays_unchanged : (olds news : Values) (n : ℕ) → news n ≡ olds n → changed olds news n ≡ false
stays_unchanged olds news n e = ap (λ w. not (same_option same_row (row_in olds n) (row_in (λ m. w) n))) e ∙ ap not (rows_themselves (row_in olds n))

-- ---- the kind of a node by its number
kind_there : (n : ℕ) (ks : List Kind) (a : ℕ) (k : Kind) → Stands_at a k n ks → (i : ℕ) × (a ≡ n + i) × (get_or ks i no_kind ≡ k)
kind_there n [] a k s = absurd s
kind_there n (y ∷ ys) a k s = ⊎_elim
    (λ (e : (n ≡ a) × (y ≡ k)). (0, (let is = e.0 in omega arith), e.1))
    (λ (e : (n < a) × Stands_at a k (suc n) ys). let more = kind_there (suc n) ys a k e.1 in let is = more.1 in (suc more.0, omega arith, more.2)) s

pub kind_is : (p : Plan) (a : ℕ) (k : Kind) → Stands_at a k 0 p.kinds → kind_at p a ≡ k
kind_is p a k s = let more = kind_there 0 p.kinds a k s in let is : a ≡ more.0 = (let e = more.1 in omega arith) in ap (λ i. get_or p.kinds i no_kind) is ∙ more.2

-- what is sent has a property, so what of it goes to a place has
pub picked_each : (rules : Rules) (p : Plan) (P : Message → Type 0) (q : Place) (xs : List Sent) → Each (λ s. P s.message) xs → Each P (picked rules p q xs)
picked_each rules p P q [] e = each_nothing P
picked_each rules p P q (s ∷ xs) e =
    let parts = each_parts (λ (s : Sent). P s.message) s xs e in
    Each-cond P (same_place q (record { topic = s.topic; part = to_part rules p s.topic s.key s.to })) (s.message ∷ picked rules p q xs) (picked rules p q xs)
    (each_first P s.message (picked rules p q xs) parts.0 (picked_each rules p P q xs parts.1)) (picked_each rules p P q xs parts.1)

-- ---- what a subscription and a response hold
abbrev IsAskingTo : Key × Subscription → Type 0
IsAskingTo s = IsAsking s.1.instruction s.1.hash

subscribe-asks : (b : Option Key) (s : Subscription) → IsAsking s.instruction s.hash → Each IsAskingTo (subscribe b s)
subscribe-asks None s h = each_nothing IsAskingTo
subscribe-asks (Some b) s h = each_first IsAskingTo (b, s) [] h (each_nothing IsAskingTo)

subscriptions-ask : (hash : Row → ℕ) (fk : Fk) (k : Key) (part : Option ℕ) (old new : Option Row) → Each IsAskingTo (subscriptions hash fk k part old new)
subscriptions-ask hash fk k part old None = subscribe-asks (key_of_row fk k old) (record { hash = None; instruction = DeleteAndAnswer; part = part }) tt
subscriptions-ask hash fk k part old (Some v) =
    let gone : Subscription = record { hash = Some (hash v); instruction = Delete; part = part } in
    let asks : Subscription = record { hash = Some (hash v); instruction = Answer; part = part } in
    let same = same_option same_bytes (key_of_row fk k old) (fk_of fk k v) in
    Each-append IsAskingTo (cond same [] (subscribe (key_of_row fk k old) gone)) (subscribe (fk_of fk k v) asks)
    (Each-cond IsAskingTo same [] (subscribe (key_of_row fk k old) gone) (each_nothing IsAskingTo) (subscribe-asks (key_of_row fk k old) gone tt))
    (subscribe-asks (fk_of fk k v) asks tt)

module _ (rules : Rules) (p : Plan) (fits : Fits p) where
  -- where a row changes, the step is that of its key's task
  pub owner : (st : Store) (q : Place) (x : Item) (n : ℕ) (c : Key) → step_key x.message ≡ Some c → (is_changelog q.topic ≡ false → FitsAt rules p q x.message) →
      let arr : Arrival = arrival p q x in
      let olds = olds_at st (Some c) in
      changed olds (values_from rules arr (items_from arr (λ n. None) 0 p.kinds) olds olds 0 p.kinds) n ≡ true → (machine rules p).reader q ≡ home_task rules p n c
  owner st q x n c is at_key change =
      let arr : Arrival = arrival p q x in
      let olds = olds_at st (Some c) in
      let items = items_from arr (λ n. None) 0 p.kinds in
      let news = values_from rules arr items olds olds 0 p.kinds in
      ⊎_elim
      (λ (kept : news n ≡ olds n). let f : true ≡ false = sym change ∙ stays_unchanged olds news n kept in cc)
      (λ (o : Owned rules p q.topic n).
      let at = fits_key rules p q x.message c is (at_key o.list) in
      ap₂ (λ (i j : ℕ). record { sub = i; part = j }) o.sub (at ∙ ap (rules.part c) o.spread))
      (values_owned rules p arr items (items_owned rules p arr (λ n. None) 0 p.kinds (λ c. inl refl) fits) olds olds 0 p.kinds (λ c. inl refl) fits n)

-- ---- what a step sends to the two topics of a join
module _ (rules : Rules) (p : Plan) (a : ℕ) where
  no_responses : (j : ℕ) (rs : List Sending) → picked rules p (record { topic = Subscriptions a; part = j }) (send_responses a rs) ≡ []
  no_responses j [] = refl
  no_responses j (r ∷ rs) = no_responses j rs

  no_subscriptions : (j : ℕ) (k : Key) (ss : List (Key × Subscription)) → picked rules p (record { topic = Responses a; part = j }) (send_subscriptions a k ss) ≡ []
  no_subscriptions j k [] = refl
  no_subscriptions j k (s ∷ ss) = no_subscriptions j k ss

  no_answer : (j : ℕ) (st : Store) (r : ℕ) (m : Option Message) → picked rules p (record { topic = Subscriptions a; part = j }) (answer_one a st r m) ≡ []
  no_answer j st r None = refl
  no_answer j st r (Some (Asked b k s)) = no_responses j (answer_of k s.part (answer_to s (option_map shown (fin.get (st.tables r) b))))
  no_answer j st r (Some (Given k v)) = refl
  no_answer j st r (Some (Keyed k v)) = refl
  no_answer j st r (Some (Moved k v)) = refl
  no_answer j st r (Some (Answered k v)) = refl
  no_answer j st r (Some (Kept k v)) = refl
  no_answer j st r (Some (KeptCount k v)) = refl
  no_answer j st r (Some (KeptTime v)) = refl
  no_answer j st r (Some (KeptHash b k v)) = refl

  no_asks : (rs : List Input) (j : ℕ) → inputs_of rules p rs (record { topic = Subscriptions a; part = j }) ≡ []
  no_asks [] j = refl
  no_asks (y ∷ ys) j = no_asks ys j

  no_answers : (rs : List Input) (j : ℕ) → inputs_of rules p rs (record { topic = Responses a; part = j }) ≡ []
  no_answers [] j = refl
  no_answers (y ∷ ys) j = no_answers ys j

  module _ (l r : ℕ) (fk : Fk) (part : Option ℕ) (st : Store) (olds news : Values) where
    -- the left part's and the right part's
    abbrev pub asking_part : Option Key → List Sent
    asking_part None = []
    asking_part (Some c) = cond (changed olds news l) (send_subscriptions a c (subscriptions rules.hash fk c part (row_in olds l) (row_in news l))) []

    abbrev pub answering_part : Option Key → List Sent
    answering_part None = []
    answering_part (Some c) = cond (changed olds news r) (send_responses a (answer_all (row_in news r) (fin.entries (st.hashes a c)))) []

    pub asked_is : (j : ℕ) (key : Option Key) (m : Option Message) →
        picked rules p (record { topic = Subscriptions a; part = j }) (join_sends rules fk part a l r st olds news key ++ answer_one a st r m) ≡ picked rules p (record { topic = Subscriptions a; part = j }) (asking_part key)
    asked_is j None m = no_answer j st r m
    asked_is j (Some c) m =
        let q : Place = record { topic = Subscriptions a; part = j } in
        let rs = send_responses a (answer_all (row_in news r) (fin.entries (st.hashes a c))) in
        let none : picked rules p q (answering_part (Some c)) ≡ [] = elim (changed olds news r) as (λ b. picked rules p q (cond b rs []) ≡ []) [ true ↦ no_responses j (answer_all (row_in news r) (fin.entries (st.hashes a c))) | false ↦ refl ] in
        picked-append rules p q (asking_part (Some c) ++ answering_part (Some c)) (answer_one a st r m)
        ∙ ap₂ (λ xs ys. xs ++ ys) (picked-append rules p q (asking_part (Some c)) (answering_part (Some c)) ∙ ap (λ ys. picked rules p q (asking_part (Some c)) ++ ys) none ∙ append-nil _) (no_answer j st r m) ∙ append-nil _

    pub answered_is : (j : ℕ) (key : Option Key) (m : Option Message) →
        picked rules p (record { topic = Responses a; part = j }) (join_sends rules fk part a l r st olds news key ++ answer_one a st r m)
        ≡ picked rules p (record { topic = Responses a; part = j }) (answering_part key) ++ picked rules p (record { topic = Responses a; part = j }) (answer_one a st r m)
    answered_is j None m = refl
    answered_is j (Some c) m =
        let q : Place = record { topic = Responses a; part = j } in
        let ss = send_subscriptions a c (subscriptions rules.hash fk c part (row_in olds l) (row_in news l)) in
        let none : picked rules p q (asking_part (Some c)) ≡ [] = elim (changed olds news l) as (λ b. picked rules p q (cond b ss []) ≡ []) [ true ↦ no_subscriptions j c (subscriptions rules.hash fk c part (row_in olds l) (row_in news l)) | false ↦ refl ] in
        picked-append rules p q (asking_part (Some c) ++ answering_part (Some c)) (answer_one a st r m)
        ∙ ap (λ xs. xs ++ picked rules p q (answer_one a st r m)) (picked-append rules p q (asking_part (Some c)) (answering_part (Some c)) ∙ ap (λ xs. xs ++ picked rules p q (answering_part (Some c))) none)

module _ (rules : Rules) (p : Plan) (fits : Fits p) (a l r : ℕ) (fk : Fk) (kind : JoinKind) (set : Set) (stands : Stands_at a (ForeignKeyJoin l r fk kind set) 0 p.kinds) where
  abbrev site : JoinAt
  site = join_at rules p a l r fk kind set

  abbrev pub beside : Beside p l a
  beside = (each_at p 0 p.kinds a (ForeignKeyJoin l r fk kind set) fits stands).0

  pub left_home : (k : Key) → home_task rules p l k ≡ home_task rules p a k
  left_home k = ap₂ (λ (s : ℕ) (i : Spread). record { sub = s; part = rules.part k i }) beside.sub beside.spread

  abbrev pub IsAsked : Option TaskId → Message → Type 0
  IsAsked s (Asked b k x) = (s ≡ Some (home_task rules p a k)) × IsAsking x.instruction x.hash
  IsAsked s m = ⊥

  abbrev pub IsAnswered : Option TaskId → Message → Type 0
  IsAnswered s (Answered k x) = ((j : ℕ) × (s ≡ Some (right_task site j))) × IsAnswer x.hash x.right
  IsAnswered s m = ⊥

  pub record Waits (st : RunState TaskId Place Store Item) : Type 0 where
    pub placed : Placed rules p st
    pub asked : (s : Option TaskId) (j : ℕ) → Each (IsAsked s) (messages (st.waiting s (record { topic = Subscriptions a; part = j })))
    pub answered : (s : Option TaskId) (j : ℕ) → Each (IsAnswered s) (messages (st.waiting s (record { topic = Responses a; part = j })))

  pub taken_by_right : (j : ℕ) → (machine rules p).reader (record { topic = Subscriptions a; part = j }) ≡ right_task site j
  taken_by_right j = ap (λ k. record { sub = sub_of p (right_of k); part = j }) (kind_is p a (ForeignKeyJoin l r fk kind set) stands)

  pub asking_spread : spread_of_topic p (Subscriptions a) ≡ spread_of p r
  asking_spread = ap (λ k. spread_of p (right_of k)) (kind_is p a (ForeignKeyJoin l r fk kind set) stands)

  -- ---- what a step sends
  module _ (st : Store) (q : Place) (x : Item) (at_key : is_changelog q.topic ≡ false → FitsAt rules p q x.message) where
    abbrev t : TaskId
    t = (machine rules p).reader q

    abbrev arr : Arrival
    arr = arrival p q x

    abbrev items : ℕ → Option StreamItem
    items = items_from arr (λ n. None) 0 p.kinds

    asks_each : (c : Key) → t ≡ home_task rules p a c → (ss : List (Key × Subscription)) → Each IsAskingTo ss → Each (λ (s : Sent). IsAsked (Some t) s.message) (send_subscriptions a c ss)
    asks_each c is [] e = each_nothing _
    asks_each c is (s ∷ ss) e = let parts = each_parts IsAskingTo s ss e in each_first (λ (s : Sent). IsAsked (Some t) s.message) _ _ (ap (λ u. Some u) is, parts.0) (asks_each c is ss parts.1)

    abbrev olds : Values
    olds = olds_at st (step_key x.message)

    abbrev news : Values
    news = news_at rules p arr items olds (step_key x.message)

    asked_part : (key : Option Key) → step_key x.message ≡ key → (j : ℕ) →
        Each (IsAsked (Some t)) (picked rules p (record { topic = Subscriptions a; part = j }) (asking_part rules p a l r fk (arr.names a) st (olds_at st key) (news_at rules p arr items (olds_at st key) key) key))
    asked_part None is j = each_nothing _
    asked_part (Some c) is j =
        let olds = olds_at st (Some c) in
        let news = values_from rules arr items olds olds 0 p.kinds in
        let ss = subscriptions rules.hash fk c (arr.names a) (row_in olds l) (row_in news l) in
        elim (changed olds news l) as (λ b. changed olds news l ≡ b → Each (IsAsked (Some t)) (picked rules p (record { topic = Subscriptions a; part = j }) (cond b (send_subscriptions a c ss) []))) [
          | true ↦ λ e. picked_each rules p (IsAsked (Some t)) (record { topic = Subscriptions a; part = j }) (send_subscriptions a c ss)
              (asks_each c (owner rules p fits st q x l c is at_key e ∙ left_home c) ss (subscriptions-ask rules.hash fk c (arr.names a) (row_in olds l) (row_in news l)))
          | false ↦ λ e. each_nothing _
        ] refl

    answers_each : (j : ℕ) → t ≡ right_task site j → (rs : List Sending) → Each (λ (e : Sending). IsAnswer e.1.hash e.1.right) rs → Each (λ (s : Sent). IsAnswered (Some t) s.message) (send_responses a rs)
    answers_each j is [] e = each_nothing _
    answers_each j is (y ∷ ys) e =
        let parts = each_parts (λ (e : Sending). IsAnswer e.1.hash e.1.right) y ys e in
        each_first (λ (s : Sent). IsAnswered (Some t) s.message) _ _ ((j, ap (λ u. Some u) is), parts.0) (answers_each j is ys parts.1)

    all_answer : (row : Option Row) (es : List (Key × Subscriber)) → Each (λ (e : Sending). IsAnswer e.1.hash e.1.right) (answer_all row es)
    all_answer row [] = each_nothing _
    all_answer row (e ∷ es) = each_first (λ (e : Sending). IsAnswer e.1.hash e.1.right) _ _ tt (all_answer row es)

    answered_part : (key : Option Key) → step_key x.message ≡ key → (j : ℕ) →
        Each (IsAnswered (Some t)) (picked rules p (record { topic = Responses a; part = j }) (answering_part rules p a l r fk (arr.names a) st (olds_at st key) (news_at rules p arr items (olds_at st key) key) key))
    answered_part None is j = each_nothing _
    answered_part (Some c) is j =
        let olds = olds_at st (Some c) in
        let news = values_from rules arr items olds olds 0 p.kinds in
        let rs = answer_all (row_in news r) (fin.entries (st.hashes a c)) in
        elim (changed olds news r) as (λ b. changed olds news r ≡ b → Each (IsAnswered (Some t)) (picked rules p (record { topic = Responses a; part = j }) (cond b (send_responses a rs) []))) [
          | true ↦ λ e. picked_each rules p (IsAnswered (Some t)) (record { topic = Responses a; part = j }) (send_responses a rs)
              (answers_each (home_task rules p r c).part (owner rules p fits st q x r c is at_key e) rs (all_answer (row_in news r) (fin.entries (st.hashes a c))))
          | false ↦ λ e. each_nothing _
        ] refl

    one_answer : (i : Instruction) (h : Option ℕ) → IsAsking i h → (k : Key) (part : Option ℕ) (row : Option Row) → Each (λ (e : Sending). IsAnswer e.1.hash e.1.right) (answer_of k part (answer_by i h row))
    one_answer Delete h e k part row = each_nothing _
    one_answer DeleteAndAnswer h e k part row = each_first (λ (e : Sending). IsAnswer e.1.hash e.1.right) _ [] tt (each_nothing _)
    one_answer Answer None e k part row = absurd e
    one_answer Answer (Some h) e k part row = each_first (λ (e : Sending). IsAnswer e.1.hash e.1.right) _ [] tt (each_nothing _)
    one_answer AnswerIfThere h e k part row = absurd e

    answered_one : (m : Message) → (same_topic q.topic (Subscriptions a) ≡ true → (s : Option TaskId) × IsAsked s m) → (j : ℕ) →
        Each (IsAnswered (Some t)) (picked rules p (record { topic = Responses a; part = j }) (answer_one a st r (cond (same_topic q.topic (Subscriptions a)) (Some m) None)))
    answered_one m asked j = elim (same_topic q.topic (Subscriptions a)) as (λ b. same_topic q.topic (Subscriptions a) ≡ b → Each (IsAnswered (Some t)) (picked rules p (record { topic = Responses a; part = j }) (answer_one a st r (cond b (Some m) None)))) [
      | true ↦ λ e. by_message (ap (λ v. (machine rules p).reader (record { topic = v; part = q.part })) (topic-is q.topic (Subscriptions a) e) ∙ taken_by_right q.part) m (asked e).0 (asked e).1
      | false ↦ λ e. each_nothing _
    ] refl
      where
        by_message : t ≡ right_task site q.part → (m : Message) (s : Option TaskId) → IsAsked s m → Each (IsAnswered (Some t)) (picked rules p (record { topic = Responses a; part = j }) (answer_one a st r (Some m)))
        by_message is (Asked b k y) s h =
            let row = option_map shown (fin.get (st.tables r) b) in
            picked_each rules p (IsAnswered (Some t)) (record { topic = Responses a; part = j }) (send_responses a (answer_of k y.part (answer_to y row))) (answers_each q.part is (answer_of k y.part (answer_to y row)) (one_answer y.instruction y.hash h.1 k y.part row))
        by_message is m s h = absurd h

    pub asks_made : (j : ℕ) → Each (IsAsked (Some t)) (picked rules p (record { topic = Subscriptions a; part = j }) (whole_step rules p st arr).sends)
    asks_made j = subst (Each (IsAsked (Some t))) (sym (step_sends_own rules p (Subscriptions a) a (apart_asked a) (ForeignKeyJoin l r fk kind set) stands st arr j
        ∙ asked_is rules p a l r fk (arr.names a) st olds news j (step_key x.message) (arrived arr (Subscriptions a)))) (asked_part (step_key x.message) refl j)

    pub answers_made : (same_topic q.topic (Subscriptions a) ≡ true → (s : Option TaskId) × IsAsked s x.message) → (j : ℕ) → Each (IsAnswered (Some t)) (picked rules p (record { topic = Responses a; part = j }) (whole_step rules p st arr).sends)
    answers_made asked j = subst (Each (IsAnswered (Some t))) (sym (step_sends_own rules p (Responses a) a (apart_answered a) (ForeignKeyJoin l r fk kind set) stands st arr j
        ∙ answered_is rules p a l r fk (arr.names a) st olds news j (step_key x.message) (arrived arr (Subscriptions a))))
        (Each-append (IsAnswered (Some t)) _ _ (answered_part (step_key x.message) refl j) (answered_one x.message asked j))

  -- ---- in each state
  pub waits_step : (st : RunState TaskId Place Store Item) (s : Option TaskId) (q : Place) (xs : List Item) → st.waiting s q ≡ xs → Waits st → Waits (take_first (machine rules p) st s q xs)
  waits_step st s q [] e h = h
  waits_step st s q (x ∷ rest) e h = record { placed = placed_step rules p fits st s q (x ∷ rest) e h.placed; asked = asked; answered = answered }
    where
      m : Machine TaskId Place Store Item
      m = machine rules p

      t : TaskId
      t = m.reader q

      at_key : is_changelog q.topic ≡ false → FitsAt rules p q x.message
      at_key list = (each_parts (FitsAt rules p q) x.message (messages rest) (subst (λ l. Each (FitsAt rules p q) (messages l)) e (h.placed.waiting s q list))).0

      -- what waits at a topic, and what is sent there
      waits : (P : Option TaskId → Message → Type 0) (to : Topic) → is_changelog to ≡ false → ((r : Option TaskId) (j : ℕ) → Each (P r) (messages (st.waiting r (record { topic = to; part = j })))) →
          ((j : ℕ) → Each (P (Some t)) (picked rules p (record { topic = to; part = j }) (whole_step rules p (st.stores t) (arrival p q x)).sends)) →
          (r : Option TaskId) (j : ℕ) → Each (P r) (messages (cond (same_channel m r (record { topic = to; part = j }) s q) rest (st.waiting r (record { topic = to; part = j })) ++ cond (is_from same_task r t) (sent_to m (record { topic = to; part = j }) (step rules p t (st.stores t) q x).made) []))
      waits P to list old new r j =
          let at : Place = record { topic = to; part = j } in
          subst (Each (P r)) (sym (messages-append (cond (same_channel m r at s q) rest (st.waiting r at)) (cond (is_from same_task r t) (sent_to m at (step rules p t (st.stores t) q x).made) [])))
          (Each-append (P r) _ _
          (elim (same_channel m r at s q) as (λ b. same_channel m r at s q ≡ b → Each (P r) (messages (cond b rest (st.waiting r at)))) [
            | true ↦ λ b.
                let here : st.waiting r at ≡ x ∷ rest = at_channel m (names rules p) st.waiting r s at q (x ∷ rest) e b in
                (each_parts (P r) x.message (messages rest) (subst (λ l. Each (P r) (messages l)) here (old r j))).1
            | false ↦ λ b. old r j
          ] refl)
          (sends r))
        where
          sends : (r : Option TaskId) → Each (P r) (messages (cond (is_from same_task r t) (sent_to m (record { topic = to; part = j }) (step rules p t (st.stores t) q x).made) []))
          sends None = each_nothing _
          sends (Some u) = elim (same_task u t) as (λ b. same_task u t ≡ b → Each (P (Some u)) (messages (cond b (sent_to m (record { topic = to; part = j }) (step rules p t (st.stores t) q x).made) []))) [
            | true ↦ λ b. subst (Each (P (Some u))) (sym (made_is rules p t (st.stores t) q (record { topic = to; part = j }) x list))
                (subst (λ v. Each (P (Some v)) (picked rules p (record { topic = to; part = j }) (whole_step rules p (st.stores t) (arrival p q x)).sends)) (sym ((same_task-is u t).0 b)) (new j))
            | false ↦ λ b. each_nothing _
          ] refl

      asked : (r : Option TaskId) (j : ℕ) → Each (IsAsked r) (messages ((take_first m st s q (x ∷ rest)).waiting r (record { topic = Subscriptions a; part = j })))
      asked = waits IsAsked (Subscriptions a) refl h.asked (λ j. asks_made (st.stores t) q x at_key j)

      head_asked : same_topic q.topic (Subscriptions a) ≡ true → (s : Option TaskId) × IsAsked s x.message
      head_asked b =
          let is : record { topic = Subscriptions a; part = q.part } ≡ q = ap (λ v. record { topic = v; part = q.part }) (sym (topic-is q.topic (Subscriptions a) b)) in
          (s, (each_parts (IsAsked s) x.message (messages rest) (subst (λ l. Each (IsAsked s) (messages l)) (ap (st.waiting s) is ∙ e) (h.asked s q.part))).0)

      answered : (r : Option TaskId) (j : ℕ) → Each (IsAnswered r) (messages ((take_first m st s q (x ∷ rest)).waiting r (record { topic = Responses a; part = j })))
      answered = waits IsAnswered (Responses a) refl h.answered (λ j. answers_made (st.stores t) q x at_key head_asked j)

  pub waits_initial : (records : List Input) → Placed rules p (initial (machine rules p) (inputs_of rules p records)) → Waits (initial (machine rules p) (inputs_of rules p records))
  waits_initial records placed = record {
    placed = placed;
    asked = λ s j. asked s j;
    answered = λ s j. answered s j;
  }
    where
      asked : (s : Option TaskId) (j : ℕ) → Each (IsAsked s) (messages ((initial (machine rules p) (inputs_of rules p records)).waiting s (record { topic = Subscriptions a; part = j })))
      asked None j = subst (λ l. Each (IsAsked None) (messages l)) (sym (no_asks rules p a records j)) (each_nothing _)
      asked (Some u) j = each_nothing _

      answered : (s : Option TaskId) (j : ℕ) → Each (IsAnswered s) (messages ((initial (machine rules p) (inputs_of rules p records)).waiting s (record { topic = Responses a; part = j })))
      answered None j = subst (λ l. Each (IsAnswered None) (messages l)) (sym (no_answers rules p a records j)) (each_nothing _)
      answered (Some u) j = each_nothing _

  pub waits_run : (records : List Input) (schedule : List (Option TaskId × Place)) → Waits (run (machine rules p) (inputs_of rules p records) schedule)
  waits_run records schedule = kept_by_run (machine rules p) Waits (λ st c h. waits_step st c.0 c.1 (st.waiting c.0 c.1) refl h) (initial (machine rules p) (inputs_of rules p records))
      (waits_initial records (placed_run rules p fits records [])) schedule
