-- A task that takes a record writes its own changelogs alone, and answers to partitions that there are, so nothing that it makes is held back.
use Rattle.std.proofs.Common.{◌≡◌, ℕ, suc, ◌<◌, ◌≤◌, Bool, true, false, cond, ◌&&◌, List, length, [], ◌∷◌, ◌++◌, map, get_or, Option, Some, None, refl, sym, ap, ap₂, subst, ◌∙◌, arith, append_assoc, length-append}
use Rattle.std.specs.Prelude.{◌==◌, nat_lt}
use Rattle.std.specs.List.{filter}
use Rattle.std.proofs.lemmas.Bool.{and_from, eq-eqb, lt-ltb}
use Rattle.std.proofs.lemmas.Bool.Decides.{Decides-eqb}
use Rattle.ks_record.specs.declared.record.TaskId.{TaskId}
use Rattle.ks_wire.specs.declared.values.Delta.{Delta}
use Rattle.ks_wire.specs.declared.values.Response.{Response}
use Rattle.ks_wire.specs.declared.values.Subscriber.{Subscriber}
use Rattle.ks_expr.specs.declared.terms.Fk.{Fk}
use Rattle.ks_expr.specs.Eval.{Row}
use Rattle.ks_plan.specs.declared.node.Spread.{Spread}
use Rattle.ks_plan.specs.declared.node.Topic.TheVariants.{Subscriptions, Responses}
use Rattle.ks_plan.specs.Plan.{Plan, Kind, plan_of}
use Rattle.ks_plan.specs.Plan.Kind.{StreamSource, TableSource, StreamFilter, TableFilter, StreamMap, TableMap, KeySelected, StreamAggregate, TableAggregate, Windowed, KeyJoin, ForeignKeyJoin}
use Rattle.ks_plan.specs.Layout.{same_topic, kind_at, no_kind, parts_of, parts_of_topic, spread_of, right_of}
use Rattle.ks_def_runs.specs.FinMap as fin
use Rattle.ks_query.specs.Streams.{Key, StreamItem, group_key}
use Rattle.ks_def_tasks.specs.Messages.{Place, Subscription, Message, Item, Store, Rules}
use Rattle.ks_def_tasks.specs.Messages.Message.{Given, Keyed, Moved, Asked, Answered, Kept, KeptCount, KeptTime, KeptHash}
use Rattle.ks_def_tasks.specs.Foreign.{Sending, answer_all}
use Rattle.ks_def_tasks.specs.Tasks.{arrival, step, taker, to_part, sent_item, written_item, is_changelog}
use Rattle.ks_def_tasks.specs.Step.To.{Named}
use Rattle.ks_def_tasks.specs.Step.{Arrival, Sent, Written, Values, whole_step, arrived, changed, row_in, step_key, items_from, olds_at, news_at, over_nodes, keyed_to, regroup, send_deltas, send_subscriptions, send_responses, answer_of, answer_one, join_sends, sends_at}
use Rattle.ks_def_tasks.specs.Bytes.{is_own, is_sent}
use Rattle.ks_def_tasks.proofs.Names.{topic-is}
use Rattle.ks_law_topology.proofs.Each.{Each, each_nothing, each_first, each_parts, Each-append, Each-cond, Each-map}
use Rattle.ks_law_topology.proofs.Entries.{each_entry}
use Rattle.ks_law_topology.proofs.Fits.{Fits, NodeFits, EachFits}
use Rattle.ks_law_topology.proofs.WellFormed.{well_formed_fits}
use Rattle.ks_law_topology.specs.Work.{HavePlaces, IsOfJoin, NamesParts, NothingIsHeldBack}
use Rattle.ks_law_topology.proofs.Writes.{Through, through_all, OfSub, written_all}

get_here : (xs : List Kind) (x : Kind) (ys : List Kind) → get_or (xs ++ x ∷ ys) (length xs) no_kind ≡ x
get_here [] x ys = refl
get_here (y ∷ xs) x ys = get_here xs x ys

pub filter-append : {A : Type 0} (f : A → Bool) (xs ys : List A) → filter f (xs ++ ys) ≡ filter f xs ++ filter f ys
filter-append f [] ys = refl
filter-append f (x ∷ xs) ys = by (f x) (filter-append f xs ys)
  where
    by : (b : Bool) → filter f (xs ++ ys) ≡ filter f xs ++ filter f ys → cond b (x ∷ filter f (xs ++ ys)) (filter f (xs ++ ys)) ≡ cond b (x ∷ filter f xs) (filter f xs) ++ filter f ys
    by true e = ap (λ l. x ∷ l) e
    by false e = e

-- ---- what a node sends goes to partitions that there are
abbrev IsInside : Rules → Plan → Sent → Type 0
IsInside rules p s = nat_lt (to_part rules p s.topic s.key s.to) (parts_of_topic p s.topic) ≡ true

module _ (rules : Rules) (p : Plan) (have : HavePlaces rules p) where
  abbrev Inside : Sent → Type 0
  Inside = IsInside rules p

  by_key : (s : Spread) (k : Key) → 1 ≤ s.parts → nat_lt (rules.part k s) s.parts ≡ true
  by_key s k h = lt-ltb (rules.part k s) s.parts (have.keys k s h)

  module _ (n : ℕ) (lt : n < length p.kinds) where
    deltas_inside : (ds : List (Key × Delta)) → Each Inside (send_deltas n ds)
    deltas_inside [] = each_nothing Inside
    deltas_inside (d ∷ ds) = each_first Inside _ _ (by_key (spread_of p n) d.0 (have.nodes n lt)) (deltas_inside ds)

    keyed_inside : (row : Row) (g : Option Key) → Each Inside (keyed_to n row g)
    keyed_inside row None = each_nothing Inside
    keyed_inside row (Some g) = each_first Inside _ _ (by_key (spread_of p n) g (have.nodes n lt)) (each_nothing Inside)

    regroup_inside : (by : Option (List ℕ)) (x : Option StreamItem) → Each Inside (regroup by n x)
    regroup_inside by None = each_nothing Inside
    regroup_inside by (Some x) = keyed_inside x.row (group_key by x)

    named_inside : (k : Key) (named : Option ℕ) → IsOfJoin p n named → nat_lt (to_part rules p (Responses n) k (Named named)) (parts_of p n) ≡ true
    named_inside k None h = by_key (record { parts = parts_of p n; before = None }) k (have.nodes n lt)
    named_inside k (Some i) h = lt-ltb i (parts_of p n) h

    responses_inside : (rs : List Sending) → Each (λ (r : Sending). IsOfJoin p n r.2) rs → Each Inside (send_responses n rs)
    responses_inside [] h = each_nothing Inside
    responses_inside (r ∷ rs) h =
        let parts = each_parts (λ (x : Sending). IsOfJoin p n x.2) r rs h in
        each_first Inside _ _ (named_inside r.0 r.2 parts.0) (responses_inside rs parts.1)

  subscriptions_inside : (n : ℕ) (r : ℕ) → r < length p.kinds → right_of (kind_at p n) ≡ r → (k : Key) (ss : List (Key × Subscription)) → Each Inside (send_subscriptions n k ss)
  subscriptions_inside n r lt e k [] = each_nothing Inside
  subscriptions_inside n r lt e k (s ∷ ss) =
      each_first Inside _ _ (by_key (spread_of p (right_of (kind_at p n))) s.0 (subst (λ i. 1 ≤ parts_of p i) (sym e) (have.nodes r lt))) (subscriptions_inside n r lt e k ss)

  module _ (st : Store) (q : Place) (x : Item) (names : NamesParts p st q x) where
    abbrev a : Arrival
    a = arrival p q x

    one_inside : (n r : ℕ) → n < length p.kinds → Each Inside (answer_one n st r (arrived a (Subscriptions n)))
    one_inside n r lt = by (same_topic q.topic (Subscriptions n)) refl
      where
        none_or_one : (k : Key) (part : Option ℕ) → IsOfJoin p n part → (y : Option Response) → Each Inside (send_responses n (answer_of k part y))
        none_or_one k part h None = each_nothing Inside
        none_or_one k part h (Some y) = responses_inside n lt ((k, y, part) ∷ []) (each_first (λ (r : Sending). IsOfJoin p n r.2) _ _ h (each_nothing _))

        of_message : (m : Message) → q.topic ≡ Subscriptions n → x.message ≡ m → Each Inside (answer_one n st r (Some m))
        of_message (Asked b k s) t e = none_or_one k s.part (names.asked n b k s t e) _
        of_message (Given k v) t e = each_nothing Inside
        of_message (Keyed g row) t e = each_nothing Inside
        of_message (Moved g d) t e = each_nothing Inside
        of_message (Answered k y) t e = each_nothing Inside
        of_message (Kept k w) t e = each_nothing Inside
        of_message (KeptCount w g) t e = each_nothing Inside
        of_message (KeptTime u) t e = each_nothing Inside
        of_message (KeptHash b k s) t e = each_nothing Inside

        by : (b : Bool) → same_topic q.topic (Subscriptions n) ≡ b → Each Inside (answer_one n st r (cond b (Some x.message) None))
        by true e = of_message x.message (topic-is q.topic (Subscriptions n) e) refl
        by false e = each_nothing Inside

    answers_inside : (n : ℕ) (k : Key) (row : Option Row) → Each (λ (r : Sending). IsOfJoin p n r.2) (answer_all row (fin.entries (st.hashes n k)))
    answers_inside n k row = Each-map (λ (r : Sending). IsOfJoin p n r.2) (λ (e : Key × Subscriber). (e.0, record { hash = Some e.1.hash; right = row }, e.1.part)) (fin.entries (st.hashes n k))
        (each_entry (λ (e : Key × Subscriber). IsOfJoin p n e.1.part) (fin.entries (st.hashes n k)) (fin.entries_sorted (st.hashes n k)) (λ l s e. names.kept n k l s (fin.get-entries (st.hashes n k) l ∙ e)))

    join_inside : (fk : Fk) (part : Option ℕ) (n l r : ℕ) → n < length p.kinds → r < length p.kinds → right_of (kind_at p n) ≡ r → (olds news : Values) (k : Option Key) → Each Inside (join_sends rules fk part n l r st olds news k)
    join_inside fk part n l r lt lr e olds news None = each_nothing Inside
    join_inside fk part n l r lt lr e olds news (Some k) = Each-append Inside _ _
        (Each-cond Inside (changed olds news l) _ _ (subscriptions_inside n r lr e k _) (each_nothing Inside))
        (Each-cond Inside (changed olds news r) _ _ (responses_inside n lt _ (answers_inside n k (row_in news r))) (each_nothing Inside))

    node_inside : (items : ℕ → Option StreamItem) (olds news : Values) (n : ℕ) (k : Kind) → n < length p.kinds → kind_at p n ≡ k → NodeFits p n k → Each Inside (sends_at rules a items st olds news n k)
    node_inside items olds news n (StreamAggregate f by field through) lt e fit = Each-cond Inside through _ _ (regroup_inside n lt by (items f)) (each_nothing Inside)
    node_inside items olds news n (Windowed f by w through) lt e fit = Each-cond Inside through _ _ (regroup_inside n lt by (items f)) (each_nothing Inside)
    node_inside items olds news n (TableAggregate f by field) lt e fit = deltas_inside n lt _
    node_inside items olds news n (ForeignKeyJoin l r fk kind s) lt e fit = Each-append Inside _ _
        (join_inside fk (a.names n) n l r lt (omega (arith, lt, fit.1)) (ap right_of e) olds news (step_key x.message)) (one_inside n r lt)
    node_inside items olds news n (StreamSource t) lt e fit = each_nothing Inside
    node_inside items olds news n (TableSource t) lt e fit = each_nothing Inside
    node_inside items olds news n (StreamFilter f y) lt e fit = each_nothing Inside
    node_inside items olds news n (TableFilter f y) lt e fit = each_nothing Inside
    node_inside items olds news n (StreamMap f s) lt e fit = each_nothing Inside
    node_inside items olds news n (TableMap f s) lt e fit = each_nothing Inside
    node_inside items olds news n (KeySelected f k) lt e fit = each_nothing Inside
    node_inside items olds news n (KeyJoin l r kind s) lt e fit = each_nothing Inside

    nodes_inside : (items : ℕ → Option StreamItem) (olds news : Values) (before ks : List Kind) → p.kinds ≡ before ++ ks → EachFits p (length before) ks → Each Inside (over_nodes (sends_at rules a items st olds news) (length before) ks)
    nodes_inside items olds news before [] all fits = each_nothing Inside
    nodes_inside items olds news before (k ∷ ks) all fits =
        let push : before ++ k ∷ ks ≡ (before ++ k ∷ []) ++ ks = sym (append_assoc before (k ∷ []) ks) in
        let long : length (before ++ k ∷ []) ≡ suc (length before) = omega (arith, length-append before (k ∷ [])) in
        let lt : length before < length p.kinds = omega (arith, ap length all, length-append before (k ∷ ks)) in
        let at : kind_at p (length before) ≡ k = ap (λ l. get_or l (length before) no_kind) all ∙ get_here before k ks in
        Each-append Inside _ _ (node_inside items olds news (length before) k lt at fits.0)
        (subst (λ m. Each Inside (over_nodes (sends_at rules a items st olds news) m ks)) long
        (nodes_inside items olds news (before ++ k ∷ []) ks (all ∙ push) (subst (λ m. EachFits p m ks) (sym long) fits.1)))

module _ (rules : Rules) (p : Plan) (t : TaskId) where
  sends_kept : (time : ℕ) (xs : List Sent) → Through xs → Each (IsInside rules p) xs → filter (is_sent p t) (map (sent_item rules p time) xs) ≡ map (sent_item rules p time) xs
  sends_kept time [] h i = refl
  sends_kept time (s ∷ xs) h i =
      let parts = each_parts (IsInside rules p) s xs i in
      let place = to_part rules p s.topic s.key s.to in
      ap (λ b. cond b (sent_item rules p time s ∷ filter (is_sent p t) (map (sent_item rules p time) xs)) (filter (is_sent p t) (map (sent_item rules p time) xs)))
      (ap (λ b. cond b (is_own p t.sub s.topic && (place == t.part)) (nat_lt place (parts_of_topic p s.topic))) h.0.0 ∙ parts.0)
      ∙ ap (λ l. sent_item rules p time s ∷ l) (sends_kept time xs h.1 parts.1)

  pub writes_kept : (time : ℕ) (ws : List Written) → OfSub rules p t.sub ws → filter (is_sent p t) (map (written_item t.part time) ws) ≡ map (written_item t.part time) ws
  writes_kept time [] h = refl
  writes_kept time (w ∷ ws) h =
      let own : is_own p t.sub w.topic && (t.part == t.part) ≡ true =
      and_from (is_own p t.sub w.topic) (t.part == t.part) (and_from (is_changelog w.topic) _ h.0.0 ((Decides-eqb _ _).1 h.0.1)) (eq-eqb t.part t.part refl) in
      ap (λ b. cond b (written_item t.part time w ∷ filter (is_sent p t) (map (written_item t.part time) ws)) (filter (is_sent p t) (map (written_item t.part time) ws)))
      (ap (λ b. cond b (is_own p t.sub w.topic && (t.part == t.part)) (nat_lt t.part (parts_of_topic p w.topic))) h.0.0 ∙ own)
      ∙ ap (λ l. written_item t.part time w ∷ l) (writes_kept time ws h.1)

  kept : Fits p → HavePlaces rules p → (st : Store) (q : Place) (x : Item) → taker p q.topic ≡ t.sub → NamesParts p st q x → filter (is_sent p t) (step rules p t st q x).made ≡ (step rules p t st q x).made
  kept fits have st q x takes names =
      let a : Arrival = arrival p q x in
      let made = whole_step rules p st a in
      let key = step_key x.message in
      let items = items_from a (λ n. None) 0 p.kinds in
      let olds = olds_at st key in
      let news = news_at rules p a items olds key in
      filter-append (is_sent p t) (map (sent_item rules p x.time) made.sends) (map (written_item t.part x.time) made.changes)
      ∙ ap₂ (λ a b. a ++ b) (sends_kept x.time made.sends (through_all rules a items st olds news 0 p.kinds) (nodes_inside rules p have st q x names items olds news [] p.kinds refl fits))
      (writes_kept x.time made.changes (written_all rules p fits a t.sub takes st 0 p.kinds fits))

pub nothing_is_held_back : NothingIsHeldBack
nothing_is_held_back rules d well have t st q x takes names = kept rules (plan_of d) t (well_formed_fits d well) have st q x takes names
