-- What a whole step writes for the changelog of one node.
use Rattle.std.proofs.Common.{◌≡◌, ℕ, ◌+◌, ◌<◌, Bool, true, false, cond, ◌&&◌, ◌==◌, nat_eq, List, [], ◌∷◌, ◌++◌, map, Option, Some, None, refl, sym, ap, ap₂, subst, ◌∙◌, arith, zero, suc, append-nil}
use Rattle.std.specs.Prelude.{slice_get, option_map}
use Rattle.ks_def_runs.specs.FinMap as fin
use Rattle.std.specs.List.{filter}
use Rattle.std.proofs.lemmas.Bool.{and_parts, and_from}
use Rattle.std.proofs.lemmas.Bool.Decides.{Decides-eqb}
use Rattle.ks_record.specs.Records.{Record as Rec}
use Rattle.ks_record.specs.declared.record.PartId.{PartId}
use Rattle.ks_record.specs.declared.record.TaskId.{TaskId}
use Rattle.ks_record.specs.Parts.{same_part}
use Rattle.ks_wire.specs.declared.values.Delta.{Delta}
use Rattle.ks_plan.specs.Plan.{Plan, Kind}
use Rattle.ks_plan.specs.Plan.Kind.{StreamSource, TableSource, StreamFilter, TableFilter, StreamMap, TableMap, KeySelected, StreamAggregate, TableAggregate, Windowed, KeyJoin, ForeignKeyJoin}
use Rattle.ks_plan.specs.declared.node.Topic.{Topic}
use Rattle.ks_plan.specs.declared.node.Topic.TheVariants.{Subscriptions, Changelog, HashChangelog}
use Rattle.ks_plan.specs.Layout.{same_topic, topic_at, topics_of, number_of, reads}
use Rattle.ks_query.specs.Streams.{Key, StreamItem, group_key}
use Rattle.ks_query.specs.Aggregates.{table_parts}
use Rattle.ks_expr.specs.Eval.{Row}
use Rattle.ks_def_tasks.specs.Messages.{Place, shown, Subscription, Message, Item, Store, Rules}
use Rattle.ks_def_tasks.specs.Messages.Message.{Given, Keyed, Moved, Asked, Answered, Kept, KeptCount, KeptTime, KeptHash}
use Rattle.ks_expr.specs.declared.terms.Fk.{Fk}
use Rattle.ks_def_tasks.specs.Foreign.{Sending, subscriptions, answer_to, answer_all}
use Rattle.ks_def_tasks.specs.Step.{Arrival, Values, Sent, Written, keyed_to, regroup, send_deltas, send_subscriptions, send_responses, answer_of, answer_one, join_sends, sends_at, write_all, value_changes, hash_changes, counted_at, changes_at, over_nodes, arrived, step_key, row_in, changed}
use Rattle.ks_def_tasks.specs.Tasks.{is_changelog, sent_item, written_item}
use Rattle.ks_def_tasks.specs.Bytes.{is_own, is_sent, spelled, part_id, rec_of, records_at}
use Rattle.ks_def_tasks.proofs.Names.{topic-is, topic_itself}
use Rattle.ks_def_tasks.proofs.Numbers.{place-is}

-- the records among these for one changelog, in one partition
abbrev pub picks : Topic → ℕ → Place → Bool
picks l part q = same_topic l q.topic && (q.part == part)

abbrev pub items_at : Topic → ℕ → List (Place × Item) → List Item
items_at l part [] = []
items_at l part (z ∷ zs) = cond (picks l part z.0) (z.1 ∷ items_at l part zs) (items_at l part zs)

pub items_at-append : (l : Topic) (part : ℕ) (xs ys : List (Place × Item)) → items_at l part (xs ++ ys) ≡ items_at l part xs ++ items_at l part ys
items_at-append l part [] ys = refl
items_at-append l part (z ∷ zs) ys = elim (picks l part z.0) as (λ b. cond b (z.1 ∷ items_at l part (zs ++ ys)) (items_at l part (zs ++ ys)) ≡ cond b (z.1 ∷ items_at l part zs) (items_at l part zs) ++ items_at l part ys) [
  | true ↦ ap (λ l. z.1 ∷ l) (items_at-append l part zs ys)
  | false ↦ items_at-append l part zs ys
]

-- ---- by number, as bytes, they are the same
module _ (p : Plan) (t : TaskId) (l : Topic) (own : is_own p t.sub l ≡ true) (at : topic_at p (number_of p l) ≡ Some l) where
  abbrev here : PartId
  here = record { topic = number_of p l; part = t.part }

  parts_own : (is_changelog l ≡ true) × (nat_eq (reads p l) t.sub ≡ true)
  parts_own = and_parts (is_changelog l) (nat_eq (reads p l) t.sub) own

  one_here : (z : Place × Item) (rest : List (Place × Item)) (more : List Rec) → records_at here (spelled p (filter (is_sent p t) rest)) ≡ more →
      records_at here (spelled p (filter (is_sent p t) (z ∷ rest))) ≡ cond (picks l t.part z.0) (rec_of z.1 ∷ more) more
  one_here z rest more h = elim (same_topic l z.0.topic) as (λ b. same_topic l z.0.topic ≡ b →
      records_at here (spelled p (cond (is_sent p t z) (z ∷ filter (is_sent p t) rest) (filter (is_sent p t) rest))) ≡ cond (b && (z.0.part == t.part)) (rec_of z.1 ∷ more) more) [
        | true ↦ λ e. mine (sym (topic-is l z.0.topic e))
        | false ↦ λ e. others e
      ] refl
    where
      mine : z.0.topic ≡ l → records_at here (spelled p (cond (is_sent p t z) (z ∷ filter (is_sent p t) rest) (filter (is_sent p t) rest))) ≡ cond (z.0.part == t.part) (rec_of z.1 ∷ more) more
      mine e = elim (z.0.part == t.part) as (λ b. (z.0.part == t.part) ≡ b →
          records_at here (spelled p (cond (is_sent p t z) (z ∷ filter (is_sent p t) rest) (filter (is_sent p t) rest))) ≡ cond b (rec_of z.1 ∷ more) more) [
            | true ↦ λ f.
                let log = parts_own.0 in
                let mine = parts_own.1 in
                let sent : is_sent p t z ≡ true = rw (e, log, mine, f) refl in
                let hit : same_part here (part_id p z.0) ≡ true = and_from (number_of p l == number_of p z.0.topic) (t.part == z.0.part)
                ((Decides-eqb (number_of p l) (number_of p z.0.topic)).1 (ap (number_of p) (sym e))) ((Decides-eqb t.part z.0.part).1 (sym ((Decides-eqb z.0.part t.part).0 f))) in
                rw (sent, hit) (ap (λ l. rec_of z.1 ∷ l) h)
            | false ↦ λ f.
                let log = parts_own.0 in
                let mine = parts_own.1 in
                let sent : is_sent p t z ≡ false = rw (e, log, mine, f) refl in
                rw sent h
          ] refl

      others : same_topic l z.0.topic ≡ false → records_at here (spelled p (cond (is_sent p t z) (z ∷ filter (is_sent p t) rest) (filter (is_sent p t) rest))) ≡ more
      others e = elim (is_sent p t z) as (λ b. records_at here (spelled p (cond b (z ∷ filter (is_sent p t) rest) (filter (is_sent p t) rest))) ≡ more) [
        | true ↦ elim (same_part here (part_id p z.0)) as (λ b. same_part here (part_id p z.0) ≡ b →
            cond b (rec_of z.1 ∷ records_at here (spelled p (filter (is_sent p t) rest))) (records_at here (spelled p (filter (is_sent p t) rest))) ≡ more) [
              | true ↦ λ f.
                  let parts = and_parts (number_of p l == number_of p z.0.topic) (t.part == z.0.part) f in
                  let same : l ≡ z.0.topic = place-is (topics_of p) z.0.topic l (ap (topic_at p) (sym ((Decides-eqb (number_of p l) (number_of p z.0.topic)).0 parts.0)) ∙ at) in
                  let is : same_topic l z.0.topic ≡ true = subst (λ x. same_topic l x ≡ true) same (topic_itself l) in
                  absurd (cc)
              | false ↦ λ f. h
            ] refl
        | false ↦ h
      ]

  pub records_here : (zs : List (Place × Item)) → records_at here (spelled p (filter (is_sent p t) zs)) ≡ map rec_of (items_at l t.part zs)
  records_here [] = refl
  records_here (z ∷ zs) = one_here z zs (map rec_of (items_at l t.part zs)) (records_here zs)
      ∙ elim (picks l t.part z.0) as (λ b. cond b (rec_of z.1 ∷ map rec_of (items_at l t.part zs)) (map rec_of (items_at l t.part zs)) ≡ map rec_of (cond b (z.1 ∷ items_at l t.part zs) (items_at l t.part zs))) [
        | true ↦ refl
        | false ↦ refl
      ]

-- ---- what is sent goes to no changelog
abbrev Elsewhere : List Sent → Type 0
Elsewhere [] = Unit {0}
Elsewhere (s ∷ ss) = (is_changelog s.topic ≡ false) × Elsewhere ss

else_append : (xs ys : List Sent) → Elsewhere xs → Elsewhere ys → Elsewhere (xs ++ ys)
else_append [] ys g h = h
else_append (x ∷ xs) ys g h = (g.0, else_append xs ys g.1 h)

else_cond : (b : Bool) (xs : List Sent) → Elsewhere xs → Elsewhere (cond b xs [])
else_cond true xs h = h
else_cond false xs h = tt

else_keyed : (m : ℕ) (row : Row) (k : Option Key) → Elsewhere (keyed_to m row k)
else_keyed m row None = tt
else_keyed m row (Some g) = (refl, tt)

else_regroup : (m : ℕ) (by : Option (List ℕ)) (x : Option StreamItem) → Elsewhere (regroup by m x)
else_regroup m by None = tt
else_regroup m by (Some x) = else_keyed m x.row (group_key by x)

else_deltas : (m : ℕ) (ds : List (Key × Delta)) → Elsewhere (send_deltas m ds)
else_deltas m [] = tt
else_deltas m (d ∷ ds) = (refl, else_deltas m ds)

else_subscriptions : (m : ℕ) (k : Key) (ss : List (Key × Subscription)) → Elsewhere (send_subscriptions m k ss)
else_subscriptions m k [] = tt
else_subscriptions m k (s ∷ ss) = (refl, else_subscriptions m k ss)

else_responses : (m : ℕ) (rs : List Sending) → Elsewhere (send_responses m rs)
else_responses m [] = tt
else_responses m (r ∷ rs) = (refl, else_responses m rs)

else_one : (m : ℕ) (st : Store) (r : ℕ) (x : Option Message) → Elsewhere (answer_one m st r x)
else_one m st r None = tt
else_one m st r (Some (Given k v)) = tt
else_one m st r (Some (Keyed g row)) = tt
else_one m st r (Some (Moved g d)) = tt
else_one m st r (Some (Asked b q s)) = else_responses m (answer_of q s.part (answer_to s (option_map shown (fin.get (st.tables r) b))))
else_one m st r (Some (Answered q x)) = tt
else_one m st r (Some (Kept k w)) = tt
else_one m st r (Some (KeptCount w a)) = tt
else_one m st r (Some (KeptTime x)) = tt
else_one m st r (Some (KeptHash b q h)) = tt

module _ (rules : Rules) (a : Arrival) (items : ℕ → Option StreamItem) (st : Store) (olds news : Values) where
  else_join : (m l r : ℕ) (fk : Fk) (part : Option ℕ) (k : Option Key) → Elsewhere (join_sends rules fk part m l r st olds news k)
  else_join m l r fk part None = tt
  else_join m l r fk part (Some k) =
      let asked = send_subscriptions m k (subscriptions rules.hash fk k part (row_in olds l) (row_in news l)) in
      let answered = send_responses m (answer_all (row_in news r) (fin.entries (st.hashes m k))) in
      else_append (cond (changed olds news l) asked []) (cond (changed olds news r) answered [])
      (else_cond (changed olds news l) asked (else_subscriptions m k (subscriptions rules.hash fk k part (row_in olds l) (row_in news l))))
      (else_cond (changed olds news r) answered (else_responses m (answer_all (row_in news r) (fin.entries (st.hashes m k)))))

  else_node : (m : ℕ) (k : Kind) → Elsewhere (sends_at rules a items st olds news m k)
  else_node m (StreamSource t) = tt
  else_node m (TableSource t) = tt
  else_node m (StreamFilter f x) = tt
  else_node m (TableFilter f x) = tt
  else_node m (StreamMap f s) = tt
  else_node m (TableMap f s) = tt
  else_node m (KeySelected f k) = tt
  else_node m (StreamAggregate f by field through) = else_cond through (regroup by m (items f)) (else_regroup m by (items f))
  else_node m (TableAggregate f by field) = else_deltas m (table_parts by field (row_in olds f) (row_in news f))
  else_node m (Windowed f by w through) = else_cond through (regroup by m (items f)) (else_regroup m by (items f))
  else_node m (KeyJoin l r kind s) = tt
  else_node m (ForeignKeyJoin l r fk kind s) = else_append (join_sends rules fk (a.names m) m l r st olds news (step_key a.item.message)) (answer_one m st r (arrived a (Subscriptions m))) (else_join m l r fk (a.names m) (step_key a.item.message)) (else_one m st r (arrived a (Subscriptions m)))

  else_nodes : (m : ℕ) (ks : List Kind) → Elsewhere (over_nodes (sends_at rules a items st olds news) m ks)
  else_nodes m [] = tt
  else_nodes m (k ∷ ks) = else_append (sends_at rules a items st olds news m k) (over_nodes (sends_at rules a items st olds news) (suc m) ks) (else_node m k) (else_nodes (suc m) ks)

  no_log : (l u : Topic) → is_changelog l ≡ true → is_changelog u ≡ false → same_topic l u ≡ false
  no_log l u e f = elim (same_topic l u) as (λ b. same_topic l u ≡ b → b ≡ false) [
    | true ↦ λ g. let same : is_changelog l ≡ is_changelog u = ap is_changelog (topic-is l u g) in absurd (cc)
    | false ↦ λ g. refl
  ] refl

  none_picked : (l : Topic) (part time : ℕ) (p : Plan) (ss : List Sent) → is_changelog l ≡ true → Elsewhere ss → items_at l part (map (sent_item rules p time) ss) ≡ []
  none_picked l part time p [] e h = refl
  none_picked l part time p (s ∷ ss) e h = rw (no_log l s.topic e h.0) (none_picked l part time p ss e h.1)

  pub none_sent : (l : Topic) (part time : ℕ) (p : Plan) (ks : List Kind) → is_changelog l ≡ true → items_at l part (map (sent_item rules p time) (over_nodes (sends_at rules a items st olds news) 0 ks)) ≡ []
  none_sent l part time p ks e = none_picked l part time p (over_nodes (sends_at rules a items st olds news) 0 ks) e (else_nodes 0 ks)

  -- ---- of what is written, each node's own
  abbrev pub timed : ℕ → Message → Item
  timed time m = record { message = m; time = time }

  abbrev lines : ℕ → Kind → List Written
  lines m k = changes_at a items st olds news m k

  abbrev own_messages : ℕ → Kind → List Message
  own_messages m k = value_changes (step_key a.item.message) (olds m) (news m) ++ (counted_at a items st m k).changes

  map-append : (f : Written → Place × Item) (xs ys : List Written) → map f (xs ++ ys) ≡ map f xs ++ map f ys
  map-append f [] ys = refl
  map-append f (x ∷ xs) ys = ap (λ l. f x ∷ l) (map-append f xs ys)

  eq_itself : (m : ℕ) → (m == m) ≡ true
  eq_itself m = (Decides-eqb m m).1 refl

  abbrev pub logged : Topic → ℕ → List Written → List Item
  logged l part ws = items_at l part (map (written_item part a.item.time) ws)

  picked_own : (l : Topic) (part : ℕ) (ms : List Message) → logged l part (write_all l ms) ≡ map (timed a.item.time) ms
  picked_own l part [] = refl
  picked_own l part (m ∷ ms) = rw (topic_itself l, eq_itself part) (ap (λ x. timed a.item.time m ∷ x) (picked_own l part ms))

  picked_other : (l u : Topic) (part : ℕ) (ms : List Message) → same_topic l u ≡ false → logged l part (write_all u ms) ≡ []
  picked_other l u part [] e = refl
  picked_other l u part (x ∷ ms) e = rw e (picked_other l u part ms e)

  logged-append : (l : Topic) (part : ℕ) (xs ys : List Written) → logged l part (xs ++ ys) ≡ logged l part xs ++ logged l part ys
  logged-append l part xs ys = ap (items_at l part) (map-append (written_item part a.item.time) xs ys) ∙ items_at-append l part (map (written_item part a.item.time) xs) (map (written_item part a.item.time) ys)

  abbrev hash_messages : ℕ → List Message
  hash_messages m = hash_changes st m (arrived a (Subscriptions m))

  -- a node's two changelogs
  in_two : (l : Topic) (part m : ℕ) (k : Kind) (xs ys : List Item) → logged l part (write_all (Changelog m) (own_messages m k)) ≡ xs → logged l part (write_all (HashChangelog m) (hash_messages m)) ≡ ys → logged l part (lines m k) ≡ xs ++ ys
  in_two l part m k xs ys e f = logged-append l part (write_all (Changelog m) (own_messages m k)) (write_all (HashChangelog m) (hash_messages m)) ∙ ap₂ (λ x y. x ++ y) e f

  apart_eq : (n m : ℕ) → n < m → nat_eq n m ≡ false
  apart_eq n m h = elim (nat_eq n m) as (λ b. nat_eq n m ≡ b → b ≡ false) [ true ↦ λ e. let same : n ≡ m = (Decides-eqb n m).0 e in absurd (omega arith) | false ↦ λ e. refl ] refl

  later_eq : (m i : ℕ) → nat_eq (m + suc i) m ≡ false
  later_eq m i = elim (nat_eq (m + suc i) m) as (λ b. nat_eq (m + suc i) m ≡ b → b ≡ false) [ true ↦ λ e. let same : m + suc i ≡ m = (Decides-eqb (m + suc i) m).0 e in absurd (omega arith) | false ↦ λ e. refl ] refl

  -- the changelog of one node, by number, gets from the other nodes nothing
  module _ (log : ℕ → Topic) (own : ℕ → Kind → List Item) (mine : (n part : ℕ) (k : Kind) → logged (log n) part (lines n k) ≡ own n k)
      (others : (n m part : ℕ) (k : Kind) → nat_eq n m ≡ false → logged (log n) part (lines m k) ≡ []) where
    past_nodes : (n m part : ℕ) (ks : List Kind) → n < m → logged (log n) part (over_nodes lines m ks) ≡ []
    past_nodes n m part [] h = refl
    past_nodes n m part (k ∷ ks) h =
        let more : n < suc m = omega arith in
        logged-append (log n) part (lines m k) (over_nodes lines (suc m) ks) ∙ ap₂ (λ x y. x ++ y) (others n m part k (apart_eq n m h)) (past_nodes n (suc m) part ks more)

    nodes_logged : (m i part : ℕ) (ks : List Kind) (k : Kind) → slice_get ks i ≡ Some k → logged (log (m + i)) part (over_nodes lines m ks) ≡ own (m + i) k
    nodes_logged m i part [] k e = absurd (cc)
    nodes_logged m zero part (x ∷ ks) k e =
        let same : x ≡ k = some_kind x k e in
        let at : m + 0 ≡ m = omega arith in
        rw at (logged-append (log m) part (lines m x) (over_nodes lines (suc m) ks)
        ∙ ap₂ (λ u v. u ++ v) (mine m part x) (past_nodes m (suc m) part ks (less_suc m)) ∙ append-nil (own m x) ∙ ap (own m) same)
      where
        some_kind : (c d : Kind) → Some c ≡ Some d → c ≡ d
        some_kind c d f = cc

        less_suc : (j : ℕ) → j < suc j
        less_suc j = omega arith
    nodes_logged m (suc i) part (x ∷ ks) k e =
        let rest = nodes_logged (suc m) i part ks k e in
        let at : suc m + i ≡ m + suc i = omega arith in
        logged-append (log (m + suc i)) part (lines m x) (over_nodes lines (suc m) ks)
        ∙ ap₂ (λ u v. u ++ v) (others (m + suc i) m part x (later_eq m i)) (subst (λ j. logged (log j) part (over_nodes lines (suc m) ks) ≡ own j k) at rest)

    node_logged : (n part : ℕ) (ks : List Kind) (k : Kind) → slice_get ks n ≡ Some k → logged (log n) part (over_nodes lines 0 ks) ≡ own n k
    node_logged n part ks k e =
        let same : 0 + n ≡ n = omega arith in
        subst (λ i. logged (log i) part (over_nodes lines 0 ks) ≡ own i k) same (nodes_logged 0 n part ks k e)

  -- a node's own changelog gets its own messages, and its subscription store's the hashes
  pub own_logged : (n part : ℕ) (ks : List Kind) (k : Kind) → slice_get ks n ≡ Some k → logged (Changelog n) part (over_nodes lines 0 ks) ≡ map (timed a.item.time) (own_messages n k)
  own_logged = node_logged Changelog (λ n k. map (timed a.item.time) (own_messages n k))
      (λ n part k. in_two (Changelog n) part n k (map (timed a.item.time) (own_messages n k)) [] (picked_own (Changelog n) part (own_messages n k)) (picked_other (Changelog n) (HashChangelog n) part (hash_messages n) refl) ∙ append-nil (map (timed a.item.time) (own_messages n k)))
      (λ n m part k e. in_two (Changelog n) part m k [] [] (picked_other (Changelog n) (Changelog m) part (own_messages m k) e) (picked_other (Changelog n) (HashChangelog m) part (hash_messages m) refl))

  pub hash_logged : (n part : ℕ) (ks : List Kind) (k : Kind) → slice_get ks n ≡ Some k → logged (HashChangelog n) part (over_nodes lines 0 ks) ≡ map (timed a.item.time) (hash_messages n)
  hash_logged = node_logged HashChangelog (λ n k. map (timed a.item.time) (hash_messages n))
      (λ n part k. in_two (HashChangelog n) part n k [] (map (timed a.item.time) (hash_messages n)) (picked_other (HashChangelog n) (Changelog n) part (own_messages n k) refl) (picked_own (HashChangelog n) part (hash_messages n)))
      (λ n m part k e. in_two (HashChangelog n) part m k [] [] (picked_other (HashChangelog n) (Changelog m) part (own_messages m k) refl) (picked_other (HashChangelog n) (HashChangelog m) part (hash_messages m) e))
