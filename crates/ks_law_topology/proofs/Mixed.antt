-- A whole step of a task with nodes of all kinds: what goes to a topic is what the one node sends that owns the topic.
use Rattle.std.proofs.Common.{◌≡◌, ◌≢◌, ℕ, suc, ◌<◌, Bool, true, false, cond, ◌&&◌, List, [], ◌∷◌, ◌++◌, map, Option, Some, None, refl, sym, ap, ap₂, ◌∙◌, arith, append-nil, ⊎_elim, ◌⊎◌, nat_eq, ne_eqb}
use Rattle.ks_expr.specs.Eval.{Row}
use Rattle.ks_query.specs.Streams.{Key}
use Rattle.ks_expr.specs.declared.terms.Fk.{Fk}
use Rattle.ks_plan.specs.Plan.{Plan, Kind}
use Rattle.ks_plan.specs.Plan.Kind.{StreamAggregate, TableAggregate, Windowed, ForeignKeyJoin}
use Rattle.ks_plan.specs.declared.node.Topic.{Topic}
use Rattle.ks_plan.specs.Layout.{same_topic}
use Rattle.ks_plan.specs.declared.node.Topic.TheVariants.{Input, Repartition, Subscriptions, Responses, Changelog, HashChangelog}
use Rattle.ks_wire.specs.declared.values.Delta.{Delta}
use Rattle.ks_query.specs.Aggregates.{table_parts}
use Rattle.ks_query.specs.Streams.{StreamItem, group_key}
use Rattle.ks_def_runs.specs.FinMap as fin
use Rattle.ks_def_runs.specs.Run.{sent_to}
use Rattle.ks_record.specs.declared.record.TaskId.{TaskId}
use Rattle.ks_def_tasks.specs.Messages.{Place, same_place, Subscription, Message, Item, Store, Rules}
use Rattle.ks_def_tasks.specs.Messages.Message.{Asked}
use Rattle.ks_def_tasks.specs.Foreign.{Sending, subscriptions, answer_all}
use Rattle.ks_def_tasks.specs.Step.{Arrival, Sent, Values, row_in, changed, arrived, step_key, sends_at, changes_at, join_sends, regroup, keyed_to, send_deltas, send_subscriptions, send_responses, answer_one, write_all, value_changes, counted_at, hash_changes, over_nodes, whole_step, items_from, olds_at, news_at}
use Rattle.ks_def_tasks.specs.Tasks.{to_part, arrival, machine, sent_item, written_item, is_changelog, step}
use Rattle.ks_def_runs.proofs.Runs.{sent_to-append}
use Rattle.ks_law_topology.specs.Taken.{messages}

pub messages-append : (xs ys : List Item) → messages (xs ++ ys) ≡ messages xs ++ messages ys
messages-append [] ys = refl
messages-append (x ∷ xs) ys = ap (λ l. x.message ∷ l) (messages-append xs ys)

-- no record of the list goes to the topic
pub Avoids : Topic → List Sent → Type 0
Avoids t [] = Unit {0}
Avoids t (s ∷ xs) = (same_topic t s.topic ≡ false) × Avoids t xs

avoids_nothing : (t : Topic) → Avoids t []
unfolding Avoids
avoids_nothing t = tt

avoids_first : (t : Topic) (s : Sent) (xs : List Sent) → same_topic t s.topic ≡ false → Avoids t xs → Avoids t (s ∷ xs)
unfolding Avoids
avoids_first t s xs e a = (e, a)

Avoids-append : (t : Topic) (xs ys : List Sent) → Avoids t xs → Avoids t ys → Avoids t (xs ++ ys)
unfolding Avoids
Avoids-append t [] ys a b = b
Avoids-append t (x ∷ xs) ys a b = (a.0, Avoids-append t xs ys a.1 b)

Avoids-cond : (t : Topic) (b : Bool) (xs : List Sent) → Avoids t xs → Avoids t (cond b xs [])
Avoids-cond t true xs a = a
Avoids-cond t false xs a = avoids_nothing t

-- ---- the topics of what each node sends
abbrev Apart : Topic → ℕ → Type 0
Apart t n = record {
  repartition : same_topic t (Repartition n) ≡ false;
  subscriptions : same_topic t (Subscriptions n) ≡ false;
  responses : same_topic t (Responses n) ≡ false;
}

avoids_keyed : (t : Topic) (n : ℕ) → Apart t n → (row : Row) (g : Option Key) → Avoids t (keyed_to n row g)
avoids_keyed t n a row None = avoids_nothing t
avoids_keyed t n a row (Some g) = avoids_first t _ [] a.repartition (avoids_nothing t)

avoids_regroup : (t : Topic) (n : ℕ) → Apart t n → (by : Option (List ℕ)) (x : Option StreamItem) → Avoids t (regroup by n x)
avoids_regroup t n a by None = avoids_nothing t
avoids_regroup t n a by (Some x) = avoids_keyed t n a x.row (group_key by x)

avoids_deltas : (t : Topic) (n : ℕ) → Apart t n → (ds : List (Key × Delta)) → Avoids t (send_deltas n ds)
avoids_deltas t n a [] = avoids_nothing t
avoids_deltas t n a (d ∷ ds) = avoids_first t _ _ a.repartition (avoids_deltas t n a ds)

avoids_subscriptions : (t : Topic) (n : ℕ) → Apart t n → (p : Key) (ss : List (Key × Subscription)) → Avoids t (send_subscriptions n p ss)
avoids_subscriptions t n a p [] = avoids_nothing t
avoids_subscriptions t n a p (s ∷ ss) = avoids_first t _ _ a.subscriptions (avoids_subscriptions t n a p ss)

avoids_responses : (t : Topic) (n : ℕ) → Apart t n → (rs : List Sending) → Avoids t (send_responses n rs)
avoids_responses t n a [] = avoids_nothing t
avoids_responses t n a (r ∷ rs) = avoids_first t _ _ a.responses (avoids_responses t n a rs)

avoids_one : (t : Topic) (n : ℕ) → Apart t n → (st : Store) (r : ℕ) (x : Option Message) → Avoids t (answer_one n st r x)
avoids_one t n a st r None = avoids_nothing t
avoids_one t n a st r (Some (Asked b p s)) = avoids_responses t n a _
avoids_one t n a st r (Some _) = avoids_nothing t

avoids_join : (t : Topic) (n : ℕ) → Apart t n → (rules : Rules) (fk : Fk) (part : Option ℕ) (l r : ℕ) (st : Store) (olds news : Values) (k : Option Key) → Avoids t (join_sends rules fk part n l r st olds news k)
avoids_join t n a rules fk part l r st olds news None = avoids_nothing t
avoids_join t n a rules fk part l r st olds news (Some k) =
    Avoids-append t _ _ (Avoids-cond t (changed olds news l) _ (avoids_subscriptions t n a k (subscriptions rules.hash fk k part (row_in olds l) (row_in news l))))
    (Avoids-cond t (changed olds news r) _ (avoids_responses t n a (answer_all (row_in news r) (fin.entries (st.hashes n k)))))

pub avoids_sends : (t : Topic) (n : ℕ) → Apart t n → (rules : Rules) (arr : Arrival) (items : ℕ → Option StreamItem) (st : Store) (olds news : Values) (k : Kind) → Avoids t (sends_at rules arr items st olds news n k)
avoids_sends t n a rules arr items st olds news (StreamAggregate f by field through) = Avoids-cond t through _ (avoids_regroup t n a by (items f))
avoids_sends t n a rules arr items st olds news (Windowed f by w through) = Avoids-cond t through _ (avoids_regroup t n a by (items f))
avoids_sends t n a rules arr items st olds news (TableAggregate f by field) = avoids_deltas t n a (table_parts by field (row_in olds f) (row_in news f))
avoids_sends t n a rules arr items st olds news (ForeignKeyJoin l r fk kind s) =
    Avoids-append t _ _ (avoids_join t n a rules fk (arr.names n) l r st olds news (step_key arr.item.message)) (avoids_one t n a st r (arrived arr (Subscriptions n)))
avoids_sends t n a rules arr items st olds news _ = avoids_nothing t

-- the node a stands in the list from n on, and is k
abbrev pub Stands_at : ℕ → Kind → ℕ → List Kind → Type 0
Stands_at a k n [] = ⊥
Stands_at a k n (x ∷ xs) = ((n ≡ a) × (x ≡ k)) ⊎ ((n < a) × Stands_at a k (suc n) xs)

pub apart : (a n : ℕ) → n ≢ a → Apart (Repartition a) n
apart a n ne = record { repartition = ne_eqb a n (λ e. ne (sym e)); subscriptions = refl; responses = refl }

pub apart_asked : (a n : ℕ) → n ≢ a → Apart (Subscriptions a) n
apart_asked a n ne = record { repartition = refl; subscriptions = ne_eqb a n (λ e. ne (sym e)); responses = refl }

pub apart_answered : (a n : ℕ) → n ≢ a → Apart (Responses a) n
apart_answered a n ne = record { repartition = refl; subscriptions = refl; responses = ne_eqb a n (λ e. ne (sym e)) }

module _ (rules : Rules) (p : Plan) where
  -- the messages that go to a partition
  abbrev pub picked : Place → List Sent → List Message
  picked q [] = []
  picked q (s ∷ xs) = cond (same_place q (record { topic = s.topic; part = to_part rules p s.topic s.key s.to })) (s.message ∷ picked q xs) (picked q xs)

  pub picked-is : (q : Place) (time : ℕ) (xs : List Sent) → messages (sent_to (machine rules p) q (map (sent_item rules p time) xs)) ≡ picked q xs
  picked-is q time [] = refl
  picked-is q time (s ∷ xs) =
      let rest = sent_to (machine rules p) q (map (sent_item rules p time) xs) in
      elim (same_place q (record { topic = s.topic; part = to_part rules p s.topic s.key s.to })) as (λ b. messages (cond b (record { message = s.message; time = time } ∷ rest) rest) ≡ cond b (s.message ∷ picked q xs) (picked q xs)) [
        | true ↦ ap (λ l. s.message ∷ l) (picked-is q time xs)
        | false ↦ picked-is q time xs
      ]

  pub picked-append : (q : Place) (xs ys : List Sent) → picked q (xs ++ ys) ≡ picked q xs ++ picked q ys
  picked-append q [] ys = refl
  picked-append q (s ∷ xs) ys = elim (same_place q (record { topic = s.topic; part = to_part rules p s.topic s.key s.to })) as (λ b. cond b (s.message ∷ picked q (xs ++ ys)) (picked q (xs ++ ys)) ≡ cond b (s.message ∷ picked q xs) (picked q xs) ++ picked q ys) [
    | true ↦ ap (λ l. s.message ∷ l) (picked-append q xs ys)
    | false ↦ picked-append q xs ys
  ]

  pub picked_none : (q : Place) (xs : List Sent) → Avoids q.topic xs → picked q xs ≡ []
  unfolding Avoids
  picked_none q [] a = refl
  picked_none q (s ∷ xs) a =
      ap (λ b. cond (b && nat_eq q.part (to_part rules p s.topic s.key s.to)) (s.message ∷ picked q xs) (picked q xs)) a.0 ∙ picked_none q xs a.1

  none_beyond : (q : Place) (a : ℕ) (h : ℕ → Kind → List Sent) → ((n : ℕ) (k : Kind) → n ≢ a → picked q (h n k) ≡ []) → (n : ℕ) (ks : List Kind) → a < n → picked q (over_nodes h n ks) ≡ []
  none_beyond q a h alone n [] lt = refl
  none_beyond q a h alone n (k ∷ ks) lt = picked-append q (h n k) (over_nodes h (suc n) ks) ∙ ap₂ (λ xs ys. xs ++ ys) (alone n k (λ e. omega arith)) (none_beyond q a h alone (suc n) ks (omega arith))

  -- a topic that the node a alone writes gets what a sends
  pub own_topic : (q : Place) (a : ℕ) (h : ℕ → Kind → List Sent) → ((n : ℕ) (k : Kind) → n ≢ a → picked q (h n k) ≡ []) → (k : Kind) (n : ℕ) (ks : List Kind) → Stands_at a k n ks → picked q (over_nodes h n ks) ≡ picked q (h a k)
  own_topic q a h alone k n [] s = absurd s
  own_topic q a h alone k n (x ∷ xs) s = ⊎_elim
      (λ (e : (n ≡ a) × (x ≡ k)). picked-append q (h n x) (over_nodes h (suc n) xs)
      ∙ ap (λ l. picked q (h n x) ++ l) (none_beyond q a h alone (suc n) xs (let f : n ≡ a = e.0 in omega arith)) ∙ append-nil _ ∙ ap₂ (λ m y. picked q (h m y)) e.0 e.1)
      (λ (e : (n < a) × Stands_at a k (suc n) xs). picked-append q (h n x) (over_nodes h (suc n) xs)
      ∙ ap₂ (λ xs ys. xs ++ ys) (alone n x (λ f. let lt : n < a = e.0 in omega arith)) (own_topic q a h alone k (suc n) xs e.1)) s

  -- a whole step sends to a topic of the node a what a sends: of its present and new values, items and what arrived
  pub step_sends_own : (t : Topic) (a : ℕ) → ((n : ℕ) → n ≢ a → Apart t n) → (k : Kind) → Stands_at a k 0 p.kinds → (st : Store) (x : Arrival) (j : ℕ) →
      let key = step_key x.item.message in
      let items = items_from x (λ n. None) 0 p.kinds in
      picked (record { topic = t; part = j }) (whole_step rules p st x).sends
      ≡ picked (record { topic = t; part = j }) (sends_at rules x items st (olds_at st key) (news_at rules p x items (olds_at st key) key) a k)
  step_sends_own t a own k stands st x j =
      let key = step_key x.item.message in
      let items = items_from x (λ n. None) 0 p.kinds in
      let olds = olds_at st key in
      let news = news_at rules p x items olds key in
      own_topic (record { topic = t; part = j }) a (sends_at rules x items st olds news)
      (λ n k ne. picked_none (record { topic = t; part = j }) _ (avoids_sends t n (own n ne) rules x items st olds news k)) k 0 p.kinds stands

  -- ---- what goes to a partition of a topic that is no changelog: what was sent
  avoids_write_all : (t u : Topic) (ms : List Message) → same_topic t u ≡ false → (part time : ℕ) (q : Place) → q.topic ≡ t → sent_to (machine rules p) q (map (written_item part time) (write_all u ms)) ≡ []
  avoids_write_all t u [] e part time q is = refl
  avoids_write_all t u (m ∷ ms) e part time q is =
      ap (λ b. cond (b && nat_eq q.part part) (record { message = m; time = time } ∷ sent_to (machine rules p) q (map (written_item part time) (write_all u ms))) (sent_to (machine rules p) q (map (written_item part time) (write_all u ms)))) (ap (λ v. same_topic v u) is ∙ e)
      ∙ avoids_write_all t u ms e part time q is

  no_changelog : (t : Topic) (n : ℕ) → is_changelog t ≡ false → (same_topic t (Changelog n) ≡ false) × (same_topic t (HashChangelog n) ≡ false)
  no_changelog (Input a) n e = (refl, refl)
  no_changelog (Repartition a) n e = (refl, refl)
  no_changelog (Subscriptions a) n e = (refl, refl)
  no_changelog (Responses a) n e = (refl, refl)
  no_changelog (Changelog a) n e = cc
  no_changelog (HashChangelog a) n e = cc

  map-append : {A B : Type 0} (f : A → B) (xs ys : List A) → map f (xs ++ ys) ≡ map f xs ++ map f ys
  map-append f [] ys = refl
  map-append f (x ∷ xs) ys = ap (λ l. f x ∷ l) (map-append f xs ys)

  pub unwritten : (q : Place) → is_changelog q.topic ≡ false → (part time : ℕ) (x : Arrival) (items : ℕ → Option StreamItem) (st : Store) (olds news : Values) (n : ℕ) (ks : List Kind) →
      sent_to (machine rules p) q (map (written_item part time) (over_nodes (changes_at x items st olds news) n ks)) ≡ []
  unwritten q free part time x items st olds news n [] = refl
  unwritten q free part time x items st olds news n (k ∷ ks) =
      let apart = no_changelog q.topic n free in
      let w = map (written_item part time) in
      let to = sent_to (machine rules p) q in
      let first = write_all (Changelog n) (value_changes (step_key x.item.message) (olds n) (news n) ++ (counted_at x items st n k).changes) in
      let second = write_all (HashChangelog n) (hash_changes st n (arrived x (Subscriptions n))) in
      let rest = over_nodes (changes_at x items st olds news) (suc n) ks in
      ap to (map-append (written_item part time) (first ++ second) rest ∙ ap (λ l. l ++ w rest) (map-append (written_item part time) first second))
      ∙ sent_to-append (machine rules p) q (w first ++ w second) (w rest)
      ∙ ap₂ (λ xs ys. xs ++ ys)
      (sent_to-append (machine rules p) q (w first) (w second) ∙ ap₂ (λ xs ys. xs ++ ys) (avoids_write_all q.topic (Changelog n) _ apart.0 part time q refl) (avoids_write_all q.topic (HashChangelog n) _ apart.1 part time q refl))
      (unwritten q free part time x items st olds news (suc n) ks)

  -- all that a whole step makes for a partition that is no changelog's
  pub made_is : (u : TaskId) (st : Store) (q at : Place) (x : Item) → is_changelog at.topic ≡ false →
      messages (sent_to (machine rules p) at (step rules p u st q x).made) ≡ picked at (whole_step rules p st (arrival p q x)).sends
  made_is u st q at x free =
      let made = whole_step rules p st (arrival p q x) in
      let key = step_key x.message in
      let a : Arrival = arrival p q x in
      let items = items_from a (λ n. None) 0 p.kinds in
      let olds = olds_at st key in
      let news = news_at rules p a items olds key in
      ap messages (sent_to-append (machine rules p) at (map (sent_item rules p x.time) made.sends) (map (written_item u.part x.time) made.changes)
      ∙ ap (λ l. sent_to (machine rules p) at (map (sent_item rules p x.time) made.sends) ++ l) (unwritten at free u.part x.time a items st olds news 0 p.kinds) ∙ append-nil _)
      ∙ picked-is at x.time made.sends
