-- Each record that a task makes stands at the partition of its key, and names its left key's where it names one; so does what its stores keep.
use Rattle.std.proofs.Common.{◌≡◌, ℕ, suc, ◌+◌, ◌<◌, ◌≤◌, ◌^◌, ◌⊎◌, inl, inr, Bool, true, false, cond, List, length, [], ◌∷◌, ◌++◌, map, get_or, fold, append_assoc, length-append, Option, Some, None, refl, sym, ap, ap₂, subst, ◌∙◌, ⊎_elim, arith, nat_eq}
use Rattle.std.specs.Prelude.{◌==◌, ◌&&◌, option_map, IfSome}
use Rattle.std.specs.List.{filter}
use Rattle.std.specs.Cmp.Lexicographic.{nat_list_cmp_total}
use Rattle.std.specs.FinMap.{IsAntisymmetric, slice_cmp-IsAntisymmetric, nat_cmp-IsAntisymmetric}
use Rattle.std.proofs.lemmas.Bool.{eqb-true, eq-eqb, and_parts, and_from, true≢false, cases_lt}
use Rattle.std.proofs.lemmas.Bool.Decides.{Decides-eqb}
use Rattle.ks_record.specs.Records.{Record as Rec}
use Rattle.ks_record.specs.declared.record.PartId.{PartId}
use Rattle.ks_record.specs.declared.record.TaskId.{TaskId}
use Rattle.ks_record.specs.Parts.{same_part}
use Rattle.std.specs.Int.{w32, w64, to_be_bytes}
use Rattle.ks_record.specs.Texts.{IsKey, key_from}
use Rattle.ks_row.specs.Reading.{◌>>=◌, row_from}
use Rattle.ks_row.proofs.Fields.{bind_some, some_is, wide32, number_again, bytes_again}
use Rattle.ks_row.proofs.Spelled.{key_takes, key_again}
use Rattle.ks_wire.specs.Reading.{delta_from, response_from, subscription_from, subscriber_from, subscription_key_from, long_key_at}
use Rattle.ks_plan.specs.declared.node.Topic.{Topic}
use Rattle.ks_plan.specs.declared.node.Topic.TheVariants.{Input as InputTopic, Repartition, Subscriptions, Responses, Changelog, HashChangelog}
use Rattle.ks_plan.specs.Drafts.{Name}
use Rattle.ks_plan.specs.Plan.{Plan, Kind, Window, plan_of, is_windowed}
use Rattle.ks_plan.specs.Plan.Kind.{StreamSource, TableSource, StreamFilter, TableFilter, StreamMap, TableMap, KeySelected, StreamAggregate, TableAggregate, Windowed, KeyJoin, ForeignKeyJoin}
use Rattle.ks_plan.specs.Layout.{topics_of, topic_at, number_of, parts_of, before_of, spread_of, spread_of_topic, right_of, kind_at, no_kind, reads, sub_count, same_topic}
use Rattle.ks_expr.specs.Eval.{same_bytes}
use Rattle.ks_query.specs.Streams.{Key, StreamItem}
use Rattle.ks_query.specs.Query.{with_number}
use Rattle.ks_wire.specs.Values.{SubscriptionValue, IsPart}
use Rattle.ks_wire.specs.declared.values.Subscriber.{Subscriber}
use Rattle.ks_def_tasks.specs.Messages.{Place, Item, Message, Subscription, Rules, Store, Stored, same_option, same_stored, same_subscriber, value_of, subscription_of}
use Rattle.ks_def_tasks.specs.Messages.Message.{Given, Keyed, Moved, Asked, Answered, Kept, KeptCount, KeptTime, KeptHash}
use Rattle.ks_def_tasks.specs.Rest.{home, named}
use Rattle.ks_def_tasks.specs.Tasks.{arrival, step, to_part, sent_item, written_item, taker, is_changelog}
use Rattle.ks_def_tasks.specs.Step.{Arrival, Sent, Written, whole_step, step_key, write_all, value_changes, counted_at, hash_changes, changes_at, over_nodes, items_from, item_into, olds_at, news_at, arrived, Values, value_at, values_from, item_keyed}
use Rattle.ks_def_tasks.specs.Windowed.{Counted, greater, count_window, time_changes, count_group, count_item}
use Rattle.ks_def_tasks.specs.Foreign.{subscribed, hash_by}
use Rattle.ks_def_runs.specs.FinMap as fin
use Rattle.ks_def_runs.specs.FinMap.{FinMap}
use Rattle.ks_query.specs.Windows.{by_window, windows}
use Rattle.ks_query.specs.Grace.{is_open}
use Rattle.ks_query.specs.Aggregates.{stream_add}
use Rattle.ks_wire.specs.declared.values.Agg.{Agg}
use Rattle.ks_wire.specs.Spelling.{long_key, subscription_bytes, subscriber_bytes, subscription_key, window_key, time_key}
use Rattle.ks_wire.proofs.Wired.{subscription_key_codec}
use Rattle.ks_def_runs.specs.Bytes.{by_bytes, Store as ByteStore, empty_store as no_bytes}
use Rattle.ks_def_tasks.specs.Bytes.{ByteStores, key_bytes, value_bytes, rec_of, part_id, spelled, is_own, is_sent, message_in, given_in, regrouped_in, of_both, if_there, step_at, step_read, outcome_of, nothing_made, store_from, byte_step, left_at, hashes_from, pairs_of, keep_all, keep_bytes, records_at, is_own_number}
use Rattle.ks_def_tasks.proofs.Names.{topic-is}
use Rattle.ks_def_tasks.proofs.Numbers.{place-is, kept_at}
use Rattle.ks_def_tasks.proofs.Told.{tells}
use Rattle.ks_history.specs.Machine.{reader_of, part_of}
use Rattle.ks_history.proofs.Names.{same_part-is}
use Rattle.ks_law_exactly_once.specs.Keeping.{AllFit, FitIn, AreHeld, Keeps}
use Rattle.ks_law_topology.proofs.Fits.{Fits, NodeFits, EachFits}
use Rattle.ks_law_topology.proofs.ItemKeys.{item_key}
use Rattle.ks_law_topology.proofs.Each.{Each, each_parts}
use Rattle.ks_law_topology.proofs.Placed.{Owned, FitsAt, NamesHome, IsGood, good_step}
use Rattle.ks_law_topology.proofs.WellFormed.{well_formed_fits}
use Rattle.ks_law_exactly_once.proofs.Keeping.{all_kept}
use Rattle.ks_law_topology.specs.Work.{HavePlaces, work_of, setup_of}
use Rattle.ks_law_topology.specs.Spelled.{IfThere}
use Rattle.ks_law_topology.specs.Placing.{is_at_key, is_at_group, is_at_foreign, names_home, is_asking_home, is_kept_home, is_placed, placed_by, stands, DecidedStand}
use Rattle.ks_law_topology.proofs.Every.{Every, Gives, every_read, every_found, every_write, every_empty}
use Rattle.ks_law_topology.proofs.Few.{have_few}
use Rattle.ks_law_topology.proofs.Naming.{subscription_same, subscription_left, subscriber_same, beyond_whole}
use Rattle.ks_law_topology.proofs.Networks.{works_are_networks}
use Rattle.ks_law_topology.proofs.Writes.{IsAsking, Through, through_all, owned, kept}
use Rattle.ks_def_tasks.proofs.Itself.{nothing_changes}

bytes_anti : IsAntisymmetric by_bytes
bytes_anti = slice_cmp-IsAntisymmetric nat_cmp-IsAntisymmetric

-- ---- the key that a record has is that of its message
abbrev came_key : Message → Option Key
came_key (Given k v) = k
came_key (Keyed g row) = Some g
came_key (Moved g d) = Some g
came_key (Asked b k s) = Some b
came_key (Answered k r) = Some k
came_key _ = None

came_at_step : (m : Message) (c : Key) → step_key m ≡ Some c → came_key m ≡ Some c
came_at_step (Given k v) c e = e
came_at_step (Keyed g row) c e = e
came_at_step (Moved g d) c e = e
came_at_step (Answered k r) c e = e
came_at_step (Asked b k s) c e = absurd cc
came_at_step (Kept k w) c e = absurd cc
came_at_step (KeptCount w a) c e = absurd cc
came_at_step (KeptTime t) c e = absurd cc
came_at_step (KeptHash b k h) c e = absurd cc

-- the record has this key, and it is one
pub record HasKey (r : Rec) (c : Key) : Type 0 where
  pub has : r.key ≡ Some c
  pub key : IsKey c

taken_key : (r : Rec) (c : Key) (k : List ℕ) → r.key ≡ Some k → (x : Key) → key_from k ≡ Some x → x ≡ c → HasKey r c
taken_key r c k is x g e =
    let t = key_takes k x g in
    record { has = is ∙ ap (λ (l : List ℕ). Some l) (t.0 ∙ e); key = subst IsKey (t.0 ∙ e) t.1 }

read_key : (r : Rec) (c : Key) (k : Option (List ℕ)) → r.key ≡ k → (key : Option Key) → if_there key_from k ≡ Some key → key ≡ Some c → HasKey r c
read_key r c None is key e f = absurd cc
read_key r c (Some k) is key e f = by (key_from k) refl e
  where
    by : (o : Option Key) → key_from k ≡ o → option_map (λ (x : Key). Some x) o ≡ Some key → HasKey r c
    by None g h = absurd cc
    by (Some x) g h =
        let same : Some x ≡ key = cc in
        let there : x ≡ c = cc in
        taken_key r c k is x g there

given_key : (r : Rec) (m : Message) (c : Key) → given_in r ≡ Some m → came_key m ≡ Some c → HasKey r c
given_key r m c e f = by (if_there key_from r.key) (if_there row_from r.value) refl e
  where
    by : (o : Option (Option Key)) (v : _) → if_there key_from r.key ≡ o → (o >>= (λ key. v >>= (λ value. Some (Given key value)))) ≡ Some m → HasKey r c
    by None v g h = absurd cc
    by (Some key) None g h = absurd cc
    by (Some key) (Some value) g h =
        let same : Given key value ≡ m = cc in
        read_key r c r.key refl key g (ap came_key same ∙ f)

both_key : {B : Type 0} (value : List ℕ → Option B) (make : Key → B → Message) (r : Rec) (m : Message) (c : Key) → ((a : Key) (b : B) (c : Key) → came_key (make a b) ≡ Some c → a ≡ c) →
    of_both key_from value make r ≡ Some m → came_key m ≡ Some c → HasKey r c
both_key {B} value make r m c keys e f = by r.key r.value refl e
  where
    inner : (k v : List ℕ) → r.key ≡ Some k → (x : Option Key) → key_from k ≡ x → (y : Option B) → (x >>= (λ a. y >>= (λ b. Some (make a b)))) ≡ Some m → HasKey r c
    inner k v is None g y h = absurd cc
    inner k v is (Some a) g None h = absurd cc
    inner k v is (Some a) g (Some b) h =
        let same : make a b ≡ m = cc in
        let there : a ≡ c = keys a b c (ap came_key same ∙ f) in
        taken_key r c k is a g there

    by : (k v : Option (List ℕ)) → r.key ≡ k → (k >>= (λ k. v >>= (λ v. key_from k >>= (λ a. value v >>= (λ b. Some (make a b)))))) ≡ Some m → HasKey r c
    by None v is h = absurd cc
    by (Some k) None is h = absurd cc
    by (Some k) (Some v) is h = inner k v is (key_from k) refl (value v) h

regrouped_key : (k : Kind) (r : Rec) (m : Message) (c : Key) → regrouped_in k r ≡ Some m → came_key m ≡ Some c → HasKey r c
regrouped_key (StreamAggregate f by field through) r m c e g = both_key row_from Keyed r m c (λ a b c e. cc) e g
regrouped_key (Windowed f by w through) r m c e g = both_key row_from Keyed r m c (λ a b c e. cc) e g
regrouped_key (TableAggregate f by field) r m c e g = both_key delta_from Moved r m c (λ a b c e. cc) e g
regrouped_key (StreamSource t) r m c e g = absurd cc
regrouped_key (TableSource t) r m c e g = absurd cc
regrouped_key (StreamFilter f x) r m c e g = absurd cc
regrouped_key (TableFilter f x) r m c e g = absurd cc
regrouped_key (StreamMap f s) r m c e g = absurd cc
regrouped_key (TableMap f s) r m c e g = absurd cc
regrouped_key (KeySelected f k) r m c e g = absurd cc
regrouped_key (KeyJoin l r' kind s) r m c e g = absurd cc
regrouped_key (ForeignKeyJoin l r' fk kind s) r m c e g = absurd cc

message_key : (p : Plan) (topic : Topic) (r : Rec) (m : Message) (c : Key) → message_in p topic r ≡ Some m → came_key m ≡ Some c → HasKey r c
message_key p (InputTopic t) r m c e g = given_key r m c e g
message_key p (Repartition n) r m c e g = regrouped_key (kind_at p n) r m c e g
message_key p (Subscriptions n) r m c e g = both_key subscription_from (λ b v. Asked b v.left (subscription_of v)) r m c (λ a b c e. cc) e g
message_key p (Responses n) r m c e g = both_key response_from Answered r m c (λ a b c e. cc) e g
message_key p (Changelog n) r m c e g = absurd cc
message_key p (HashChangelog n) r m c e g = absurd cc

-- ---- a key behind its length is read again
front_again : (key rest : List ℕ) → IsKey key → long_key_at (long_key key ++ rest) ≡ Some (key, rest)
unfolding long_key_at
front_again key rest k =
    let regrouped : long_key key ++ rest ≡ to_be_bytes w32 (length key) ++ (key ++ rest) = append_assoc (to_be_bytes w32 (length key)) key rest in
    let lt : length key < 2 ^ 32 = omega (arith, k.most) in
    ap long_key_at regrouped ∙ rw (number_again w32 (2 ^ 32) wide32 (length key) (key ++ rest) lt, bytes_again key rest, key_again key k) refl

window_front : (g : Key) (s : ℕ) → IsKey g → long_key_at (window_key g s) ≡ Some (g, to_be_bytes w64 s)
unfolding window_key
window_front g s k = front_again g (to_be_bytes w64 s) k

foreign_front : (b k : Key) → IsKey b → long_key_at (subscription_key b k) ≡ Some (b, k)
unfolding subscription_key
foreign_front b k key = front_again b k key

time_front : long_key_at time_key ≡ None
unfolding long_key_at
time_front = refl

-- ---- what a windowed count tells is of windows of one group, or the greatest timestamp
abbrev IsOfGroup : Key → Message → Type 0
IsOfGroup g m = (key_bytes m ≡ Some time_key) ⊎ ((s : ℕ) × (key_bytes m ≡ Some (window_key g s)))

abbrev AllOfGroup : Key → List Message → Type 0
AllOfGroup g [] = Unit {0}
AllOfGroup g (m ∷ ms) = IsOfGroup g m × AllOfGroup g ms

AllOfGroup-append : (g : Key) (xs ys : List Message) → AllOfGroup g xs → AllOfGroup g ys → AllOfGroup g (xs ++ ys)
AllOfGroup-append g [] ys a b = b
AllOfGroup-append g (x ∷ xs) ys a b = (a.0, AllOfGroup-append g xs ys a.1 b)

windows_of : (w : Window) (now : ℕ) (g : Key) (c : Counted) → AllOfGroup g c.changes → (ss : List ℕ) → AllOfGroup g (fold (count_window w now g) c ss).changes
windows_of w now g c h [] = h
windows_of w now g c h (s ∷ ss) = windows_of w now g (count_window w now g c s) (one (is_open w now s)) ss
  where
    one : (b : Bool) → AllOfGroup g (cond b
        (record c { counts = fin.insert c.counts (g, s) (stream_add None (fin.get c.counts (g, s)) []); changes = c.changes ++ KeptCount (g, s) (stream_add None (fin.get c.counts (g, s)) []) ∷ [] })
        (record c { late = c.late + 1 })).changes
    one true = AllOfGroup-append g c.changes _ h (inr (s, refl), tt)
    one false = h

time_of_group : (g : Key) (old : Option ℕ) (now : ℕ) → AllOfGroup g (time_changes old now)
time_of_group g old now = by (same_option nat_eq old (Some now))
  where
    by : (b : Bool) → AllOfGroup g (cond b [] (KeptTime now ∷ []))
    by true = tt
    by false = (inl refl, tt)

counts_of_group : (w : Window) (old : Option ℕ) (counts : FinMap by_window Agg) (t : ℕ) (g : Key) → AllOfGroup g (count_group w old counts t (Some g)).changes
counts_of_group w old counts t g = windows_of w (greater old t) g _ (time_of_group g old (greater old t)) (windows w t)

module _ (rules : Rules) (p : Plan) where
  -- where a record of a key arrives
  at_key : (topic : Topic) (part : ℕ) (c : Key) (value : Option (List ℕ)) → is_changelog topic ≡ false → is_placed rules p topic part (Some c) value ≡ true → part ≡ rules.part c (spread_of_topic p topic)
  at_key (InputTopic t) part c value free h = eqb-true part _ h
  at_key (Repartition n) part c value free h = eqb-true part _ h
  at_key (Subscriptions n) part c value free h = eqb-true part _ (and_parts (is_at_key rules p (Subscriptions n) part c) _ h).0
  at_key (Responses n) part c value free h = eqb-true part _ h
  at_key (Changelog n) part c value free h = absurd (true≢false free)
  at_key (HashChangelog n) part c value free h = absurd (true≢false free)

  -- ---- partitions that are named
  named-is : (a b : Option ℕ) → same_option nat_eq a b ≡ true → a ≡ b
  named-is None None e = refl
  named-is (Some a) (Some b) e = ap (λ n. Some n) ((Decides-eqb a b).0 e)
  named-is None (Some b) e = absurd (true≢false (sym e))
  named-is (Some a) None e = absurd (true≢false (sym e))

  named_itself : (o : Option ℕ) → same_option nat_eq o o ≡ true
  named_itself None = refl
  named_itself (Some a) = (Decides-eqb a a).1 refl

  names_is : (n : ℕ) (k : Key) (part : Option ℕ) → part ≡ named rules p n k → names_home rules p n k part ≡ true
  names_is n k part e = ap (λ o. same_option nat_eq o (named rules p n k)) e ∙ named_itself (named rules p n k)

  -- what a written subscription, or subscriber, is read as names the same
  asking_home : (n : ℕ) (k : Key) (s : Subscription) → IsPart s.part → s.part ≡ named rules p n k → is_asking_home rules p n (subscription_from (subscription_bytes (value_of k s))) ≡ true
  asking_home n k s one e = by (subscription_from (subscription_bytes (value_of k s))) refl
    where
      by : (o : Option SubscriptionValue) → subscription_from (subscription_bytes (value_of k s)) ≡ o → is_asking_home rules p n o ≡ true
      by None f = refl
      by (Some v) f =
          let same = subscription_same (value_of k s) one v f in
          names_is n v.left v.part (same.1 ∙ e ∙ ap (named rules p n) (sym same.0))

  keeping_home : (n : ℕ) (b k : Key) (s : Subscriber) → IsPart s.part → s.part ≡ named rules p n k → is_kept_home rules p n (Some (b, k)) (subscriber_from (subscriber_bytes s)) ≡ true
  keeping_home n b k s one e = by (subscriber_from (subscriber_bytes s)) refl
    where
      by : (o : Option Subscriber) → subscriber_from (subscriber_bytes s) ≡ o → is_kept_home rules p n (Some (b, k)) o ≡ true
      by None f = refl
      by (Some v) f = names_is n k v.part (subscriber_same s one v f ∙ e)

  -- a topic's number is no other's
  by_number : (t : Topic) (part : ℕ) (r : Rec) → is_placed rules p t part r.key r.value ≡ true → placed_by rules p part r (topic_at p (number_of p t)) ≡ true
  by_number t part r h = by (topic_at p (number_of p t)) refl
    where
      by : (o : Option Topic) → topic_at p (number_of p t) ≡ o → placed_by rules p part r o ≡ true
      by None e = refl
      by (Some w) e = ap (λ v. is_placed rules p v part r.key r.value) (place-is (topics_of p) t w e) ∙ h

  abbrev EachStands : List (Place × Item) → Type 0
  EachStands [] = Unit {0}
  EachStands (x ∷ xs) = (stands rules p (part_id p x.0) (rec_of x.1) ≡ true) × EachStands xs

  EachStands-append : (xs ys : List (Place × Item)) → EachStands xs → EachStands ys → EachStands (xs ++ ys)
  EachStands-append [] ys a b = b
  EachStands-append (x ∷ xs) ys a b = (a.0, EachStands-append xs ys a.1 b)

  all_fit : (f : Place × Item → Bool) (xs : List (Place × Item)) → EachStands xs → AllFit (stands rules p) (spelled p (filter f xs))
  all_fit f [] h = tt
  all_fit f (x ∷ xs) h = by (f x) (all_fit f xs h.1)
    where
      by : (b : Bool) → AllFit (stands rules p) (spelled p (filter f xs)) → AllFit (stands rules p) (spelled p (cond b (x ∷ filter f xs) (filter f xs)))
      by true g = (h.0, g)
      by false g = g

  -- of a node that there is, a partition that is named is one of 64
  module _ (have : HavePlaces rules p) (few : (n : ℕ) → parts_of p n ≤ 64) where
    named_few : (n : ℕ) (k : Key) → IsPart (named rules p n k)
    named_few n k = ⊎_elim
        (λ (lt : n < length p.kinds). by (before_of p n) (have.keys k (spread_of p n) (have.nodes n lt)))
        (λ (le : length p.kinds ≤ n). subst (λ o. IsPart (option_map (λ s. home rules p n k) o)) (sym (beyond_whole p n le)) tt)
        (cases_lt n (length p.kinds))
      where
        by : (o : Option Name) → home rules p n k < parts_of p n → IsPart (option_map (λ s. home rules p n k) o)
        by None lt = tt
        by (Some s) lt = omega (arith, lt, few n)

    -- a record that is sent stands at its key's place
    sent_placed : (s : Sent) → is_changelog s.topic ≡ false → key_bytes s.message ≡ Some s.key → IsAsking s.topic s.message → IsGood rules p s → is_placed rules p s.topic (to_part rules p s.topic s.key s.to) (key_bytes s.message) (value_bytes s.message) ≡ true
    sent_placed s free has asking good = subst (λ k. is_placed rules p s.topic (to_part rules p s.topic s.key s.to) k (value_bytes s.message) ≡ true) (sym has) (by s.topic s.message free asking good.place good.names)
      where
        asked : (n : ℕ) (m : Message) → IsAsking (Subscriptions n) m → NamesHome rules p (Subscriptions n) m → is_asking_home rules p n (value_bytes m >>= subscription_from) ≡ true
        asked n (Asked b k y) i e = asking_home n k y (subst IsPart (sym e) (named_few n k)) e
        asked n (Given k v) i e = absurd i
        asked n (Keyed g row) i e = absurd i
        asked n (Moved g d) i e = absurd i
        asked n (Answered k r) i e = absurd i
        asked n (Kept k w) i e = absurd i
        asked n (KeptCount w a) i e = absurd i
        asked n (KeptTime t) i e = absurd i
        asked n (KeptHash b k h) i e = absurd i

        by : (t : Topic) (m : Message) → is_changelog t ≡ false → IsAsking t m → to_part rules p t s.key s.to ≡ rules.part s.key (spread_of_topic p t) → NamesHome rules p t m → is_placed rules p t (to_part rules p t s.key s.to) (Some s.key) (value_bytes m) ≡ true
        by (InputTopic t) m free i here names = eq-eqb _ _ here
        by (Repartition n) m free i here names = eq-eqb _ _ here
        by (Subscriptions n) m free i here names = and_from (is_at_key rules p (Subscriptions n) _ s.key) _ (eq-eqb _ _ here) (asked n m i names)
        by (Responses n) m free i here names = eq-eqb _ _ here
        by (Changelog n) m free i here names = absurd (true≢false free)
        by (HashChangelog n) m free i here names = absurd (true≢false free)

    sent_stand : (time : ℕ) (xs : List Sent) → Through xs → Each (IsGood rules p) xs → EachStands (map (sent_item rules p time) xs)
    sent_stand time [] h good = tt
    sent_stand time (s ∷ xs) h good =
        let parts = each_parts (IsGood rules p) s xs good in
        (by_number s.topic (to_part rules p s.topic s.key s.to) (rec_of (record { message = s.message; time = time })) (sent_placed s h.0.0 h.0.1 h.0.2 parts.0), sent_stand time xs h.1 parts.1)

  abbrev AllPlaced : ℕ → List Written → Type 0
  AllPlaced part [] = Unit {0}
  AllPlaced part (w ∷ ws) = (is_placed rules p w.topic part (key_bytes w.message) (value_bytes w.message) ≡ true) × AllPlaced part ws

  AllPlaced-append : (part : ℕ) (xs ys : List Written) → AllPlaced part xs → AllPlaced part ys → AllPlaced part (xs ++ ys)
  AllPlaced-append part [] ys a b = b
  AllPlaced-append part (x ∷ xs) ys a b = (a.0, AllPlaced-append part xs ys a.1 b)

  written_stand : (part time : ℕ) (ws : List Written) → AllPlaced part ws → EachStands (map (written_item part time) ws)
  written_stand part time [] h = tt
  written_stand part time (w ∷ ws) h = (by_number w.topic part (rec_of (record { message = w.message; time = time })) h.0, written_stand part time ws h.1)

  write_all-append : (part : ℕ) (t : Topic) (xs ys : List Message) → AllPlaced part (write_all t xs) → AllPlaced part (write_all t ys) → AllPlaced part (write_all t (xs ++ ys))
  write_all-append part t [] ys a b = b
  write_all-append part t (x ∷ xs) ys a b = (a.0, write_all-append part t xs ys a.1 b)

  of_group : (part n : ℕ) (g : Key) → is_windowed (kind_at p n) ≡ true → IsKey g → part ≡ rules.part g (spread_of p n) → (m : Message) → IsOfGroup g m → is_placed rules p (Changelog n) part (key_bytes m) (value_bytes m) ≡ true
  of_group part n g is key here m h = ⊎_elim
      (λ (e : key_bytes m ≡ Some time_key).
      subst (λ k. is_placed rules p (Changelog n) part k (value_bytes m) ≡ true) (sym e) (ap (λ b. cond b (is_at_group rules p n part time_key (long_key_at time_key)) (is_at_key rules p (Changelog n) part time_key)) is ∙ ap (is_at_group rules p n part time_key) time_front ∙ time_itself))
      (λ (e : (s : ℕ) × (key_bytes m ≡ Some (window_key g s))).
      subst (λ k. is_placed rules p (Changelog n) part k (value_bytes m) ≡ true) (sym e.1)
      (ap (λ b. cond b (is_at_group rules p n part (window_key g e.0) (long_key_at (window_key g e.0))) (is_at_key rules p (Changelog n) part (window_key g e.0))) is ∙ ap (is_at_group rules p n part (window_key g e.0)) (window_front g e.0 key) ∙ eq-eqb part _ here))
      h
    where
      time_itself : same_bytes time_key time_key ≡ true
      time_itself = refl

  of_windows : (part n : ℕ) (g : Key) → is_windowed (kind_at p n) ≡ true → IsKey g → part ≡ rules.part g (spread_of p n) → (ms : List Message) → AllOfGroup g ms → AllPlaced part (write_all (Changelog n) ms)
  of_windows part n g is key here [] h = tt
  of_windows part n g is key here (m ∷ ms) h = (of_group part n g is key here m h.0, of_windows part n g is key here ms h.1)

  -- what arrives as a subscription
  record IsAsked (part n : ℕ) (b k : Key) (s : Subscription) : Type 0 where
    foreign : IsKey b
    left : IsKey k
    here : part ≡ rules.part b (spread_of_topic p (HashChangelog n))
    few : IsPart s.part
    names : s.part ≡ named rules p n k

  of_hashes : (part n : ℕ) (st : Store) (m : Option Message) → ((b k : Key) (s : Subscription) → m ≡ Some (Asked b k s) → IsAsked part n b k s) → AllPlaced part (write_all (HashChangelog n) (hash_changes st n m))
  of_hashes part n st None asked = tt
  of_hashes part n st (Some (Asked b q s)) asked = by (same_option same_subscriber (fin.get (st.hashes n b) q) (subscribed s)) (asked b q s refl)
    where
      of_hash : IsAsked part n b q s → (h : Option ℕ) → is_kept_home rules p n (Some (b, q)) (option_map subscriber_bytes (option_map (λ h. record { hash = h; part = s.part }) h) >>= subscriber_from) ≡ true
      of_hash i None = refl
      of_hash i (Some h) = keeping_home n b q (record { hash = h; part = s.part }) i.few i.names

      by : (c : Bool) → IsAsked part n b q s → AllPlaced part (write_all (HashChangelog n) (cond c [] (KeptHash b q (subscribed s) ∷ [])))
      by true i = tt
      by false i = (
        and_from (is_at_foreign rules p n part (long_key_at (subscription_key b q))) _
            (ap (is_at_foreign rules p n part) (foreign_front b q i.foreign) ∙ eq-eqb part _ i.here)
            (ap (λ o. is_kept_home rules p n o (option_map subscriber_bytes (subscribed s) >>= subscriber_from)) (subscription_key_codec.again (b, q) (i.foreign, i.left)) ∙ of_hash i (hash_by s.instruction s.hash)),
        tt,
      )
  of_hashes part n st (Some (Given k v)) asked = tt
  of_hashes part n st (Some (Keyed g row)) asked = tt
  of_hashes part n st (Some (Moved g d)) asked = tt
  of_hashes part n st (Some (Answered k r)) asked = tt
  of_hashes part n st (Some (Kept k w)) asked = tt
  of_hashes part n st (Some (KeptCount w g)) asked = tt
  of_hashes part n st (Some (KeptTime t)) asked = tt
  of_hashes part n st (Some (KeptHash b k h)) asked = tt

  -- the kinds of the nodes from one on
  abbrev pub AtPlace : ℕ → List Kind → Type 0
  AtPlace n [] = Unit {0}
  AtPlace n (k ∷ ks) = (kind_at p n ≡ k) × AtPlace (suc n) ks

  pub at_places : (before ks : List Kind) → p.kinds ≡ before ++ ks → (n : ℕ) → n ≡ length before → AtPlace n ks
  at_places before [] is n e = tt
  at_places before (k ∷ ks) is n e = (
    ap₂ (λ (l : List Kind) (i : ℕ). get_or l i no_kind) is e ∙ there before,
    at_places (before ++ k ∷ []) ks (is ∙ sym (append_assoc before (k ∷ []) ks)) (suc n) (omega (arith, e, length-append before (k ∷ []))),
  )
    where
      there : (xs : List Kind) → get_or (xs ++ k ∷ ks) (length xs) no_kind ≡ k
      there [] = refl
      there (x ∷ xs) = there xs

  module _ (fits : Fits p) (a : Arrival) (sub : ℕ) (takes : taker p a.topic ≡ sub) (st : Store) (part : ℕ)
      (here : (c : Key) → came_key a.item.message ≡ Some c → IsKey c × (part ≡ rules.part c (spread_of_topic p a.topic)))
      (asked : (n : ℕ) (b k : Key) (s : Subscription) → a.topic ≡ Subscriptions n → a.item.message ≡ Asked b k s → IsKey k × IsPart s.part × (s.part ≡ named rules p n k)) where
    abbrev items : ℕ → Option StreamItem
    items = items_from a (λ n. None) 0 p.kinds

    -- a windowed count has no table whose rows change
    own_value : (olds news : Values) (n : ℕ) (k : Kind) → is_windowed k ≡ true → value_at rules a items olds news n k ≡ olds n
    own_value olds news n (Windowed f by w through) is = refl
    own_value olds news n (StreamSource t) is = absurd cc
    own_value olds news n (TableSource t) is = absurd cc
    own_value olds news n (StreamFilter f x) is = absurd cc
    own_value olds news n (TableFilter f x) is = absurd cc
    own_value olds news n (StreamMap f s) is = absurd cc
    own_value olds news n (TableMap f s) is = absurd cc
    own_value olds news n (KeySelected f k) is = absurd cc
    own_value olds news n (StreamAggregate f by field through) is = absurd cc
    own_value olds news n (TableAggregate f by field) is = absurd cc
    own_value olds news n (KeyJoin l r kind s) is = absurd cc
    own_value olds news n (ForeignKeyJoin l r fk kind s) is = absurd cc

    same_values : (olds news : Values) (n : ℕ) (ks : List Kind) → AtPlace n ks → ((c : ℕ) → is_windowed (kind_at p c) ≡ true → news c ≡ olds c) →
        (c : ℕ) → is_windowed (kind_at p c) ≡ true → values_from rules a items olds news n ks c ≡ olds c
    same_values olds news n [] at h = h
    same_values olds news n (k ∷ ks) at h = same_values olds (with_number news n (value_at rules a items olds news n k)) (suc n) ks at.1 (λ c is. one c is (nat_eq c n) refl)
      where
        one : (c : ℕ) → is_windowed (kind_at p c) ≡ true → (b : Bool) → nat_eq c n ≡ b → cond b (value_at rules a items olds news n k) (news c) ≡ olds c
        one c is true e =
            let same : c ≡ n = (Decides-eqb c n).0 e in
            own_value olds news n k (ap is_windowed (sym at.0) ∙ (ap (λ m. is_windowed (kind_at p m)) (sym same) ∙ is)) ∙ ap olds (sym same)
        one c is false e = h c is

    of_values : (n : ℕ) (key : Option Key) → step_key a.item.message ≡ key → AllPlaced part (write_all (Changelog n) (value_changes key (olds_at st key n) (news_at rules p a items (olds_at st key) key n)))
    of_values n None is = tt
    of_values n (Some c) is = by (is_windowed (kind_at p n)) refl
      where
        olds : Values
        olds = olds_at st (Some c)

        still : news_at rules p a items olds (Some c) n ≡ olds n → AllPlaced part (write_all (Changelog n) (value_changes (Some c) (olds n) (news_at rules p a items olds (Some c) n)))
        still e = subst (λ ms. AllPlaced part (write_all (Changelog n) ms)) (sym (ap (value_changes (Some c) (olds n)) e ∙ nothing_changes (Some c) (olds n))) tt

        changes : (b : Bool) (new : Option Stored) → is_placed rules p (Changelog n) part (Some c) (value_bytes (Kept c new)) ≡ true → AllPlaced part (write_all (Changelog n) (cond b [] (Kept c new ∷ [])))
        changes true new h = tt
        changes false new h = (h, tt)

        by : (b : Bool) → is_windowed (kind_at p n) ≡ b → AllPlaced part (write_all (Changelog n) (value_changes (Some c) (olds n) (news_at rules p a items olds (Some c) n)))
        by true e = still (same_values olds olds 0 p.kinds (at_places [] p.kinds refl 0 refl) (λ m w. refl) n e)
        by false e = ⊎_elim still
            (λ (o : Owned rules p a.topic n). changes (same_option same_stored (olds n) (news_at rules p a items olds (Some c) n)) _
            (ap (λ b. cond b (is_at_group rules p n part c (long_key_at c)) (part == rules.part c (spread_of p n))) e ∙ eq-eqb part _ ((here c (came_at_step a.item.message c is)).1 ∙ ap (rules.part c) o.spread)))
            (kept rules p fits a sub takes st (Some c) n)

    -- where an item with a group comes to a windowed count
    item_place : (n f : ℕ) (by : Option (List ℕ)) (w : Window) (through : Bool) → NodeFits p n (Windowed f by w through) → (x : StreamItem) → item_into a items n f through ≡ Some x → (g : Key) → x.key ≡ Some g →
        IsKey g × (part ≡ rules.part g (spread_of p n))
    item_place n f by w true fit x is g key = at_topic (same_topic a.topic (Repartition n)) refl is
      where
        keyed : (m : Message) → item_keyed a.item.time (Some m) ≡ Some x → came_key m ≡ Some g
        keyed (Keyed h row) e = let same : Some h ≡ x.key = cc in same ∙ key
        keyed (Given k v) e = absurd cc
        keyed (Moved h d) e = absurd cc
        keyed (Asked b k s) e = absurd cc
        keyed (Answered k r) e = absurd cc
        keyed (Kept k v) e = absurd cc
        keyed (KeptCount k v) e = absurd cc
        keyed (KeptTime t) e = absurd cc
        keyed (KeptHash b k h) e = absurd cc

        at_topic : (b : Bool) → same_topic a.topic (Repartition n) ≡ b → item_keyed a.item.time (cond b (Some a.item.message) None) ≡ Some x → IsKey g × (part ≡ rules.part g (spread_of p n))
        at_topic false b e = absurd cc
        at_topic true b e = let h = here g (keyed a.item.message e) in (h.0, h.1 ∙ ap (λ t. rules.part g (spread_of_topic p t)) (topic-is a.topic (Repartition n) b))
    item_place n f by w false fit x is g key = ⊎_elim
        (λ (e : items f ≡ None). absurd (let no : None ≡ Some x = sym e ∙ is in cc))
        (λ (o : Owned rules p a.topic f).
        let own : step_key a.item.message ≡ x.key = item_key a p f (fit.2 refl).1 x is in
        let h = here g (came_at_step a.item.message g (own ∙ key)) in
        (h.0, h.1 ∙ ap (rules.part g) (o.spread ∙ (fit.1 refl).spread)))
        (owned rules p fits a sub takes st f)

    of_item : (n f : ℕ) (by : Option (List ℕ)) (w : Window) (through : Bool) → kind_at p n ≡ Windowed f by w through → NodeFits p n (Windowed f by w through) → (x : Option StreamItem) → item_into a items n f through ≡ x →
        AllPlaced part (write_all (Changelog n) (count_item w (st.times n) (st.counts n) x).changes)
    of_item n f by w through is fit None e = tt
    of_item n f by w through is fit (Some x) e = group x.key refl
      where
        group : (k : Option Key) → x.key ≡ k → AllPlaced part (write_all (Changelog n) (count_group w (st.times n) (st.counts n) x.time k).changes)
        group None key = tt
        group (Some g) key =
            let h = item_place n f by w through fit x e g key in
            of_windows part n g (ap is_windowed is) h.0 h.1 _ (counts_of_group w (st.times n) (st.counts n) x.time g)

    of_counts : (n : ℕ) (k : Kind) → kind_at p n ≡ k → NodeFits p n k → AllPlaced part (write_all (Changelog n) (counted_at a items st n k).changes)
    of_counts n (Windowed f by w through) is fit = of_item n f by w through is fit (item_into a items n f through) refl
    of_counts n (StreamSource t) is fit = tt
    of_counts n (TableSource t) is fit = tt
    of_counts n (StreamFilter f x) is fit = tt
    of_counts n (TableFilter f x) is fit = tt
    of_counts n (StreamMap f s) is fit = tt
    of_counts n (TableMap f s) is fit = tt
    of_counts n (KeySelected f k) is fit = tt
    of_counts n (StreamAggregate f by field through) is fit = tt
    of_counts n (TableAggregate f by field) is fit = tt
    of_counts n (KeyJoin l r kind s) is fit = tt
    of_counts n (ForeignKeyJoin l r fk kind s) is fit = tt

    -- where a subscription comes, and what it names
    asked_place : (n : ℕ) (b k : Key) (s : Subscription) → arrived a (Subscriptions n) ≡ Some (Asked b k s) → IsAsked part n b k s
    asked_place n b k s e = by (same_topic a.topic (Subscriptions n)) refl e
      where
        by : (c : Bool) → same_topic a.topic (Subscriptions n) ≡ c → cond c (Some a.item.message) None ≡ Some (Asked b k s) → IsAsked part n b k s
        by false c f = absurd cc
        by true c f =
            let is : a.item.message ≡ Asked b k s = cc in
            let topic : a.topic ≡ Subscriptions n = topic-is a.topic (Subscriptions n) c in
            let h = here b (ap came_key is) in
            let g = asked n b k s topic is in
            record { foreign = h.0; left = g.0; here = h.1 ∙ ap (λ t. rules.part b (spread_of_topic p t)) topic; few = g.1; names = g.2 }

    all_written : (n : ℕ) (ks : List Kind) → AtPlace n ks → EachFits p n ks →
        AllPlaced part (over_nodes (changes_at a items st (olds_at st (step_key a.item.message)) (news_at rules p a items (olds_at st (step_key a.item.message)) (step_key a.item.message))) n ks)
    all_written n [] at fit = tt
    all_written n (k ∷ ks) at fit = AllPlaced-append part _ _
        (AllPlaced-append part (write_all (Changelog n) _) _
        (write_all-append part (Changelog n) _ _ (of_values n (step_key a.item.message) refl) (of_counts n k at.0 fit.0))
        (of_hashes part n st (arrived a (Subscriptions n)) (asked_place n)))
        (all_written (suc n) ks at.1 fit.1)

  -- ---- stores, by the partition of their changelog: each pair stands as a record of it does; a topic beyond those of the plan has none
  abbrev is_pair_placed : ℕ → Option Topic → List ℕ × List ℕ → Bool
  is_pair_placed part None pair = false
  is_pair_placed part (Some topic) pair = is_placed rules p topic part (Some pair.0) (Some pair.1)

  abbrev are_pairs_placed : ℕ → Option Topic → List (List ℕ × List ℕ) → Bool
  are_pairs_placed part o [] = true
  are_pairs_placed part o (pair ∷ pairs) = is_pair_placed part o pair && are_pairs_placed part o pairs

  abbrev holds_placed : PartId → ByteStore → Bool
  holds_placed q store = are_pairs_placed q.part (topic_at p q.topic) (fin.entries store)

  abbrev IsPair : ℕ → Option Topic → List ℕ → List ℕ → Type 0
  IsPair part o k v = is_pair_placed part o (k, v) ≡ true

  each_pair : (part : ℕ) (o : Option Topic) (es : List (List ℕ × List ℕ)) → are_pairs_placed part o es ≡ true → Every (IsPair part o) es
  each_pair part o [] h = tt
  each_pair part o (e ∷ es) h = let a = and_parts (is_pair_placed part o e) (are_pairs_placed part o es) h in (a.0, each_pair part o es a.1)

  all_pairs : (part : ℕ) (o : Option Topic) (es : List (List ℕ × List ℕ)) → Every (IsPair part o) es → are_pairs_placed part o es ≡ true
  all_pairs part o [] h = refl
  all_pairs part o (e ∷ es) h = and_from (is_pair_placed part o e) (are_pairs_placed part o es) h.0 (all_pairs part o es h.1)

  -- a record of a changelog, as a pair
  module _ (part : ℕ) (o : Option Topic) (w : Topic) (at : o ≡ Some w) where
    one_value : (k : List ℕ) (v : Option (List ℕ)) → is_placed rules p w part (Some k) v ≡ true → IfThere (IsPair part o k) v
    one_value k None h = tt
    one_value k (Some v) h = subst (λ x. IsPair part x k v) (sym at) h

    kept_one : (m : ByteStore) → Every (IsPair part o) (fin.entries m) → (k v : Option (List ℕ)) → is_placed rules p w part k v ≡ true → Every (IsPair part o) (fin.entries (keep_bytes m k v))
    kept_one m held None v h = held
    kept_one m held (Some k) v h = every_write (IsPair part o) by_bytes nat_list_cmp_total bytes_anti m k v (one_value k v h) held

  kept_all : (q : PartId) (w : Topic) → topic_at p q.topic ≡ Some w → (m : ByteStore) → Every (IsPair q.part (topic_at p q.topic)) (fin.entries m) → (rs : List Rec) → FitIn (stands rules p) q rs →
      Every (IsPair q.part (topic_at p q.topic)) (fin.entries (keep_all m rs))
  kept_all q w at m held [] h = held
  kept_all q w at m held (r ∷ rs) h = kept_all q w at (keep_bytes m r.key r.value)
      (kept_one q.part (topic_at p q.topic) w at m held r.key r.value (subst (λ x. placed_by rules p q.part r x ≡ true) at h.0)) rs h.1

  records_fit : (q : PartId) (xs : List (PartId × Rec)) → AllFit (stands rules p) xs → FitIn (stands rules p) q (records_at q xs)
  records_fit q [] h = tt
  records_fit q (x ∷ xs) h = by (same_part q x.0) refl (records_fit q xs h.1)
    where
      by : (b : Bool) → same_part q x.0 ≡ b → FitIn (stands rules p) q (records_at q xs) → FitIn (stands rules p) q (cond b (x.1 ∷ records_at q xs) (records_at q xs))
      by true is more = (subst (λ u. stands rules p u x.1 ≡ true) (sym (same_part-is q x.0 is)) h.0, more)
      by false is more = more

  -- what a subscription store keeps names the left key's partition
  module _ (n : ℕ) (b : Key) where
    abbrev Names : Key → Subscriber → Type 0
    Names k y = y.part ≡ named rules p n k

    pair_names : (part : ℕ) (e : List ℕ × List ℕ) → is_pair_placed part (Some (HashChangelog n)) e ≡ true → (k : Key) (y : Subscriber) → left_at b (subscription_key_from e.0) ≡ Some k → subscriber_from e.1 ≡ Some y → Names k y
    pair_names part e h k y f g = by (subscription_key_from e.0) f (ap (is_kept_home rules p n (subscription_key_from e.0)) (sym g) ∙ (and_parts (is_at_foreign rules p n part (long_key_at e.0)) _ h).1)
      where
        at : (x : Key × Key) (c : Bool) → cond c (Some x.1) None ≡ Some k → names_home rules p n x.1 y.part ≡ true → Names k y
        at x true is home = let left : x.1 ≡ k = cc in named-is y.part (named rules p n x.1) home ∙ ap (named rules p n) left
        at x false is home = absurd cc

        by : (o : Option (Key × Key)) → left_at b o ≡ Some k → is_kept_home rules p n o (Some y) ≡ true → Names k y
        by None is home = absurd cc
        by (Some x) is home = at x (same_bytes b x.0) is home

    pairs_name : (part : ℕ) (es : List (List ℕ × List ℕ)) → are_pairs_placed part (Some (HashChangelog n)) es ≡ true → Gives Names by_bytes nat_list_cmp_total bytes_anti (λ k. left_at b (subscription_key_from k)) subscriber_from es
    pairs_name part [] h = tt
    pairs_name part (e ∷ es) h =
        let a = and_parts (is_pair_placed part (Some (HashChangelog n)) e) (are_pairs_placed part (Some (HashChangelog n)) es) h in
        (pair_names part e a.0, pairs_name part es a.1)

    -- without a pair there is nothing to read
    no_pairs : (part : ℕ) (es : List (List ℕ × List ℕ)) → are_pairs_placed part None es ≡ true → Gives Names by_bytes nat_list_cmp_total bytes_anti (λ k. left_at b (subscription_key_from k)) subscriber_from es
    no_pairs part [] h = tt
    no_pairs part (e ∷ es) h = absurd (true≢false (sym h))

  stored_names : (t : TaskId) (stores : ByteStores) → AreHeld holds_placed t stores → (n : ℕ) (b k : Key) (y : Subscriber) → fin.get (hashes_from p t.sub stores n b) k ≡ Some y → y.part ≡ named rules p n k
  stored_names t stores held n b k y e =
      every_found (Names n b) by_bytes bytes_anti (fin.entries (hashes_from p t.sub stores n b)) k y
      (every_read (Names n b) by_bytes nat_list_cmp_total bytes_anti (λ c. left_at b (subscription_key_from c)) subscriber_from (pairs_of p t.sub stores (HashChangelog n)) (by_own (is_own p t.sub (HashChangelog n))))
      (sym (fin.get-entries (hashes_from p t.sub stores n b) k) ∙ e)
    where
      by_topic : (o : Option Topic) → topic_at p (number_of p (HashChangelog n)) ≡ o → are_pairs_placed t.part o (fin.entries (stores (number_of p (HashChangelog n)))) ≡ true →
          Gives (Names n b) by_bytes nat_list_cmp_total bytes_anti (λ c. left_at b (subscription_key_from c)) subscriber_from (fin.entries (stores (number_of p (HashChangelog n))))
      by_topic None is h = no_pairs n b t.part (fin.entries (stores (number_of p (HashChangelog n)))) h
      by_topic (Some w) is h = pairs_name n b t.part (fin.entries (stores (number_of p (HashChangelog n))))
          (subst (λ v. are_pairs_placed t.part (Some v) (fin.entries (stores (number_of p (HashChangelog n)))) ≡ true) (place-is (topics_of p) (HashChangelog n) w is) h)

      by_own : (o : Bool) → Gives (Names n b) by_bytes nat_list_cmp_total bytes_anti (λ c. left_at b (subscription_key_from c)) subscriber_from (cond o (fin.entries (stores (number_of p (HashChangelog n)))) [])
      by_own true = by_topic (topic_at p (number_of p (HashChangelog n))) refl (held (number_of p (HashChangelog n)))
      by_own false = tt

  -- ---- one step
  fits_at : (q : Place) (m : Message) → ((c : Key) → came_key m ≡ Some c → q.part ≡ rules.part c (spread_of_topic p q.topic)) → FitsAt rules p q m
  fits_at q (Given None v) h = tt
  fits_at q (Given (Some k) v) h = h k refl
  fits_at q (Keyed g row) h = h g refl
  fits_at q (Moved g d) h = h g refl
  fits_at q (Asked b k s) h = h b refl
  fits_at q (Answered k r) h = h k refl
  fits_at q (Kept k w) h = tt
  fits_at q (KeptCount w g) h = tt
  fits_at q (KeptTime t) h = tt
  fits_at q (KeptHash b k s) h = tt

  names_at : (t : Topic) (m : Message) → ((n : ℕ) (b k : Key) (s : Subscription) → t ≡ Subscriptions n → m ≡ Asked b k s → s.part ≡ named rules p n k) → NamesHome rules p t m
  names_at (Subscriptions n) (Asked b k s) h = h n b k s refl refl
  names_at (Subscriptions n) (Given k v) h = tt
  names_at (Subscriptions n) (Keyed g row) h = tt
  names_at (Subscriptions n) (Moved g d) h = tt
  names_at (Subscriptions n) (Answered k r) h = tt
  names_at (Subscriptions n) (Kept k w) h = tt
  names_at (Subscriptions n) (KeptCount w g) h = tt
  names_at (Subscriptions n) (KeptTime t) h = tt
  names_at (Subscriptions n) (KeptHash b k s) h = tt
  names_at (InputTopic i) m h = tt
  names_at (Repartition i) m h = tt
  names_at (Responses i) m h = tt
  names_at (Changelog i) m h = tt
  names_at (HashChangelog i) m h = tt

  module _ (fits : Fits p) (have : HavePlaces rules p) (few : (n : ℕ) → parts_of p n ≤ 64) (t : TaskId) (stores : ByteStores) (held : AreHeld holds_placed t stores) where
    of_step : (topic : Topic) (x : Item) → taker p topic ≡ t.sub → ((c : Key) → came_key x.message ≡ Some c → IsKey c × (t.part ≡ rules.part c (spread_of_topic p topic))) →
        ((n : ℕ) (b k : Key) (s : Subscription) → topic ≡ Subscriptions n → x.message ≡ Asked b k s → IsKey k × (s.part ≡ named rules p n k)) →
        AllFit (stands rules p) (outcome_of p t stores (step rules p t (store_from p t.sub stores) (record { topic = topic; part = t.part }) x)).made
    of_step topic x takes here asked =
        let st = store_from p t.sub stores in
        let q : Place = record { topic = topic; part = t.part } in
        let a : Arrival = arrival p q x in
        let made = whole_step rules p st a in
        let key = step_key x.message in
        let items = items_from a (λ n. None) 0 p.kinds in
        let olds = olds_at st key in
        let news = news_at rules p a items olds key in
        let good : Each (IsGood rules p) made.sends = good_step rules p fits st q x (λ free. fits_at q x.message (λ c e. (here c e).1)) (λ free. names_at topic x.message (λ n b k s e f. (asked n b k s e f).1)) (stored_names t stores held) in
        all_fit (is_sent p t) (map (sent_item rules p x.time) made.sends ++ map (written_item t.part x.time) made.changes)
        (EachStands-append (map (sent_item rules p x.time) made.sends) _
        (sent_stand have few x.time made.sends (through_all rules a items st olds news 0 p.kinds) good)
        (written_stand t.part x.time made.changes (all_written fits a t.sub takes st t.part here named_asked 0 p.kinds (at_places [] p.kinds refl 0 refl) fits)))
      where
        named_asked : (n : ℕ) (b k : Key) (s : Subscription) → topic ≡ Subscriptions n → x.message ≡ Asked b k s → IsKey k × IsPart s.part × (s.part ≡ named rules p n k)
        named_asked n b k s e f = let g = asked n b k s e f in (g.0, subst IsPart (sym g.1) (named_few have few n k), g.1)

    plain_message : (topic : Topic) (r : Rec) (m : Message) → message_in p topic r ≡ Some m → is_changelog topic ≡ false
    plain_message (InputTopic i) r m h = refl
    plain_message (Repartition i) r m h = refl
    plain_message (Subscriptions i) r m h = refl
    plain_message (Responses i) r m h = refl
    plain_message (Changelog i) r m h = absurd cc
    plain_message (HashChangelog i) r m h = absurd cc

    -- a subscription that stands has a left key, and names its partition
    asked_in : (n part : ℕ) (r : Rec) (b k : Key) (s : Subscription) → of_both key_from subscription_from (λ b v. Asked b v.left (subscription_of v)) r ≡ Some (Asked b k s) → is_placed rules p (Subscriptions n) part r.key r.value ≡ true →
        IsKey k × (s.part ≡ named rules p n k)
    asked_in n part r b k s e placed = by r.key r.value e placed
      where
        read : (kb vb : List ℕ) → (key_from kb >>= (λ a. subscription_from vb >>= (λ v. Some (Asked a v.left (subscription_of v))))) ≡ Some (Asked b k s) → is_asking_home rules p n (subscription_from vb) ≡ true → IsKey k × (s.part ≡ named rules p n k)
        read kb vb e home =
            let a = bind_some (key_from kb) (λ a. subscription_from vb >>= (λ v. Some (Asked a v.left (subscription_of v)))) (Asked b k s) e in
            let v = bind_some (subscription_from vb) (λ v. Some (Asked a.0 v.left (subscription_of v))) (Asked b k s) a.2 in
            let same : Asked a.0 v.0.left (subscription_of v.0) ≡ Asked b k s = some_is _ _ v.2 in
            let left : v.0.left ≡ k = cc in
            let said : subscription_of v.0 ≡ s = cc in
            let names : v.0.part ≡ named rules p n v.0.left = named-is v.0.part (named rules p n v.0.left) (ap (is_asking_home rules p n) (sym v.1) ∙ home) in
            (subst IsKey left (subscription_left vb v.0 v.1), ap (λ (y : Subscription). y.part) (sym said) ∙ names ∙ ap (named rules p n) left)

        by : (key value : Option (List ℕ)) → (key >>= (λ kb. value >>= (λ vb. key_from kb >>= (λ a. subscription_from vb >>= (λ v. Some (Asked a v.left (subscription_of v))))))) ≡ Some (Asked b k s) →
            is_placed rules p (Subscriptions n) part key value ≡ true → IsKey k × (s.part ≡ named rules p n k)
        by None value e h = absurd cc
        by (Some kb) None e h = absurd cc
        by (Some kb) (Some vb) e h = read kb vb e (and_parts (is_at_key rules p (Subscriptions n) part kb) _ h).1

    of_read : (q : PartId) (topic : Topic) (r : Rec) → q.part ≡ t.part → is_placed rules p topic q.part r.key r.value ≡ true → reads p topic ≡ t.sub →
        (m : Option Message) → message_in p topic r ≡ m → AllFit (stands rules p) (step_read rules p t stores q topic r.ts m).made
    of_read q topic r same placed is None e = tt
    of_read q topic r same placed is (Some m) e =
        let free = plain_message topic r m e in
        subst (λ i. AllFit (stands rules p) (outcome_of p t stores (step rules p t (store_from p t.sub stores) (record { topic = topic; part = i }) (record { message = m; time = r.ts }))).made) (sym same)
        (of_step topic (record { message = m; time = r.ts }) (ap (λ b. cond b (sub_count p) (reads p topic)) free ∙ is)
        (λ c k. let h = message_key p topic r m c e k in (h.key, sym same ∙ at_key topic q.part c r.value free (ap (λ x. is_placed rules p topic q.part x r.value) (sym h.has) ∙ placed)))
        (λ n b k s is f. asked_in n q.part r b k s (ap (λ u. message_in p u r) (sym is) ∙ e ∙ ap (λ y. Some y) f) (subst (λ u. is_placed rules p u q.part r.key r.value ≡ true) is placed)))

    of_topic : (q : PartId) (r : Rec) → q.part ≡ t.part → (o : Option Topic) → placed_by rules p q.part r o ≡ true → AllFit (stands rules p) (step_at rules p t stores q r o).made
    of_topic q r same None placed = tt
    of_topic q r same (Some topic) placed = by (nat_eq (reads p topic) t.sub) refl
      where
        by : (b : Bool) → nat_eq (reads p topic) t.sub ≡ b → AllFit (stands rules p) (cond b (step_read rules p t stores q topic r.ts (message_in p topic r)) (nothing_made stores)).made
        by true is = of_read q topic r same placed ((Decides-eqb (reads p topic) t.sub).0 is) (message_in p topic r) refl
        by false is = tt

    made_stands : (q : PartId) (r : Rec) → q.part ≡ t.part → stands rules p q r ≡ true → AllFit (stands rules p) (byte_step rules p t stores q r).made
    made_stands q r same h = of_topic q r same (topic_at p q.topic) h

    held_after : (q : PartId) (r : Rec) → q.part ≡ t.part → stands rules p q r ≡ true → AreHeld holds_placed t (byte_step rules p t stores q r).store
    held_after q r same h n = by (is_own_number p t.sub n) refl
      where
        by : (b : Bool) → is_own_number p t.sub n ≡ b → holds_placed (part_of n t) ((byte_step rules p t stores q r).store n) ≡ true
        by false e = subst (λ m. holds_placed (part_of n t) m ≡ true) (sym ((tells rules p t stores q r n).other e)) (held n)
        by true e =
            let k = kept_at p t.sub n e in
            let made = records_at (part_of n t) (byte_step rules p t stores q r).made in
            subst (λ m. holds_placed (part_of n t) m ≡ true) (sym ((tells rules p t stores q r n).own e))
            (all_pairs t.part (topic_at p n) (fin.entries (keep_all (stores n) made))
            (kept_all (part_of n t) k.topic (ap (topic_at p) k.is ∙ k.holds.0.0) (stores n) (each_pair t.part (topic_at p n) (fin.entries (stores n)) (held n)) made
            (records_fit (part_of n t) (byte_step rules p t stores q r).made (made_stands q r same h))))

  keeps : Fits p → HavePlaces rules p → ((n : ℕ) → parts_of p n ≤ 64) → Keeps (work_of rules p) (stands rules p) holds_placed
  keeps fits have few = record {
    start = λ q. all_pairs q.part (topic_at p q.topic) (fin.entries no_bytes) (every_empty (IsPair q.part (topic_at p q.topic)) by_bytes nat_list_cmp_total bytes_anti);
    stores = λ stores q r reads held fit. held_after fits have few (reader_of (work_of rules p) q) stores held q r refl fit;
    made = λ stores q r reads held fit. made_stands fits have few (reader_of (work_of rules p) q) stores held q r refl fit;
  }

pub decided_stand : DecidedStand
decided_stand rules d journal well have history produced =
    let p = plan_of d in
    (all_kept (setup_of rules p) journal (works_are_networks rules p) history (stands rules p) (holds_placed rules p) (keeps rules p (well_formed_fits d well) have (λ n. have_few d well (Responses n))) produced).0
