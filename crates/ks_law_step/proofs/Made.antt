-- A whole step over bytes, piece by piece: items, stored values, what is sent, what changelogs are told.
use Rattle.std.proofs.Common.{◌≡◌, ℕ, suc, ◌+◌, ◌<◌, ◌^◌, Bool, true, false, cond, ◌⊎◌, inl, inr, List, length, [], ◌∷◌, ◌++◌, map, Option, Some, None, refl, sym, ap, ap₂, subst, ◌∙◌, arith, nat_eq, append_assoc, length-append, get_or, ⊎_elim}
use Rattle.std.specs.Prelude.{option_map, option_and_then, ◌&&◌, ◌==◌, nat_lt}
use Rattle.std.specs.List.{filter, flat_map}
use Rattle.std.proofs.Math.Path.{fun_ext}
use Rattle.std.proofs.lemmas.Bool.{true≢false}
use Rattle.std.proofs.lemmas.Bool.Decides.{Decides-eqb}
use Rattle.ks_record.specs.Records.{Record as Rec}
use Rattle.ks_record.specs.declared.record.PartId.{PartId}
use Rattle.ks_record.specs.declared.record.TaskId.{TaskId}
use Rattle.ks_record.specs.Texts.{IsKey, key_from}
use Rattle.ks_row.specs.Reading.{◌>>=◌}
use Rattle.ks_row.proofs.Spelled.{key_again, key_takes}
use Rattle.ks_def_runs.specs.FinMap as fin
use Rattle.ks_def_runs.specs.FinMap.{FinMap}
use Rattle.ks_def_runs.specs.Bytes.{Store as ByteStore, empty_store as no_bytes}
use Rattle.ks_wire.specs.declared.values.Agg.{Agg}
use Rattle.ks_wire.specs.Spelling.{time_key}
use Rattle.ks_wire.specs.Reading.{window_key_from, agg_from, time_from}
use Rattle.ks_plan.specs.Drafts.{Name}
use Rattle.ks_plan.specs.declared.node.Topic.{Topic}
use Rattle.ks_plan.specs.declared.node.Topic.TheVariants.{Input, Repartition, Subscriptions, Responses, Changelog, HashChangelog}
use Rattle.ks_plan.specs.Plan.{Plan, Kind, Window, plan_of, is_windowed}
use Rattle.ks_plan.specs.Plan.Kind.{StreamSource, TableSource, StreamFilter, TableFilter, StreamMap, TableMap, KeySelected, StreamAggregate, TableAggregate, Windowed, KeyJoin, ForeignKeyJoin}
use Rattle.ks_plan.specs.Layout.{same_topic, number_of, parts_of_topic, reads, sub_of, kind_at, no_kind}
use Rattle.ks_row.specs.FieldKeys.{field_key}
use Rattle.ks_expr.specs.Eval.{Row, holds, project}
use Rattle.ks_expr.specs.declared.terms.Fk.{Fk}
use Rattle.ks_query.specs.Streams.{Key, StreamItem, filter_item, map_item, rekey_item}
use Rattle.ks_query.specs.Query.{with_number}
use Rattle.ks_query.specs.Windows.{by_window, windows}
use Rattle.ks_def_runs.specs.Run.{Outcome}
use Rattle.ks_def_tasks.specs.Messages.{Message, Place, Item, Store, Rules, shown, same_option, same_subscriber}
use Rattle.ks_def_tasks.specs.Messages.Message.{Given, Keyed, Moved, Asked, Answered, Kept, KeptCount, KeptTime, KeptHash}
use Rattle.ks_def_tasks.specs.Foreign.{subscriptions, subscribed, answer_to, answer_all}
use Rattle.ks_def_tasks.specs.Windowed.{Counted, greater, not_counted, count_group, count_item}
use Rattle.ks_def_tasks.specs.Step.{Arrival, Values, Written, arrived, step_key, item_given, item_keyed, item_at, items_from, item_into, row_in, changed, values_from, counted_at, hash_changes, send_subscriptions, send_responses, answer_of, answer_one, join_sends, sends_at, write_all, value_changes, changes_at, over_nodes, late_over, olds_at, news_at, Sent}
use Rattle.ks_def_tasks.specs.Tasks.{arrival, step, taker, to_part, sent_item, written_item}
use Rattle.ks_def_tasks.specs.Bytes.{ByteStores, outcome_of, is_own, is_sent, pairs_of, own_bytes, rec_of, part_id, spelled, message_in, store_from, stores_after, map_from}
use Rattle.ks_def_tasks.specs.Laws.{AreBytes, AllBelow}
use Rattle.ks_def_tasks.proofs.Keys.{key_read}
use Rattle.ks_def_tasks.proofs.Agree.{is_decoded}
use Rattle.ks_law_topology.proofs.Fits.{Fits, NodeFits, EachFits}
use Rattle.ks_law_topology.proofs.Placed.{Owned}
use Rattle.ks_law_topology.proofs.WellFormed.{well_formed_fits}
use Rattle.ks_law_topology.specs.Spelled.{IfThere}
use Rattle.ks_law_topology.proofs.Kept.{filter-append, writes_kept}
use Rattle.ks_law_topology.proofs.Writes.{Through, through_all, written_all, comes, owned as items_owned}
use Rattle.ks_def_lookups.specs.Windows.{CountedBytes, counted, time_in}
use Rattle.ks_def_lookups.specs.WindowsDecoded.{counts_in}
use Rattle.ks_def_lookups.proofs.WindowsDecoded.{counts_agree}
use Rattle.ks_law_kinds.specs.Fitting.{FitsPlan}
use Rattle.ks_law_kinds.proofs.Arriving.{MessageFits}
use Rattle.ks_law_kinds.proofs.Values.{ItemFits, ItemsFit, items_fit, into_fits}
use Rattle.ks_law_kinds.proofs.Made.{AllUpTo, starts_up}
use Rattle.ks_def_lookups.specs.Stores.{LooksUp}
use Rattle.ks_def_lookups.proofs.Lists.{nodes_act_as_lists}
use Rattle.ks_def_lookups.proofs.Stores.{stores_are_looked_up}
use Rattle.ks_def_lookups.specs.Counts.{nothing_counted, counted_key, counted_item}
use Rattle.ks_law_step.specs.Whole.{items_by, olds_by, news_by, answer_by, join_by, sends_by, send_to, send, at_log, tell, hash_by, counts_by, recs_by, made_by, late_from, AreStores, StepsAreMade}
use Rattle.ks_law_step.proofs.Reading.{read_fits, keys_are, time_fits}

-- ---- lists
map-append : {A B : Type 0} (f : A → B) (xs ys : List A) → map f (xs ++ ys) ≡ map f xs ++ map f ys
map-append f [] ys = refl
map-append f (x ∷ xs) ys = ap (λ l. f x ∷ l) (map-append f xs ys)

map-map : {A B C : Type 0} (f : B → C) (g : A → B) (h : A → C) → ((x : A) → f (g x) ≡ h x) → (xs : List A) → map f (map g xs) ≡ map h xs
map-map f g h e [] = refl
map-map f g h e (x ∷ xs) = ap₂ (λ y ys. y ∷ ys) (e x) (map-map f g h e xs)

-- each of these nodes stands at its number
abbrev AtPlace : Plan → ℕ → List Kind → Type 0
AtPlace p n [] = Unit {0}
AtPlace p n (k ∷ ks) = (kind_at p n ≡ k) × AtPlace p (suc n) ks

get_end : (xs : List Kind) (x : Kind) (ys : List Kind) → get_or (xs ++ x ∷ ys) (length xs) no_kind ≡ x
get_end [] x ys = refl
get_end (y ∷ xs) x ys = get_end xs x ys

at_places : (p : Plan) (before ks : List Kind) → p.kinds ≡ before ++ ks → (n : ℕ) → n ≡ length before → AtPlace p n ks
at_places p before [] is n e = tt
at_places p before (k ∷ ks) is n e = (
  ap₂ (λ (l : List Kind) (m : ℕ). get_or l m no_kind) is e ∙ get_end before k ks,
  at_places p (before ++ k ∷ []) ks (is ∙ sym (append_assoc before (k ∷ []) ks)) (suc n) (omega (arith, e, length-append before (k ∷ []))),
)

over_same : {A : Type 0} (p : Plan) (f g : ℕ → Kind → List A) → ((n : ℕ) (k : Kind) → NodeFits p n k → kind_at p n ≡ k → f n k ≡ g n k) →
    (n : ℕ) (ks : List Kind) → EachFits p n ks → AtPlace p n ks → over_nodes f n ks ≡ over_nodes g n ks
over_same p f g h n [] e at = refl
over_same p f g h n (k ∷ ks) e at = ap₂ (λ xs ys. xs ++ ys) (h n k e.0 at.0) (over_same p f g h (suc n) ks e.1 at.1)

over_map : {A B : Type 0} (m : A → B) (f : ℕ → Kind → List A) (n : ℕ) (ks : List Kind) → map m (over_nodes f n ks) ≡ over_nodes (λ n k. map m (f n k)) n ks
over_map m f n [] = refl
over_map m f n (k ∷ ks) = map-append m (f n k) (over_nodes f (suc n) ks) ∙ ap (λ l. map m (f n k) ++ l) (over_map m f (suc n) ks)

-- ---- items have the time of their record
module _ (a : Arrival) where
  abbrev IsTimed : Option StreamItem → Type 0
  IsTimed None = Unit {0}
  IsTimed (Some x) = x.time ≡ a.item.time

  given_timed : (m : Option Message) → IsTimed (item_given a.item.time m)
  given_timed None = tt
  given_timed (Some (Given k None)) = tt
  given_timed (Some (Given k (Some v))) = refl
  given_timed (Some (Keyed g row)) = tt
  given_timed (Some (Moved g d)) = tt
  given_timed (Some (Asked b l s)) = tt
  given_timed (Some (Answered l r)) = tt
  given_timed (Some (Kept k w)) = tt
  given_timed (Some (KeptCount w g)) = tt
  given_timed (Some (KeptTime u)) = tt
  given_timed (Some (KeptHash b l g)) = tt

  keyed_timed : (m : Option Message) → IsTimed (item_keyed a.item.time m)
  keyed_timed None = tt
  keyed_timed (Some (Keyed g row)) = refl
  keyed_timed (Some (Given k v)) = tt
  keyed_timed (Some (Moved g d)) = tt
  keyed_timed (Some (Asked b l s)) = tt
  keyed_timed (Some (Answered l r)) = tt
  keyed_timed (Some (Kept k w)) = tt
  keyed_timed (Some (KeptCount w g)) = tt
  keyed_timed (Some (KeptTime u)) = tt
  keyed_timed (Some (KeptHash b l g)) = tt

  passed : (f : StreamItem → Option StreamItem) → ((x : StreamItem) → x.time ≡ a.item.time → IsTimed (f x)) → (o : Option StreamItem) → IsTimed o → IsTimed (option_and_then f o)
  passed f h None t = tt
  passed f h (Some x) t = h x t

  if_met : (b : Bool) (x : StreamItem) → x.time ≡ a.item.time → IsTimed (cond b (Some x) None)
  if_met true x t = t
  if_met false x t = tt

  with_row : (x : StreamItem) → x.time ≡ a.item.time → (r : Option Row) → IsTimed (option_map (λ r. record x { row = r }) r)
  with_row x t None = tt
  with_row x t (Some r) = t

  with_key : (x : StreamItem) → x.time ≡ a.item.time → (k : Option Key) → IsTimed (option_map (λ k. record x { key = Some k }) k)
  with_key x t None = tt
  with_key x t (Some k) = t

  abbrev AllTimed : (ℕ → Option StreamItem) → Type 0
  AllTimed items = (c : ℕ) → IsTimed (items c)

  item_timed : (items : ℕ → Option StreamItem) → AllTimed items → (k : Kind) → IsTimed (item_at a items k)
  item_timed items h (StreamSource t) = given_timed (arrived a (Input t))
  item_timed items h (StreamFilter f test) = passed (filter_item test) (λ x t. if_met (holds test x.row) x t) (items f) (h f)
  item_timed items h (StreamMap f set) = passed (map_item set) (λ x t. with_row x t (project set (Some x.row) None)) (items f) (h f)
  item_timed items h (KeySelected f name) = passed (rekey_item name) (λ x t. with_key x t (field_key name x.row)) (items f) (h f)
  item_timed items h (TableSource t) = tt
  item_timed items h (TableFilter f x) = tt
  item_timed items h (TableMap f s) = tt
  item_timed items h (StreamAggregate f by field through) = tt
  item_timed items h (TableAggregate f by field) = tt
  item_timed items h (Windowed f by w through) = tt
  item_timed items h (KeyJoin l r kind s) = tt
  item_timed items h (ForeignKeyJoin l r fk kind s) = tt

  items_timed : (items : ℕ → Option StreamItem) → AllTimed items → (n : ℕ) (ks : List Kind) → AllTimed (items_from a items n ks)
  items_timed items h n [] = h
  items_timed items h n (k ∷ ks) = items_timed (with_number items n (item_at a items k)) (λ c. by c (nat_eq c n)) (suc n) ks
    where
      by : (c : ℕ) (b : Bool) → IsTimed (cond b (item_at a items k) (items c))
      by c true = item_timed items h k
      by c false = h c

  into_timed : (items : ℕ → Option StreamItem) → AllTimed items → (n f : ℕ) (through : Bool) → IsTimed (item_into a items n f through)
  into_timed items h n f true = keyed_timed (arrived a (Repartition n))
  into_timed items h n f false = h f

-- ---- one step
module _ (rules : Rules) (p : Plan) (fits : Fits p) (names : FitsPlan p) (t : TaskId) (stores : ByteStores) (topic : Topic) (part : ℕ) (message : Message) (time : ℕ)
    (takes : taker p topic ≡ t.sub) (key_is : (k : Key) → step_key message ≡ Some k → key_from k ≡ Some k) (arrives : MessageFits message) (in_time : time < 2 ^ 64) (held : AreStores stores) where
  abbrev a : Arrival
  a = arrival p (record { topic = topic; part = part }) (record { message = message; time = time })

  abbrev st : Store
  st = store_from p t.sub stores

  abbrev items : ℕ → Option StreamItem
  items = items_from a (λ n. None) 0 p.kinds

  keys_held : (n : ℕ) → AreBytes (fin.entries (stores n))
  keys_held n = keys_are (fin.entries (stores n)) (held n)

  abbrev looked : LooksUp p t.sub stores
  looked = stores_are_looked_up p t.sub stores

  items_are : items ≡ items_by rules p t stores a
  items_are = (nodes_act_as_lists rules p a (λ n. None)).items

  olds_are : (key : Option Key) → ((k : Key) → key ≡ Some k → key_from k ≡ Some k) → olds_at st key ≡ olds_by rules p t stores a key
  olds_are None h = refl
  olds_are (Some k) h = fun_ext (λ n. (stores_are_looked_up p t.sub stores).tables n k (h k refl))

  news_are : (key : Option Key) → ((k : Key) → key ≡ Some k → key_from k ≡ Some k) → news_at rules p a items (olds_at st key) key ≡ news_by rules p t stores a key
  news_are None h = refl
  news_are (Some k) h =
      ap (λ o. values_from rules a items o o 0 p.kinds) (olds_are (Some k) h)
      ∙ ap (λ i. values_from rules a i (olds_by rules p t stores a (Some k)) (olds_by rules p t stores a (Some k)) 0 p.kinds) items_are
      ∙ (nodes_act_as_lists rules p a (olds_by rules p t stores a (Some k))).values (items_by rules p t stores a)

  -- what came, at a topic
  arrived_fits : (u : Topic) (m : Message) → arrived a u ≡ Some m → MessageFits m
  arrived_fits u m = by (same_topic topic u)
    where
      by : (b : Bool) → cond b (Some message) None ≡ Some m → MessageFits m
      by true e = let same : message ≡ m = cc in subst MessageFits same arrives
      by false e = absurd cc

  key_fits : (k : Key) → step_key message ≡ Some k → IsKey k
  key_fits k e = (key_takes k k (key_is k e)).1

  -- ---- what is sent
  answer_is : (n r : ℕ) (o : Option Message) → ((m : Message) → o ≡ Some m → MessageFits m) → answer_one n st r o ≡ answer_by rules p t stores a n r o
  answer_is n r (Some (Asked b k s)) h =
      let f = h (Asked b k s) refl in
      ap (λ v. send_responses n (answer_of k s.part (answer_to s (option_map shown v)))) (looked.tables r b (key_again b f.0))
  answer_is n r None h = refl
  answer_is n r (Some (Given k v)) h = refl
  answer_is n r (Some (Keyed g row)) h = refl
  answer_is n r (Some (Moved g d)) h = refl
  answer_is n r (Some (Answered l x)) h = refl
  answer_is n r (Some (Kept k w)) h = refl
  answer_is n r (Some (KeptCount w g)) h = refl
  answer_is n r (Some (KeptTime u)) h = refl
  answer_is n r (Some (KeptHash b l g)) h = refl

  join_is : (fk : Fk) (n l r : ℕ) (olds news : Values) (key : Option Key) → ((k : Key) → key ≡ Some k → IsKey k) → join_sends rules fk (a.names n) n l r st olds news key ≡ join_by rules p t stores a fk n l r olds news key
  join_is fk n l r olds news None h = refl
  join_is fk n l r olds news (Some k) h =
      ap (λ es. cond (changed olds news l) (send_subscriptions n k (subscriptions rules.hash fk k (a.names n) (row_in olds l) (row_in news l))) []
      ++ cond (changed olds news r) (send_responses n (answer_all (row_in news r) es)) [])
      (looked.kept n (keys_held (number_of p (HashChangelog n))) k (h k refl))

  node_sends : (items : ℕ → Option StreamItem) (olds news : Values) (n : ℕ) (k : Kind) → sends_at rules a items st olds news n k ≡ sends_by rules p t stores a items olds news n k
  node_sends items olds news n (ForeignKeyJoin l r fk kind s) =
      ap₂ (λ xs ys. xs ++ ys) (join_is fk n l r olds news (step_key message) key_fits) (answer_is n r (arrived a (Subscriptions n)) (arrived_fits (Subscriptions n)))
  node_sends items olds news n (StreamAggregate f by field through) = refl
  node_sends items olds news n (Windowed f by w through) = refl
  node_sends items olds news n (TableAggregate f by field) = refl
  node_sends items olds news n (StreamSource u) = refl
  node_sends items olds news n (TableSource u) = refl
  node_sends items olds news n (StreamFilter f x) = refl
  node_sends items olds news n (TableFilter f x) = refl
  node_sends items olds news n (StreamMap f s) = refl
  node_sends items olds news n (TableMap f s) = refl
  node_sends items olds news n (KeySelected f x) = refl
  node_sends items olds news n (KeyJoin l r kind s) = refl

  -- ---- what changelogs are told
  hash_is : (n : ℕ) (o : Option Message) → ((m : Message) → o ≡ Some m → MessageFits m) → hash_changes st n o ≡ hash_by rules p t stores a n o
  hash_is n (Some (Asked b k s)) h =
      let f = h (Asked b k s) refl in
      ap (λ v. cond (same_option same_subscriber v (subscribed s)) [] (KeptHash b k (subscribed s) ∷ [])) (looked.hashes n (keys_held (number_of p (HashChangelog n))) b k f.0 f.1)
  hash_is n None h = refl
  hash_is n (Some (Given k v)) h = refl
  hash_is n (Some (Keyed g row)) h = refl
  hash_is n (Some (Moved g d)) h = refl
  hash_is n (Some (Answered l x)) h = refl
  hash_is n (Some (Kept k w)) h = refl
  hash_is n (Some (KeptCount w g)) h = refl
  hash_is n (Some (KeptTime u)) h = refl
  hash_is n (Some (KeptHash b l g)) h = refl

  -- a windowed count: the same records, and as many late
  record SameCount (n : ℕ) (c : Counted) (b : CountedBytes) : Type 0 where
    recs : map (tell rules p t stores a (Changelog n)) c.changes ≡ map (λ (r : Rec). (at_log rules p t stores a (Changelog n), r)) b.recs
    late : c.late ≡ b.late

  told_at : (n s : ℕ) → s ≡ time → (ms : List Message) → map (tell rules p t stores a (Changelog n)) ms ≡ map (λ (r : Rec). (at_log rules p t stores a (Changelog n), r)) (map rec_of (map (λ (m : Message). record { message = m; time = s }) ms))
  told_at n s e [] = refl
  told_at n s e (m ∷ ms) = ap₂ (λ (y : PartId × Rec) ys. y ∷ ys) (ap (λ u. (at_log rules p t stores a (Changelog n), rec_of (record { message = m; time = u }))) (sym e)) (told_at n s e ms)

  below_all : (u : ℕ) (ss : List ℕ) → u < 2 ^ 64 → AllUpTo u ss → AllBelow ss
  below_all u [] lt h = tt
  below_all u (s ∷ ss) lt h = (omega (arith, lt, h.0), below_all u ss lt h.1)

  greater_below : (old : Option ℕ) (u : ℕ) → IfThere (λ s. s < 2 ^ 64) old → u < 2 ^ 64 → greater old u < 2 ^ 64
  greater_below None u h lt = lt
  greater_below (Some s) u h lt = omega (arith, h, lt)

  module _ (n : ℕ) (w : Window) where
    abbrev m : ByteStore
    m = stores (number_of p (Changelog n))

    group_same : (g : Key) (s : ℕ) → IsKey g → s ≡ time → SameCount n (count_group w (time_in m) (counts_in m) s (Some g)) (counted w m g s)
    group_same g s key e =
        let lt : s < 2 ^ 64 = subst (λ u. u < 2 ^ 64) (sym e) in_time in
        let agree = counts_agree w m g s (keys_held (number_of p (Changelog n))) key (greater_below (time_in m) s (time_fits (stores (number_of p (Changelog n))) (held (number_of p (Changelog n)))) lt) (below_all s (windows w s) lt (starts_up w s)) in
        record {
          recs = told_at n s e (count_group w (time_in m) (counts_in m) s (Some g)).changes ∙ ap (map (λ (r : Rec). (at_log rules p t stores a (Changelog n), r))) (sym agree.recs);
          late = sym agree.late;
        }

    key_same : (s : ℕ) (k : Option Key) → IfThere IsKey k → s ≡ time → SameCount n (count_group w (time_in m) (counts_in m) s k) (counted_key w m s k)
    key_same s None h e = record { recs = refl; late = refl }
    key_same s (Some g) h e = group_same g s h e

    item_same : (o : Option StreamItem) → IfThere ItemFits o → IsTimed a o → SameCount n (count_item w (time_in m) (counts_in m) o) (counted_item w m o)
    item_same None h e = record { recs = refl; late = refl }
    item_same (Some x) h e = key_same x.time x.key h.key e

  its_items : ItemsFit rules p a arrives in_time items
  its_items = items_fit rules p a arrives in_time (λ n. None) (λ n. tt) 0 p.kinds names

  its_times : AllTimed a items
  its_times = items_timed a (λ n. None) (λ n. tt) 0 p.kinds

  -- of one that the task doesn't keep nothing comes
  stays : (n f : ℕ) (by : Option Name) (w : Window) (through : Bool) → NodeFits p n (Windowed f by w through) → (counted_at a items st n (Windowed f by w through) ≡ not_counted (st.times n) (st.counts n)) ⊎ (sub_of p n ≡ t.sub)
  stays n f by w true node = comes rules p fits a t.sub takes st (Repartition n) (λ m. count_item w (st.times n) (st.counts n) (item_keyed time m))
  stays n f by w false node = ⊎_elim
      (λ (e : items f ≡ None). inl (ap (λ o. count_item w (st.times n) (st.counts n) o) e))
      (λ (o : Owned rules p topic f). let b = node.1 refl in inr (sym b.sub ∙ sym o.sub ∙ takes))
      (items_owned rules p fits a t.sub takes st f)

  window_same : (n f : ℕ) (by : Option Name) (w : Window) (through : Bool) → NodeFits p n (Windowed f by w through) → kind_at p n ≡ Windowed f by w through →
      SameCount n (counted_at a items st n (Windowed f by w through)) (counts_by rules p t stores a items n (Windowed f by w through))
  window_same n f by w through node at = cases (is_own p t.sub (Changelog n)) refl
    where
      bytes : ByteStore
      bytes = stores (number_of p (Changelog n))

      windowed : is_windowed (kind_at p n) ≡ true
      windowed = ap is_windowed at

      cases : (b : Bool) → is_own p t.sub (Changelog n) ≡ b →
          SameCount n (counted_at a items st n (Windowed f by w through)) (cond b (counted_item w bytes (item_into a items n f through)) (nothing_counted bytes))
      cases true own =
          let times : st.times n ≡ time_in bytes =
          ap (λ c. cond c (fin.get (own_bytes p t.sub stores (Changelog n)) time_key >>= time_from) None) windowed
          ∙ ap (λ c. fin.get (cond c bytes no_bytes) time_key >>= time_from) own in
          let counts : st.counts n ≡ counts_in bytes =
          ap (λ c. cond c (map_from by_window window_key_from agg_from (pairs_of p t.sub stores (Changelog n))) fin.empty) windowed
          ∙ ap (λ c. map_from by_window window_key_from agg_from (cond c (fin.entries bytes) [])) own in
          subst (λ (c : Counted). SameCount n c (counted_item w bytes (item_into a items n f through)))
          (sym (ap₂ (λ (u : Option ℕ) (v : FinMap by_window Agg). count_item w u v (item_into a items n f through)) times counts))
          (item_same n w (item_into a items n f through) (into_fits rules p a arrives in_time items its_items n f through) (into_timed a items its_times n f through))
      cases false own = ⊎_elim
          (λ (e : counted_at a items st n (Windowed f by w through) ≡ not_counted (st.times n) (st.counts n)). subst (λ (c : Counted). SameCount n c (nothing_counted bytes)) (sym e) (record { recs = refl; late = refl }))
          (λ (e : sub_of p n ≡ t.sub). absurd (true≢false (sym ((Decides-eqb (sub_of p n) t.sub).1 e) ∙ own)))
          (stays n f by w through node)

  count_same : (n : ℕ) (k : Kind) → NodeFits p n k → kind_at p n ≡ k → SameCount n (counted_at a items st n k) (counts_by rules p t stores a items n k)
  count_same n (Windowed f by w through) h at = window_same n f by w through h at
  count_same n (StreamSource u) h at = record { recs = refl; late = refl }
  count_same n (TableSource u) h at = record { recs = refl; late = refl }
  count_same n (StreamFilter f x) h at = record { recs = refl; late = refl }
  count_same n (TableFilter f x) h at = record { recs = refl; late = refl }
  count_same n (StreamMap f s) h at = record { recs = refl; late = refl }
  count_same n (TableMap f s) h at = record { recs = refl; late = refl }
  count_same n (KeySelected f x) h at = record { recs = refl; late = refl }
  count_same n (StreamAggregate f by field through) h at = record { recs = refl; late = refl }
  count_same n (TableAggregate f by field) h at = record { recs = refl; late = refl }
  count_same n (KeyJoin l r kind s) h at = record { recs = refl; late = refl }
  count_same n (ForeignKeyJoin l r fk kind s) h at = record { recs = refl; late = refl }

  abbrev written : Written → PartId × Rec
  written w = (at_log rules p t stores a w.topic, rec_of (record { message = w.message; time = time }))

  node_recs : (olds news : Values) (n : ℕ) (k : Kind) → NodeFits p n k → kind_at p n ≡ k → map written (changes_at a items st olds news n k) ≡ recs_by rules p t stores a items olds news n k
  node_recs olds news n k h at =
      let vs = value_changes (step_key message) (olds n) (news n) in
      let cs = (counted_at a items st n k).changes in
      let hs = hash_changes st n (arrived a (Subscriptions n)) in
      map-append written (write_all (Changelog n) (vs ++ cs)) (write_all (HashChangelog n) hs)
      ∙ ap₂ (λ xs ys. xs ++ ys)
      (map-map written (λ m. record { topic = Changelog n; message = m }) (tell rules p t stores a (Changelog n)) (λ m. refl) (vs ++ cs) ∙ map-append (tell rules p t stores a (Changelog n)) vs cs)
      (map-map written (λ m. record { topic = HashChangelog n; message = m }) (tell rules p t stores a (HashChangelog n)) (λ m. refl) hs)
      ∙ ap₂ (λ (xs ys : List (PartId × Rec)). map (tell rules p t stores a (Changelog n)) vs ++ xs ++ ys) (count_same n k h at).recs
      (ap (map (tell rules p t stores a (HashChangelog n))) (hash_is n (arrived a (Subscriptions n)) (arrived_fits (Subscriptions n))))

  abbrev late_all : (ℕ → Option StreamItem) → ℕ → List Kind → ℕ
  late_all items n [] = 0
  late_all items n (k ∷ ks) = (counts_by rules p t stores a items n k).late + late_all items (suc n) ks

  nodes_late : (n : ℕ) (ks : List Kind) → EachFits p n ks → AtPlace p n ks → late_over (counted_at a items st) n ks ≡ late_all items n ks
  nodes_late n [] h at = refl
  nodes_late n (k ∷ ks) h at = ap₂ (λ u v. u + v) (count_same n k h.0 at.0).late (nodes_late (suc n) ks h.1 at.1)

  -- ---- all of it
  abbrev key : Option Key
  key = step_key message

  abbrev olds : Values
  olds = olds_by rules p t stores a key

  abbrev news : Values
  news = news_by rules p t stores a key

  abbrev by_list : ℕ → Option StreamItem
  by_list = items_by rules p t stores a

  sends_are : over_nodes (sends_at rules a items st (olds_at st key) (news_at rules p a items (olds_at st key) key)) 0 p.kinds ≡ over_nodes (sends_by rules p t stores a by_list olds news) 0 p.kinds
  sends_are =
      ap₂ (λ (o n : Values). over_nodes (sends_at rules a items st o n) 0 p.kinds) (olds_are key key_is) (news_are key key_is)
      ∙ over_same p (sends_at rules a items st olds news) (sends_by rules p t stores a items olds news) (λ n k h at. node_sends items olds news n k) 0 p.kinds fits (at_places p [] p.kinds refl 0 refl)
      ∙ ap (λ (i : ℕ → Option StreamItem). over_nodes (sends_by rules p t stores a i olds news) 0 p.kinds) items_are

  changes_are : map written (over_nodes (changes_at a items st (olds_at st key) (news_at rules p a items (olds_at st key) key)) 0 p.kinds) ≡ over_nodes (recs_by rules p t stores a by_list olds news) 0 p.kinds
  changes_are =
      ap₂ (λ (o n : Values). map written (over_nodes (changes_at a items st o n) 0 p.kinds)) (olds_are key key_is) (news_are key key_is)
      ∙ over_map written (changes_at a items st olds news) 0 p.kinds
      ∙ over_same p (λ n k. map written (changes_at a items st olds news n k)) (recs_by rules p t stores a items olds news) (node_recs olds news) 0 p.kinds fits (at_places p [] p.kinds refl 0 refl)
      ∙ ap (λ (i : ℕ → Option StreamItem). over_nodes (recs_by rules p t stores a i olds news) 0 p.kinds) items_are

  late_same : (n : ℕ) (ks : List Kind) → late_all by_list n ks ≡ late_from rules p t stores a n ks
  late_same n [] = refl
  late_same n (k ∷ ks) = ap (λ v. (counts_by rules p t stores a by_list n k).late + v) (late_same (suc n) ks)

  abbrev decoded : Outcome Place Store Item
  decoded = step rules p t st (record { topic = topic; part = part }) (record { message = message; time = time })

  abbrev spell : Place × Item → PartId × Rec
  spell e = (part_id p e.0, rec_of e.1)

  -- what is sent, of which a record for a partition that its topic hasn't is held back
  sent_inside : (ss : List Sent) → Through ss → spelled p (filter (is_sent p t) (map (sent_item rules p time) ss)) ≡ flat_map (send rules p t stores a) ss
  sent_inside [] h = refl
  sent_inside (s ∷ ss) h =
      let place = to_part rules p s.topic s.key s.to in
      ap (λ b. spelled p (cond (cond b (is_own p t.sub s.topic && (place == t.part)) (nat_lt place (parts_of_topic p s.topic))) (sent_item rules p time s ∷ filter (is_sent p t) (map (sent_item rules p time) ss)) (filter (is_sent p t) (map (sent_item rules p time) ss)))) h.0.0
      ∙ by (nat_lt place (parts_of_topic p s.topic)) (sent_inside ss h.1)
    where
      by : (b : Bool) → spelled p (filter (is_sent p t) (map (sent_item rules p time) ss)) ≡ flat_map (send rules p t stores a) ss →
          spelled p (cond b (sent_item rules p time s ∷ filter (is_sent p t) (map (sent_item rules p time) ss)) (filter (is_sent p t) (map (sent_item rules p time) ss)))
          ≡ cond b (send_to rules p t stores a s (to_part rules p s.topic s.key s.to) ∷ []) [] ++ flat_map (send rules p t stores a) ss
      by true e = ap (λ l. send_to rules p t stores a s (to_part rules p s.topic s.key s.to) ∷ l) e
      by false e = e

  made_is : spelled p (filter (is_sent p t) decoded.made) ≡ made_by rules p t stores a
  made_is =
      let sends = over_nodes (sends_at rules a items st (olds_at st key) (news_at rules p a items (olds_at st key) key)) 0 p.kinds in
      let changes = over_nodes (changes_at a items st (olds_at st key) (news_at rules p a items (olds_at st key) key)) 0 p.kinds in
      ap (spelled p) (filter-append (is_sent p t) (map (sent_item rules p time) sends) (map (written_item t.part time) changes))
      ∙ (map-append spell (filter (is_sent p t) (map (sent_item rules p time) sends)) (filter (is_sent p t) (map (written_item t.part time) changes))
      ∙ ap₂ (λ xs ys. xs ++ ys)
      (sent_inside sends (through_all rules a items st (olds_at st key) (news_at rules p a items (olds_at st key) key) 0 p.kinds) ∙ ap (flat_map (send rules p t stores a)) sends_are)
      (ap (spelled p) (writes_kept rules p t time changes (written_all rules p fits a t.sub takes st 0 p.kinds fits)) ∙ (map-map spell (written_item t.part time) written (λ w. refl) changes ∙ changes_are)))

  late_is : decoded.late ≡ late_from rules p t stores a 0 p.kinds
  late_is = nodes_late 0 p.kinds fits (at_places p [] p.kinds refl 0 refl) ∙ ap (λ (i : ℕ → Option StreamItem). late_all i 0 p.kinds) items_are ∙ late_same 0 p.kinds

  outcome_is : outcome_of p t stores decoded ≡ record { store = stores_after p t stores (made_by rules p t stores a); made = made_by rules p t stores a; late = late_from rules p t stores a 0 p.kinds }
  outcome_is = ap₂ (λ (ms : List (PartId × Rec)) (l : ℕ). record { store = stores_after p t stores ms; made = ms; late = l }) made_is late_is

-- a topic that tasks take is no changelog
taken_by : (p : Plan) (topic : Topic) (r : Rec) (message : Message) (sub : ℕ) → message_in p topic r ≡ Some message → nat_eq (reads p topic) sub ≡ true → taker p topic ≡ sub
taken_by p (Input n) r m sub e h = (Decides-eqb _ _).0 h
taken_by p (Repartition n) r m sub e h = (Decides-eqb _ _).0 h
taken_by p (Subscriptions n) r m sub e h = (Decides-eqb _ _).0 h
taken_by p (Responses n) r m sub e h = (Decides-eqb _ _).0 h
taken_by p (Changelog n) r m sub e h = absurd cc
taken_by p (HashChangelog n) r m sub e h = absurd cc

pub steps_are_made : StepsAreMade
steps_are_made rules d well names t stores q r topic message taken is held =
    let p = plan_of d in
    let fits = well_formed_fits d well in
    let takes = taken_by p topic r message t.sub taken.spelled taken.reader in
    let key_is : (k : Key) → step_key message ≡ Some k → key_from k ≡ Some k = λ k e. key_read p topic r message k taken.spelled e in
    let arrives = read_fits p topic r message is taken.spelled in
    let same = is_decoded rules p t stores q r topic message taken
    ∙ outcome_is rules p fits names t stores topic q.part message r.ts takes key_is arrives is.time held in
    record {
      made = ap (λ (o : Outcome PartId ByteStores Rec). o.made) same;
      store = ap (λ (o : Outcome PartId ByteStores Rec). o.store) same;
      late = ap (λ (o : Outcome PartId ByteStores Rec). o.late) same;
    }
