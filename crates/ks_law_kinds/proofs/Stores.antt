-- What the stores of a task hold, decoded.
use Rattle.std.proofs.Common.{◌≡◌, ℕ, ◌^◌, ◌<◌, Bool, true, false, cond, List, [], ◌∷◌, Option, Some, None, refl, sym, ap, subst, ◌∙◌, arith, ⊎_elim}
use Rattle.std.specs.Prelude.{◌&&◌, is_some, is_none, option_map}
use Rattle.std.specs.Cmp.Lexicographic.{nat_list_cmp_total}
use Rattle.std.specs.FinMap.{IsAntisymmetric, slice_cmp-IsAntisymmetric, nat_cmp-IsAntisymmetric}
use Rattle.std.specs.Str.{is_utf8, chars}
use Rattle.std.proofs.Math.Utf8.{encode}
use Rattle.std.proofs.lemmas.Str.{IsUtf8-from_is_utf8}
use Rattle.std.proofs.lemmas.Bool.{and_parts, or_cases, true≢false}
use Rattle.ks_record.specs.Texts.{IsKey, IsName, key_from}
use Rattle.ks_record.specs.Bytes.{IsBytes}
use Rattle.ks_row.specs.Spelling.{FitsRow}
use Rattle.ks_row.specs.Reading.{◌>>=◌, row_from}
use Rattle.ks_row.proofs.Fields.{some_is}
use Rattle.ks_row.proofs.Spelled.{row_codec}
use Rattle.ks_wire.specs.declared.values.Agg.{Agg}
use Rattle.ks_wire.specs.declared.values.Subscriber.{Subscriber}
use Rattle.ks_wire.specs.Spelling.{FitsAgg, FitsSubscriber, time_key}
use Rattle.ks_wire.specs.Reading.{agg_from, subscriber_from, time_from, subscription_key_from, window_key_from}
use Rattle.ks_wire.proofs.Wired.{agg_codec, subscriber_codec, time_codec, subscription_key_codec}
use Rattle.ks_expr.specs.Eval.{Row, same_bytes}
use Rattle.ks_plan.specs.Plan.{Plan, Kind, is_windowed}
use Rattle.ks_plan.specs.Plan.Kind.{StreamSource, TableSource, StreamFilter, TableFilter, StreamMap, TableMap, KeySelected, StreamAggregate, TableAggregate, Windowed, KeyJoin, ForeignKeyJoin}
use Rattle.ks_plan.specs.declared.node.Topic.{Topic}
use Rattle.ks_plan.specs.declared.node.Topic.TheVariants.{Changelog, HashChangelog}
use Rattle.ks_plan.specs.Layout.{topics_of, topic_at, number_of, kind_at}
use Rattle.ks_def_runs.specs.FinMap as fin
use Rattle.ks_def_runs.specs.FinMap.{FinMap}
use Rattle.ks_def_runs.specs.Bytes.{by_bytes, empty_store as no_bytes}
use Rattle.ks_query.specs.Streams.{Key}
use Rattle.ks_query.specs.Aggregates.{agg_row, count_name, sum_name}
use Rattle.ks_def_tasks.specs.Messages.{Stored, shown, Store}
use Rattle.ks_def_tasks.specs.Messages.Stored.{OfRow, OfAgg}
use Rattle.ks_def_tasks.specs.Bytes.{ByteStores, stored_bytes, stored_from, left_at, is_own, pairs_of, table_from, time_of, own_bytes, hashes_from, store_from, map_from}
use Rattle.ks_def_tasks.proofs.Numbers.{place-is}
use Rattle.ks_law_topology.specs.Spelled.{IfThere}
use Rattle.ks_law_kinds.specs.OfKind.{are_bytes, spells, is_stored, is_counted, is_kept, is_of_topic}
use Rattle.ks_law_kinds.specs.Fitting.{are_pairs_of, is_pair_of}
use Rattle.ks_law_kinds.proofs.Spells.{IsBytes-of, spells_row, spells_agg}
use Rattle.ks_law_topology.proofs.Every.{Every, Gives, every_read, every_get}

pub bytes_anti : IsAntisymmetric by_bytes
bytes_anti = slice_cmp-IsAntisymmetric nat_cmp-IsAntisymmetric

-- what spells something is bytes
pub bytes_in : {A : Type 0} (read : List ℕ → Option A) (bytes : List ℕ) → spells read bytes ≡ true → IsBytes bytes
bytes_in read bytes h = IsBytes-of bytes (and_parts (are_bytes bytes) (is_some (read bytes)) h).0

-- the value of a step that was turned into another
pub mapped : {A B : Type 0} (f : A → B) (r : Option A) (y : B) → option_map f r ≡ Some y → (x : A) × (r ≡ Some x) × (f x ≡ y)
mapped f (Some x) y e = (x, refl, some_is (f x) y e)
mapped f None y e = absurd cc

-- ---- the rows of aggregates
count_is_name : IsName count_name
unfolding is_utf8 chars encode
count_is_name = record { some = omega arith; most = omega arith; utf8 = IsUtf8-from_is_utf8 count_name refl }

sum_is_name : IsName sum_name
unfolding is_utf8 chars encode
sum_is_name = record { some = omega arith; most = omega arith; utf8 = IsUtf8-from_is_utf8 sum_name refl }

agg_row_fits : (count : Bool) (a : Agg) → FitsAgg a → FitsRow (agg_row count a)
agg_row_fits true a h = record { row = refl; members = (record { name = count_is_name; field = h.members }, tt) }
agg_row_fits false a h = record { row = refl; members = (record { name = sum_is_name; field = h.total }, tt) }

-- ---- stored values
-- its bytes are of the node's kind, and the row that is shown has a spelling
pub record StoredFits (k : Kind) (w : Stored) : Type 0 where
  pub bytes : is_stored k (stored_bytes w) ≡ true
  pub row : FitsRow (shown w)

-- a windowed count has no value of this sort
pub record ValueFits (k : Kind) (w : Option Stored) : Type 0 where
  pub there : IfThere (StoredFits k) w
  pub none : is_windowed k ≡ true → w ≡ None

pub a_row : (row : Row) → FitsRow row → (spells row_from (stored_bytes (OfRow row)) ≡ true) × FitsRow (shown (OfRow row))
a_row row h = (spells_row row h, h)

pub an_agg : (c : Bool) (a : Agg) → FitsAgg a → (spells agg_from (stored_bytes (OfAgg c a)) ≡ true) × FitsRow (shown (OfAgg c a))
an_agg c a h = (spells_agg a h, agg_row_fits c a h)

read_row : (bytes : List ℕ) (w : Stored) → spells row_from bytes ≡ true → option_map OfRow (row_from bytes) ≡ Some w → (spells row_from (stored_bytes w) ≡ true) × FitsRow (shown w)
read_row bytes w h e =
    let x = mapped OfRow (row_from bytes) w e in
    subst (λ v. (spells row_from (stored_bytes v) ≡ true) × FitsRow (shown v)) x.2 (a_row x.0 (row_codec.back bytes x.0 (bytes_in row_from bytes h) x.1).0)

read_agg : (c : Bool) (bytes : List ℕ) (w : Stored) → spells agg_from bytes ≡ true → option_map (OfAgg c) (agg_from bytes) ≡ Some w → (spells agg_from (stored_bytes w) ≡ true) × FitsRow (shown w)
read_agg c bytes w h e =
    let x = mapped (OfAgg c) (agg_from bytes) w e in
    subst (λ v. (spells agg_from (stored_bytes v) ≡ true) × FitsRow (shown v)) x.2 (an_agg c x.0 (agg_codec.back bytes x.0 (bytes_in agg_from bytes h) x.1).0)

pub fit : {k : Kind} {w : Stored} → (is_stored k (stored_bytes w) ≡ true) × FitsRow (shown w) → StoredFits k w
fit h = record { bytes = h.0; row = h.1 }

read_stored : (k : Kind) (bytes : List ℕ) (w : Stored) → is_stored k bytes ≡ true → stored_from k bytes ≡ Some w → StoredFits k w
read_stored (StreamSource t) bytes w h e = fit (read_row bytes w h e)
read_stored (TableSource t) bytes w h e = fit (read_row bytes w h e)
read_stored (StreamFilter f x) bytes w h e = fit (read_row bytes w h e)
read_stored (TableFilter f x) bytes w h e = fit (read_row bytes w h e)
read_stored (StreamMap f s) bytes w h e = fit (read_row bytes w h e)
read_stored (TableMap f s) bytes w h e = fit (read_row bytes w h e)
read_stored (KeySelected f k) bytes w h e = fit (read_row bytes w h e)
read_stored (StreamAggregate f by field through) bytes w h e = fit (read_agg (is_none field) bytes w h e)
read_stored (TableAggregate f by field) bytes w h e = fit (read_agg (is_none field) bytes w h e)
read_stored (Windowed f by x through) bytes w h e = fit (read_row bytes w h e)
read_stored (KeyJoin l r kind s) bytes w h e = fit (read_row bytes w h e)
read_stored (ForeignKeyJoin l r fk kind s) bytes w h e = fit (read_row bytes w h e)

-- ---- stores
pub record StoreFits (p : Plan) (st : Store) : Type 0 where
  pub tables : (n : ℕ) (k : Key) → ValueFits (kind_at p n) (fin.get (st.tables n) k)
  pub times : (n : ℕ) → IfThere (λ t. t < 2 ^ 64) (st.times n)
  pub hashes : (n : ℕ) (b : Key) → Every (λ k s. IsKey k × FitsSubscriber s) (fin.entries (st.hashes n b))

module _ (p : Plan) where
  abbrev AllPairs : Topic → List (List ℕ × List ℕ) → Type 0
  AllPairs t [] = Unit {0}
  AllPairs t (e ∷ es) = (is_of_topic p t (Some e.0) (Some e.1) ≡ true) × AllPairs t es

  all_pairs : (t : Topic) (o : Option Topic) → ((w : Topic) → o ≡ Some w → w ≡ t) → (es : List (List ℕ × List ℕ)) → are_pairs_of p o es ≡ true → AllPairs t es
  all_pairs t o same [] h = tt
  all_pairs t None same (e ∷ es) h = absurd (true≢false (sym (and_parts false (are_pairs_of p None es) h).0))
  all_pairs t (Some w) same (e ∷ es) h =
      let a = and_parts (is_pair_of p (Some w) e) (are_pairs_of p (Some w) es) h in
      (subst (λ u. is_of_topic p u (Some e.0) (Some e.1) ≡ true) (same w refl) a.0, all_pairs t (Some w) same es a.1)

  module _ (sub : ℕ) (stores : ByteStores) (held : (n : ℕ) → are_pairs_of p (topic_at p n) (fin.entries (stores n)) ≡ true) where
    own_pairs : (t : Topic) → AllPairs t (pairs_of p sub stores t)
    own_pairs t = by (is_own p sub t)
      where
        by : (b : Bool) → AllPairs t (cond b (fin.entries (stores (number_of p t))) [])
        by true = all_pairs t (topic_at p (number_of p t)) (λ w e. place-is (topics_of p) t w e) (fin.entries (stores (number_of p t))) (held (number_of p t))
        by false = tt

    -- tables
    plain_pair : (k : Kind) (key value : List ℕ) → is_windowed k ≡ false → is_kept k (Some key) (Some value) ≡ true → is_stored k value ≡ true
    plain_pair k key value plain h =
        (and_parts (spells key_from key) (is_stored k value) (sym (ap (λ b. cond b (is_counted (Some key) (Some value)) (spells key_from key && is_stored k value)) plain) ∙ h)).1

    table_pairs : (n : ℕ) → is_windowed (kind_at p n) ≡ false → (es : List (List ℕ × List ℕ)) → AllPairs (Changelog n) es →
        Gives (λ c. StoredFits (kind_at p n)) by_bytes nat_list_cmp_total bytes_anti key_from (stored_from (kind_at p n)) es
    table_pairs n plain [] h = tt
    table_pairs n plain (e ∷ es) h = (λ k w f g. read_stored (kind_at p n) e.1 w (plain_pair (kind_at p n) e.0 e.1 plain h.0) g, table_pairs n plain es h.1)

    table_fits : (n : ℕ) (k : Key) → ValueFits (kind_at p n) (fin.get (table_from p sub stores n) k)
    table_fits n k = by (is_windowed (kind_at p n)) refl
      where
        by : (b : Bool) → is_windowed (kind_at p n) ≡ b → ValueFits (kind_at p n) (fin.get (cond b fin.empty (map_from by_bytes key_from (stored_from (kind_at p n)) (pairs_of p sub stores (Changelog n)))) k)
        by true e = record { there = subst (IfThere (StoredFits (kind_at p n))) (sym (fin.get-empty by_bytes k)) tt; none = λ h. fin.get-empty by_bytes k }
        by false e = record {
          there = every_get (StoredFits (kind_at p n)) by_bytes _ k (every_read (λ c. StoredFits (kind_at p n)) by_bytes nat_list_cmp_total bytes_anti key_from (stored_from (kind_at p n))
              (pairs_of p sub stores (Changelog n)) (table_pairs n e (pairs_of p sub stores (Changelog n)) (own_pairs (Changelog n))));
          none = λ h. absurd (true≢false (sym h ∙ e));
        }

    -- greatest times
    counted_value : (key value : List ℕ) → is_counted (Some key) (Some value) ≡ true → are_bytes value ≡ true
    counted_value key value h = ⊎_elim
        (λ (g : (spells window_key_from key && spells agg_from value) ≡ true). (and_parts (are_bytes value) _ (and_parts (spells window_key_from key) (spells agg_from value) g).1).0)
        (λ (g : (same_bytes time_key key && spells time_from value) ≡ true). (and_parts (are_bytes value) _ (and_parts (same_bytes time_key key) (spells time_from value) g).1).0)
        (or_cases (spells window_key_from key && spells agg_from value) (same_bytes time_key key && spells time_from value) h)

    windowed_pairs : (n : ℕ) → is_windowed (kind_at p n) ≡ true → (es : List (List ℕ × List ℕ)) → AllPairs (Changelog n) es → Every (λ c v. are_bytes v ≡ true) es
    windowed_pairs n is [] h = tt
    windowed_pairs n is (e ∷ es) h = (
      counted_value e.0 e.1 (sym (ap (λ b. cond b (is_counted (Some e.0) (Some e.1)) (spells key_from e.0 && is_stored (kind_at p n) e.1)) is) ∙ h.0),
      windowed_pairs n is es h.1,
    )

    own_time : (n : ℕ) → is_windowed (kind_at p n) ≡ true → IfThere (λ v. are_bytes v ≡ true) (fin.get (own_bytes p sub stores (Changelog n)) time_key)
    own_time n is = by (is_own p sub (Changelog n)) (own_pairs (Changelog n))
      where
        by : (b : Bool) → AllPairs (Changelog n) (cond b (fin.entries (stores (number_of p (Changelog n)))) []) → IfThere (λ v. are_bytes v ≡ true) (fin.get (cond b (stores (number_of p (Changelog n))) no_bytes) time_key)
        by true h = every_get (λ v. are_bytes v ≡ true) by_bytes (stores (number_of p (Changelog n))) time_key (windowed_pairs n is (fin.entries (stores (number_of p (Changelog n)))) h)
        by false h = subst (IfThere (λ v. are_bytes v ≡ true)) (sym (fin.get-empty by_bytes time_key)) tt

    read_time : (o : Option (List ℕ)) → IfThere (λ v. are_bytes v ≡ true) o → IfThere (λ t. t < 2 ^ 64) (o >>= time_from)
    read_time None h = tt
    read_time (Some v) h = by (time_from v) refl
      where
        by : (o : Option ℕ) → time_from v ≡ o → IfThere (λ t. t < 2 ^ 64) o
        by None e = tt
        by (Some t) e = (time_codec.back v t (IsBytes-of v h) e).0

    time_fits : (n : ℕ) → IfThere (λ t. t < 2 ^ 64) (time_of p sub stores n)
    time_fits n = by (is_windowed (kind_at p n)) refl
      where
        by : (b : Bool) → is_windowed (kind_at p n) ≡ b → IfThere (λ t. t < 2 ^ 64) (cond b (fin.get (own_bytes p sub stores (Changelog n)) time_key >>= time_from) None)
        by true e = read_time (fin.get (own_bytes p sub stores (Changelog n)) time_key) (own_time n e)
        by false e = tt

    -- hashes
    read_subscriber : (b k v : List ℕ) (left : Key) (s : Subscriber) → is_of_topic p (HashChangelog 0) (Some k) (Some v) ≡ true → left_at b (subscription_key_from k) ≡ Some left → subscriber_from v ≡ Some s → IsKey left × FitsSubscriber s
    read_subscriber b k v left s is e f =
        let a = and_parts (spells subscription_key_from k) (spells subscriber_from v) is in
        (by (subscription_key_from k) refl e, (subscriber_codec.back v s (bytes_in subscriber_from v a.1) f).0)
      where
        by : (o : Option (Key × Key)) → subscription_key_from k ≡ o → left_at b o ≡ Some left → IsKey left
        by None g i = absurd cc
        by (Some x) g i = at (same_bytes b x.0) i
          where
            at : (c : Bool) → cond c (Some x.1) None ≡ Some left → IsKey left
            at true j = subst IsKey (some_is x.1 left j) (subscription_key_codec.back k x (bytes_in subscription_key_from k (and_parts (spells subscription_key_from k) (spells subscriber_from v) is).0) g).0.1
            at false j = absurd cc

    hash_pairs : (n : ℕ) (b : Key) (es : List (List ℕ × List ℕ)) → AllPairs (HashChangelog n) es →
        Gives (λ k s. IsKey k × FitsSubscriber s) by_bytes nat_list_cmp_total bytes_anti (λ k. left_at b (subscription_key_from k)) subscriber_from es
    hash_pairs n b [] h = tt
    hash_pairs n b (e ∷ es) h = (λ k x f g. read_subscriber b e.0 e.1 k x h.0 f g, hash_pairs n b es h.1)

    hashes_fit : (n : ℕ) (b : Key) → Every (λ k s. IsKey k × FitsSubscriber s) (fin.entries (hashes_from p sub stores n b))
    hashes_fit n b = every_read (λ k s. IsKey k × FitsSubscriber s) by_bytes nat_list_cmp_total bytes_anti (λ k. left_at b (subscription_key_from k)) subscriber_from
        (pairs_of p sub stores (HashChangelog n)) (hash_pairs n b (pairs_of p sub stores (HashChangelog n)) (own_pairs (HashChangelog n)))

    pub store_fits : StoreFits p (store_from p sub stores)
    store_fits = record { tables = table_fits; times = time_fits; hashes = hashes_fit }
