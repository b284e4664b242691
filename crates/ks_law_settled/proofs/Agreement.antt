-- One step of a plan of any kinds: over bytes and decoded it leaves the same stores.
use Rattle.std.proofs.Common.{◌≡◌, ℕ, zero, suc, ◌+◌, ◌<◌, ◌≤◌, ◌^◌, Bool, true, false, cond, ◌&&◌, List, length, [], ◌∷◌, get_or, slice_get, Option, Some, None, refl, sym, ap, subst, ◌∙◌, arith, nat_eq, ⊎_elim, ◌⊎◌, inl, inr}
use Rattle.std.specs.Cmp.Lexicographic.{nat_list_cmp_total}
use Rattle.std.specs.FinMap.{slice_cmp-IsAntisymmetric, nat_cmp-IsAntisymmetric}
use Rattle.std.proofs.lemmas.Bool.{and_parts, and_from, or_cases, true≢false, cases_lt}
use Rattle.std.proofs.lemmas.Bool.Decides.{Decides-eqb}
use Rattle.ks_record.specs.Texts.{IsKey, key_from}
use Rattle.ks_record.specs.Bytes.{IsBytes}
use Rattle.ks_row.specs.Reading.{◌>>=◌}
use Rattle.ks_record.specs.Records.{Record as Rec}
use Rattle.ks_record.specs.declared.record.PartId.{PartId}
use Rattle.ks_record.specs.declared.record.TaskId.{TaskId}
use Rattle.ks_wire.specs.Spelling.{time_key}
use Rattle.ks_wire.specs.Reading.{agg_from, subscriber_from, time_from, window_key_from, subscription_key_from}
use Rattle.ks_wire.specs.declared.values.Agg.{Agg}
use Rattle.ks_expr.specs.Eval.{same_bytes}
use Rattle.ks_plan.specs.declared.node.Topic.{Topic}
use Rattle.ks_plan.specs.declared.node.Topic.TheVariants.{Repartition, Subscriptions, Changelog, HashChangelog}
use Rattle.ks_plan.specs.Plan.{Plan, Kind, Window, is_windowed, is_stream}
use Rattle.ks_plan.specs.Plan.Kind.{StreamSource, TableSource, StreamFilter, TableFilter, StreamMap, TableMap, KeySelected, StreamAggregate, TableAggregate, Windowed, KeyJoin, ForeignKeyJoin}
use Rattle.ks_plan.specs.Layout.{same_topic, sub_of, sub_count, kind_at, no_kind, number_of, topic_at, reads, changelogs_of}
use Rattle.ks_plan.specs.Infos.{changelog_numbers}
use Rattle.ks_def_runs.specs.FinMap as fin
use Rattle.ks_def_runs.specs.FinMap.{FinMap}
use Rattle.ks_def_runs.specs.Bytes.{by_bytes, empty_store as no_bytes}
use Rattle.ks_def_runs.proofs.Tables.{write_same}
use Rattle.ks_query.specs.Streams.{Key, StreamItem}
use Rattle.ks_query.specs.Query.{with_number}
use Rattle.ks_query.specs.Windows.{by_window, windows}
use Rattle.ks_history.specs.Machine.{has_topic}
use Rattle.ks_def_runs.specs.Run.{Outcome}
use Rattle.ks_def_tasks.specs.Messages.{Place, Stored, Message, Item, Store, Rules}
use Rattle.ks_def_tasks.specs.Messages.Message.{Given, Keyed, Moved, Asked, Answered, Kept, KeptCount, KeptTime, KeptHash}
use Rattle.ks_def_tasks.specs.Windowed.{Counted, not_counted, greater, count_item}
use Rattle.ks_def_tasks.specs.Step.{Arrival, Values, step_key, items_from, item_into, item_keyed, olds_at, value_at, values_from, tables_after, counted_at, subscribe_at}
use Rattle.ks_def_tasks.specs.Tasks.{arrival, step, taker}
use Rattle.ks_def_tasks.specs.Bytes.{ByteStores, byte_step, rec_of, part_id, store_from, table_from, counts_from, time_of, hashes_from, pairs_of, map_from, stored_from, own_bytes, is_own, is_own_number, left_at}
use Rattle.ks_def_tasks.specs.Laws.{IsTakenBy, IsReadAgain, AreBytes, FitsAsked, FitsCount, AllBelow}
use Rattle.ks_def_tasks.proofs.Each.{AllOf}
use Rattle.ks_def_tasks.proofs.Names.{topic-is}
use Rattle.ks_def_tasks.proofs.Agree.{agree}
use Rattle.ks_def_tasks.proofs.Hashes.{hashes_agree}
use Rattle.ks_def_tasks.proofs.Windowed.{counts_agree, times_agree}
use Rattle.ks_def_tasks.proofs.Same.{bytes-is}
use Rattle.ks_def_tasks.proofs.Told.{tells}
use Rattle.ks_law_topology.proofs.Placed.{Owned}
use Rattle.ks_law_topology.specs.Spelled.{IfThere}
use Rattle.ks_law_topology.proofs.Writes.{comes, owned as items_owned}
use Rattle.ks_law_kinds.specs.OfKind.{spells, is_counted, is_stored, is_of, is_of_kind, is_in_range}
use Rattle.ks_law_topology.specs.Work.{FitsRules}
use Rattle.ks_law_kinds.specs.Fitting.{is_pair_of, are_pairs_of}
use Rattle.ks_law_kinds.proofs.Stores.{bytes_in}
use Rattle.ks_law_kinds.proofs.Arriving.{MessageFits}
use Rattle.ks_law_kinds.proofs.Values.{ItemFits, into_fits}
use Rattle.ks_law_kinds.proofs.Made.{AllUpTo, starts_up}
use Rattle.ks_law_kinds.proofs.Kept.{held_after as bytes_held, test, tested}
use Rattle.ks_law_settled.specs.Jobs.{HasParts}
use Rattle.ks_law_settled.proofs.Lists.{at_node}
use Rattle.ks_law_settled.proofs.Topics.{IsTopic, number_is}
use Rattle.ks_law_settled.specs.Jobs.{NodesHaveParts}
use Rattle.ks_law_settled.proofs.Spelled.{Joins, FitsMessage, message_again, of_kind, FitsStored, stored_again}
use Rattle.ks_law_settled.proofs.WholeNodes.{Whole, NodeIs, own_log, IsOwned, owned, table_log, hash_log}
use Rattle.ks_law_settled.proofs.Agreeing.{IsNeat, StepAgrees, Agrees}
use Rattle.ks_law_settled.proofs.Steps.{FitsItem, IsKept, Held, node_at, stream_stays, keeps, news, news_fit, olds_fit, arrives, in_time, its_fit, st_fits, stored_after, made_fit, kept_join}
use Rattle.ks_wire.specs.declared.values.Subscriber.{Subscriber}

-- a number past these nodes keeps its value
beyond : (rules : Rules) (a : Arrival) (items : ℕ → Option StreamItem) (olds news : Values) (n : ℕ) (ks : List Kind) (c : ℕ) → n + length ks < suc c → values_from rules a items olds news n ks c ≡ news c
beyond rules a items olds news n [] c h = refl
beyond rules a items olds news n (k ∷ ks) c h =
    beyond rules a items olds (with_number news n (value_at rules a items olds news n k)) (suc n) ks c (omega (arith, h)) ∙ ap (λ b. cond b (value_at rules a items olds news n k) (news c)) (other (nat_eq c n) refl)
  where
    other : (b : Bool) → nat_eq c n ≡ b → b ≡ false
    other true e = let is : c ≡ n = (Decides-eqb c n).0 e in absurd (omega (arith, is, h))
    other false e = refl

past_end : (ks : List Kind) (n : ℕ) → length ks ≤ n → get_or ks n no_kind ≡ no_kind
past_end [] n le = refl
past_end (k ∷ ks) zero le = absurd (omega (arith, le))
past_end (k ∷ ks) (suc n) le = past_end ks n (omega (arith, le))

no_entries : fin.entries no_bytes ≡ []
unfolding fin.entries fin.empty
no_entries = refl

nothing_there : {A : Type 0} {y : A} → None ≡ Some y → ⊥
nothing_there e = cc

-- ---- kinds that count no windows
none_counted : (a : Arrival) (items : ℕ → Option StreamItem) (st : Store) (n : ℕ) (k : Kind) → is_windowed k ≡ false → counted_at a items st n k ≡ not_counted (st.times n) (st.counts n)
none_counted a items st n (StreamSource t) e = refl
none_counted a items st n (TableSource t) e = refl
none_counted a items st n (StreamFilter f x) e = refl
none_counted a items st n (TableFilter f x) e = refl
none_counted a items st n (StreamMap f s) e = refl
none_counted a items st n (TableMap f s) e = refl
none_counted a items st n (KeySelected f x) e = refl
none_counted a items st n (StreamAggregate f by field through) e = refl
none_counted a items st n (TableAggregate f by field) e = refl
none_counted a items st n (KeyJoin l r kind s) e = refl
none_counted a items st n (ForeignKeyJoin l r fk kind s) e = refl
none_counted a items st n (Windowed f by w through) e = absurd (true≢false e)

-- a windowed count by its kind
pub record IsWindowed (k : Kind) : Type 0 where
  pub f : ℕ
  pub by : Option (List ℕ)
  pub w : Window
  pub through : Bool
  pub is : k ≡ Windowed f by w through

pub windowed_is : (k : Kind) → is_windowed k ≡ true → IsWindowed k
windowed_is (Windowed f by w through) e = record { f = f; by = by; w = w; through = through; is = refl }
windowed_is _ e = absurd cc

pub no_stream : (k : Kind) → is_windowed k ≡ true → is_stream k ≡ false
no_stream (Windowed f by w through) e = refl
no_stream _ e = absurd cc

-- ---- starts of windows
below_all : (t : ℕ) (ss : List ℕ) → t < 2 ^ 64 → AllUpTo t ss → AllBelow ss
below_all t [] lt h = tt
below_all t (s ∷ ss) lt h = (omega (arith, lt, h.0), below_all t ss lt h.1)

greater_below : (old : Option ℕ) (t : ℕ) → IfThere (λ s. s < 2 ^ 64) old → t < 2 ^ 64 → greater old t < 2 ^ 64
greater_below None t h lt = lt
greater_below (Some s) t h lt = omega (arith, h, lt)

-- ---- keys of stores are bytes
time_is_bytes : IsBytes time_key
time_is_bytes zero = omega arith
time_is_bytes (suc i) = omega arith

module _ (rules : Rules) (p : Plan) where
  module _ (whole : Whole p) (has_parts : HasParts rules) (have : NodesHaveParts p) (good : FitsRules rules) where
    abbrev Nodes : ℕ → Kind → Type 0
    Nodes = NodeIs p whole

    -- ---- bytes of stores that have no record
    pairs_none : (sub : ℕ) (b : ByteStores) (l : Topic) → b (number_of p l) ≡ no_bytes → pairs_of p sub b l ≡ []
    pairs_none sub b l e = by (is_own p sub l)
      where
        by : (c : Bool) → cond c (fin.entries (b (number_of p l))) [] ≡ []
        by true = ap (λ (m : FinMap by_bytes (List ℕ)). fin.entries m) e ∙ no_entries
        by false = refl

    table_none : (sub : ℕ) (b : ByteStores) (n : ℕ) → b (number_of p (Changelog n)) ≡ no_bytes → table_from p sub b n ≡ fin.empty
    table_none sub b n e =
        ap (λ ps. cond (is_windowed (kind_at p n)) fin.empty (map_from by_bytes key_from (stored_from (kind_at p n)) ps)) (pairs_none sub b (Changelog n) e) ∙ by (is_windowed (kind_at p n))
      where
        by : (c : Bool) → cond {A = FinMap by_bytes Stored} c fin.empty fin.empty ≡ fin.empty
        by true = refl
        by false = refl

    counts_none : (sub : ℕ) (b : ByteStores) (n : ℕ) → b (number_of p (Changelog n)) ≡ no_bytes → counts_from p sub b n ≡ fin.empty
    counts_none sub b n e =
        ap (λ ps. cond (is_windowed (kind_at p n)) (map_from by_window window_key_from agg_from ps) fin.empty) (pairs_none sub b (Changelog n) e) ∙ by (is_windowed (kind_at p n))
      where
        by : (c : Bool) → cond {A = FinMap by_window Agg} c fin.empty fin.empty ≡ fin.empty
        by true = refl
        by false = refl

    time_none : (sub : ℕ) (b : ByteStores) (n : ℕ) → b (number_of p (Changelog n)) ≡ no_bytes → time_of p sub b n ≡ None
    time_none sub b n e = by (is_windowed (kind_at p n)) (is_own p sub (Changelog n))
      where
        none : fin.get no_bytes time_key ≡ None
        none = fin.get-empty by_bytes time_key

        by : (c o : Bool) → cond c (fin.get (cond o (b (number_of p (Changelog n))) no_bytes) time_key >>= time_from) None ≡ None
        by true true = ap (λ (m : FinMap by_bytes (List ℕ)). fin.get m time_key >>= time_from) e ∙ ap (λ o. o >>= time_from) none
        by true false = ap (λ o. o >>= time_from) none
        by false o = refl

    hashes_none : (sub : ℕ) (b : ByteStores) (n : ℕ) (k : Key) → b (number_of p (HashChangelog n)) ≡ no_bytes → hashes_from p sub b n k ≡ fin.empty
    hashes_none sub b n k e = ap (map_from by_bytes (λ c. left_at k (subscription_key_from c)) subscriber_from) (pairs_none sub b (HashChangelog n) e)

    -- ---- keys of stores are bytes
    counted_key : (k v : List ℕ) → is_counted (Some k) (Some v) ≡ true → IsBytes k
    counted_key k v h = ⊎_elim
        (λ (g : (spells window_key_from k && spells agg_from v) ≡ true). bytes_in window_key_from k (and_parts (spells window_key_from k) (spells agg_from v) g).0)
        (λ (g : (same_bytes time_key k && spells time_from v) ≡ true). subst IsBytes (bytes-is time_key k (and_parts (same_bytes time_key k) (spells time_from v) g).0) time_is_bytes)
        (or_cases (spells window_key_from k && spells agg_from v) (same_bytes time_key k && spells time_from v) h)

    window_keys : (n : ℕ) → is_windowed (kind_at p n) ≡ true → (es : List (List ℕ × List ℕ)) → are_pairs_of p (Some (Changelog n)) es ≡ true → AreBytes es
    window_keys n w [] h = tt
    window_keys n w (e ∷ es) h =
        let both = and_parts (is_pair_of p (Some (Changelog n)) e) (are_pairs_of p (Some (Changelog n)) es) h in
        (counted_key e.0 e.1 (sym (ap (λ b. cond b (is_counted (Some e.0) (Some e.1)) (spells key_from e.0 && is_stored_or e)) w) ∙ both.0), window_keys n w es both.1)
      where
        is_stored_or : List ℕ × List ℕ → Bool
        is_stored_or e = is_stored (kind_at p n) e.1

    hash_keys : (n : ℕ) (es : List (List ℕ × List ℕ)) → are_pairs_of p (Some (HashChangelog n)) es ≡ true → AreBytes es
    hash_keys n [] h = tt
    hash_keys n (e ∷ es) h =
        let both = and_parts (is_pair_of p (Some (HashChangelog n)) e) (are_pairs_of p (Some (HashChangelog n)) es) h in
        (bytes_in subscription_key_from e.0 (and_parts (spells subscription_key_from e.0) (spells subscriber_from e.1) both.0).0, hash_keys n es both.1)

    asked_fits : (m : Message) → MessageFits m → FitsAsked m
    asked_fits (Asked b k s) h = ((h.0, h.1), h.2, h.3)
    asked_fits (Given k v) h = tt
    asked_fits (Keyed g row) h = tt
    asked_fits (Moved g d) h = tt
    asked_fits (Answered k r) h = tt
    asked_fits (Kept k w) h = tt
    asked_fits (KeptCount w g) h = tt
    asked_fits (KeptTime u) h = tt
    asked_fits (KeptHash b l g) h = tt

    no_value : (k : Kind) → is_windowed k ≡ true → (o : Option Stored) → IfThere (FitsStored k) o → o ≡ None
    no_value (Windowed f by w through) e None h = refl
    no_value (Windowed f by w through) e (Some y) h = absurd h
    no_value _ e o h = cc

    join_within : (n : ℕ) → Joins (kind_at p n) → n < length p.kinds
    join_within n h = ⊎_elim (λ (lt : n < length p.kinds). lt) (λ (le : length p.kinds ≤ n). absurd (subst Joins (past_end p.kinds n le) h)) (cases_lt n (length p.kinds))

    pub windowed_within : (n : ℕ) → is_windowed (kind_at p n) ≡ true → n < length p.kinds
    windowed_within n h = ⊎_elim (λ (lt : n < length p.kinds). lt) (λ (le : length p.kinds ≤ n). absurd (true≢false (sym h ∙ ap is_windowed (past_end p.kinds n le)))) (cases_lt n (length p.kinds))

    owned_at : (n : ℕ) (k : Kind) → slice_get p.kinds n ≡ Some k → AllOf (IsOwned p whole) (changelogs_of n k)
    owned_at n k e = at_node (λ n k. AllOf (IsOwned p whole) (changelogs_of n k)) p.kinds (owned p whole) n k e

    -- a table's or a windowed count's changelog
    pub table_owned : (n : ℕ) → n < length p.kinds → is_stream (kind_at p n) ≡ false → IsOwned p whole (Changelog n)
    table_owned n lt table = let k = node_at rules p whole has_parts have good n lt in table_log p whole n k.0 (sym (ap is_stream k.1.kind) ∙ table) (owned_at n k.0 k.1.there)

    join_owned : (n : ℕ) → Joins (kind_at p n) → IsOwned p whole (HashChangelog n)
    join_owned n h = let k = node_at rules p whole has_parts have good n (join_within n h) in hash_log p whole n k.0 (subst Joins k.1.kind h) (owned_at n k.0 k.1.there)

    -- then its number is the subtopology's own
    own_number : (l : Topic) (sub : ℕ) → IsOwned p whole l → reads p l ≡ sub → is_own_number p sub (number_of p l) ≡ true
    own_number l sub o e = number_is (number_of p l) (changelog_numbers p sub) ∙ subst (λ s. has_topic (number_of p l) (changelog_numbers p s) ≡ true) e o.own

    module _ (t : TaskId) (stores : ByteStores) (q : Place) (x : Item) (topic : IsTopic p q.topic) (takes : taker p q.topic ≡ t.sub) (same : q.part ≡ t.part) (neat : IsNeat p t.sub stores) (held : Held rules p t stores) (fit : FitsItem rules p q x) where
      abbrev before : Store
      before = store_from p t.sub stores

      abbrev arr : Arrival
      arr = arrival p q x

      abbrev all_items : ℕ → Option StreamItem
      all_items = items_from arr (λ n. None) 0 p.kinds

      abbrev after : Outcome PartId ByteStores Rec
      after = byte_step rules p t stores (part_id p q) (rec_of x)

      abbrev decoded : Outcome Place Store Item
      decoded = step rules p t before q x

      abbrev step_news : Option Key → Values
      step_news k = news rules p whole has_parts have good t stores q x takes held fit k

      taken : IsTakenBy p t (part_id p q) (rec_of x) q.topic x.message
      taken = record {
        topic_there = topic.there;
        reader = (Decides-eqb (reads p q.topic) t.sub).1 (sym (ap (λ b. cond b (sub_count p) (reads p q.topic)) topic.log) ∙ takes);
        spelled = message_again p q.topic x.message x.time fit.1;
      }

      neat_after : IsNeat p t.sub after.store
      neat_after n e = (tells rules p t stores (part_id p q) (rec_of x) n).other e ∙ neat n e

      -- ---- tables
      stored_there : (n : ℕ) (kind : Kind) → kind_at p n ≡ kind → (o : Option Stored) → ((y : Stored) → o ≡ Some y → FitsStored (kind_at p n) y) → IsReadAgain kind o
      stored_there n kind is None h = tt
      stored_there n kind is (Some y) h = stored_again kind y (subst (λ v. FitsStored v y) is (h y refl))

      -- a table that the task doesn't keep stays
      stays : (k : Option Key) (n : ℕ) → is_own_number p t.sub (number_of p (Changelog n)) ≡ false → step_news k n ≡ olds_at before k n
      stays None n e = refl
      stays (Some k) n e = ⊎_elim within past (cases_lt n (length p.kinds))
        where
          past : length p.kinds ≤ n → step_news (Some k) n ≡ olds_at before (Some k) n
          past le = beyond rules arr all_items (olds_at before (Some k)) (olds_at before (Some k)) 0 p.kinds n (omega (arith, le))

          within : n < length p.kinds → step_news (Some k) n ≡ olds_at before (Some k) n
          within lt = by (is_stream (kind_at p n)) refl
            where
              moved : is_stream (kind_at p n) ≡ false → Owned rules p q.topic n → step_news (Some k) n ≡ olds_at before (Some k) n
              moved table o = absurd (true≢false (sym (own_number (Changelog n) t.sub (table_owned n lt table) (sym o.sub ∙ takes)) ∙ e))

              by : (b : Bool) → is_stream (kind_at p n) ≡ b → step_news (Some k) n ≡ olds_at before (Some k) n
              by true f = stream_stays rules p whole has_parts have good t stores q x takes held fit k n f
              by false f = ⊎_elim (λ (s : step_news (Some k) n ≡ olds_at before (Some k) n). s) (λ (o : Owned rules p q.topic n). moved f o) (keeps rules p whole has_parts have good t stores q x takes held fit (Some k) n)

      table_stays : (k : Option Key) (n : ℕ) → step_news k n ≡ olds_at before k n → tables_after before (step_news k) k n ≡ before.tables n
      table_stays None n e = refl
      table_stays (Some k) n e = write_same nat_list_cmp_total (slice_cmp-IsAntisymmetric nat_cmp-IsAntisymmetric) (before.tables n) k (step_news (Some k) n) (sym e)

      no_table : (n : ℕ) → is_windowed (kind_at p n) ≡ true → (b : ByteStores) → table_from p t.sub b n ≡ fin.empty
      no_table n w b = ap (λ c. cond c fin.empty (map_from by_bytes key_from (stored_from (kind_at p n)) (pairs_of p t.sub b (Changelog n)))) w

      -- of a windowed count nothing is stored so
      none_stored : (k : Option Key) (n : ℕ) → is_windowed (kind_at p n) ≡ true → tables_after before (step_news k) k n ≡ before.tables n
      none_stored k n w = table_stays k n (no_value (kind_at p n) w (step_news k n) (news_fit rules p whole has_parts have good t stores q x takes held fit k n) ∙ sym (no_value (kind_at p n) w (olds_at before k n) (olds_fit rules p whole has_parts have good t stores q x takes held fit k n)))

      tables_are : (n : ℕ) → decoded.store.tables n ≡ table_from p t.sub after.store n
      tables_are n = by (is_windowed (kind_at p n)) refl (is_own_number p t.sub (number_of p (Changelog n))) refl
        where
          by : (w : Bool) → is_windowed (kind_at p n) ≡ w → (b : Bool) → is_own_number p t.sub (number_of p (Changelog n)) ≡ b → decoded.store.tables n ≡ table_from p t.sub after.store n
          by true w b e = none_stored (step_key x.message) n w ∙ no_table n w stores ∙ sym (no_table n w after.store)
          by false w true e =
              let node = node_at rules p whole has_parts have good n (own_log p whole t.sub (Changelog n) e).0 in
              sym (agree rules p t stores (part_id p q) (rec_of x) q.topic x.message taken n node.0 node.1.there (sym (ap is_windowed node.1.kind) ∙ w) e
              (λ k f. stored_there n node.0 node.1.kind (fin.get (decoded.store.tables n) k) (λ y g. stored_after rules p whole has_parts have good t stores q x takes held fit (step_key x.message) n k y g)))
          by false w false e = table_stays (step_key x.message) n (stays (step_key x.message) n e) ∙ table_none t.sub stores n (neat _ e) ∙ sym (table_none t.sub after.store n (neat_after _ e))

      -- ---- windowed counts
      -- nothing comes to one that the task doesn't keep
      counted_stays : (n f : ℕ) (by : Option (List ℕ)) (w : Window) (through : Bool) → Nodes n (Windowed f by w through) →
          (counted_at arr all_items before n (Windowed f by w through) ≡ not_counted (before.times n) (before.counts n)) ⊎ (sub_of p n ≡ t.sub)
      counted_stays n f by w true node = comes rules p whole.fits arr t.sub takes before (Repartition n) (λ m. count_item w (before.times n) (before.counts n) (item_keyed x.time m))
      counted_stays n f by w false node = ⊎_elim
          (λ (e : all_items f ≡ None). inl (ap (λ o. count_item w (before.times n) (before.counts n) o) e))
          (λ (o : Owned rules p q.topic f). let b = node.fits.1 refl in inr (sym b.sub ∙ sym o.sub ∙ takes))
          (items_owned rules p whole.fits arr t.sub takes before f)

      -- what one takes is within its bounds
      fits_count : (n f : ℕ) (w : Window) (through : Bool) → (y : StreamItem) → item_into arr all_items n f through ≡ Some y → FitsCount w (before.times n) y
      fits_count n f w through y e =
          let fits : ItemFits y = subst (IfThere ItemFits) e (into_fits rules p arr (arrives rules p whole has_parts have good t stores q x takes held fit) (in_time rules p whole has_parts have good t stores q x takes held fit) all_items (its_fit rules p whole has_parts have good t stores q x takes held fit) n f through) in
          record {
            key = λ g k. subst (IfThere IsKey) k fits.key;
            time = greater_below (before.times n) y.time ((st_fits rules p whole has_parts have good t stores q x takes held fit).times n) fits.time;
            starts = below_all y.time (windows w y.time) fits.time (starts_up w y.time);
          }

      pub record CountsAre (n : ℕ) : Type 0 where
        pub counts : decoded.store.counts n ≡ counts_from p t.sub after.store n
        pub times : decoded.store.times n ≡ time_of p t.sub after.store n

      module _ (n : ℕ) (w : is_windowed (kind_at p n) ≡ true) where
        within : n < length p.kinds
        within = windowed_within n w

        k : IsWindowed (kind_at p n)
        k = windowed_is (kind_at p n) w

        node : Nodes n (Windowed k.f k.by k.w k.through)
        node = let m = node_at rules p whole has_parts have good n within in subst (Nodes n) (sym m.1.kind ∙ k.is) m.1

        log : IsOwned p whole (Changelog n)
        log = table_owned n within (no_stream (kind_at p n) w)

        bytes : AreBytes (fin.entries (stores (number_of p (Changelog n))))
        bytes = window_keys n w (fin.entries (stores (number_of p (Changelog n)))) (sym (ap (λ o. are_pairs_of p o (fin.entries (stores (number_of p (Changelog n))))) log.there) ∙ held.0 (number_of p (Changelog n)))

        here : is_own_number p t.sub (number_of p (Changelog n)) ≡ true → CountsAre n
        here e = record {
          counts = sym (counts_agree rules p t stores (part_id p q) (rec_of x) q.topic x.message taken n k.f k.by k.w k.through node.there e bytes (fits_count n k.f k.w k.through));
          times = sym (times_agree rules p t stores (part_id p q) (rec_of x) q.topic x.message taken n k.f k.by k.w k.through node.there e bytes (fits_count n k.f k.w k.through));
        }

        away : is_own_number p t.sub (number_of p (Changelog n)) ≡ false → CountsAre n
        away e =
            let same : counted_at arr all_items before n (kind_at p n) ≡ not_counted (before.times n) (before.counts n) =
            ap (counted_at arr all_items before n) k.is ∙ ⊎_elim
            (λ (s : counted_at arr all_items before n (Windowed k.f k.by k.w k.through) ≡ not_counted (before.times n) (before.counts n)). s)
            (λ (s : sub_of p n ≡ t.sub). absurd (true≢false (sym (own_number (Changelog n) t.sub log s) ∙ e)))
            (counted_stays n k.f k.by k.w k.through node) in
            record {
              counts = ap (λ (c : Counted). c.counts) same ∙ counts_none t.sub stores n (neat _ e) ∙ sym (counts_none t.sub after.store n (neat_after _ e));
              times = ap (λ (c : Counted). c.time) same ∙ time_none t.sub stores n (neat _ e) ∙ sym (time_none t.sub after.store n (neat_after _ e));
            }

      counts_are : (n : ℕ) → CountsAre n
      counts_are n = by (is_windowed (kind_at p n)) refl
        where
          plain : is_windowed (kind_at p n) ≡ false → CountsAre n
          plain w =
              let same = none_counted arr all_items before n (kind_at p n) w in
              let none : (b : ByteStores) → counts_from p t.sub b n ≡ fin.empty = λ b. ap (λ c. cond c (map_from by_window window_key_from agg_from (pairs_of p t.sub b (Changelog n))) fin.empty) w in
              let no_time : (b : ByteStores) → time_of p t.sub b n ≡ None = λ b. ap (λ c. cond c (fin.get (own_bytes p t.sub b (Changelog n)) time_key >>= time_from) None) w in
              record {
                counts = ap (λ (c : Counted). c.counts) same ∙ none stores ∙ sym (none after.store);
                times = ap (λ (c : Counted). c.time) same ∙ no_time stores ∙ sym (no_time after.store);
              }

          by : (w : Bool) → is_windowed (kind_at p n) ≡ w → CountsAre n
          by true w = own (is_own_number p t.sub (number_of p (Changelog n))) refl
            where
              own : (b : Bool) → is_own_number p t.sub (number_of p (Changelog n)) ≡ b → CountsAre n
              own true e = here n w e
              own false e = away n w e
          by false w = plain w

      -- ---- subscription stores
      hashes_are : (n : ℕ) (k : Key) → decoded.store.hashes n k ≡ hashes_from p t.sub after.store n k
      hashes_are n k = by (is_own_number p t.sub (number_of p (HashChangelog n))) refl
        where
          here : is_own_number p t.sub (number_of p (HashChangelog n)) ≡ true → decoded.store.hashes n k ≡ hashes_from p t.sub after.store n k
          here e =
              let log = own_log p whole t.sub (HashChangelog n) e in
              let node = node_at rules p whole has_parts have good n log.0 in
              let there = (join_owned n log.1).there in
              let bytes : AreBytes (fin.entries (stores (number_of p (HashChangelog n)))) = hash_keys n (fin.entries (stores (number_of p (HashChangelog n)))) (sym (ap (λ o. are_pairs_of p o (fin.entries (stores (number_of p (HashChangelog n))))) there) ∙ held.0 (number_of p (HashChangelog n))) in
              sym (hashes_agree rules p t stores (part_id p q) (rec_of x) q.topic x.message taken n node.0 node.1.there e bytes (asked_fits x.message (arrives rules p whole has_parts have good t stores q x takes held fit)) k)

          away : is_own_number p t.sub (number_of p (HashChangelog n)) ≡ false → decoded.store.hashes n k ≡ before.hashes n k
          away e = to (same_topic q.topic (Subscriptions n)) refl x.message refl
            where
              to : (b : Bool) → same_topic q.topic (Subscriptions n) ≡ b → (m : Message) → x.message ≡ m → subscribe_at (cond b (Some m) None) (before.hashes n) k ≡ before.hashes n k
              to false f m is = refl
              to true f (Asked c l s) is =
                  let at : q.topic ≡ Subscriptions n = topic-is q.topic (Subscriptions n) f in
                  let fits : FitsMessage p (Subscriptions n) (Asked c l s) = subst (λ v. FitsMessage p (Subscriptions n) v) is (subst (λ v. FitsMessage p v x.message) at fit.1) in
                  let sub : reads p (HashChangelog n) ≡ t.sub = ap (taker p) (sym at) ∙ takes in
                  absurd (true≢false (sym (own_number (HashChangelog n) t.sub (join_owned n fits.0) sub) ∙ e))
              to true f (Given c v) is = refl
              to true f (Keyed g row) is = refl
              to true f (Moved g d) is = refl
              to true f (Answered c r) is = refl
              to true f (Kept c w) is = refl
              to true f (KeptCount w g) is = refl
              to true f (KeptTime u) is = refl
              to true f (KeptHash b l g) is = refl

          by : (b : Bool) → is_own_number p t.sub (number_of p (HashChangelog n)) ≡ b → decoded.store.hashes n k ≡ hashes_from p t.sub after.store n k
          by true e = here e
          by false e = away e ∙ hashes_none t.sub stores n k (neat _ e) ∙ sym (hashes_none t.sub after.store n k (neat_after _ e))

      -- ---- what the bytes are afterwards
      of_its_kind : test p (part_id p q) (rec_of x) ≡ true
      of_its_kind = tested p (part_id p q) (rec_of x) (ap (λ o. is_of p o (rec_of x).key (rec_of x).value) topic.there ∙ of_kind p q.topic x.message fit.1) fit.2 (omega (arith, fit.0.part, whole.few q.topic))

      held_after : Held rules p t after.store
      held_after = (
        bytes_held p rules good whole.spelled whole.few t stores held.0 (part_id p q) (rec_of x) same of_its_kind,
        λ n k y e. stored_after rules p whole has_parts have good t stores q x takes held fit (step_key x.message) n k y (ap (λ (m : FinMap by_bytes Stored). fin.get m k) (tables_are n) ∙ e),
        λ n b k y e. kept_join rules p whole has_parts have good t stores q x takes held fit n b k y (ap (λ (m : FinMap by_bytes Subscriber). fin.get m k) (hashes_are n b) ∙ e),
      )

      step_agrees : StepAgrees rules p (FitsItem rules p) (IsKept rules p) (Held rules p) t stores q x
      step_agrees = record {
        read = message_again p q.topic x.message x.time fit.1;
        store = λ i. record { tables = λ n. tables_are n i; counts = λ n. (counts_are n).counts i; times = λ n. (counts_are n).times i; hashes = λ n k. hashes_are n k i };
        held = held_after;
        fit = made_fit rules p whole has_parts have good t stores q x takes held fit;
      }

    -- the runs of a plan agree
    pub all_agree : Agrees rules p (FitsItem rules p) (IsKept rules p) (Held rules p)
    all_agree = record {
      start = λ t. (
        λ n. ap (are_pairs_of p (topic_at p n)) no_entries,
        λ n k y e. absurd (nothing_there (sym (ap (λ (m : FinMap by_bytes Stored). fin.get m k) (table_none t.sub (λ m. no_bytes) n refl) ∙ fin.get-empty by_bytes k) ∙ e)),
        λ n b k y e. absurd (nothing_there (sym (ap (λ (m : FinMap by_bytes Subscriber). fin.get m k) (hashes_none t.sub (λ m. no_bytes) n b refl) ∙ fin.get-empty by_bytes k) ∙ e)),
      );
      begin = λ sub i. record {
        tables = λ n. sym (table_none sub (λ m. no_bytes) n refl) i;
        counts = λ n. sym (counts_none sub (λ m. no_bytes) n refl) i;
        times = λ n. sym (time_none sub (λ m. no_bytes) n refl) i;
        hashes = λ n k. sym (hashes_none sub (λ m. no_bytes) n k refl) i;
      };
      each = λ t stores q x topic takes same neat held fit. step_agrees t stores q x topic takes same neat held fit;
    }
