-- A table that is read from the bytes after a step is the table after the decoded step.
use Rattle.std.proofs.Common.{◌≡◌, ℕ, true, false, cond, nat_eq, List, [], ◌∷◌, ◌++◌, map, get_or, Option, Some, None, refl, sym, ap, subst, ◌∙◌, append-nil, zero, suc}
use Rattle.std.specs.Prelude.{slice_get}
use Rattle.std.proofs.lemmas.Bool.{and_from}
use Rattle.std.specs.List.{filter}
use Rattle.std.specs.Cmp.Lexicographic.{nat_list_cmp_total}
use Rattle.std.specs.FinMap.{slice_cmp-IsAntisymmetric, nat_cmp-IsAntisymmetric}
use Rattle.ks_record.specs.Records.{Record as Rec}
use Rattle.ks_record.specs.declared.record.PartId.{PartId}
use Rattle.ks_record.specs.declared.record.TaskId.{TaskId}
use Rattle.ks_record.specs.Texts.{key_from}
use Rattle.ks_plan.specs.Plan.{Plan, Kind, is_windowed}
use Rattle.ks_plan.specs.Plan.Kind.{StreamSource, TableSource, StreamFilter, TableFilter, StreamMap, TableMap, KeySelected, StreamAggregate, TableAggregate, Windowed, KeyJoin, ForeignKeyJoin}
use Rattle.ks_plan.specs.declared.node.Topic.{Topic}
use Rattle.ks_plan.specs.declared.node.Topic.TheVariants.{Changelog}
use Rattle.ks_plan.specs.Layout.{topic_at, topics_of, number_of, reads, kind_at, no_kind}
use Rattle.ks_def_runs.specs.FinMap as fin
use Rattle.ks_def_runs.specs.FinMap.{FinMap}
use Rattle.ks_def_runs.specs.Bytes.{by_bytes, Store as ByteStore}
use Rattle.ks_def_runs.specs.Table.{write}
use Rattle.ks_def_runs.proofs.Tables.{write_same, get-write_here}
use Rattle.ks_def_runs.specs.Run.{Outcome}
use Rattle.ks_query.specs.Streams.{Key, StreamItem}
use Rattle.ks_def_tasks.specs.Messages.{Place, Stored, Message, Item, Store, Rules, same_option, same_stored}
use Rattle.ks_def_tasks.specs.Messages.Message.{Kept}
use Rattle.ks_def_tasks.specs.Step.{Arrival, Values, counted_at, value_changes, step_key, items_from, olds_at, news_at, tables_after, sends_at, changes_at, over_nodes}
use Rattle.ks_def_tasks.specs.Tasks.{arrival, step, sent_item, written_item, is_changelog}
use Rattle.ks_def_tasks.specs.Bytes.{ByteStores, byte_step, step_at, step_read, outcome_of, nothing_made, is_own, is_own_number, is_sent, spelled, rec_of, records_at, message_in, store_from, table_from, pairs_of, map_from, stored_from, stored_bytes, keep_all}
use Rattle.ks_def_tasks.specs.Laws.{IsTakenBy, IsReadAgain}
use Rattle.ks_def_tasks.proofs.Numbers.{place-is, kept_at}
use Rattle.ks_def_tasks.proofs.Pairs.{write-pair}
use Rattle.ks_def_tasks.proofs.Picked.{items_at, items_at-append, records_here, none_sent, own_logged, timed}
use Rattle.ks_def_tasks.proofs.Keys.{key_read}
use Rattle.ks_def_tasks.proofs.Same.{stored-is, option-is}

pub kind-is : (ks : List Kind) (n : ℕ) (k : Kind) → slice_get ks n ≡ Some k → get_or ks n no_kind ≡ k
kind-is [] n k e = absurd (cc)
kind-is (x ∷ ks) zero k e = cc
kind-is (x ∷ ks) (suc n) k e = kind-is ks n k e

none_counted : (a : Arrival) (items : ℕ → Option StreamItem) (st : Store) (n : ℕ) (k : Kind) → is_windowed k ≡ false → (counted_at a items st n k).changes ≡ []
none_counted a items st n (StreamSource t) e = refl
none_counted a items st n (TableSource t) e = refl
none_counted a items st n (StreamFilter f x) e = refl
none_counted a items st n (TableFilter f x) e = refl
none_counted a items st n (StreamMap f s) e = refl
none_counted a items st n (TableMap f s) e = refl
none_counted a items st n (KeySelected f x) e = refl
none_counted a items st n (StreamAggregate f by field through) e = refl
none_counted a items st n (TableAggregate f by field) e = refl
none_counted a items st n (Windowed f by w through) e = absurd (cc)
none_counted a items st n (KeyJoin l r kind s) e = refl
none_counted a items st n (ForeignKeyJoin l r fk kind s) e = refl

-- ---- one changelog record of a table, or none
module _ (kind : Kind) (m : ByteStore) where
  abbrev table : ByteStore → FinMap by_bytes Stored
  table b = map_from by_bytes key_from (stored_from kind) (fin.entries b)

  abbrev kept : ℕ → Option Key → Option Stored → Option Stored → ByteStore
  kept time key old new = keep_all m (map rec_of (map (λ x. record { message = x; time = time }) (value_changes key old new)))

  kept_table : (time : ℕ) (k : Key) (new : Option Stored) → key_from k ≡ Some k → IsReadAgain kind new →
      table (kept time (Some k) (fin.get (table m) k) new) ≡ write by_bytes (table m) k new
  kept_table time k new valid again = elim (same_option same_stored (fin.get (table m) k) new) as (λ b. same_option same_stored (fin.get (table m) k) new ≡ b →
      table (keep_all m (map rec_of (map (λ x. record { message = x; time = time }) (cond b [] (Kept k new ∷ []))))) ≡ write by_bytes (table m) k new) [
        | true ↦ λ e. sym (write_same nat_list_cmp_total (slice_cmp-IsAntisymmetric nat_cmp-IsAntisymmetric) (table m) k new (option-is same_stored stored-is (fin.get (table m) k) new e))
        | false ↦ λ e. write-pair (stored_from kind) stored_bytes m k new valid again
      ] refl

module _ (rules : Rules) (p : Plan) (t : TaskId) (stores : ByteStores) (q : PartId) (r : Rec) (topic : Topic) (message : Message) (taken : IsTakenBy p t q r topic message) where
  abbrev pub st : Store
  st = store_from p t.sub stores

  abbrev pub a : Arrival
  a = arrival p (record { topic = topic; part = q.part }) (record { message = message; time = r.ts })

  abbrev pub decoded : Outcome Place Store Item
  decoded = step rules p t st (record { topic = topic; part = q.part }) (record { message = message; time = r.ts })

  pub is_decoded : byte_step rules p t stores q r ≡ outcome_of p t stores decoded
  is_decoded = ap (step_at rules p t stores q r) taken.topic_there
      ∙ ap (λ b. cond b (step_read rules p t stores q topic r.ts (message_in p topic r)) (nothing_made stores)) taken.reader
      ∙ ap (step_read rules p t stores q topic r.ts) taken.spelled

  abbrev pub items : ℕ → Option StreamItem
  items = items_from a (λ m. None) 0 p.kinds

  abbrev pub key : Option Key
  key = step_key message

  abbrev pub olds : Values
  olds = olds_at st key

  abbrev pub news : Values
  news = news_at rules p a items olds key

  -- of a changelog of the task's own: its number is its alone
  pub at_own : (l : Topic) → is_own_number p t.sub (number_of p l) ≡ true → is_changelog l ≡ true → (topic_at p (number_of p l) ≡ Some l) × (is_own p t.sub l ≡ true)
  at_own l owned log =
      let k = kept_at p t.sub (number_of p l) owned in
      let found : topic_at p (number_of p l) ≡ Some k.topic = ap (topic_at p) k.is ∙ k.holds.0.0 in
      let same : k.topic ≡ l = place-is (topics_of p) l k.topic found in
      (found ∙ ap Some same, and_from (is_changelog l) (nat_eq (reads p l) t.sub) log (subst (λ x. nat_eq (reads p x) t.sub ≡ true) same k.holds.1))

  abbrev pub changes : List (Place × Item)
  changes = map (written_item t.part r.ts) (over_nodes (changes_at a items st olds news) 0 p.kinds)

  -- its store becomes what the step writes for it
  pub store_is : (l : Topic) → is_own_number p t.sub (number_of p l) ≡ true → is_changelog l ≡ true →
      (byte_step rules p t stores q r).store (number_of p l) ≡ keep_all (stores (number_of p l)) (map rec_of (items_at l t.part changes))
  store_is l owned log =
      let sends = map (sent_item rules p r.ts) (over_nodes (sends_at rules a items st olds news) 0 p.kinds) in
      let at = at_own l owned log in
      ap (λ (o : Outcome PartId ByteStores Rec). o.store (number_of p l)) is_decoded
      ∙ ap (λ c. cond c (keep_all (stores (number_of p l)) (records_at (record { topic = number_of p l; part = t.part }) (spelled p (filter (is_sent p t) decoded.made)))) (stores (number_of p l))) owned
      ∙ ap (keep_all (stores (number_of p l))) (records_here p t l at.1 at.0 (sends ++ changes)
      ∙ ap (map rec_of) (items_at-append l t.part sends changes ∙ ap (λ x. x ++ items_at l t.part changes) (none_sent rules a items st olds news l t.part r.ts p p.kinds log)))

  module _ (n : ℕ) (kind : Kind) (node : slice_get p.kinds n ≡ Some kind) (plain : is_windowed kind ≡ false) (owned : is_own_number p t.sub (number_of p (Changelog n)) ≡ true) where
    abbrev number : ℕ
    number = number_of p (Changelog n)

    own_items : items_at (Changelog n) t.part changes ≡ map (λ x. record { message = x; time = r.ts }) (value_changes key (olds n) (news n))
    own_items = own_logged rules a items st olds news n t.part p.kinds kind node
        ∙ ap (λ l. map (timed rules a items st olds news r.ts) (value_changes key (olds n) (news n) ++ l)) (none_counted a items st n kind plain)
        ∙ ap (map (timed rules a items st olds news r.ts)) (append-nil (value_changes key (olds n) (news n)))

    pub kind_here : kind_at p n ≡ kind
    kind_here = kind-is p.kinds n kind node

    -- a table, once the node and its owner are known
    table_is : (b : ByteStores) → table_from p t.sub b n ≡ map_from by_bytes key_from (stored_from kind) (fin.entries (b number))
    table_is b = ap (λ k. cond (is_windowed k) fin.empty (map_from by_bytes key_from (stored_from k) (pairs_of p t.sub b (Changelog n)))) kind_here
        ∙ ap (λ c. cond c fin.empty (map_from by_bytes key_from (stored_from kind) (pairs_of p t.sub b (Changelog n)))) plain
        ∙ ap (λ c. map_from by_bytes key_from (stored_from kind) (cond c (fin.entries (b number)) [])) (at_own (Changelog n) owned refl).1

    -- by the step's key
    by_key : (k : Option Key) → key ≡ k → ((c : Key) → k ≡ Some c → (key_from c ≡ Some c) × IsReadAgain kind (news n)) →
        map_from by_bytes key_from (stored_from kind) (fin.entries (keep_all (stores number) (map rec_of (map (λ x. record { message = x; time = r.ts }) (value_changes k (olds_at st k n) (news n)))))) ≡ tables_after st news k n
    by_key None e fits = sym (table_is stores)
    by_key (Some c) e fits =
        let f = fits c refl in
        let here = table_is stores in
        ap (λ (old : Option Stored). map_from by_bytes key_from (stored_from kind) (fin.entries (keep_all (stores number) (map rec_of (map (λ x. record { message = x; time = r.ts }) (value_changes (Some c) old (news n)))))))
        (ap (λ (m : FinMap by_bytes Stored). fin.get m c) here)
        ∙ kept_table kind (stores number) r.ts c (news n) f.0 f.1
        ∙ ap (λ (m : FinMap by_bytes Stored). write by_bytes m c (news n)) (sym here)

    pub tables_agree : ((c : Key) → key ≡ Some c → (key_from c ≡ Some c) × IsReadAgain kind (news n)) → table_from p t.sub (byte_step rules p t stores q r).store n ≡ decoded.store.tables n
    tables_agree fits = table_is (byte_step rules p t stores q r).store
        ∙ ap (λ (b : ByteStore). map_from by_bytes key_from (stored_from kind) (fin.entries b)) (store_is (Changelog n) owned refl ∙ ap (λ xs. keep_all (stores number) (map rec_of xs)) own_items)
        ∙ by_key key refl fits

    after_key : (k : Option Key) → key ≡ k → (c : Key) → k ≡ Some c → fin.get (tables_after st news k n) c ≡ news n
    after_key None e c f = absurd (cc)
    after_key (Some d) e c f =
        let same : d ≡ c = cc in
        ap (λ x. fin.get (write by_bytes (st.tables n) x (news n)) c) same ∙ get-write_here nat_list_cmp_total (st.tables n) c (news n)

    pub agree : ((c : Key) → key ≡ Some c → IsReadAgain kind (fin.get (decoded.store.tables n) c)) → table_from p t.sub (byte_step rules p t stores q r).store n ≡ decoded.store.tables n
    agree again = tables_agree (λ c e. (key_read p topic r message c taken.spelled e, subst (IsReadAgain kind) (after_key key refl c e) (again c e)))
