-- A windowed count that is read from the bytes after a step is the one after the decoded step.
use Rattle.std.proofs.Common.{◌≡◌, ℕ, ◌+◌, ◌<◌, Bool, true, false, cond, nat_eq, List, [], ◌∷◌, ◌++◌, map, Option, Some, None, refl, sym, ap, ap₂, subst, ◌∙◌, arith, zero, suc}
use Rattle.std.specs.Prelude.{slice_get}
use Rattle.std.proofs.lemmas.Bool.Decides.{Decides-eqb}
use Rattle.ks_record.specs.Records.{Record as Rec}
use Rattle.ks_record.specs.declared.record.PartId.{PartId}
use Rattle.ks_record.specs.declared.record.TaskId.{TaskId}
use Rattle.ks_row.specs.Reading.{◌>>=◌}
use Rattle.ks_wire.specs.declared.values.Agg.{Agg}
use Rattle.ks_wire.specs.Spelling.{time_key}
use Rattle.ks_wire.specs.Reading.{window_key_from, agg_from, time_from}
use Rattle.ks_def_runs.specs.FinMap as fin
use Rattle.ks_def_runs.specs.FinMap.{FinMap}
use Rattle.ks_def_runs.specs.Bytes.{by_bytes, Store as ByteStore, empty_store as no_bytes}
use Rattle.ks_plan.specs.Drafts.{Name}
use Rattle.ks_plan.specs.Plan.{Plan, Kind, Window, is_windowed}
use Rattle.ks_plan.specs.Plan.Kind.{Windowed}
use Rattle.ks_plan.specs.declared.node.Topic.{Topic}
use Rattle.ks_plan.specs.declared.node.Topic.TheVariants.{Changelog}
use Rattle.ks_plan.specs.Layout.{number_of, kind_at, topic_at}
use Rattle.ks_query.specs.Streams.{Key, StreamItem}
use Rattle.ks_query.specs.Query.{with_number}
use Rattle.ks_query.specs.Windows.{by_window, windows}
use Rattle.ks_def_tasks.specs.Messages.{Message, Store, Rules}
use Rattle.ks_def_tasks.specs.Windowed.{Counted, greater, count_item, count_group}
use Rattle.ks_def_tasks.specs.Step.{Arrival, Values, item_into, value_at, values_from, value_changes, counted_at, olds_at, news_at}
use Rattle.ks_def_tasks.specs.Bytes.{ByteStores, byte_step, is_own, is_own_number, rec_of, keep_all, map_from, counts_from, time_of, pairs_of, own_bytes, stored_from}
use Rattle.ks_record.specs.Texts.{key_from}
use Rattle.ks_def_tasks.specs.Laws.{IsTakenBy, AreBytes, FitsCount}
use Rattle.ks_def_tasks.proofs.Picked.{own_logged}
use Rattle.ks_def_tasks.proofs.Agree.{st, a, decoded, items, key, olds, news, at_own, store_is, kind-is}
use Rattle.ks_def_tasks.proofs.Counts.{counts_in, time_in, all_windows, first_reads}

-- ---- a windowed count has no table
keeps : (rules : Rules) (x : Arrival) (is : ℕ → Option StreamItem) (olds news : Values) (m : ℕ) (ks : List Kind) (n : ℕ) → n < m → values_from rules x is olds news m ks n ≡ news n
keeps rules x is olds news m [] n h = refl
keeps rules x is olds news m (k ∷ ks) n h =
    let more : n < suc m = omega arith in
    keeps rules x is olds (with_number news m (value_at rules x is olds news m k)) (suc m) ks n more
    ∙ ap (λ b. cond b (value_at rules x is olds news m k) (news n)) (apart n m h)
  where
    apart : (i j : ℕ) → i < j → nat_eq i j ≡ false
    apart i j l = elim (nat_eq i j) as (λ b. nat_eq i j ≡ b → b ≡ false) [ true ↦ λ e. let same : i ≡ j = (Decides-eqb i j).0 e in absurd (omega arith) | false ↦ λ e. refl ] refl

stays : (rules : Rules) (x : Arrival) (is : ℕ → Option StreamItem) (olds news : Values) (m i : ℕ) (ks : List Kind) (f : ℕ) (by : Option Name) (w : Window) (through : Bool) →
    slice_get ks i ≡ Some (Windowed f by w through) → values_from rules x is olds news m ks (m + i) ≡ olds (m + i)
stays rules x is olds news m i [] f by w through e = absurd (cc)
stays rules x is olds news m zero (k ∷ ks) f by w through e =
    let same : k ≡ Windowed f by w through = some_is k (Windowed f by w through) e in
    let at : m + 0 ≡ m = omega arith in
    let less : m < suc m = omega arith in
    rw at (keeps rules x is olds (with_number news m (value_at rules x is olds news m k)) (suc m) ks m less
    ∙ ap (λ b. cond b (value_at rules x is olds news m k) (news m)) ((Decides-eqb m m).1 refl) ∙ ap (value_at rules x is olds news m) same)
  where
    some_is : (c d : Kind) → Some c ≡ Some d → c ≡ d
    some_is c d g = cc
stays rules x is olds news m (suc i) (k ∷ ks) f by w through e =
    let rest = stays rules x is olds (with_number news m (value_at rules x is olds news m k)) (suc m) i ks f by w through e in
    let at : suc m + i ≡ m + suc i = omega arith in
    subst (λ j. values_from rules x is olds (with_number news m (value_at rules x is olds news m k)) (suc m) ks j ≡ olds j) at rest

-- ---- what is read after one item
abbrev keptm : ℕ → ByteStore → List Message → ByteStore
keptm ts m ms = keep_all m (map rec_of (map (λ x. record { message = x; time = ts }) ms))

pub record AreRead (ts : ℕ) (m : ByteStore) (c : Counted) : Type 0 where
  pub counts : counts_in (keptm ts m c.changes) ≡ c.counts
  pub time : time_in (keptm ts m c.changes) ≡ c.time

item_read : (ts : ℕ) (w : Window) (m : ByteStore) → AreBytes (fin.entries m) → (old : Option ℕ) → time_in m ≡ old → (x : Option StreamItem) → ((y : StreamItem) → x ≡ Some y → FitsCount w old y) →
    AreRead ts m (count_item w old (counts_in m) x)
item_read ts w m bytes old e None fits = record { counts = refl; time = e }
item_read ts w m bytes old e (Some y) fits = by_key y.key refl
  where
    by_key : (k : Option Key) → y.key ≡ k → AreRead ts m (count_group w old (counts_in m) y.time k)
    by_key None f = record { counts = refl; time = e }
    by_key (Some g) f =
        let fit = fits y refl in
        let valid = fit.key g f in
        let now = greater old y.time in
        let start = first_reads ts w g valid m bytes now fit.time old e in
        let done = all_windows ts w g valid m now (windows w y.time) fit.starts _ start in
        record { counts = done.counts; time = done.time }

module _ (rules : Rules) (p : Plan) (t : TaskId) (stores : ByteStores) (q : PartId) (r : Rec) (topic : Topic) (message : Message) (taken : IsTakenBy p t q r topic message)
    (n f : ℕ) (by : Option Name) (w : Window) (through : Bool) (node : slice_get p.kinds n ≡ Some (Windowed f by w through)) (owned : is_own_number p t.sub (number_of p (Changelog n)) ≡ true) where
  abbrev number : ℕ
  number = number_of p (Changelog n)

  abbrev before : Store
  before = st rules p t stores q r topic message taken

  abbrev arrival : Arrival
  arrival = a rules p t stores q r topic message taken

  abbrev streamed : ℕ → Option StreamItem
  streamed = items rules p t stores q r topic message taken

  abbrev item : Option StreamItem
  item = item_into arrival streamed n f through

  kind_here : kind_at p n ≡ Windowed f by w through
  kind_here = kind-is p.kinds n (Windowed f by w through) node

  own : (topic_at p number ≡ Some (Changelog n)) × (is_own p t.sub (Changelog n) ≡ true)
  own = at_own rules p t stores q r topic message taken (Changelog n) owned refl

  counts_are : (b : ByteStores) → counts_from p t.sub b n ≡ counts_in (b number)
  counts_are b = ap (λ k. cond (is_windowed k) (map_from by_window window_key_from agg_from (pairs_of p t.sub b (Changelog n))) fin.empty) kind_here
      ∙ ap (λ c. map_from by_window window_key_from agg_from (cond c (fin.entries (b number)) [])) own.1

  time_is : (b : ByteStores) → time_of p t.sub b n ≡ time_in (b number)
  time_is b = ap (λ k. cond (is_windowed k) (fin.get (own_bytes p t.sub b (Changelog n)) time_key >>= time_from) None) kind_here
      ∙ ap (λ c. fin.get (cond c (b number) no_bytes) time_key >>= time_from) own.1

  no_table : (k : Key) → fin.get (before.tables n) k ≡ None
  no_table k = ap (λ (kind : Kind). fin.get (cond (is_windowed kind) fin.empty (map_from by_bytes key_from (stored_from kind) (pairs_of p t.sub stores (Changelog n)))) k) kind_here ∙ fin.get-empty by_bytes k

  none_new : (k : Option Key) → value_changes k (olds_at before k n) (news_at rules p arrival streamed (olds_at before k) k n) ≡ []
  none_new None = refl
  none_new (Some k) =
      let same : 0 + n ≡ n = omega arith in
      let stay = subst (λ j. values_from rules arrival streamed (olds_at before (Some k)) (olds_at before (Some k)) 0 p.kinds j ≡ olds_at before (Some k) j) same
      (stays rules arrival streamed (olds_at before (Some k)) (olds_at before (Some k)) 0 n p.kinds f by w through node) in
      ap₂ (λ x y. value_changes (Some k) x y) (no_table k) (stay ∙ no_table k)

  abbrev counted : Counted
  counted = count_item w (before.times n) (before.counts n) item

  after_store : (byte_step rules p t stores q r).store number ≡ keptm r.ts (stores number) counted.changes
  after_store = store_is rules p t stores q r topic message taken (Changelog n) owned refl
      ∙ ap (λ xs. keep_all (stores number) (map rec_of xs)) (own_logged rules arrival streamed before (olds rules p t stores q r topic message taken) (news rules p t stores q r topic message taken) n t.part p.kinds (Windowed f by w through) node)
      ∙ ap (λ xs. keptm r.ts (stores number) (xs ++ counted.changes)) (none_new (key rules p t stores q r topic message taken))

  module _ (bytes : AreBytes (fin.entries (stores number))) (fits : (x : StreamItem) → item ≡ Some x → FitsCount w (before.times n) x) where
    reads_all : AreRead r.ts (stores number) counted
    reads_all = subst (λ (c : FinMap by_window Agg). AreRead r.ts (stores number) (count_item w (before.times n) c item)) (sym (counts_are stores))
        (item_read r.ts w (stores number) bytes (before.times n) (sym (time_is stores)) item fits)

    pub counts_agree : counts_from p t.sub (byte_step rules p t stores q r).store n ≡ (decoded rules p t stores q r topic message taken).store.counts n
    counts_agree = counts_are (byte_step rules p t stores q r).store ∙ ap counts_in after_store ∙ reads_all.counts
        ∙ sym (ap (λ k. (counted_at arrival streamed before n k).counts) kind_here)

    pub times_agree : time_of p t.sub (byte_step rules p t stores q r).store n ≡ (decoded rules p t stores q r topic message taken).store.times n
    times_agree = time_is (byte_step rules p t stores q r).store ∙ ap time_in after_store ∙ reads_all.time
        ∙ sym (ap (λ k. (counted_at arrival streamed before n k).time) kind_here)
