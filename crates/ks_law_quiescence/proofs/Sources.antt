-- Source tables: what they hold is the latest of what their tasks took.
use Rattle.std.proofs.Common.{◌≡◌, ℕ, Bool, true, false, cond, List, [], ◌∷◌, ◌++◌, Option, Some, None, fold, refl, sym, ap, ap₂, subst, ◌∙◌, append-nil}
use Rattle.std.proofs.lemmas.Bool.Decides.{Decides-eqb}
use Rattle.std.proofs.lemmas.List.Sums.{fold-append}
use Rattle.std.specs.Ordering.{eq_by_cmp}
use Rattle.std.specs.Cmp.Lexicographic.{nat_list_cmp_total}
use Rattle.std.specs.FinMap.{slice_cmp-IsAntisymmetric, nat_cmp-IsAntisymmetric}
use Rattle.ks_record.specs.declared.record.TaskId.{TaskId}
use Rattle.ks_record.specs.Parts.{same_task}
use Rattle.ks_expr.specs.Eval.{Row}
use Rattle.ks_plan.specs.declared.node.Topic.{Topic}
use Rattle.ks_plan.specs.declared.node.Topic.TheVariants.{Input as InputTopic}
use Rattle.ks_plan.specs.Plan.{Plan}
use Rattle.ks_plan.specs.Plan.Kind.{TableSource}
use Rattle.ks_plan.specs.Layout.{same_topic, sub_of, sub_count, source_of}
use Rattle.ks_def_runs.specs.FinMap as fin
use Rattle.ks_def_runs.specs.Table.{Change, write, latest}
use Rattle.ks_def_runs.specs.Bytes.{by_bytes}
use Rattle.ks_def_runs.proofs.Tables.{get-write, write_same}
use Rattle.ks_query.specs.Streams.{Key, StreamItem, some_of, with_some}
use Rattle.ks_def_runs.specs.Run.{Taken, RunState, take_first, initial, run}
use Rattle.ks_def_runs.proofs.Runs.{kept_by_run}
use Rattle.ks_def_tasks.specs.Messages.{Place, same_place, Stored, Message, Item, Store, Rules}
use Rattle.ks_def_tasks.specs.Messages.Message.{Given, Keyed, Moved, Asked, Answered, Kept, KeptCount, KeptTime, KeptHash}
use Rattle.ks_def_tasks.specs.Step.{Arrival, of_row, taken_row, arrived, whole_step, items_from, olds_at, news_at, tables_after}
use Rattle.ks_def_tasks.specs.Tasks.{arrival, machine, step}
use Rattle.ks_def_tasks.proofs.Names.{same_task-is, same_place-is}
use Rattle.ks_law_topology.specs.Taken.{taken_at, change_of, changes_in}
use Rattle.ks_law_topology.proofs.Fits.{Sourced}
use Rattle.ks_law_topology.proofs.Placed.{topic-is}
use Rattle.ks_law_quiescence.proofs.Follow.{value_is}
use Rattle.ks_law_topology.proofs.Mixed.{Stands_at}

pub taken-append : (q : Place) (xs ys : List (Taken TaskId Place Item)) → taken_at q (xs ++ ys) ≡ taken_at q xs ++ taken_at q ys
taken-append q [] ys = refl
taken-append q (x ∷ xs) ys = elim (same_place q x.place) as (λ b. cond b (x.item.message ∷ taken_at q (xs ++ ys)) (taken_at q (xs ++ ys)) ≡ cond b (x.item.message ∷ taken_at q xs) (taken_at q xs) ++ taken_at q ys) [
  | true ↦ ap (λ l. x.item.message ∷ l) (taken-append q xs ys)
  | false ↦ taken-append q xs ys
]

with-append : {B : Type 0} (y : Option B) (all xs ys : List B) → all ≡ xs ++ ys → with_some y all ≡ with_some y xs ++ ys
with-append None all xs ys e = e
with-append (Some y) all xs ys e = ap (λ l. y ∷ l) e

pub some-append : {A B : Type 0} (f : A → Option B) (xs ys : List A) → some_of f (xs ++ ys) ≡ some_of f xs ++ some_of f ys
some-append f [] ys = refl
some-append f (x ∷ xs) ys = with-append (f x) _ _ _ (some-append f xs ys)

-- what a change makes of the value at a key
abbrev changed_by : Option Stored → Key → Option (Change Key Row) → Option Stored
changed_by old q None = old
changed_by old q (Some c) = cond (eq_by_cmp by_bytes q c.0) (of_row c.1) old

-- a table with these changes holds them
abbrev pub IsLatest : (Key → Option Stored) → List Message → Type 0
IsLatest values ms = (q : Key) → values q ≡ of_row (fin.get (latest by_bytes (changes_in ms)) q)

one_change : (old : Option Stored) (m : fin.FinMap by_bytes Row) (q : Key) (c : Option (Change Key Row)) → old ≡ of_row (fin.get m q) → changed_by old q c ≡ of_row (fin.get (fold (λ m r. write by_bytes m r.0 r.1) m (with_some c [])) q)
one_change old m q None e = e
one_change old m q (Some (k, w)) e =
    elim (eq_by_cmp by_bytes q k) as (λ b. cond b (of_row w) old ≡ of_row (cond b w (fin.get m q))) [ true ↦ refl | false ↦ e ]
    ∙ ap of_row (sym (get-write nat_list_cmp_total m k w q))

latest_push : (values : Key → Option Stored) (ms : List Message) (m : Message) (q : Key) → values q ≡ of_row (fin.get (latest by_bytes (changes_in ms)) q) →
    changed_by (values q) q (change_of m) ≡ of_row (fin.get (latest by_bytes (changes_in (ms ++ m ∷ []))) q)
latest_push values ms m q e =
    one_change (values q) (latest by_bytes (changes_in ms)) q (change_of m) e
    ∙ ap (λ l. of_row (fin.get l q)) (sym (ap (fold (λ m r. write by_bytes m r.0 r.1) fin.empty) (some-append change_of ms (m ∷ [])) ∙ fold-append (λ m r. write by_bytes m r.0 r.1) fin.empty (changes_in ms) (with_some (change_of m) [])))

abbrev told : Option Message → Option (Change Key Row)
told None = None
told (Some m) = change_of m

module _ (rules : Rules) (p : Plan) (n t : ℕ) (stands : Stands_at n (TableSource t) 0 p.kinds) where
  module _ (st : Store) (at : Topic) (part time : ℕ) where
    abbrev comes : Message → Arrival
    comes m = arrival p (record { topic = at; part = part }) (record { message = m; time = time })

    abbrev items : Message → ℕ → Option StreamItem
    items m = items_from (comes m) (λ n. None) 0 p.kinds

    abbrev table : Message → Option Key → fin.FinMap by_bytes Stored
    table m key = tables_after st (news_at rules p (comes m) (items m) (olds_at st key) key) key n

    value : (m : Message) (k : Key) → news_at rules p (comes m) (items m) (olds_at st (Some k)) (Some k) n ≡ taken_row (fin.get (st.tables n) k) (arrived (comes m) (InputTopic t))
    value m k = (value_is rules (comes m) (items m) (olds_at st (Some k)) (olds_at st (Some k)) 0 p.kinds n (TableSource t) stands).1

    -- nothing changes where the value is as it was
    same : (m : Message) (k : Key) → taken_row (fin.get (st.tables n) k) (arrived (comes m) (InputTopic t)) ≡ fin.get (st.tables n) k → table m (Some k) ≡ st.tables n
    same m k e = write_same nat_list_cmp_total (slice_cmp-IsAntisymmetric nat_cmp-IsAntisymmetric) (st.tables n) k _ (sym (value m k ∙ e))

    -- a message that tells no change
    untold : (m : Message) (k : Key) (q : Key) → change_of m ≡ None → ((old : Option Stored) → taken_row old (Some m) ≡ old) →
        fin.get (table m (Some k)) q ≡ changed_by (fin.get (st.tables n) q) q (told (arrived (comes m) (InputTopic t)))
    untold m k q none keeps = elim (same_topic at (InputTopic t)) as (λ b. same_topic at (InputTopic t) ≡ b → fin.get (table m (Some k)) q ≡ changed_by (fin.get (st.tables n) q) q (told (cond b (Some m) None))) [
      | true ↦ λ b. ap (λ l. fin.get l q) (same m k (ap (λ c. taken_row (fin.get (st.tables n) k) (cond c (Some m) None)) b ∙ keeps _)) ∙ ap (changed_by (fin.get (st.tables n) q) q) (sym none)
      | false ↦ λ b. ap (λ l. fin.get l q) (same m k (ap (λ c. taken_row (fin.get (st.tables n) k) (cond c (Some m) None)) b))
    ] refl

    untold_none : (m : Message) (q : Key) → change_of m ≡ None → fin.get (st.tables n) q ≡ changed_by (fin.get (st.tables n) q) q (told (arrived (comes m) (InputTopic t)))
    untold_none m q none = elim (same_topic at (InputTopic t)) as (λ b. fin.get (st.tables n) q ≡ changed_by (fin.get (st.tables n) q) q (told (cond b (Some m) None))) [
      | true ↦ ap (changed_by (fin.get (st.tables n) q) q) (sym none)
      | false ↦ refl
    ]

    -- one step, at the source
    source_step : (m : Message) (q : Key) → fin.get ((whole_step rules p st (comes m)).store.tables n) q ≡ changed_by (fin.get (st.tables n) q) q (told (arrived (comes m) (InputTopic t)))
    source_step (Given None v) q = untold_none (Given None v) q refl
    source_step (Given (Some k) v) q =
        elim (same_topic at (InputTopic t)) as (λ b. same_topic at (InputTopic t) ≡ b → fin.get (table (Given (Some k) v) (Some k)) q ≡ changed_by (fin.get (st.tables n) q) q (told (cond b (Some (Given (Some k) v)) None))) [
          | true ↦ λ b. get-write nat_list_cmp_total (st.tables n) k _ q
              ∙ ap (λ w. cond (eq_by_cmp by_bytes q k) w (fin.get (st.tables n) q)) (value (Given (Some k) v) k ∙ ap (λ c. taken_row (fin.get (st.tables n) k) (cond c (Some (Given (Some k) v)) None)) b)
          | false ↦ λ b. ap (λ l. fin.get l q) (same (Given (Some k) v) k (ap (λ c. taken_row (fin.get (st.tables n) k) (cond c (Some (Given (Some k) v)) None)) b))
        ] refl
    source_step (Keyed g row) q = untold (Keyed g row) g q refl (λ old. refl)
    source_step (Moved g d) q = untold (Moved g d) g q refl (λ old. refl)
    source_step (Answered l r) q = untold (Answered l r) l q refl (λ old. refl)
    source_step (Asked b l s) q = untold_none (Asked b l s) q refl
    source_step (Kept g w) q = untold_none (Kept g w) q refl
    source_step (KeptCount g w) q = untold_none (KeptCount g w) q refl
    source_step (KeptTime m) q = untold_none (KeptTime m) q refl
    source_step (KeptHash b l s) q = untold_none (KeptHash b l s) q refl

  module _ (sourced : Sourced p t n) where
    abbrev at : ℕ → Place
    at i = record { topic = InputTopic t; part = i }

    abbrev keeper : ℕ → TaskId
    keeper i = record { sub = sub_of p n; part = i }

    read_by : (i : ℕ) → (machine rules p).reader (at i) ≡ keeper i
    read_by i = ap (λ s. record { sub = s; part = i }) (ap (λ b. cond b (sub_of p (source_of p t)) (sub_count p)) sourced.read ∙ sourced.sub)

    abbrev pub HoldsLatest : RunState TaskId Place Store Item → Type 0
    HoldsLatest st = (i : ℕ) → IsLatest (fin.get ((st.stores (keeper i)).tables n)) (taken_at (at i) st.taken)

    abbrev table_then : RunState TaskId Place Store Item → ℕ → Key → Place → Item → Bool → Option Stored
    table_then st i k q x b = fin.get ((cond b (step rules p ((machine rules p).reader q) (st.stores ((machine rules p).reader q)) q x).store (st.stores (keeper i))).tables n) k

    -- a record of the source's own partition
    here : (st : RunState TaskId Place Store Item) (i : ℕ) (k : Key) (q : Place) (x : Item) → same_place (at i) q ≡ true → HoldsLatest st →
        table_then st i k q x (same_task (keeper i) ((machine rules p).reader q)) ≡ of_row (fin.get (latest by_bytes (changes_in (taken_at (at i) st.taken ++ x.message ∷ []))) k)
    here st i k q x b h =
        let is : q ≡ at i = sym ((same_place-is (at i) q).0 b) in
        let reader : (machine rules p).reader q ≡ keeper i = ap (machine rules p).reader is ∙ read_by i in
        let task : same_task (keeper i) ((machine rules p).reader q) ≡ true = (same_task-is (keeper i) ((machine rules p).reader q)).1 (sym reader) in
        let topic : same_topic q.topic (InputTopic t) ≡ true = ap (λ (v : Place). same_topic v.topic (InputTopic t)) is ∙ (Decides-eqb t t).1 refl in
        let values = fin.get ((st.stores (keeper i)).tables n) in
        ap (table_then st i k q x) task ∙ ap (λ v. fin.get ((whole_step rules p (st.stores v) (arrival p q x)).store.tables n) k) reader
        ∙ source_step (st.stores (keeper i)) q.topic q.part x.time x.message k ∙ ap (λ c. changed_by (values k) k (told (cond c (Some x.message) None))) topic
        ∙ latest_push values (taken_at (at i) st.taken) x.message k (h i k)

    -- one of another
    apart : (st : RunState TaskId Place Store Item) (i : ℕ) (k : Key) (q : Place) (x : Item) → same_place (at i) q ≡ false → HoldsLatest st →
        table_then st i k q x (same_task (keeper i) ((machine rules p).reader q)) ≡ of_row (fin.get (latest by_bytes (changes_in (taken_at (at i) st.taken))) k)
    apart st i k q x b h =
        let u = (machine rules p).reader q in
        elim (same_task (keeper i) u) as (λ c. same_task (keeper i) u ≡ c → table_then st i k q x c ≡ of_row (fin.get (latest by_bytes (changes_in (taken_at (at i) st.taken))) k)) [
          | true ↦ λ c.
              let is : keeper i ≡ u = (same_task-is (keeper i) u).0 c in
              let part : i ≡ q.part = ap (λ (v : TaskId). v.part) is in
              let other : same_topic q.topic (InputTopic t) ≡ false = elim (same_topic q.topic (InputTopic t)) as (λ d. same_topic q.topic (InputTopic t) ≡ d → d ≡ false) [
                | true ↦ λ d.
                    let whole : at i ≡ q = ap₂ (λ (v : Topic) (j : ℕ). record { topic = v; part = j }) (sym (topic-is q.topic (InputTopic t) d)) part in
                    sym ((same_place-is (at i) q).1 whole) ∙ b
                | false ↦ λ d. refl
              ] refl in
              let values = fin.get ((st.stores u).tables n) in
              source_step (st.stores u) q.topic q.part x.time x.message k ∙ ap (λ d. changed_by (values k) k (told (cond d (Some x.message) None))) other
              ∙ ap (λ v. fin.get ((st.stores v).tables n) k) (sym is) ∙ h i k
          | false ↦ λ c. h i k
        ] refl

    latest_step : (st : RunState TaskId Place Store Item) (s : Option TaskId) (q : Place) (xs : List Item) → HoldsLatest st → HoldsLatest (take_first (machine rules p) st s q xs)
    latest_step st s q [] h = h
    latest_step st s q (x ∷ rest) h = λ i k.
        let u = (machine rules p).reader q in
        let now : Taken TaskId Place Item = record { sender = s; place = q; item = x } in
        let ms = taken_at (at i) st.taken in
        let values = fin.get ((st.stores (keeper i)).tables n) in
        let grown : taken_at (at i) (st.taken ++ now ∷ []) ≡ ms ++ cond (same_place (at i) q) (x.message ∷ []) [] = taken-append (at i) st.taken (now ∷ []) in
        subst (λ l. fin.get ((cond (same_task (keeper i) u) (step rules p u (st.stores u) q x).store (st.stores (keeper i))).tables n) k ≡ of_row (fin.get (latest by_bytes (changes_in l)) k)) (sym grown)
        (elim (same_place (at i) q) as (λ b. same_place (at i) q ≡ b →
        fin.get ((cond (same_task (keeper i) u) (step rules p u (st.stores u) q x).store (st.stores (keeper i))).tables n) k ≡ of_row (fin.get (latest by_bytes (changes_in (ms ++ cond b (x.message ∷ []) []))) k)) [
          | true ↦ λ b. here st i k q x b h
          | false ↦ λ b. apart st i k q x b h ∙ ap (λ l. of_row (fin.get (latest by_bytes (changes_in l)) k)) (sym (append-nil ms))
        ] refl)

    pub latest_run : (inputs : Place → List Item) (schedule : List (Option TaskId × Place)) → HoldsLatest (run (machine rules p) inputs schedule)
    latest_run inputs schedule = kept_by_run (machine rules p) HoldsLatest (λ st c h. latest_step st c.0 c.1 (st.waiting c.0 c.1) h) (initial (machine rules p) inputs)
        (λ i k. fin.get-empty by_bytes k ∙ ap of_row (sym (fin.get-empty by_bytes k))) schedule
