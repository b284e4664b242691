-- A left row that changes is written into the past of its changelog.
use Rattle.std.proofs.Common.{◌≡◌, ℕ, suc, ◌+◌, ◌<◌, ◌≤◌, true, false, cond, ◌&&◌, List, length, [], ◌∷◌, ◌++◌, map, Option, Some, None, refl, sym, ap, ap₂, subst, ◌∙◌, arith, nat_eq, inl, inr, ⊎_elim}
use Rattle.std.specs.Prelude.{option_map}
use Rattle.std.proofs.lemmas.Bool.{cases_lt}
use Rattle.std.proofs.lemmas.Bool.Decides.{Decides-eqb}
use Rattle.ks_record.specs.declared.record.TaskId.{TaskId}
use Rattle.ks_expr.specs.Eval.{Row, same_bytes}
use Rattle.ks_plan.specs.declared.node.Topic.TheVariants.{Changelog, HashChangelog, Subscriptions}
use Rattle.ks_plan.specs.Plan.{Plan, Kind}
use Rattle.ks_query.specs.Streams.{Key, StreamItem}
use Rattle.ks_def_runs.specs.Run.{sent_to}
use Rattle.ks_def_runs.proofs.Runs.{sent_to-append}
use Rattle.ks_def_tasks.specs.Messages.{Place, Stored, shown, Message, Item, Store, Rules, same_option, same_stored}
use Rattle.ks_def_tasks.specs.Messages.Message.{Given, Keyed, Moved, Asked, Answered, Kept, KeptCount, KeptTime, KeptHash}
use Rattle.ks_def_tasks.specs.Collision.{had_in, rows_had, In}
use Rattle.ks_def_tasks.specs.Step.{Arrival, Values, row_in, changed, arrived, step_key, changes_at, counted_at, hash_changes, value_changes, write_all, Written, over_nodes, whole_step, items_from, olds_at, news_at, values_from}
use Rattle.ks_def_tasks.specs.Tasks.{arrival, machine, step, sent_item, written_item}
use Rattle.ks_def_tasks.proofs.Same.{stored-is, option-is}
use Rattle.ks_law_fk_quiescence.proofs.Waits.{stays_unchanged}
use Rattle.ks_law_fk_quiescence.proofs.Parts.{same_itself}

-- ---- rows in longer pasts
had_more : (k : Key) (m : Message) (v : Row) (rows : List Row) → In v rows → In v (had_in k m rows)
had_more k (Kept q (Some x)) v rows i = elim (same_bytes q k) as (λ b. In v (cond b (shown x ∷ rows) rows)) [ true ↦ inr i | false ↦ i ]
had_more k (Kept q None) v rows i = i
had_more k (Given q w) v rows i = i
had_more k (Keyed q w) v rows i = i
had_more k (Moved q w) v rows i = i
had_more k (Asked b q w) v rows i = i
had_more k (Answered q w) v rows i = i
had_more k (KeptCount q w) v rows i = i
had_more k (KeptTime w) v rows i = i
had_more k (KeptHash b q w) v rows i = i

had_within : (k : Key) (m : Message) (v : Row) (xs ys : List Row) → (In v xs → In v ys) → In v (had_in k m xs) → In v (had_in k m ys)
had_within k (Kept q (Some x)) v xs ys f i = (elim (same_bytes q k) as (λ b. In v (cond b (shown x ∷ xs) xs) → In v (cond b (shown x ∷ ys) ys)) [
  | true ↦ λ j. ⊎_elim (λ e. inl e) (λ m. inr (f m)) j
  | false ↦ f
]) i
had_within k (Kept q None) v xs ys f i = f i
had_within k (Given q w) v xs ys f i = f i
had_within k (Keyed q w) v xs ys f i = f i
had_within k (Moved q w) v xs ys f i = f i
had_within k (Asked b q w) v xs ys f i = f i
had_within k (Answered q w) v xs ys f i = f i
had_within k (KeptCount q w) v xs ys f i = f i
had_within k (KeptTime w) v xs ys f i = f i
had_within k (KeptHash b q w) v xs ys f i = f i

nothing_had : (v : Row) (rows : List Row) → In v [] → In v rows
nothing_had v rows i = absurd i

pub had_before : (k : Key) (v : Row) (xs ys : List Item) → In v (rows_had k xs) → In v (rows_had k (xs ++ ys))
had_before k v [] ys i = nothing_had v (rows_had k ys) i
had_before k v (x ∷ xs) ys i = had_within k x.message v (rows_had k xs) (rows_had k (xs ++ ys)) (had_before k v xs ys) i

pub had_after : (k : Key) (v : Row) (xs ys : List Item) → In v (rows_had k ys) → In v (rows_had k (xs ++ ys))
had_after k v [] ys i = i
had_after k v (x ∷ xs) ys i = had_more k x.message v (rows_had k (xs ++ ys)) (had_after k v xs ys i)

map-append : {A B : Type 0} (f : A → B) (xs ys : List A) → map f (xs ++ ys) ≡ map f xs ++ map f ys
map-append f [] ys = refl
map-append f (x ∷ xs) ys = ap (λ l. f x ∷ l) (map-append f xs ys)

module _ (rules : Rules) (p : Plan) (l : ℕ) (c : Key) (v : Row) (part time : ℕ) where
  abbrev log : Place
  log = record { topic = Changelog l; part = part }

  abbrev to : List Written → List Item
  to ws = sent_to (machine rules p) log (map (written_item part time) ws)

  to-append : (xs ys : List Written) → to (xs ++ ys) ≡ to xs ++ to ys
  to-append xs ys = ap (sent_to (machine rules p) log) (map-append (written_item part time) xs ys) ∙ sent_to-append (machine rules p) log (map (written_item part time) xs) (map (written_item part time) ys)

  first_written : (y : Stored) (more : List Message) (ws : List Written) → shown y ≡ v → In v (rows_had c (to (write_all (Changelog l) (Kept c (Some y) ∷ more) ++ ws)))
  first_written y more ws e =
      let rest = to (write_all (Changelog l) more ++ ws) in
      let here : nat_eq l l && nat_eq part part ≡ true = ap₂ (λ a b. a && b) ((Decides-eqb l l).1 refl) ((Decides-eqb part part).1 refl) in
      subst (λ b. In v (rows_had c (cond b (record { message = Kept c (Some y); time = time } ∷ rest) rest))) (sym here)
      (subst (λ b. In v (cond b (shown y ∷ rows_had c rest) (rows_had c rest))) (sym (same_itself c)) (inl (sym e)))

  module _ (arr : Arrival) (items : ℕ → Option StreamItem) (st : Store) (olds news : Values) (y : Stored) (is : shown y ≡ v) (change : value_changes (step_key arr.item.message) (olds l) (news l) ≡ Kept c (Some y) ∷ []) where
    node_written : (k : Kind) → In v (rows_had c (to (changes_at arr items st olds news l k)))
    node_written k =
        let hashes = write_all (HashChangelog l) (hash_changes st l (arrived arr (Subscriptions l))) in
        subst (λ ms. In v (rows_had c (to (write_all (Changelog l) (ms ++ (counted_at arr items st l k).changes) ++ hashes)))) (sym change)
        (first_written y (counted_at arr items st l k).changes hashes is)

    pub nodes_written : (n : ℕ) (ks : List Kind) → n ≤ l → l < n + length ks → In v (rows_had c (to (over_nodes (changes_at arr items st olds news) n ks)))
    nodes_written n [] le lt = absurd (omega arith)
    nodes_written n (k ∷ ks) le lt =
        let here = changes_at arr items st olds news n k in
        let more = over_nodes (changes_at arr items st olds news) (suc n) ks in
        subst (λ xs. In v (rows_had c xs)) (sym (to-append here more))
        (⊎_elim
        (λ (less : n < l). had_after c v (to here) (to more) (nodes_written (suc n) ks (omega arith) (omega arith)))
        (λ ge. let e : n ≡ l = omega arith in had_before c v (to here) (to more) (subst (λ m. In v (rows_had c (to (changes_at arr items st olds news m k)))) (sym e) (node_written k)))
        (cases_lt n l))

module _ (rules : Rules) (p : Plan) (l : ℕ) (within : l < 0 + length p.kinds) (t : TaskId) (st : Store) (q : Place) (x : Item) (c : Key) (is : step_key x.message ≡ Some c) where
  abbrev arr : Arrival
  arr = arrival p q x

  abbrev items : ℕ → Option StreamItem
  items = items_from arr (λ n. None) 0 p.kinds

  abbrev olds : Values
  olds = olds_at st (Some c)

  abbrev news : Values
  news = values_from rules arr items olds olds 0 p.kinds

  differs : changed olds news l ≡ true → same_option same_stored (olds l) (news l) ≡ false
  differs change = elim (same_option same_stored (olds l) (news l)) as (λ b. same_option same_stored (olds l) (news l) ≡ b → b ≡ false) [
    | true ↦ λ b. sym change ∙ stays_unchanged olds news l (sym (option-is same_stored stored-is (olds l) (news l) b))
    | false ↦ λ b. refl
  ] refl

  -- a row that changed stands in what the step adds to the past
  pub row_written : changed olds news l ≡ true → (v : Row) → row_in news l ≡ Some v → In v (rows_had c (sent_to (machine rules p) (record { topic = Changelog l; part = t.part }) (step rules p t st q x).made))
  row_written change v e = by_value (news l) refl e
    where
      by_value : (w : Option Stored) → news l ≡ w → option_map shown w ≡ Some v → In v (rows_had c (sent_to (machine rules p) (record { topic = Changelog l; part = t.part }) (step rules p t st q x).made))
      by_value None w e = cc
      by_value (Some y) w e =
          let shows : shown y ≡ v = cc in
          let made = whole_step rules p st arr in
          let all = over_nodes (changes_at arr items st (olds_at st (step_key x.message)) (news_at rules p arr items (olds_at st (step_key x.message)) (step_key x.message))) 0 p.kinds in
          let first : value_changes (step_key x.message) (olds_at st (step_key x.message) l) (news_at rules p arr items (olds_at st (step_key x.message)) (step_key x.message) l) ≡ Kept c (Some y) ∷ [] =
          ap (λ key. value_changes key (olds_at st key l) (news_at rules p arr items (olds_at st key) key l)) is
          ∙ ap (λ b. cond b [] (Kept c (news l) ∷ [])) (differs change) ∙ ap (λ w. Kept c w ∷ []) w in
          subst (λ xs. In v (rows_had c xs)) (sym (sent_to-append (machine rules p) (record { topic = Changelog l; part = t.part }) (map (sent_item rules p x.time) made.sends) (map (written_item t.part x.time) all)))
          (had_after c v (sent_to (machine rules p) (record { topic = Changelog l; part = t.part }) (map (sent_item rules p x.time) made.sends)) _
          (nodes_written rules p l c v t.part x.time arr items st (olds_at st (step_key x.message)) (news_at rules p arr items (olds_at st (step_key x.message)) (step_key x.message)) y shows first 0 p.kinds (omega arith) within))
