-- One step of the machine: what becomes of each row, each hash and each list that one left key of a join sees.
use Rattle.std.proofs.Common.{◌≡◌, ℕ, Bool, true, false, cond, not, ◌&&◌, List, [], ◌∷◌, ◌++◌, Option, Some, None, refl, sym, ap, ap₂, ◌∙◌}
use Rattle.std.specs.Prelude.{option_map}
use Rattle.std.specs.Cmp.Lexicographic.{nat_list_cmp_total}
use Rattle.ks_record.specs.declared.record.TaskId.{TaskId}
use Rattle.ks_record.specs.Parts.{same_task}
use Rattle.ks_expr.specs.Eval.{same_bytes}
use Rattle.std.proofs.lemmas.Bool.{and_parts}
use Rattle.ks_plan.specs.declared.node.Topic.{Topic}
use Rattle.ks_plan.specs.declared.node.Topic.TheVariants.{Subscriptions}
use Rattle.ks_plan.specs.Layout.{same_topic}
use Rattle.ks_plan.specs.Plan.{Plan}
use Rattle.ks_def_runs.specs.FinMap as fin
use Rattle.ks_def_runs.proofs.Tables.{get-write}
use Rattle.ks_query.specs.Streams.{Key, StreamItem}
use Rattle.ks_def_runs.specs.Run.{same_channel, sent_to, take_first}
use Rattle.ks_def_tasks.specs.Messages.{Place, Stored, shown, Message, Item, Store, Rules, same_row}
use Rattle.ks_def_tasks.specs.Step.{Arrival, Values, row_in, changed, step_key, items_from, olds_at, news_at, values_from, tables_after, whole_step, subscribe_at, hashes_after}
use Rattle.ks_def_tasks.specs.Tasks.{arrival, machine, step, is_changelog}
use Rattle.ks_def_tasks.proofs.Names.{same_task-is, same_place-is, topic_itself}
use Rattle.ks_def_tasks.proofs.Same.{row-is, option-is}
use Rattle.ks_law_quiescence.specs.States.{State, row_at}
use Rattle.ks_law_topology.specs.Taken.{messages}
use Rattle.ks_law_topology.proofs.Mixed.{messages-append, picked, made_is}
use Rattle.ks_law_quiescence.proofs.OneKey.{keys_decided}

of_not : (b : Bool) → not b ≡ false → b ≡ true
of_not true e = refl
of_not false e = cc

pub unchanged : (olds news : Values) (n : ℕ) → changed olds news n ≡ false → row_in olds n ≡ row_in news n
unchanged olds news n e = option-is same_row row-is (row_in olds n) (row_in news n) (of_not _ e)

pub either_same : {A : Type 0} (b : Bool) (x : A) → cond b x x ≡ x
either_same true x = refl
either_same false x = refl

module _ (rules : Rules) (p : Plan) (st : State) (s : Option TaskId) (q : Place) (x : Item) (rest : List Item) where
  abbrev pub taker_of : TaskId
  taker_of = (machine rules p).reader q

  abbrev pub arr : Arrival
  arr = arrival p q x

  abbrev pub items : ℕ → Option StreamItem
  items = items_from arr (λ n. None) 0 p.kinds

  abbrev pub now : Store
  now = st.stores taker_of

  abbrev pub next : State
  next = take_first (machine rules p) st s q (x ∷ rest)

  abbrev pub olds : Key → Values
  olds c = olds_at now (Some c)

  abbrev pub news : Key → Values
  news c = values_from rules arr items (olds c) (olds c) 0 p.kinds

  -- a table of a task after the step
  table_by : (u : TaskId) (n : ℕ) (k : Key) (key : Option Key) → step_key x.message ≡ key →
      fin.get ((next.stores u).tables n) k ≡ cond (same_task u taker_of) (fin.get (tables_after now (news_at rules p arr items (olds_at now key) key) key n) k) (fin.get ((st.stores u).tables n) k)
  table_by u n k key is =
      elim (same_task u taker_of) as (λ b. fin.get ((cond b (step rules p taker_of now q x).store (st.stores u)).tables n) k ≡ cond b (fin.get (tables_after now (news_at rules p arr items (olds_at now key) key) key n) k) (fin.get ((st.stores u).tables n) k)) [
        | true ↦ ap (λ key. fin.get (tables_after now (news_at rules p arr items (olds_at now key) key) key n) k) is
        | false ↦ refl
      ]

  -- a step without a key changes no table
  pub table_kept : step_key x.message ≡ None → (u : TaskId) (n : ℕ) (k : Key) → fin.get ((next.stores u).tables n) k ≡ fin.get ((st.stores u).tables n) k
  table_kept none u n k = table_by u n k None none ∙ elim (same_task u taker_of) as (λ b. same_task u taker_of ≡ b → cond b (fin.get (now.tables n) k) (fin.get ((st.stores u).tables n) k) ≡ fin.get ((st.stores u).tables n) k) [
    | true ↦ λ b. ap (λ v. fin.get ((st.stores v).tables n) k) (sym ((same_task-is u taker_of).0 b))
    | false ↦ λ b. refl
  ] refl

  -- one with a key changes the taking task's tables there
  pub table_then : (c : Key) → step_key x.message ≡ Some c → (u : TaskId) (n : ℕ) (k : Key) →
      fin.get ((next.stores u).tables n) k ≡ cond (same_task u taker_of) (cond (same_bytes k c) (news c n) (fin.get (now.tables n) k)) (fin.get ((st.stores u).tables n) k)
  table_then c is u n k = table_by u n k (Some c) is ∙ ap (λ v. cond (same_task u taker_of) v (fin.get ((st.stores u).tables n) k)) (get-write nat_list_cmp_total (now.tables n) c (news c n) k)

  -- one value, where the step changes it at its key's task alone
  pub value_then : {A : Type 0} (c : Key) → step_key x.message ≡ Some c → (u : TaskId) (n : ℕ) (k : Key) (f : Option Stored → A) (change : Bool) →
      (change ≡ true → same_bytes k c ≡ true → u ≡ taker_of) → (change ≡ false → f (olds c n) ≡ f (news c n)) →
      f (fin.get ((next.stores u).tables n) k) ≡ cond (change && same_bytes k c) (f (news c n)) (f (fin.get ((st.stores u).tables n) k))
  value_then c is u n k f change own same = ap f (table_then c is u n k) ∙ by_tests (same_task u taker_of) (same_bytes k c) change refl refl refl
    where
      by_tests : (b d g : Bool) → same_task u taker_of ≡ b → same_bytes k c ≡ d → change ≡ g →
          f (cond b (cond d (news c n) (fin.get (now.tables n) k)) (fin.get ((st.stores u).tables n) k)) ≡ cond (g && d) (f (news c n)) (f (fin.get ((st.stores u).tables n) k))
      by_tests true true true b d g = refl
      by_tests true true false b d g = sym (same g) ∙ ap f (ap₂ (λ v w. fin.get ((st.stores v).tables n) w) (sym ((same_task-is u taker_of).0 b)) (sym ((keys_decided k c).0 d)))
      by_tests true false true b d g = ap (λ v. f (fin.get ((st.stores v).tables n) k)) (sym ((same_task-is u taker_of).0 b))
      by_tests true false false b d g = ap (λ v. f (fin.get ((st.stores v).tables n) k)) (sym ((same_task-is u taker_of).0 b))
      by_tests false true true b d g = let e : false ≡ true = sym b ∙ (same_task-is u taker_of).1 (own g d) in cc
      by_tests false true false b d g = refl
      by_tests false false true b d g = refl
      by_tests false false false b d g = refl

  -- a row that its key's task shows
  pub row_then : (c : Key) → step_key x.message ≡ Some c → (u : TaskId) (n : ℕ) (k : Key) → (changed (olds c) (news c) n ≡ true → same_bytes k c ≡ true → u ≡ taker_of) →
      row_at next u n k ≡ cond (changed (olds c) (news c) n && same_bytes k c) (row_in (news c) n) (row_at st u n k)
  row_then c is u n k own = value_then c is u n k (option_map shown) (changed (olds c) (news c) n) own (λ e. unchanged (olds c) (news c) n e)

  -- what waits of a task at a partition, as a view sees it that goes through lists
  pub list_then : {A : Type 0} (view : List Message → List A) → ((xs ys : List Message) → view (xs ++ ys) ≡ view xs ++ view ys) → view [] ≡ [] → (u : TaskId) (at : Place) → is_changelog at.topic ≡ false →
      view (messages (next.waiting (Some u) at))
      ≡ view (messages (cond (same_channel (machine rules p) (Some u) at s q) rest (st.waiting (Some u) at))) ++ cond (same_task u taker_of) (view (picked rules p at (whole_step rules p now arr).sends)) []
  list_then view view-append none u at list =
      let m = machine rules p in
      let before = cond (same_channel m (Some u) at s q) rest (st.waiting (Some u) at) in
      ap view (messages-append before (cond (same_task u taker_of) (sent_to m at (step rules p taker_of now q x).made) []))
      ∙ view-append (messages before) (messages (cond (same_task u taker_of) (sent_to m at (step rules p taker_of now q x).made) []))
      ∙ ap (λ l. view (messages before) ++ l) (elim (same_task u taker_of) as (λ b. view (messages (cond b (sent_to m at (step rules p taker_of now q x).made) [])) ≡ cond b (view (picked rules p at (whole_step rules p now arr).sends)) []) [
        | true ↦ ap view (made_is rules p taker_of now q at x list)
        | false ↦ none
      ])

  -- a list of another topic than the record's
  pub other_channel : (u : Option TaskId) (to : Topic) (j : ℕ) → same_topic q.topic to ≡ false → same_channel (machine rules p) u (record { topic = to; part = j }) s q ≡ false
  other_channel u to j other = elim (same_channel (machine rules p) u (record { topic = to; part = j }) s q) as (λ b. same_channel (machine rules p) u (record { topic = to; part = j }) s q ≡ b → b ≡ false) [
    | true ↦ λ b.
        let is : record { topic = to; part = j } ≡ q = (same_place-is (record { topic = to; part = j }) q).0 (and_parts _ _ b).1 in
        let yes : same_topic q.topic to ≡ true = sym (ap (λ (v : Place). same_topic v.topic to) is) ∙ topic_itself to in
        sym yes ∙ other
    | false ↦ λ b. refl
  ] refl

  pub list_grows : {A : Type 0} (view : List Message → List A) → ((xs ys : List Message) → view (xs ++ ys) ≡ view xs ++ view ys) → view [] ≡ [] → (u : TaskId) (to : Topic) (j : ℕ) → is_changelog to ≡ false → same_topic q.topic to ≡ false →
      view (messages (next.waiting (Some u) (record { topic = to; part = j })))
      ≡ view (messages (st.waiting (Some u) (record { topic = to; part = j }))) ++ cond (same_task u taker_of) (view (picked rules p (record { topic = to; part = j }) (whole_step rules p now arr).sends)) []
  list_grows view view-append none u to j list other = list_then view view-append none u (record { topic = to; part = j }) list
      ∙ ap (λ b. view (messages (cond b rest (st.waiting (Some u) (record { topic = to; part = j })))) ++ cond (same_task u taker_of) (view (picked rules p (record { topic = to; part = j }) (whole_step rules p now arr).sends)) []) (other_channel (Some u) to j other)

  -- the hashes of a task
  pub hash_then : (u : TaskId) (n : ℕ) (b k : Key) → fin.get ((next.stores u).hashes n b) k ≡ cond (same_task u taker_of) (fin.get (hashes_after arr now n b) k) (fin.get ((st.stores u).hashes n b) k)
  hash_then u n b k = elim (same_task u taker_of) as (λ t. fin.get ((cond t (step rules p taker_of now q x).store (st.stores u)).hashes n b) k ≡ cond t (fin.get (hashes_after arr now n b) k) (fin.get ((st.stores u).hashes n b) k)) [ true ↦ refl | false ↦ refl ]

  pub hash_kept : (n : ℕ) → same_topic q.topic (Subscriptions n) ≡ false → (u : TaskId) (b k : Key) → fin.get ((next.stores u).hashes n b) k ≡ fin.get ((st.stores u).hashes n b) k
  hash_kept n other u b k = hash_then u n b k
      ∙ ap (λ t. cond (same_task u taker_of) (fin.get (subscribe_at (cond t (Some x.message) None) (now.hashes n) b) k) (fin.get ((st.stores u).hashes n b) k)) other
      ∙ elim (same_task u taker_of) as (λ t. same_task u taker_of ≡ t → cond t (fin.get (now.hashes n b) k) (fin.get ((st.stores u).hashes n b) k) ≡ fin.get ((st.stores u).hashes n b) k) [
        | true ↦ λ t. ap (λ v. fin.get ((st.stores v).hashes n b) k) (sym ((same_task-is u taker_of).0 t))
        | false ↦ λ t. refl
      ] refl
