-- A table aggregate's receiving part: in every state of every run, the stored group is the sum of the deltas that were taken.
use Rattle.std.proofs.Common.{◌≡◌, ℕ, ◌+◌, ◌%◌, ◌^◌, ◌<◌, ◌≤◌, Bool, true, false, cond, List, length, [], ◌∷◌, ◌++◌, Option, Some, None, refl, sym, ap, ap₂, subst, ◌∙◌, arith, append-nil, length-append}
use Rattle.std.specs.Prelude.{ℤ, pos, option_map, is_none}
use Rattle.std.proofs.lemmas.Bool.Decides.{Decides-eqb}
use Rattle.std.proofs.lemmas.List.Sums.{fold-append}
use Rattle.std.specs.Ordering.{eq_by_cmp}
use Rattle.std.specs.Cmp.Lexicographic.{nat_list_cmp_total}
use Rattle.std.specs.FinMap.{slice_cmp-IsAntisymmetric, nat_cmp-IsAntisymmetric, int_cmp-IsAntisymmetric}
use Rattle.ks_record.specs.declared.record.TaskId.{TaskId}
use Rattle.ks_record.specs.Parts.{same_task}
use Rattle.ks_wire.specs.declared.values.Agg.{Agg}
use Rattle.ks_plan.specs.declared.node.Topic.{Topic}
use Rattle.ks_plan.specs.declared.node.Topic.TheVariants.{Repartition}
use Rattle.ks_plan.specs.Plan.{Plan}
use Rattle.ks_plan.specs.Plan.Kind.{TableAggregate}
use Rattle.ks_plan.specs.Layout.{same_topic, sub_of}
use Rattle.ks_def_runs.specs.FinMap as fin
use Rattle.ks_def_runs.specs.FinMap.{FinMap}
use Rattle.ks_def_runs.specs.Table.{total, sum_of}
use Rattle.ks_def_runs.specs.Bytes.{by_bytes}
use Rattle.ks_def_runs.proofs.Tables.{equal, get-write}
use Rattle.ks_query.specs.Streams.{Key, Input, StreamItem}
use Rattle.ks_query.specs.Aggregates.{nothing_yet, or_nothing, with_members, is_zero, moved, table_apply}
use Rattle.ks_def_runs.specs.Run.{Taken, RunState, Follows, received, take_first, initial, run}
use Rattle.ks_def_runs.proofs.Runs.{Follows-initial, Follows-step, kept_by_run}
use Rattle.ks_def_runs.proofs.Sums.{sum_map, sum_taken, by_senders}
use Rattle.ks_def_tasks.specs.Messages.{Place, same_place, Stored, agg_of, Message, Item, Store, Rules}
use Rattle.ks_def_tasks.specs.Messages.Stored.{OfAgg}
use Rattle.ks_def_tasks.specs.Messages.Message.{Given, Keyed, Moved, Asked, Answered, Kept, KeptCount, KeptTime, KeptHash}
use Rattle.ks_def_tasks.specs.Step.{Arrival, arrived, step_key, applied, whole_step, items_from, olds_at, news_at, tables_after}
use Rattle.ks_def_tasks.specs.Tasks.{arrival, machine, step, inputs_of}
use Rattle.ks_def_tasks.proofs.Names.{names, same_task-is, same_place-is}
use Rattle.ks_law_topology.specs.Taken.{messages, taken_at}
use Rattle.ks_law_quiescence.specs.Groups.{one_moved, sum_of_deltas}
use Rattle.ks_law_quiescence.proofs.Bits.{bits_of, of_bits, bits_back, of_sums}
use Rattle.ks_law_quiescence.proofs.Counted.{sum_of_deltas-is}
use Rattle.ks_law_quiescence.proofs.Follow.{value_is}
use Rattle.ks_law_topology.proofs.Mixed.{messages-append, Stands_at}
use Rattle.ks_law_topology.proofs.Placed.{topic-is}
use Rattle.ks_law_quiescence.proofs.Regrouped.{members_in, total_in, row_bits, share, group_part, at, rows_sent}
use Rattle.ks_law_quiescence.proofs.Sender.{member, amount}
use Rattle.ks_law_quiescence.proofs.Senders.{distinct, senders_of, steps_of, steps_of-is, members_or_none, steps_together}
use Rattle.ks_law_quiescence.proofs.Sources.{taken-append}

-- ---- members and amounts together
pub record Totals (d a most : ℕ) : Type 0 where
  pub members : ℕ
  pub amount : ℕ
  pub d_is : d % 2 ^ 64 ≡ members % 2 ^ 64
  pub a_is : a % 2 ^ 64 ≡ amount % 2 ^ 64
  pub few : members ≤ most
  pub empty : members ≡ 0 → amount ≡ 0

nothing_together : Totals 0 0 0
nothing_together = record { members = 0; amount = 0; d_is = refl; a_is = refl; few = omega arith; empty = λ e. refl }

Totals-add : (d a m e b n : ℕ) → Totals d a m → Totals e b n → Totals (d + e) (a + b) (m + n)
Totals-add d a m e b n x y = record {
  members = x.members + y.members;
  amount = x.amount + y.amount;
  d_is = omega (arith, x.d_is, y.d_is);
  a_is = omega (arith, x.a_is, y.a_is);
  few = omega (arith, x.few, y.few);
  empty = λ z. let p = x.empty (omega arith) in let q = y.empty (omega arith) in omega arith;
}

pub sum_of-le : {X : Type 0} (s : X → ℕ) → ((x : X) → s x ≤ 1) → (es : List (Key × X)) → sum_of by_bytes s es ≤ length es
sum_of-le s le [] = omega arith
sum_of-le s le (e ∷ es) = omega (arith, le e.1, sum_of-le s le es)

pub member-le : (g : Key) (e : Option (Key × ℤ)) → member by_bytes g e ≤ 1
member-le g None = omega arith
member-le g (Some e) = elim (eq_by_cmp by_bytes g e.0) as (λ b. cond b 1 0 ≤ 1) [ true ↦ omega arith | false ↦ omega arith ]

none_here : (g : Key) (w : Option (Key × ℤ)) → member by_bytes g w ≡ 0 → amount by_bytes row_bits g w ≡ 0
none_here g None e = refl
none_here g (Some w) e = by_case (eq_by_cmp by_bytes g w.0) e
  where
    by_case : (b : Bool) → cond {A = ℕ} b 1 0 ≡ 0 → cond b (row_bits w.1) 0 ≡ 0
    by_case true e = absurd (omega arith)
    by_case false e = refl

pub none_no_amount : {X : Type 0} (g : Key) (s : X → Option (Key × ℤ)) (es : List (Key × X)) → sum_of by_bytes (λ x. member by_bytes g (s x)) es ≡ 0 → sum_of by_bytes (λ x. amount by_bytes row_bits g (s x)) es ≡ 0
none_no_amount g s [] e = refl
none_no_amount g s (x ∷ es) e =
    let rest = none_no_amount g s es (omega arith) in
    let here = none_here g (s x.1) (omega arith) in
    omega arith

-- ---- what is taken, counted by messages
pub messages_sum : (f : Message → ℕ) (xs : List Item) → sum_map f (messages xs) ≡ sum_map (λ x. f x.message) xs
messages_sum f [] = refl
messages_sum f (x ∷ xs) = ap (λ n. f x.message + n) (messages_sum f xs)

module _ (rules : Rules) (p : Plan) where
  pub taken_sum : (f : Message → ℕ) (q : Place) (ts : List (Taken TaskId Place Item)) → sum_map f (taken_at q ts) ≡ sum_taken (machine rules p) (λ x. f x.message) q ts
  taken_sum f q [] = refl
  taken_sum f q (t ∷ ts) = elim (same_place q t.place) as (λ b. sum_map f (cond b (t.item.message ∷ taken_at q ts) (taken_at q ts)) ≡ cond b (f t.item.message) 0 + sum_taken (machine rules p) (λ x. f x.message) q ts) [
    | true ↦ ap (λ n. f t.item.message + n) (taken_sum f q ts)
    | false ↦ taken_sum f q ts ∙ zero_sum _
  ]
    where
      zero_sum : (n : ℕ) → n ≡ 0 + n
      zero_sum n = omega arith

  -- no input is a repartition topic's
  pub no_inputs : (records : List Input) (a j : ℕ) → inputs_of rules p records (record { topic = Repartition a; part = j }) ≡ []
  no_inputs [] a j = refl
  no_inputs (r ∷ rs) a j = no_inputs rs a j

pub nothing_begins : {A : Type 0} (xs rest : List A) → [] ≡ xs ++ rest → xs ≡ []
nothing_begins [] rest e = refl
nothing_begins (x ∷ xs) rest e = cc

pub either_same : {A : Type 0} (b : Bool) (x : A) → cond b x x ≡ x
either_same true x = refl
either_same false x = refl

-- ---- a node whose value is made of its old one and of what comes at a topic
abbrev pub at_key : Option Key → Key → Option Stored → Option Stored → Option Stored
at_key None q new old = old
at_key (Some k) q new old = cond (eq_by_cmp by_bytes q k) new old

pub node_step : (rules : Rules) (p : Plan) (n : ℕ) (st : Store) (x : Arrival) (items : ℕ → Option StreamItem) (f : Option Stored → Option Stored) (key : Option Key) →
    ((k : Key) → news_at rules p x items (olds_at st (Some k)) (Some k) n ≡ f (fin.get (st.tables n) k)) →
    (q : Key) → fin.get (tables_after st (news_at rules p x items (olds_at st key) key) key n) q ≡ at_key key q (f (fin.get (st.tables n) q)) (fin.get (st.tables n) q)
node_step rules p n st x items f None value q = refl
node_step rules p n st x items f (Some k) value q =
    get-write nat_list_cmp_total (st.tables n) k _ q
    ∙ elim (eq_by_cmp by_bytes q k) as (λ b. eq_by_cmp by_bytes q k ≡ b → cond b (news_at rules p x items (olds_at st (Some k)) (Some k) n) (fin.get (st.tables n) q) ≡ cond b (f (fin.get (st.tables n) q)) (fin.get (st.tables n) q)) [
      | true ↦ λ b. value k ∙ ap (λ c. f (fin.get (st.tables n) c)) (sym (slice_cmp-IsAntisymmetric nat_cmp-IsAntisymmetric q k (equal _ b)))
      | false ↦ λ b. refl
    ] refl

module _ (rules : Rules) (p : Plan) (a f : ℕ) (by : List ℕ) (field : Option (List ℕ)) (stands : Stands_at a (TableAggregate f by field) 0 p.kinds) (records : List Input) where
  abbrev inputs : Place → List Item
  inputs = inputs_of rules p records

  abbrev pub group_place : Key → Place
  group_place g = at rules p a f by field (group_part rules p a f by field g)

  abbrev pub group_task : Key → TaskId
  group_task g = record { sub = sub_of p a; part = group_part rules p a f by field g }

  -- what one sender gave of a group, of which the rest waits
  sender_totals : (st : RunState TaskId Place Store Item) → Follows (machine rules p) inputs st → (g : Key) (s : Option TaskId) →
      Totals (sum_map (λ x. members_in g x.message) (received (machine rules p) s (group_place g) st.taken)) (sum_map (λ x. total_in g x.message) (received (machine rules p) s (group_place g) st.taken)) (steps_of (machine rules p) st.taken s)
  sender_totals st follows g None =
      let none : received (machine rules p) None (group_place g) st.taken ≡ [] = nothing_begins _ (st.waiting None (group_place g)) (sym (no_inputs rules p records a (group_part rules p a f by field g)) ∙ follows.flow None (group_place g)) in
      let n = steps_of (machine rules p) st.taken None in
      subst (λ l. Totals (sum_map (λ x. members_in g x.message) l) (sum_map (λ x. total_in g x.message) l) n) (sym none) (record { members = 0; amount = 0; d_is = refl; a_is = refl; few = omega arith; empty = λ e. refl })
  sender_totals st follows g (Some u) =
      let m = machine rules p in
      let got = received m (Some u) (group_place g) st.taken in
      let rest = st.waiting (Some u) (group_place g) in
      let h = (rows_sent rules p a f by field stands u st.taken).begins g (messages got) (messages rest, ap messages (follows.flow (Some u) (group_place g)) ∙ messages-append got rest) in
      let number = steps_of-is m u st.taken in
      let d = messages_sum (members_in g) got in
      let e = messages_sum (total_in g) got in
      record {
        members = total by_bytes (λ x. member by_bytes g (share rules p a f by field x)) h.rows;
        amount = total by_bytes (λ x. amount by_bytes row_bits g (share rules p a f by field x)) h.rows;
        d_is = ap (λ n. n % 2 ^ 64) (sym d) ∙ h.members;
        a_is = ap (λ n. n % 2 ^ 64) (sym e) ∙ h.amounts;
        few = omega (arith, h.few, fin.len-entries h.rows, sum_of-le (λ x. member by_bytes g (share rules p a f by field x)) (λ x. member-le g (share rules p a f by field x)) (fin.entries h.rows));
        empty = none_no_amount g (share rules p a f by field) (fin.entries h.rows);
      }

  senders_totals : (st : RunState TaskId Place Store Item) → Follows (machine rules p) inputs st → (g : Key) (ss : List (Option TaskId)) →
      Totals (sum_map (λ s. sum_map (λ x. members_in g x.message) (received (machine rules p) s (group_place g) st.taken)) ss)
      (sum_map (λ s. sum_map (λ x. total_in g x.message) (received (machine rules p) s (group_place g) st.taken)) ss)
      (sum_map (steps_of (machine rules p) st.taken) ss)
  senders_totals st follows g [] = nothing_together
  senders_totals st follows g (s ∷ ss) = Totals-add _ _ _ _ _ _ (sender_totals st follows g s) (senders_totals st follows g ss)

  -- all that was taken of a group
  pub taken_totals : (st : RunState TaskId Place Store Item) → Follows (machine rules p) inputs st → (g : Key) →
      Totals (sum_map (members_in g) (taken_at (group_place g) st.taken)) (sum_map (total_in g) (taken_at (group_place g) st.taken)) (length st.taken)
  taken_totals st follows g =
      let m = machine rules p in
      let ss = distinct m (senders_of m st.taken) in
      let all = senders_totals st follows g ss in
      let once = members_or_none m (names rules p) [] (group_place g) st.taken in
      let d = taken_sum rules p (members_in g) (group_place g) st.taken ∙ by_senders m (names rules p) (λ x. members_in g x.message) (group_place g) ss st.taken once in
      let e = taken_sum rules p (total_in g) (group_place g) st.taken ∙ by_senders m (names rules p) (λ x. total_in g x.message) (group_place g) ss st.taken once in
      let within = steps_together m (names rules p) (senders_of m st.taken) st.taken in
      record {
        members = all.members;
        amount = all.amount;
        d_is = ap (λ n. n % 2 ^ 64) d ∙ all.d_is;
        a_is = ap (λ n. n % 2 ^ 64) e ∙ all.a_is;
        few = omega (arith, all.few);
        empty = all.empty;
      }

  -- where no member is left, nothing is
  pub nothing_left : (st : RunState TaskId Place Store Item) → Follows (machine rules p) inputs st → length st.taken < 2 ^ 48 → (g : Key) →
      is_zero (sum_of_deltas g (taken_at (group_place g) st.taken)).members ≡ true → sum_of_deltas g (taken_at (group_place g) st.taken) ≡ nothing_yet
  nothing_left st follows few g e =
      let ms = taken_at (group_place g) st.taken in
      let t = taken_totals st follows g in
      let is = sum_of_deltas-is g ms in
      let zero_members : of_bits (sum_map (members_in g) ms % 2 ^ 64) ≡ pos 0 = ap (λ (x : Agg). x.members) (sym is) ∙ int_cmp-IsAntisymmetric _ (pos 0) (equal _ e) in
      let below : sum_map (members_in g) ms % 2 ^ 64 < 2 ^ 64 = omega arith in
      let bits : sum_map (members_in g) ms % 2 ^ 64 ≡ 0 = sym (bits_back (sum_map (members_in g) ms % 2 ^ 64) below) ∙ ap bits_of zero_members in
      let d = t.d_is in
      let most = t.few in
      let none : t.members ≡ 0 = omega arith in
      let no_amount = t.empty none in
      let b = t.a_is in
      let amount : sum_map (total_in g) ms % 2 ^ 64 ≡ 0 = omega arith in
      is ∙ ap₂ of_sums bits amount

  abbrev pub stored_sum : Agg → Option Stored
  stored_sum x = option_map (OfAgg (is_none field)) (with_members x)

  old_sum : (x : Agg) → (is_zero x.members ≡ true → x ≡ nothing_yet) → or_nothing (agg_of (stored_sum x)) ≡ x
  old_sum x f = elim (is_zero x.members) as (λ b. is_zero x.members ≡ b → or_nothing (agg_of (option_map (OfAgg (is_none field)) (cond b None (Some x)))) ≡ x) [
    | true ↦ λ b. sym (f b)
    | false ↦ λ b. refl
  ] refl

  -- a message at the group's own partition
  one_taken : (g : Key) (old : Option Stored) (x : Agg) (m : Message) → old ≡ stored_sum x → (is_zero x.members ≡ true → x ≡ nothing_yet) → at_key (step_key m) g (applied field old (Some m)) old ≡ stored_sum (one_moved g x m)
  one_taken g old x (Moved h d) e f = elim (eq_by_cmp by_bytes g h) as (λ b. cond b (option_map (OfAgg (is_none field)) (table_apply (agg_of old) d)) old ≡ stored_sum (cond b (moved x d) x)) [
    | true ↦ ap (λ w. option_map (OfAgg (is_none field)) (table_apply (agg_of w) d)) e ∙ ap (λ y. stored_sum (moved y d)) (old_sum x f)
    | false ↦ e
  ]
  one_taken g old x (Given None v) e f = e
  one_taken g old x (Given (Some k) v) e f = either_same (eq_by_cmp by_bytes g k) old ∙ e
  one_taken g old x (Keyed k v) e f = either_same (eq_by_cmp by_bytes g k) old ∙ e
  one_taken g old x (Asked b k s) e f = e
  one_taken g old x (Answered k r) e f = either_same (eq_by_cmp by_bytes g k) old ∙ e
  one_taken g old x (Kept k w) e f = e
  one_taken g old x (KeptCount k w) e f = e
  one_taken g old x (KeptTime t) e f = e
  one_taken g old x (KeptHash b k h) e f = e

  -- one of another: nothing comes
  none_taken : (key : Option Key) (g : Key) (old : Option Stored) → at_key key g (applied field old None) old ≡ old
  none_taken None g old = refl
  none_taken (Some k) g old = either_same (eq_by_cmp by_bytes g k) old

  group_step : (st : Store) (q : Place) (x : Item) (g : Key) → fin.get ((whole_step rules p st (arrival p q x)).store.tables a) g
      ≡ at_key (step_key x.message) g (applied field (fin.get (st.tables a) g) (arrived (arrival p q x) (Repartition a))) (fin.get (st.tables a) g)
  group_step st q x g =
      let y : Arrival = arrival p q x in
      let items = items_from y (λ n. None) 0 p.kinds in
      node_step rules p a st y items (λ old. applied field old (arrived y (Repartition a))) (step_key x.message)
      (λ k. (value_is rules y items (olds_at st (Some k)) (olds_at st (Some k)) 0 p.kinds a (TableAggregate f by field) stands).1) g

  -- each stored group is the sum of what was taken
  abbrev pub GroupsAre : RunState TaskId Place Store Item → Type 0
  GroupsAre st = (g : Key) → fin.get ((st.stores (group_task g)).tables a) g ≡ stored_sum (sum_of_deltas g (taken_at (group_place g) st.taken))

  abbrev then_at : RunState TaskId Place Store Item → Key → Place → Item → Bool → Option Stored
  then_at st g q x b = fin.get ((cond b (step rules p ((machine rules p).reader q) (st.stores ((machine rules p).reader q)) q x).store (st.stores (group_task g))).tables a) g

  groups_here : (st : RunState TaskId Place Store Item) (g : Key) (q : Place) (x : Item) → same_place (group_place g) q ≡ true → GroupsAre st →
      (is_zero (sum_of_deltas g (taken_at (group_place g) st.taken)).members ≡ true → sum_of_deltas g (taken_at (group_place g) st.taken) ≡ nothing_yet) →
      then_at st g q x (same_task (group_task g) ((machine rules p).reader q)) ≡ stored_sum (sum_of_deltas g (taken_at (group_place g) st.taken ++ x.message ∷ []))
  groups_here st g q x b h left =
      let ms = taken_at (group_place g) st.taken in
      let is : q ≡ group_place g = sym ((same_place-is (group_place g) q).0 b) in
      let reader : (machine rules p).reader q ≡ group_task g = ap (machine rules p).reader is in
      let task : same_task (group_task g) ((machine rules p).reader q) ≡ true = (same_task-is (group_task g) ((machine rules p).reader q)).1 (sym reader) in
      let topic : same_topic q.topic (Repartition a) ≡ true = ap (λ (v : Place). same_topic v.topic (Repartition a)) is ∙ (Decides-eqb a a).1 refl in
      let old = fin.get ((st.stores (group_task g)).tables a) g in
      ap (then_at st g q x) task ∙ ap (λ v. fin.get ((whole_step rules p (st.stores v) (arrival p q x)).store.tables a) g) reader
      ∙ group_step (st.stores (group_task g)) q x g ∙ ap (λ c. at_key (step_key x.message) g (applied field old (cond c (Some x.message) None)) old) topic
      ∙ one_taken g old (sum_of_deltas g ms) x.message (h g) left
      ∙ ap stored_sum (sym (fold-append (one_moved g) nothing_yet ms (x.message ∷ [])))

  groups_apart : (st : RunState TaskId Place Store Item) (g : Key) (q : Place) (x : Item) → same_place (group_place g) q ≡ false → GroupsAre st →
      then_at st g q x (same_task (group_task g) ((machine rules p).reader q)) ≡ stored_sum (sum_of_deltas g (taken_at (group_place g) st.taken))
  groups_apart st g q x b h =
      let u = (machine rules p).reader q in
      elim (same_task (group_task g) u) as (λ c. same_task (group_task g) u ≡ c → then_at st g q x c ≡ stored_sum (sum_of_deltas g (taken_at (group_place g) st.taken))) [
        | true ↦ λ c.
            let is : group_task g ≡ u = (same_task-is (group_task g) u).0 c in
            let part : group_part rules p a f by field g ≡ q.part = ap (λ (v : TaskId). v.part) is in
            let other : same_topic q.topic (Repartition a) ≡ false = elim (same_topic q.topic (Repartition a)) as (λ d. same_topic q.topic (Repartition a) ≡ d → d ≡ false) [
              | true ↦ λ d.
                  let whole : group_place g ≡ q = ap₂ (λ (v : Topic) (j : ℕ). record { topic = v; part = j }) (sym (topic-is q.topic (Repartition a) d)) part in
                  sym ((same_place-is (group_place g) q).1 whole) ∙ b
              | false ↦ λ d. refl
            ] refl in
            let old = fin.get ((st.stores u).tables a) g in
            group_step (st.stores u) q x g ∙ ap (λ d. at_key (step_key x.message) g (applied field old (cond d (Some x.message) None)) old) other
            ∙ none_taken (step_key x.message) g old ∙ ap (λ v. fin.get ((st.stores v).tables a) g) (sym is) ∙ h g
        | false ↦ λ c. h g
      ] refl

  groups_step : (st : RunState TaskId Place Store Item) (s : Option TaskId) (q : Place) (xs : List Item) → Follows (machine rules p) inputs st → length st.taken < 2 ^ 48 → GroupsAre st → GroupsAre (take_first (machine rules p) st s q xs)
  groups_step st s q [] follows few h = h
  groups_step st s q (x ∷ rest) follows few h = λ g.
      let now : Taken TaskId Place Item = record { sender = s; place = q; item = x } in
      let ms = taken_at (group_place g) st.taken in
      let grown : taken_at (group_place g) (st.taken ++ now ∷ []) ≡ ms ++ cond (same_place (group_place g) q) (x.message ∷ []) [] = taken-append (group_place g) st.taken (now ∷ []) in
      subst (λ l. then_at st g q x (same_task (group_task g) ((machine rules p).reader q)) ≡ stored_sum (sum_of_deltas g l)) (sym grown)
      (elim (same_place (group_place g) q) as (λ b. same_place (group_place g) q ≡ b → then_at st g q x (same_task (group_task g) ((machine rules p).reader q)) ≡ stored_sum (sum_of_deltas g (ms ++ cond b (x.message ∷ []) []))) [
        | true ↦ λ b. groups_here st g q x b h (nothing_left st follows few g)
        | false ↦ λ b. groups_apart st g q x b h ∙ ap (λ l. stored_sum (sum_of_deltas g l)) (sym (append-nil ms))
      ] refl)

  pub record Grouped (st : RunState TaskId Place Store Item) : Type 0 where
    pub follows : Follows (machine rules p) inputs st
    pub groups : length st.taken < 2 ^ 48 → GroupsAre st

  grouped_step : (st : RunState TaskId Place Store Item) (s : Option TaskId) (q : Place) (xs : List Item) → st.waiting s q ≡ xs → Grouped st → Grouped (take_first (machine rules p) st s q xs)
  grouped_step st s q [] e h = h
  grouped_step st s q (x ∷ rest) e h = record {
    follows = Follows-step (machine rules p) (names rules p) inputs st s q (x ∷ rest) e h.follows;
    groups = λ few.
        let now : Taken TaskId Place Item = record { sender = s; place = q; item = x } in
        let fewer : length st.taken < 2 ^ 48 = omega (arith, length-append st.taken (now ∷ [])) in
        groups_step st s q (x ∷ rest) h.follows fewer (h.groups fewer);
  }

  pub grouped_run : (schedule : List (Option TaskId × Place)) → Grouped (run (machine rules p) inputs schedule)
  grouped_run schedule = kept_by_run (machine rules p) Grouped (λ st c h. grouped_step st c.0 c.1 (st.waiting c.0 c.1) refl h) (initial (machine rules p) inputs)
      (record { follows = Follows-initial (machine rules p) (names rules p) inputs; groups = λ few g. fin.get-empty by_bytes g }) schedule
