-- A table aggregate's sending part, inside any task: in every state of every run, what a task has sent to a partition of its topic
-- stands for the rows that its input has there.
use Rattle.std.proofs.Common.{◌≡◌, ℕ, suc, ◌-◌, ◌%◌, ◌^◌, Bool, true, false, cond, ◌&&◌, List, [], ◌∷◌, ◌++◌, Option, Some, None, refl, sym, ap, ap₂, subst, ◌∙◌, arith, append-nil, nat_eq}
use Rattle.std.specs.Prelude.{ℤ}
use Rattle.std.proofs.lemmas.Bool.{and_parts}
use Rattle.std.proofs.lemmas.Bool.Decides.{Decides-eqb}
use Rattle.std.specs.Ordering.{eq_by_cmp}
use Rattle.std.specs.Cmp.Lexicographic.{nat_list_cmp_total}
use Rattle.std.specs.FinMap.{slice_cmp-IsAntisymmetric, nat_cmp-IsAntisymmetric, int_cmp-IsAntisymmetric}
use Rattle.ks_expr.specs.Eval.{Row}
use Rattle.ks_query.specs.Streams.{Key}
use Rattle.ks_plan.specs.Plan.{Plan}
use Rattle.ks_plan.specs.Plan.Kind.{TableAggregate}
use Rattle.ks_plan.specs.declared.node.Topic.{Topic}
use Rattle.ks_plan.specs.Layout.{spread_of_topic, same_topic}
use Rattle.ks_plan.specs.declared.node.Topic.TheVariants.{Repartition}
use Rattle.ks_def_runs.specs.FinMap as fin
use Rattle.ks_def_runs.specs.FinMap.{FinMap}
use Rattle.ks_def_runs.specs.Bytes.{by_bytes}
use Rattle.ks_query.specs.Streams.{StreamItem}
use Rattle.ks_row.specs.Rows.{field_of}
use Rattle.ks_query.specs.Aggregates.{as_i64, int_of, amount_in, with_amount, deltas_of, same_share, share_under}
use Rattle.ks_row.specs.FieldKeys.{field_key}
use Rattle.ks_law_quiescence.proofs.Bits.{bits_of, bits_below, as_i64_again, delta_members, delta_amount}
use Rattle.ks_def_runs.specs.Run.{Outcome, Taken, sent_to, local, sent}
use Rattle.ks_record.specs.declared.record.TaskId.{TaskId}
use Rattle.ks_def_tasks.specs.Messages.{Place, Stored, shown, Message, Item, Store, Rules}
use Rattle.ks_def_tasks.specs.Messages.Message.{Moved}
use Rattle.ks_def_tasks.specs.Step.{Arrival, Values, row_in, step_key, sends_at, send_deltas, whole_step, olds_at, news_at, items_from, tables_after}
use Rattle.ks_def_tasks.specs.Tasks.{arrival, machine, step, empty_store}
use Rattle.ks_def_runs.proofs.Tables.{equal, total-empty}
use Rattle.ks_def_runs.proofs.Sums.{Begins, steps, kept_from_start}
use Rattle.ks_def_runs.proofs.Runs.{after, sent_to-append}
use Rattle.ks_law_topology.proofs.Mixed.{messages-append, picked, picked_none, own_topic, avoids_sends, apart, made_is, Stands_at}
use Rattle.ks_law_topology.specs.Taken.{messages}
use Rattle.ks_law_quiescence.proofs.Sender.{Meaning, Sender, Sender-step, Stands, member, amount, effect_of, deltas_at, leaves_at, joins_at}

abbrev pub members_in : Key → Message → ℕ
members_in g (Moved h d) = cond (eq_by_cmp by_bytes g h) (delta_members d) 0
members_in g _ = 0

abbrev pub total_in : Key → Message → ℕ
total_in g (Moved h d) = cond (eq_by_cmp by_bytes g h) (delta_amount d) 0
total_in g _ = 0

abbrev pub row_bits : ℤ → ℕ
row_bits z = bits_of (as_i64 z)

-- the bits of a row's amount, and what undoes them
pub same_leave : (b : Bool) (z : ℤ) → cond b ((2 ^ 64 - row_bits z) % 2 ^ 64) 0 ≡ cond b ((2 ^ 64 - row_bits z % 2 ^ 64) % 2 ^ 64) 0
same_leave true z = let lt = bits_below (bits_of z) in omega arith
same_leave false z = refl

abbrev pub delta_means : Meaning by_bytes ℤ Message
delta_means = record {
  bits = row_bits;
  leave = λ g z. Moved g (record { add = false; amount = as_i64 z });
  join = λ g z. Moved g (record { add = true; amount = as_i64 z });
  members_of = members_in;
  amount_of = total_in;
  members_leave = λ g h a. refl;
  members_join = λ g h a. refl;
  amounts_leave = λ g h a. same_leave (eq_by_cmp by_bytes g h) a;
  amounts_join = λ g h a. refl;
}

pub share-is : (old new : Option (Key × ℤ)) → same_share old new ≡ true → old ≡ new
share-is None None e = refl
share-is None (Some y) e = cc
share-is (Some x) None e = cc
share-is (Some x) (Some y) e =
    let parts = and_parts _ _ e in
    ap₂ (λ g a. Some (g, a)) (slice_cmp-IsAntisymmetric nat_cmp-IsAntisymmetric x.0 y.0 (equal _ parts.0)) (int_cmp-IsAntisymmetric x.1 y.1 (equal _ parts.1))

-- a row's amount has 64 bits
pub amount_bits : (fd : Option (List ℕ)) (row : Row) → as_i64 (amount_in fd row) ≡ amount_in fd row
amount_bits None row = refl
amount_bits (Some name) row = as_i64_again (int_of (field_of name row))

module _ (rules : Rules) (p : Plan) (a f : ℕ) (by : List ℕ) (field : Option (List ℕ)) where
  abbrev pub group_part : Key → ℕ
  group_part g = rules.part g (spread_of_topic p (Repartition a))

  -- a row's group and amount
  abbrev pub share : Stored → Option (Key × ℤ)
  share x = share_under by field (Some (shown x))

  abbrev pub RowsSent : ℕ → FinMap by_bytes Stored → (ℕ → List Message) → Type 0
  RowsSent n table sent = Sender nat_list_cmp_total (slice_cmp-IsAntisymmetric nat_cmp-IsAntisymmetric) delta_means group_part share same_share share-is n table sent

  abbrev pub group_of : Option Stored → Option (Key × ℤ)
  group_of w = effect_of nat_list_cmp_total (slice_cmp-IsAntisymmetric nat_cmp-IsAntisymmetric) delta_means group_part share same_share share-is w

  abbrev pub deltas : ℕ → Option (Key × ℤ) → Option (Key × ℤ) → List Message
  deltas j old new = deltas_at nat_list_cmp_total (slice_cmp-IsAntisymmetric nat_cmp-IsAntisymmetric) delta_means group_part share same_share share-is j old new

  abbrev pub at : ℕ → Place
  at j = record { topic = Repartition a; part = j }

  shares : (values : Values) (n : ℕ) → share_under by field (row_in values n) ≡ group_of (values n)
  shares values n = of_value (values n)
    where
      of_value : (w : Option Stored) → share_under by field (elim w [ None ↦ None | Some x ↦ Some (shown x) ]) ≡ group_of w
      of_value None = refl
      of_value (Some x) = refl

  here : (j : ℕ) (g : Key) (x : Message) (xs : List Message) (t : Topic) → t ≡ Repartition a → cond (same_topic (Repartition a) t && nat_eq j (rules.part g (spread_of_topic p t))) (x ∷ xs) xs ≡ cond (nat_eq j (group_part g)) (x ∷ []) [] ++ xs
  here j g x xs t e = rw (e, (Decides-eqb a a).1 refl) (elim (nat_eq j (group_part g)) as (λ b. cond b (x ∷ xs) xs ≡ cond b (x ∷ []) [] ++ xs) [ true ↦ refl | false ↦ refl ])

  -- a row's amount has 64 bits
  abbrev InBits : Option (Key × ℤ) → Type 0
  InBits None = Unit {0}
  InBits (Some x) = as_i64 x.1 ≡ x.1

  share_bits : (row : Option Row) → InBits (share_under by field row)
  share_bits None = tt
  share_bits (Some row) = keyed (field_key by row)
    where
      keyed : (k : Option Key) → InBits (with_amount (amount_in field row) k)
      keyed None = tt
      keyed (Some k) = amount_bits field row

  abbrev pub leaves : ℕ → Option (Key × ℤ) → List Message
  leaves j old = leaves_at nat_list_cmp_total (slice_cmp-IsAntisymmetric nat_cmp-IsAntisymmetric) delta_means group_part share same_share share-is j old

  abbrev pub joins : ℕ → Option (Key × ℤ) → List Message
  joins j new = joins_at nat_list_cmp_total (slice_cmp-IsAntisymmetric nat_cmp-IsAntisymmetric) delta_means group_part share same_share share-is j new

  left_one : (j : ℕ) (x : Key × ℤ) (rest : List Message) → as_i64 x.1 ≡ x.1 →
      cond (nat_eq j (group_part x.0)) (Moved x.0 (record { add = false; amount = x.1 }) ∷ []) [] ++ rest ≡ leaves j (Some x) ++ rest
  left_one j x rest e = ap (λ z. cond (nat_eq j (group_part x.0)) (Moved x.0 (record { add = false; amount = z }) ∷ []) [] ++ rest) (sym e)

  join_one : (j : ℕ) (y : Key × ℤ) → as_i64 y.1 ≡ y.1 →
      cond (nat_eq j (group_part y.0)) (Moved y.0 (record { add = true; amount = y.1 }) ∷ []) [] ++ [] ≡ joins j (Some y)
  join_one j y e = append-nil _ ∙ ap (λ z. cond (nat_eq j (group_part y.0)) (Moved y.0 (record { add = true; amount = z }) ∷ []) []) (sym e)

  -- what goes to a partition, of the two messages
  sent_deltas : (j : ℕ) (old new : Option (Key × ℤ)) → InBits old → InBits new → picked rules p (at j) (send_deltas a (deltas_of false old ++ deltas_of true new)) ≡ leaves j old ++ joins j new
  sent_deltas j None None e h = refl
  sent_deltas j None (Some y) e h = here j y.0 (Moved y.0 (record { add = true; amount = y.1 })) [] (Repartition a) refl ∙ join_one j y h
  sent_deltas j (Some x) None e h = here j x.0 (Moved x.0 (record { add = false; amount = x.1 })) [] (Repartition a) refl ∙ left_one j x [] e
  sent_deltas j (Some x) (Some y) e h =
      here j x.0 (Moved x.0 (record { add = false; amount = x.1 })) _ (Repartition a) refl
      ∙ left_one j x _ e
      ∙ ap (λ l. leaves j (Some x) ++ l) (here j y.0 (Moved y.0 (record { add = true; amount = y.1 })) [] (Repartition a) refl ∙ join_one j y h)

  sent_rows : (j : ℕ) (old new : Option (Key × ℤ)) → InBits old → InBits new → picked rules p (at j) (send_deltas a (cond (same_share old new) [] (deltas_of false old ++ deltas_of true new))) ≡ deltas j old new
  sent_rows j old new e h = elim (same_share old new) as (λ b. picked rules p (at j) (send_deltas a (cond b [] (deltas_of false old ++ deltas_of true new))) ≡ cond b [] (leaves j old ++ joins j new)) [
    | true ↦ refl
    | false ↦ sent_deltas j old new e h
  ]

  module _ (stands : Stands_at a (TableAggregate f by field) 0 p.kinds) where
    -- a whole step sends to a partition of the topic what the input's row at the step's key leaves and joins
    step_sends : (st : Store) (x : Arrival) (j : ℕ) → picked rules p (at j) (whole_step rules p st x).sends
        ≡ deltas j (group_of (olds_at st (step_key x.item.message) f)) (group_of (news_at rules p x (items_from x (λ n. None) 0 p.kinds) (olds_at st (step_key x.item.message)) (step_key x.item.message) f))
    step_sends st x j =
        let items = items_from x (λ n. None) 0 p.kinds in
        let olds = olds_at st (step_key x.item.message) in
        let news = news_at rules p x items olds (step_key x.item.message) in
        own_topic rules p (at j) a (sends_at rules x items st olds news) (λ n k ne. picked_none rules p (at j) _ (avoids_sends (Repartition a) n (apart a n ne) rules x items st olds news k)) (TableAggregate f by field) 0 p.kinds stands
        ∙ sent_rows j (share_under by field (row_in olds f)) (share_under by field (row_in news f)) (share_bits (row_in olds f)) (share_bits (row_in news f))
        ∙ ap₂ (deltas j) (shares olds f) (shares news f)

    RowsSent-more : (n : ℕ) (table : FinMap by_bytes Stored) (sent : ℕ → List Message) → RowsSent n table sent → RowsSent (suc n) table (λ j. sent j ++ [])
    RowsSent-more n table sent h = subst (RowsSent (suc n) table) (λ i j. sym (append-nil (sent j)) i) (record {
      few = omega (arith, h.few);
      members = h.members;
      amounts = h.amounts;
      begins = λ g ys b. let s = h.begins g ys b in record { rows = s.rows; few = omega (arith, s.few); members = s.members; amounts = s.amounts };
    })

    -- one step, by its key
    by_key : (n : ℕ) (st : Store) (x : Arrival) (sent : ℕ → List Message) → RowsSent n (st.tables f) sent → (key : Option Key) (items : ℕ → Option StreamItem) →
        RowsSent (suc n) (tables_after st (news_at rules p x items (olds_at st key) key) key f) (λ j. sent j ++ deltas j (group_of (olds_at st key f)) (group_of (news_at rules p x items (olds_at st key) key f)))
    by_key n st x sent h None items = RowsSent-more n (st.tables f) sent h
    by_key n st x sent h (Some k) items = Sender-step nat_list_cmp_total (slice_cmp-IsAntisymmetric nat_cmp-IsAntisymmetric) delta_means group_part share same_share share-is n (st.tables f) sent h k (news_at rules p x items (olds_at st (Some k)) (Some k) f)

    -- all that a task has sent to the partitions of the topic
    abbrev pub sent_by : Outcome Place Store Item → ℕ → List Message
    sent_by o j = messages (sent_to (machine rules p) (at j) o.made)

    one_step : (u : TaskId) (n : ℕ) (o : Outcome Place Store Item) (t : Taken TaskId Place Item) → RowsSent n (o.store.tables f) (sent_by o) →
        RowsSent (suc n) ((after (machine rules p) o (step rules p u o.store t.place t.item)).store.tables f) (sent_by (after (machine rules p) o (step rules p u o.store t.place t.item)))
    one_step u n o t h =
        let x : Arrival = arrival p t.place t.item in
        let made = whole_step rules p o.store x in
        let key = step_key t.item.message in
        subst (RowsSent (suc n) (made.store.tables f))
        (λ i j. sym (ap messages (sent_to-append (machine rules p) (at j) o.made (step rules p u o.store t.place t.item).made) ∙ messages-append (sent_to (machine rules p) (at j) o.made) _
        ∙ ap (λ l. sent_by o j ++ l) (made_is rules p u o.store t.place (at j) t.item refl ∙ step_sends o.store x j)) i)
        (by_key n o.store x (sent_by o) h key (items_from x (λ n. None) 0 p.kinds))

    begins_nothing : (ys : List Message) → Begins [] ys → [] ≡ ys
    begins_nothing [] b = refl
    begins_nothing (y ∷ ys) b = absurd (cc (b.1))

    nothing_sent : RowsSent 0 fin.empty (λ j. [])
    nothing_sent = record {
      few = rw (fin.len-empty by_bytes Stored) (omega arith);
      members = λ g. rw (total-empty by_bytes (λ x. member by_bytes g (share x))) refl;
      amounts = λ g. rw (total-empty by_bytes (λ x. amount by_bytes row_bits g (share x))) refl;
      begins = λ g ys b. subst (Stands nat_list_cmp_total (slice_cmp-IsAntisymmetric nat_cmp-IsAntisymmetric) delta_means group_part share same_share share-is g 0) (begins_nothing ys b) (record {
        rows = fin.empty;
        few = rw (fin.len-empty by_bytes Stored) (omega arith);
        members = rw (total-empty by_bytes (λ x. member by_bytes g (share x))) refl;
        amounts = rw (total-empty by_bytes (λ x. amount by_bytes row_bits g (share x))) refl;
      });
    }

    -- of a task's own steps: its rows of the input are what it has sent
    pub rows_sent : (u : TaskId) (ts : List (Taken TaskId Place Item)) →
        RowsSent (steps (machine rules p) u ts) ((local (machine rules p) u empty_store ts).store.tables f) (sent_by (local (machine rules p) u empty_store ts))
    rows_sent u ts = kept_from_start (machine rules p) u (λ n o. RowsSent n (o.store.tables f) (sent_by o)) (λ n o t b h. one_step u n o t h) nothing_sent ts
