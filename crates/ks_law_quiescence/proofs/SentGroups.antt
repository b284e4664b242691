-- Table aggregates, sender by sender: what deltas sum to is what the rows of now do, and each beginning of them is that of some rows.
use Rattle.std.proofs.Common.{◌≡◌, ℕ, ◌+◌, ◌%◌, ◌^◌, ◌<◌, ◌≤◌, true, false, cond, List, length, [], ◌∷◌, ◌++◌, map, Option, Some, refl, sym, ap, ap₂, subst, ◌∙◌, arith, append_assoc}
use Rattle.std.specs.Prelude.{pos}
use Rattle.std.specs.Int.{w64, IsNonNegative}
use Rattle.std.proofs.lemmas.Int.{to_z_pos}
use Rattle.ks_record.specs.declared.record.TaskId.{TaskId}
use Rattle.ks_plan.specs.Plan.{Plan}
use Rattle.ks_plan.specs.Plan.Kind.{TableAggregate}
use Rattle.ks_def_runs.specs.FinMap as fin
use Rattle.ks_def_runs.specs.FinMap.{FinMap}
use Rattle.ks_def_runs.specs.Table.{sum_of, total}
use Rattle.ks_def_runs.specs.Bytes.{by_bytes}
use Rattle.ks_query.specs.Streams.{Key, Input}
use Rattle.ks_def_runs.specs.Run.{Machine, Taken, RunState, Follows, received, sent, local}
use Rattle.ks_def_runs.proofs.Sums.{sum_map, steps}
use Rattle.ks_def_tasks.specs.Messages.{Place, Stored, shown, Item, Store, Rules}
use Rattle.ks_def_tasks.specs.Tasks.{machine, inputs_of, empty_store}
use Rattle.ks_law_quiescence.specs.Groups.{sum_of_deltas, sum_of_group, rows_of, IsOfRows}
use Rattle.ks_law_topology.specs.Taken.{messages}
use Rattle.ks_law_quiescence.proofs.Bits.{of_bits, of_sums}
use Rattle.ks_law_quiescence.proofs.Counted.{sum_of_deltas-is, sum_of_group-is, row_member, row_amount}
use Rattle.ks_law_topology.proofs.Mixed.{messages-append, Stands_at}
use Rattle.ks_law_quiescence.proofs.Received.{group_place, sum_of-le, member-le, none_no_amount}
use Rattle.ks_law_quiescence.proofs.Regrouped.{members_in, total_in, share, row_bits, rows_sent}
use Rattle.ks_law_quiescence.proofs.Sender.{member, amount}

rows_sum : {A : Type 0} (f : Key × A → ℕ) (h : Stored → A) (es : List (Key × Stored)) → sum_map f (map (λ e. (e.0, h e.1)) es) ≡ sum_map (λ e. f (e.0, h e.1)) es
rows_sum f h [] = refl
rows_sum f h (e ∷ es) = ap (λ n. f (e.0, h e.1) + n) (rows_sum f h es)

as_sum : (f : Stored → ℕ) (es : List (Key × Stored)) → sum_of by_bytes f es ≡ sum_map (λ e. f e.1) es
as_sum f [] = refl
as_sum f (e ∷ es) = ap (λ n. f e.1 + n) (as_sum f es)

pub steps-le : {Task Place Store Item : Type 0} (m : Machine Task Place Store Item) (u : Task) (ts : List (Taken Task Place Item)) → steps m u ts ≤ length ts
steps-le m u [] = omega arith
steps-le m u (t ∷ ts) =
    let rest = steps-le m u ts in
    elim (m.same_task u (m.reader t.place)) as (λ b. cond b 1 0 + steps m u ts ≤ length (t ∷ ts)) [ true ↦ omega arith | false ↦ omega arith ]

module _ (rules : Rules) (p : Plan) (a f : ℕ) (by : List ℕ) (field : Option (List ℕ)) (stands : Stands_at a (TableAggregate f by field) 0 p.kinds) (records : List Input) (st : RunState TaskId Place Store Item) (follows : Follows (machine rules p) (inputs_of rules p records) st) (s : TaskId) (g : Key) where
  abbrev q : Place
  q = group_place rules p a f by field stands records g

  abbrev table : FinMap by_bytes Stored
  table = (st.stores s).tables f

  -- the table's shares are those of its rows
  pub table_members : total by_bytes (λ x. member by_bytes g (share rules p a f by field x)) table ≡ sum_map (λ e. row_member by field g e.1) (rows_of st s f)
  table_members = as_sum (λ x. member by_bytes g (share rules p a f by field x)) (fin.entries table) ∙ sym (rows_sum (λ e. row_member by field g e.1) shown (fin.entries table))

  pub table_amounts : total by_bytes (λ x. amount by_bytes row_bits g (share rules p a f by field x)) table ≡ sum_map (λ e. row_amount by field g e.1) (rows_of st s f)
  table_amounts = as_sum (λ x. amount by_bytes row_bits g (share rules p a f by field x)) (fin.entries table) ∙ sym (rows_sum (λ e. row_amount by field g e.1) shown (fin.entries table))

  own_table : table ≡ (local (machine rules p) s empty_store st.taken).store.tables f
  own_table = ap (λ (o : Store). o.tables f) (follows.stores s)

  pub sent_members : sum_map (members_in g) (messages (received (machine rules p) (Some s) q st.taken ++ st.waiting (Some s) q)) % 2 ^ 64 ≡ sum_map (λ e. row_member by field g e.1) (rows_of st s f) % 2 ^ 64
  sent_members = ap (λ l. sum_map (members_in g) (messages l) % 2 ^ 64) (sym (follows.flow (Some s) q)) ∙ (rows_sent rules p a f by field stands s st.taken).members g
      ∙ ap (λ t. total by_bytes (λ x. member by_bytes g (share rules p a f by field x)) t % 2 ^ 64) (sym own_table) ∙ ap (λ n. n % 2 ^ 64) table_members

  pub sent_amounts : sum_map (total_in g) (messages (received (machine rules p) (Some s) q st.taken ++ st.waiting (Some s) q)) % 2 ^ 64 ≡ sum_map (λ e. row_amount by field g e.1) (rows_of st s f) % 2 ^ 64
  sent_amounts = ap (λ l. sum_map (total_in g) (messages l) % 2 ^ 64) (sym (follows.flow (Some s) q)) ∙ (rows_sent rules p a f by field stands s st.taken).amounts g
      ∙ ap (λ t. total by_bytes (λ x. amount by_bytes row_bits g (share rules p a f by field x)) t % 2 ^ 64) (sym own_table) ∙ ap (λ n. n % 2 ^ 64) table_amounts

  pub deltas_are_rows : sum_of_deltas g (messages (received (machine rules p) (Some s) q st.taken ++ st.waiting (Some s) q)) ≡ sum_of_group by field (rows_of st s f) g
  deltas_are_rows = sum_of_deltas-is g _ ∙ ap₂ of_sums sent_members sent_amounts ∙ sym (sum_of_group-is by field g (rows_of st s f))

  -- a task has no more rows than it made steps
  pub few_rows : sum_map (λ e. row_member by field g e.1) (rows_of st s f) ≤ steps (machine rules p) s st.taken
  few_rows =
      let few = (rows_sent rules p a f by field stands s st.taken).few in
      let own = ap fin.len own_table in
      omega (arith, table_members, fin.len-entries table, sum_of-le (λ x. member by_bytes g (share rules p a f by field x)) (λ x. member-le g (share rules p a f by field x)) (fin.entries table))

  pub each_beginning : length st.taken < 2 ^ 48 → (beginning rest : List Item) → st.waiting (Some s) q ≡ beginning ++ rest → IsOfRows (sum_of_deltas g (messages (received (machine rules p) (Some s) q st.taken ++ beginning)))
  each_beginning few beginning rest e =
      let got = received (machine rules p) (Some s) q st.taken in
      let ms = messages (got ++ beginning) in
      let split : messages (sent (machine rules p) (inputs_of rules p records) st.taken (Some s) q) ≡ ms ++ messages rest =
      ap messages (follows.flow (Some s) q ∙ ap (λ l. got ++ l) e ∙ sym (append_assoc got beginning rest)) ∙ messages-append (got ++ beginning) rest in
      let h = (rows_sent rules p a f by field stands s st.taken).begins g ms (messages rest, split) in
      let count = total by_bytes (λ x. member by_bytes g (share rules p a f by field x)) h.rows in
      let le = sum_of-le (λ x. member by_bytes g (share rules p a f by field x)) (λ x. member-le g (share rules p a f by field x)) (fin.entries h.rows) in
      let small : count < 2 ^ 48 = omega (arith, h.few, fin.len-entries h.rows, steps-le (machine rules p) s st.taken) in
      let same : sum_map (members_in g) ms % 2 ^ 64 ≡ count = h.members ∙ small_mod count small in
      let signed : of_bits (sum_map (members_in g) ms % 2 ^ 64) ≡ pos count = ap of_bits same ∙ to_z_pos w64 count (below count small) in
      subst IsOfRows (sym (sum_of_deltas-is g ms)) (record {
        members = subst IsNonNegative (sym signed) tt;
        nothing_left = λ z.
            let none : count ≡ 0 = of_pos (sym signed ∙ z) in
            let amounts = none_no_amount g (share rules p a f by field) (fin.entries h.rows) none in
            ap of_bits (h.amounts ∙ ap (λ n. n % 2 ^ 64) amounts);
      })
    where
      small_mod : (n : ℕ) → n < 2 ^ 48 → n % 2 ^ 64 ≡ n
      small_mod n lt = omega arith

      below : (n : ℕ) → n < 2 ^ 48 → n < 2 ^ 63
      below n lt = omega arith

      of_pos : {n : ℕ} → pos n ≡ pos 0 → n ≡ 0
      of_pos e = cc
