-- Groups counted: what deltas sum to, and what the query counts, both as bits.
use Rattle.std.proofs.Common.{◌≡◌, ℕ, zero, suc, ◌+◌, ◌%◌, ◌^◌, ◌<◌, Bool, true, false, cond, List, [], ◌∷◌, Option, Some, None, fold, refl, sym, ap, ap₂, ◌∙◌, arith}
use Rattle.std.specs.Prelude.{ℤ, option_map}
use Rattle.std.specs.Ordering.{eq_by_cmp}
use Rattle.std.specs.Cmp.Lexicographic.{nat_list_cmp_total}
use Rattle.std.specs.FinMap.{slice_cmp-IsAntisymmetric, nat_cmp-IsAntisymmetric}
use Rattle.ks_row.specs.FieldKeys.{field_key}
use Rattle.ks_expr.specs.Eval.{Row, same_bytes}
use Rattle.ks_wire.specs.declared.values.Agg.{Agg}
use Rattle.ks_def_runs.specs.FinMap as fin
use Rattle.ks_def_runs.specs.FinMap.{FinMap}
use Rattle.ks_def_runs.specs.Bytes.{by_bytes}
use Rattle.ks_def_runs.proofs.Tables.{equal, get-write}
use Rattle.ks_query.specs.Streams.{Key, with_some}
use Rattle.ks_query.specs.Query.{add_to, grouped_rows}
use Rattle.ks_query.specs.Aggregates.{amount_in, with_amount, or_nothing, plus, moved, stream_add, share_under}
use Rattle.ks_def_tasks.specs.Messages.{Message}
use Rattle.ks_def_tasks.specs.Messages.Message.{Given, Keyed, Moved, Asked, Answered, Kept, KeptCount, KeptTime, KeptHash}
use Rattle.ks_def_runs.proofs.Sums.{sum_map}
use Rattle.ks_law_quiescence.specs.Groups.{one_moved, sum_of_deltas, sum_of_group}
use Rattle.ks_law_quiescence.proofs.Bits.{bits_of, of_sums, delta_members, delta_amount, moved_bits}
use Rattle.ks_law_quiescence.proofs.Regrouped.{members_in, total_in, row_bits, amount_bits}
use Rattle.ks_law_quiescence.proofs.Sender.{member, amount}

below_mod : (n : ℕ) → n % 2 ^ 64 < 2 ^ 64
below_mod n = omega arith

-- ---- deltas
one_moved-is : (g : Key) (x y : ℕ) (m : Message) → one_moved g (of_sums (x % 2 ^ 64) (y % 2 ^ 64)) m ≡ of_sums ((x + members_in g m) % 2 ^ 64) ((y + total_in g m) % 2 ^ 64)
one_moved-is g x y (Moved h d) = elim (same_bytes g h) as (λ b. cond b (moved (of_sums (x % 2 ^ 64) (y % 2 ^ 64)) d) (of_sums (x % 2 ^ 64) (y % 2 ^ 64)) ≡ of_sums ((x + cond b (delta_members d) 0) % 2 ^ 64) ((y + cond b (delta_amount d) 0) % 2 ^ 64)) [
  | true ↦ moved_bits (x % 2 ^ 64) (y % 2 ^ 64) d (below_mod x) (below_mod y) ∙ ap₂ of_sums (omega arith) (omega arith)
  | false ↦ ap₂ of_sums (omega arith) (omega arith)
]
one_moved-is g x y (Given k v) = ap₂ of_sums (omega arith) (omega arith)
one_moved-is g x y (Keyed k v) = ap₂ of_sums (omega arith) (omega arith)
one_moved-is g x y (Asked b k s) = ap₂ of_sums (omega arith) (omega arith)
one_moved-is g x y (Answered k r) = ap₂ of_sums (omega arith) (omega arith)
one_moved-is g x y (Kept k w) = ap₂ of_sums (omega arith) (omega arith)
one_moved-is g x y (KeptCount k w) = ap₂ of_sums (omega arith) (omega arith)
one_moved-is g x y (KeptTime t) = ap₂ of_sums (omega arith) (omega arith)
one_moved-is g x y (KeptHash b k h) = ap₂ of_sums (omega arith) (omega arith)

deltas_from : (g : Key) (x y : ℕ) (ms : List Message) → fold (one_moved g) (of_sums (x % 2 ^ 64) (y % 2 ^ 64)) ms ≡ of_sums ((x + sum_map (members_in g) ms) % 2 ^ 64) ((y + sum_map (total_in g) ms) % 2 ^ 64)
deltas_from g x y [] = ap₂ of_sums (omega arith) (omega arith)
deltas_from g x y (m ∷ ms) =
    ap (λ a. fold (one_moved g) a ms) (one_moved-is g x y m) ∙ deltas_from g (x + members_in g m) (y + total_in g m) ms
    ∙ ap₂ of_sums (omega arith) (omega arith)

pub sum_of_deltas-is : (g : Key) (ms : List Message) → sum_of_deltas g ms ≡ of_sums (sum_map (members_in g) ms % 2 ^ 64) (sum_map (total_in g) ms % 2 ^ 64)
sum_of_deltas-is g ms = deltas_from g 0 0 ms ∙ ap₂ of_sums (omega arith) (omega arith)

-- ---- the query's groups: none without a row
abbrev pub counted : ℕ → ℕ → Option Agg
counted zero y = None
counted (suc n) y = Some (of_sums (suc n % 2 ^ 64) (y % 2 ^ 64))

pub or_nothing-counted : (x y : ℕ) → (x ≡ 0 → y ≡ 0) → or_nothing (counted x y) ≡ of_sums (x % 2 ^ 64) (y % 2 ^ 64)
or_nothing-counted zero y f = ap (λ n. of_sums 0 (n % 2 ^ 64)) (sym (f refl))
or_nothing-counted (suc x) y f = refl

-- one more row of a group
pub add_counted : (field : Option (List ℕ)) (x y : ℕ) (row : Row) → (x ≡ 0 → y ≡ 0) → Some (stream_add field (counted x y) row) ≡ counted (x + 1) (y + row_bits (amount_in field row))
add_counted field x y row f =
    let old = or_nothing-counted x y f in
    let bits : row_bits (amount_in field row) ≡ bits_of (amount_in field row) = ap bits_of (amount_bits field row) in
    let next : plus (of_sums (x % 2 ^ 64) (y % 2 ^ 64)) (amount_in field row) ≡ of_sums ((x % 2 ^ 64 + 1) % 2 ^ 64) ((y % 2 ^ 64 + bits_of (amount_in field row) % 2 ^ 64) % 2 ^ 64) =
    moved_bits (x % 2 ^ 64) (y % 2 ^ 64) (record { add = true; amount = amount_in field row }) (below_mod x) (below_mod y) in
    let sums : of_sums ((x % 2 ^ 64 + 1) % 2 ^ 64) ((y % 2 ^ 64 + bits_of (amount_in field row) % 2 ^ 64) % 2 ^ 64) ≡ of_sums (suc x % 2 ^ 64) ((y + row_bits (amount_in field row)) % 2 ^ 64) = ap₂ of_sums (omega arith) (omega arith) in
    let number : suc x ≡ x + 1 = omega arith in
    ap (λ a. Some (plus a (amount_in field row))) old ∙ ap (λ a. Some a) (next ∙ sums) ∙ ap (λ n. counted n (y + row_bits (amount_in field row))) number

module _ (by : List ℕ) (field : Option (List ℕ)) (g : Key) where
  abbrev pub row_member : Row → ℕ
  row_member row = member by_bytes g (share_under by field (Some row))

  abbrev pub row_amount : Row → ℕ
  row_amount row = amount by_bytes row_bits g (share_under by field (Some row))

  -- what a row adds to the group
  pub one_added : (m : FinMap by_bytes Agg) (x y : ℕ) (row : Row) (k : Option Key) → (x ≡ 0 → y ≡ 0) → fin.get m g ≡ counted x y →
      fin.get (fold (add_to {R = by_bytes} field) m (with_some (option_map (λ h. (h, row)) k) [])) g
      ≡ counted (x + member by_bytes g (with_amount (amount_in field row) k)) (y + amount by_bytes row_bits g (with_amount (amount_in field row) k))
  one_added m x y row None f e = e ∙ ap₂ counted (omega arith) (omega arith)
  one_added m x y row (Some h) f e =
      get-write nat_list_cmp_total m h (Some (stream_add field (fin.get m h) row)) g
      ∙ elim (eq_by_cmp by_bytes g h) as (λ b. eq_by_cmp by_bytes g h ≡ b → cond b (Some (stream_add field (fin.get m h) row)) (fin.get m g) ≡ counted (x + cond b 1 0) (y + cond b (row_bits (amount_in field row)) 0)) [
        | true ↦ λ b.
            let is : g ≡ h = slice_cmp-IsAntisymmetric nat_cmp-IsAntisymmetric g h (equal _ b) in
            ap (λ k. Some (stream_add field (fin.get m k) row)) (sym is) ∙ ap (λ w. Some (stream_add field w row)) e ∙ add_counted field x y row f
        | false ↦ λ b. e ∙ ap₂ counted (omega arith) (omega arith)
      ] refl

  none_adds : (s : Option (Key × ℤ)) → member by_bytes g s ≡ 0 → amount by_bytes row_bits g s ≡ 0
  none_adds None e = refl
  none_adds (Some s) e = by_case (eq_by_cmp by_bytes g s.0) e
    where
      by_case : (b : Bool) → cond {A = ℕ} b 1 0 ≡ 0 → cond b (row_bits s.1) 0 ≡ 0
      by_case true e = absurd (omega arith)
      by_case false e = refl

  rows_added : (m : FinMap by_bytes Agg) (x y : ℕ) (rows : List (Key × Row)) → (x ≡ 0 → y ≡ 0) → fin.get m g ≡ counted x y →
      fin.get (fold (add_to {R = by_bytes} field) m (grouped_rows by rows)) g ≡ counted (x + sum_map (λ e. row_member e.1) rows) (y + sum_map (λ e. row_amount e.1) rows)
  rows_added m x y [] f e = e ∙ ap₂ counted (omega arith) (omega arith)
  rows_added m x y (r ∷ rows) f e =
      let next = fold (add_to {R = by_bytes} field) m (with_some (option_map (λ h. (h, r.1)) (field_key by r.1)) []) in
      let here = one_added m x y r.1 (field_key by r.1) f e in
      let still : x + row_member r.1 ≡ 0 → y + row_amount r.1 ≡ 0 = λ z.
      let none = none_adds (share_under by field (Some r.1)) (omega arith) in
      let before = f (omega arith) in
      omega arith in
      in_two (option_map (λ h. (h, r.1)) (field_key by r.1)) ∙ rows_added next (x + row_member r.1) (y + row_amount r.1) rows still here ∙ ap₂ counted (omega arith) (omega arith)
    where
      in_two : (k : Option (Key × Row)) → fin.get (fold (add_to {R = by_bytes} field) m (with_some k (grouped_rows by rows))) g ≡ fin.get (fold (add_to {R = by_bytes} field) (fold (add_to {R = by_bytes} field) m (with_some k [])) (grouped_rows by rows)) g
      in_two None = refl
      in_two (Some k) = refl

  pub group_counted : (rows : List (Key × Row)) → fin.get (fold (add_to {R = by_bytes} field) fin.empty (grouped_rows by rows)) g ≡ counted (sum_map (λ e. row_member e.1) rows) (sum_map (λ e. row_amount e.1) rows)
  group_counted rows = rows_added fin.empty 0 0 rows (λ e. refl) (fin.get-empty by_bytes g) ∙ ap₂ counted (omega arith) (omega arith)

  pub no_rows_no_amount : (rows : List (Key × Row)) → sum_map (λ e. row_member e.1) rows ≡ 0 → sum_map (λ e. row_amount e.1) rows ≡ 0
  no_rows_no_amount [] e = refl
  no_rows_no_amount (r ∷ rows) e =
      let here = none_adds (share_under by field (Some r.1)) (omega arith) in
      let rest = no_rows_no_amount rows (omega arith) in
      omega arith

  pub sum_of_group-is : (rows : List (Key × Row)) → sum_of_group by field rows g ≡ of_sums (sum_map (λ e. row_member e.1) rows % 2 ^ 64) (sum_map (λ e. row_amount e.1) rows % 2 ^ 64)
  sum_of_group-is rows = ap or_nothing (group_counted rows) ∙ or_nothing-counted _ _ (no_rows_no_amount rows)
