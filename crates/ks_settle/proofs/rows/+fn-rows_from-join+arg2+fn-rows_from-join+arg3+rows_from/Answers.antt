use Rattle.std.proofs.Common.{◌≡◌, ◌+◌, ◌-◌, ◌/◌, ℕ, List, [], map, subst, refl, IfOk, arith}
use Rattle.ks_cluster.specs.View.{state_of}
use Rattle.ks_query.specs.declared.table.TableRow.{TableRow}
use Rattle.ks_query.specs.Printed.{plain_row}
use Rattle.ks_settle.specs.Rows.{op_as, put_parts, parts_from}
use Rattle.ks_settle.proofs.Parted.{rows_of_two}
use Rattle.ks_settle.proofs.rows.+fn-rows_from-join+arg2+fn-rows_from-join+arg3+rows_from.Goals as goal

pub returns : goal.returns
returns g t c =
    let s = state_of g.W.Work.plan c.args.cluster.now in
    let op = op_as c.args.log.form in
    let rows : ℕ → ℕ → List TableRow = λ from count. map plain_row (put_parts op s c.args.log.topic [] (parts_from from count)) in
    let from = c.args.from in
    let count = c.args.count in
    let half = count / 2 in
    let early = subst (λ r. IfOk r (λ v. v.items ≡ rows from half)) {x = c.join-earlier.result.0} c.in_ok-earlier.was c.join-earlier.ensures.first in
    let late = subst (λ r. IfOk r (λ v. v.items ≡ rows (from + half) (count - half))) {x = c.join-earlier.result.1} c.in_ok-later.was c.join-earlier.ensures.second in
    subst (λ (xs : List TableRow). IfOk c.merge_rows.result (λ v. v.items ≡ xs))
    (rows_of_two op s c.args.log.topic from count half (from + half) (count - half) c.in_ok-earlier.field-0.items c.in_ok-later.field-0.items refl (omega arith) early late)
    c.merge_rows.ensures
