use Rattle.std.proofs.Common.{◌≡◌, List, subst, IfOk}
use Rattle.ks_plan.specs.Drafts.{op_view}
use Rattle.ks_cluster.specs.View.{state_of}
use Rattle.ks_query.specs.declared.table.TableRow.{TableRow}
use Rattle.ks_settle.specs.Rows.{op_as}
use Rattle.ks_settle.proofs.Parted.{all_rows}
use Rattle.ks_settle.proofs.rows.table_rows.Goals as goal

pub returns : goal.returns
returns g c =
    let e = all_rows (op_as c.form_of.result) (op_view c.args.op.now) c.form_of.ensures (state_of g.W.Work.plan c.args.cluster.now) c.args.topic c.args.parts in
    subst (λ (rows : List TableRow). IfOk c.rows_from.result (λ v. v.items ≡ rows)) e c.rows_from.ensures
