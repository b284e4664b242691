use Rattle.std.proofs.Common.{ℕ, List, ap, subst, sym, ◌∙◌, arith}
use Rattle.ks_def_runs.specs.Bytes.{Store}
use Rattle.ks_def_runs.specs.FinMap as fin
use Rattle.ks_record.specs.Bytes.{IsBytes}
use Rattle.std.specs.Prelude.{is_some}
use Rattle.ks_store.specs.Groups.{front_in, groups_of}
use Rattle.ks_store.specs.Rows.{row_store}
use Rattle.ks_store.proofs.Tables.{store_in, start_of_store, as_before, had_listed, put_row, put_table, map_as_before, undone_table}
use Rattle.ks_store.proofs.table.Table.put.Goals as goal

-- the key had a row, so it is listed
pub invariant_of-self-then-branch : goal.invariant_of-self-then-branch
invariant_of-self-then-branch c =
    let groups = groups_of c.self.inside.groups.entries in (
      put_table c.self.inside.rows.rows c.put_row.new.rows.rows groups groups c.args.key.now c.in_ok-value.value
          c.in_ok-put_row.ensures.ok c.in_ok-put_row.ensures.len c.self.invariant.0.0.0
          (as_before c.args.key.now (is_some (front_in c.args.key.now)) groups (had_listed c.self.inside.rows.rows groups c.args.key.now c.self.invariant.0.0.1 (sym c.in_ok-put_row.ensures.had ∙ c.if-branch.true)))
          ((λ i. omega (arith, c.type_inv.key i)), subst IsBytes (sym c.in_ok-value.ensures) (λ i. omega (arith, c.type_inv.value i)))
          c.self.invariant.0,
      c.self.invariant.1 ∙ sym c.put_row.ensures.start,
    )

pub returns-then-branch-clause-ok : goal.returns-then-branch-clause-ok
returns-then-branch-clause-ok c =
    put_row c.self.inside.rows.rows c.put_row.new.rows.rows c.args.key.now c.in_ok-value.value c.in_ok-put_row.ensures.ok
    ∙ (ap (λ (v : List ℕ). fin.insert (row_store c.self.inside.rows.rows) c.args.key.now v) c.in_ok-value.ensures ∙ ap (λ (m : Store). fin.insert m c.args.key.now c.args.value.now) (ap store_in c.self.view_is))

-- a new key is listed
pub invariant_of-self-in-Ok : goal.invariant_of-self-in-Ok
invariant_of-self-in-Ok c = (
  put_table c.self.inside.rows.rows c.put_row.new.rows.rows (groups_of c.self.inside.groups.entries) (groups_of c.list_key.new.groups.entries) c.args.key.now c.in_ok-value.value
      c.in_ok-put_row.ensures.ok c.in_ok-put_row.ensures.len c.list_key.ensures.groups c.in-Ok.ensures.ok
      ((λ i. omega (arith, c.type_inv.key i)), subst IsBytes (sym c.in_ok-value.ensures) (λ i. omega (arith, c.type_inv.value i)))
      c.self.invariant.0,
  c.list_key.ensures.start ∙ (c.self.invariant.1 ∙ sym c.put_row.ensures.start),
)

pub returns-in-Ok-clause-ok : goal.returns-in-Ok-clause-ok
returns-in-Ok-clause-ok c =
    put_row c.self.inside.rows.rows c.put_row.new.rows.rows c.args.key.now c.in_ok-value.value c.in_ok-put_row.ensures.ok
    ∙ (ap (λ (v : List ℕ). fin.insert (row_store c.self.inside.rows.rows) c.args.key.now v) c.in_ok-value.ensures ∙ ap (λ (m : Store). fin.insert m c.args.key.now c.args.value.now) (ap store_in c.self.view_is))

-- or its row is taken out again
pub invariant_of-self-in-Err : goal.invariant_of-self-in-Err
invariant_of-self-in-Err c = (
  undone_table c.self.inside.rows.rows c.put_row.new.rows.rows c.take_row.new.rows.rows c.args.key.now c.in_ok-value.value (sym c.in_ok-put_row.ensures.had ∙ c.if-branch.false)
      c.in_ok-put_row.ensures.ok c.take_row.ensures.gone (groups_of c.self.inside.groups.entries) (groups_of c.list_key.new.groups.entries)
      c.in_ok-put_row.ensures.len c.take_row.ensures.len c.list_key.ensures.groups c.in-Err.ensures.err c.self.invariant.0,
  c.list_key.ensures.start ∙ (c.self.invariant.1 ∙ sym (c.take_row.ensures.start ∙ c.put_row.ensures.start)),
)

pub returns-in-Err-clause-err : goal.returns-in-Err-clause-err
returns-in-Err-clause-err c =
    map_as_before c.self.inside.rows.rows c.put_row.new.rows.rows c.take_row.new.rows.rows c.args.key.now c.in_ok-value.value (sym c.in_ok-put_row.ensures.had ∙ c.if-branch.false)
    c.in_ok-put_row.ensures.ok c.take_row.ensures.gone
    ∙ ap store_in c.self.view_is

pub returns-in-Err-clause-start : goal.returns-in-Err-clause-start
returns-in-Err-clause-start c = c.take_row.ensures.start ∙ (c.put_row.ensures.start ∙ ap start_of_store c.self.view_is)
