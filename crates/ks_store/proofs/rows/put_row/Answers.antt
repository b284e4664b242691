use Rattle.std.proofs.Common.{Some, ap, sym, ◌∙◌}
use Rattle.ks_store.proofs.Applied.{on_ok}
use Rattle.ks_store.proofs.Tables.{rows_in, start_in, put_short_apart, put_long_apart, whole_short, whole_long, more_short, more_long, had_short, had_long}
use Rattle.ks_store.proofs.rows.put_row.Goals as goal

pub invariant_of-rows : goal.invariant_of-rows
invariant_of-rows c = (
  put_short_apart c.put_short.result c.rows.inside.short.entries c.put_short.new.rows.entries c.rows.inside.long.entries c.args.key.now c.args.value c.if-key-le-MAX_SHORT.true c.put_short.ensures.ok
      c.put_short.ensures.err c.rows.invariant.0,
  c.rows.invariant.1 ∙ sym c.put_short.ensures.start,
)

pub invariant_of-rows-else-key-le-MAX_SHORT : goal.invariant_of-rows-else-key-le-MAX_SHORT
invariant_of-rows-else-key-le-MAX_SHORT c = (
  put_long_apart c.put_long.result c.rows.inside.short.entries c.rows.inside.long.entries c.put_long.new.rows.entries c.args.key.now c.args.value c.if-key-le-MAX_SHORT.false c.put_long.ensures.ok
      c.put_long.ensures.err c.rows.invariant.0,
  c.put_long.ensures.start ∙ c.rows.invariant.1,
)

pub returns-then-key-le-MAX_SHORT-clause-ok : goal.returns-then-key-le-MAX_SHORT-clause-ok
returns-then-key-le-MAX_SHORT-clause-ok c =
    on_ok c.put_short.result
    (whole_short c.rows.inside.short.entries c.put_short.new.rows.entries c.rows.inside.long.entries c.args.rows.now.rows c.args.key.now (Some c.args.value) c.if-key-le-MAX_SHORT.true c.rows.invariant.0 (ap rows_in c.rows.view_is))
    c.put_short.ensures.ok

pub returns-then-key-le-MAX_SHORT-clause-len : goal.returns-then-key-le-MAX_SHORT-clause-len
returns-then-key-le-MAX_SHORT-clause-len c =
    on_ok c.put_short.result
    (more_short c.rows.inside.short.entries c.put_short.new.rows.entries c.rows.inside.long.entries c.args.rows.now.rows c.args.key.now c.if-key-le-MAX_SHORT.true c.rows.invariant.0 (ap rows_in c.rows.view_is))
    c.put_short.ensures.len

pub returns-else-key-le-MAX_SHORT-clause-ok : goal.returns-else-key-le-MAX_SHORT-clause-ok
returns-else-key-le-MAX_SHORT-clause-ok c =
    on_ok c.put_long.result
    (whole_long c.rows.inside.short.entries c.rows.inside.long.entries c.put_long.new.rows.entries c.args.rows.now.rows c.args.key.now (Some c.args.value) c.if-key-le-MAX_SHORT.false c.rows.invariant.0 (ap rows_in c.rows.view_is))
    c.put_long.ensures.ok

pub returns-else-key-le-MAX_SHORT-clause-len : goal.returns-else-key-le-MAX_SHORT-clause-len
returns-else-key-le-MAX_SHORT-clause-len c =
    on_ok c.put_long.result
    (more_long c.rows.inside.short.entries c.rows.inside.long.entries c.put_long.new.rows.entries c.args.rows.now.rows c.args.key.now c.if-key-le-MAX_SHORT.false c.rows.invariant.0 (ap rows_in c.rows.view_is))
    c.put_long.ensures.len

pub returns-then-key-le-MAX_SHORT-clause-had : goal.returns-then-key-le-MAX_SHORT-clause-had
returns-then-key-le-MAX_SHORT-clause-had c =
    had_short c.put_short.result c.rows.inside.short.entries c.rows.inside.long.entries c.args.rows.now.rows c.args.key.now c.if-key-le-MAX_SHORT.true c.rows.invariant.0 (ap rows_in c.rows.view_is) c.put_short.ensures.had

pub returns-else-key-le-MAX_SHORT-clause-had : goal.returns-else-key-le-MAX_SHORT-clause-had
returns-else-key-le-MAX_SHORT-clause-had c =
    had_long c.put_long.result c.rows.inside.short.entries c.rows.inside.long.entries c.args.rows.now.rows c.args.key.now c.if-key-le-MAX_SHORT.false c.rows.invariant.0 (ap rows_in c.rows.view_is) c.put_long.ensures.had

pub returns-then-key-le-MAX_SHORT-clause-start : goal.returns-then-key-le-MAX_SHORT-clause-start
returns-then-key-le-MAX_SHORT-clause-start c = c.put_short.ensures.start ∙ ap start_in c.rows.view_is

pub returns-else-key-le-MAX_SHORT-clause-start : goal.returns-else-key-le-MAX_SHORT-clause-start
returns-else-key-le-MAX_SHORT-clause-start c = ap start_in c.rows.view_is
