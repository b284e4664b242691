use Rattle.std.proofs.Common.{None, ap, sym, ◌∙◌}
use Rattle.ks_store.specs.Rows.{short_rows, long_rows}
use Rattle.ks_store.proofs.Tables.{rows_in, start_in, apart_short, apart_long, of_short, of_long, whole_short, whole_long, fewer_short, fewer_long}
use Rattle.ks_store.proofs.rows.take_row.Goals as goal

pub invariant_of-rows : goal.invariant_of-rows
invariant_of-rows c = (
  apart_short (short_rows c.rows.inside.short.entries) (long_rows c.rows.inside.long.entries) (short_rows c.take_short.new.rows.entries) c.args.key.now None
      (of_short c.args.key.now c.if-key-le-MAX_SHORT.true) c.rows.invariant.0 c.take_short.ensures.gone,
  c.rows.invariant.1 ∙ sym c.take_short.ensures.start,
)

pub invariant_of-rows-else-key-le-MAX_SHORT : goal.invariant_of-rows-else-key-le-MAX_SHORT
invariant_of-rows-else-key-le-MAX_SHORT c = (
  apart_long (short_rows c.rows.inside.short.entries) (long_rows c.rows.inside.long.entries) (long_rows c.take_long.new.rows.entries) c.args.key.now None
      (of_long c.args.key.now c.if-key-le-MAX_SHORT.false) c.rows.invariant.0 c.take_long.ensures.gone,
  c.take_long.ensures.start ∙ c.rows.invariant.1,
)

pub returns-then-key-le-MAX_SHORT-clause-gone : goal.returns-then-key-le-MAX_SHORT-clause-gone
returns-then-key-le-MAX_SHORT-clause-gone c =
    whole_short c.rows.inside.short.entries c.take_short.new.rows.entries c.rows.inside.long.entries c.args.rows.now.rows c.args.key.now None c.if-key-le-MAX_SHORT.true c.rows.invariant.0 (ap rows_in c.rows.view_is)
    c.take_short.ensures.gone

pub returns-then-key-le-MAX_SHORT-clause-len : goal.returns-then-key-le-MAX_SHORT-clause-len
returns-then-key-le-MAX_SHORT-clause-len c =
    fewer_short c.rows.inside.short.entries c.take_short.new.rows.entries c.rows.inside.long.entries c.args.rows.now.rows c.args.key.now c.if-key-le-MAX_SHORT.true c.rows.invariant.0 (ap rows_in c.rows.view_is)
    c.take_short.ensures.len

pub returns-else-key-le-MAX_SHORT-clause-gone : goal.returns-else-key-le-MAX_SHORT-clause-gone
returns-else-key-le-MAX_SHORT-clause-gone c =
    whole_long c.rows.inside.short.entries c.rows.inside.long.entries c.take_long.new.rows.entries c.args.rows.now.rows c.args.key.now None c.if-key-le-MAX_SHORT.false c.rows.invariant.0 (ap rows_in c.rows.view_is)
    c.take_long.ensures.gone

pub returns-else-key-le-MAX_SHORT-clause-len : goal.returns-else-key-le-MAX_SHORT-clause-len
returns-else-key-le-MAX_SHORT-clause-len c =
    fewer_long c.rows.inside.short.entries c.rows.inside.long.entries c.take_long.new.rows.entries c.args.rows.now.rows c.args.key.now c.if-key-le-MAX_SHORT.false c.rows.invariant.0 (ap rows_in c.rows.view_is)
    c.take_long.ensures.len

pub returns-then-key-le-MAX_SHORT-clause-start : goal.returns-then-key-le-MAX_SHORT-clause-start
returns-then-key-le-MAX_SHORT-clause-start c = c.take_short.ensures.start ∙ ap start_in c.rows.view_is

pub returns-else-key-le-MAX_SHORT-clause-start : goal.returns-else-key-le-MAX_SHORT-clause-start
returns-else-key-le-MAX_SHORT-clause-start c = ap start_in c.rows.view_is
