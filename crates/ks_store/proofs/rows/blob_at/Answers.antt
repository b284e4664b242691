use Rattle.std.proofs.Common.{ap, sym, ◌∙◌}
use Rattle.std.specs.FinMap.Entries.{find}
use Rattle.ks_def_runs.specs.Bytes.{by_bytes}
use Rattle.ks_store.specs.Rows.{short_rows, long_rows}
use Rattle.ks_store.proofs.Tables.{rows_in, find_short, find_long, of_short, of_long}
use Rattle.ks_store.proofs.rows.blob_at.Goals as goal

pub returns-then-key-le-MAX_SHORT : goal.returns-then-key-le-MAX_SHORT
returns-then-key-le-MAX_SHORT c =
    c.at_short.ensures
    ∙ (sym (find_short (short_rows c.rows.inside.short.entries) (long_rows c.rows.inside.long.entries) c.args.key.now c.rows.invariant.0 (of_short c.args.key.now c.if-key-le-MAX_SHORT.true))
    ∙ ap (find by_bytes c.args.key.now) (ap rows_in c.rows.view_is))

pub returns-else-key-le-MAX_SHORT : goal.returns-else-key-le-MAX_SHORT
returns-else-key-le-MAX_SHORT c =
    c.at_long.ensures
    ∙ (sym (find_long (short_rows c.rows.inside.short.entries) (long_rows c.rows.inside.long.entries) c.args.key.now c.rows.invariant.0 (of_long c.args.key.now c.if-key-le-MAX_SHORT.false))
    ∙ ap (find by_bytes c.args.key.now) (ap rows_in c.rows.view_is))
