use Rattle.std.proofs.Common.{◌≡◌, sym, ap, subst, ◌∙◌}
use Rattle.ks_expr.specs.Eval.{Row}
use Rattle.ks_row.specs.Judged.{row_in}
use Rattle.ks_row.specs.Spelling.{spelling, FitsRow}
use Rattle.ks_task_nodes.proofs.Spellings.{row_seen}
use Rattle.ks_task_nodes.proofs.encoded.EncodedRow.of_row.Goals as goal

pub invariant_of-result : goal.invariant_of-result
invariant_of-result c =
    let seen : row_in c.as_bytes.result.now ≡ c.args.row.now = row_seen c.as_bytes.result.now c.args.row.now c.as_bytes.ensures.bytes c.as_bytes.ensures.fits in
    (subst (λ (r : Row). FitsRow r) (sym seen) c.as_bytes.ensures.fits, c.as_bytes.ensures.bytes ∙ ap spelling (sym seen))

pub returns : goal.returns
returns c = row_seen c.as_bytes.result.now c.args.row.now c.as_bytes.ensures.bytes c.as_bytes.ensures.fits
