use Rattle.ks_query.proofs.Floats.{printed}
use Rattle.ks_query.proofs.printing.print_row.Goals as goal

pub returns : goal.returns
returns c = printed _ _ _ _ c.in_ok-row_value.ensures c.in_ok-line.ensures.text c.in_ok-push_str.ensures.bytes
