use Rattle.ks_query.specs.Windows.{by_window}
use Rattle.ks_oracle.proofs.Windows.{by_window_total}
use Rattle.ks_oracle.proofs.Trees.{map_new}
use Rattle.ks_oracle.proofs.spans.Spans.new.Goals as goal

pub returns : goal.returns
returns c = map_new by_window by_window_total c.new.result.entries c.new.ensures.empty
