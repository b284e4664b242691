use Rattle.std.proofs.Common.{ℕ, List, ◌∙◌}
use Rattle.ks_store.proofs.Tables.{found_row}
use Rattle.ks_store.proofs.rows.at_short.Goals as goal

pub returns : goal.returns
returns c = c.get.ensures.value ∙ found_row (λ (k : List ℕ). k) c.args.rows.now.entries c.of-key.result c.args.key.now c.of-key.ensures
