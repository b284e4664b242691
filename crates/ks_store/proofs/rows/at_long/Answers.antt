use Rattle.std.proofs.Common.{ℕ, ◌∙◌}
use Rattle.std.specs.Global.{Vec}
use Rattle.ks_store.proofs.Tables.{find_rows}
use Rattle.ks_store.proofs.rows.at_long.Goals as goal

pub returns : goal.returns
returns c = c.get.ensures.value ∙ find_rows (λ (k : Vec ℕ). k.items) c.args.rows.now.entries c.args.key.now
