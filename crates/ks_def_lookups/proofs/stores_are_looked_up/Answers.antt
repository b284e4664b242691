use Rattle.ks_def_lookups.proofs.Stores.{stores_are_looked_up}
use Rattle.ks_def_lookups.proofs.stores_are_looked_up.Goals as goal

pub returns : goal.returns
returns c = stores_are_looked_up
