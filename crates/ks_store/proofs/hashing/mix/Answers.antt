use Rattle.ks_store.specs.Hashing.{mixed}
use Rattle.ks_store.proofs.hashing.mix.Goals as goal

pub returns : goal.returns
unfolding mixed
returns c = c.folded_product.ensures
