use Rattle.ks_store.specs.Hashing.{start_by}
use Rattle.ks_store.proofs.hashing.KeyHashing.new.Goals as goal

pub returns : goal.returns
unfolding start_by
returns c = c.mix.ensures
