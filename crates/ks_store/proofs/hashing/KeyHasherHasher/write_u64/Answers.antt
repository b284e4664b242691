use Rattle.std.proofs.Common.{ℕ, ap}
use Rattle.ks_store.specs.declared.hashing.KeyHasher.{KeyHasher}
use Rattle.ks_store.proofs.Mixing.{word_written}
use Rattle.ks_store.proofs.hashing.KeyHasherHasher.write_u64.Goals as goal

pub returns : goal.returns
returns c = let f : ℕ → KeyHasher = λ s. record { state = s } in ap f (word_written _ _ c.args.i c.ranges.i.fits c.mix-self.ensures)
