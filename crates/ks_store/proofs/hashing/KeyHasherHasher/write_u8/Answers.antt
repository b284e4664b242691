use Rattle.std.proofs.Common.{ℕ, ap}
use Rattle.ks_store.specs.declared.hashing.KeyHasher.{KeyHasher}
use Rattle.ks_store.proofs.Mixing.{byte_written}
use Rattle.ks_store.proofs.hashing.KeyHasherHasher.write_u8.Goals as goal

pub returns : goal.returns
returns c = let f : ℕ → KeyHasher = λ s. record { state = s } in ap f (byte_written _ _ _ c.args.i c.from_le_bytes.ensures c.mix-self.ensures)
