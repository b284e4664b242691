use Rattle.ks_store.proofs.Packing.{length_told, most_told}
use Rattle.ks_store.proofs.short_key.ShortKey.len.Goals as goal

pub returns-clause-len : goal.returns-clause-len
returns-clause-len c = length_told c.self.inside.low c.self.inside.middle c.self.inside.high _ _ c.self.invariant c.self.view_is c.to_le_bytes.ensures

pub returns-clause-most : goal.returns-clause-most
returns-clause-most c = most_told c.self.inside.low c.self.inside.middle c.self.inside.high _ c.self.invariant c.to_le_bytes.ensures
