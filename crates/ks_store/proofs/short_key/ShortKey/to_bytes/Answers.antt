use Rattle.ks_store.proofs.Packing.{bytes_told}
use Rattle.ks_store.proofs.short_key.ShortKey.to_bytes.Goals as goal

pub returns : goal.returns
returns c =
    bytes_told c.self.inside.low c.self.inside.middle c.self.inside.high c.to_le_bytes-a.result c.to_le_bytes-b.result c.to_le_bytes-c.result c.args.self.now c.self.invariant c.self.view_is
    c.to_le_bytes-a.ensures c.to_le_bytes-b.ensures c.to_le_bytes-c.ensures
