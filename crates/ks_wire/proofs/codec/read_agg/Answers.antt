use Rattle.std.proofs.Common.{arith}
use Rattle.ks_row.proofs.Decoded.{found, only}
use Rattle.ks_wire.proofs.Wired.{agg_codec}
use Rattle.ks_wire.proofs.codec.read_agg.Goals as goal

pub returns-clause-found : goal.returns-clause-found
returns-clause-found c = found agg_codec c.args.bytes.now c.agg.result (λ i. omega (arith, c.type_inv.bytes i)) c.agg.ensures

pub returns-clause-only : goal.returns-clause-only
returns-clause-only c v fits e = only agg_codec c.args.bytes.now c.agg.result v fits e c.agg.ensures
