use Rattle.std.proofs.Common.{arith}
use Rattle.ks_row.proofs.Decoded.{found, only}
use Rattle.ks_wire.proofs.Wired.{delta_codec}
use Rattle.ks_wire.proofs.codec.read_delta.Goals as goal

pub returns-clause-found : goal.returns-clause-found
returns-clause-found c = found delta_codec c.args.bytes.now c.delta.result (λ i. omega (arith, c.type_inv.bytes i)) c.delta.ensures

pub returns-clause-only : goal.returns-clause-only
returns-clause-only c v fits e = only delta_codec c.args.bytes.now c.delta.result v fits e c.delta.ensures
