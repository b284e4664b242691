use Rattle.std.proofs.Common.{arith}
use Rattle.ks_row.proofs.Decoded.{found, only}
use Rattle.ks_wire.proofs.Wired.{time_codec}
use Rattle.ks_wire.proofs.codec.read_time.Goals as goal

pub returns-clause-found : goal.returns-clause-found
returns-clause-found c = found time_codec c.args.bytes.now c.time.result (λ i. omega (arith, c.type_inv.bytes i)) c.time.ensures

pub returns-clause-only : goal.returns-clause-only
returns-clause-only c v fits e = only time_codec c.args.bytes.now c.time.result v fits e c.time.ensures
