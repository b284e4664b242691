use Rattle.std.proofs.Common.{arith}
use Rattle.ks_row.proofs.Decoded.{found, only}
use Rattle.ks_wire.proofs.Wired.{subscriber_codec}
use Rattle.ks_wire.proofs.codec.read_subscriber.Goals as goal

pub returns-clause-found : goal.returns-clause-found
returns-clause-found c = found subscriber_codec c.args.bytes.now c.subscriber.result (λ i. omega (arith, c.type_inv.bytes i)) c.subscriber.ensures

pub returns-clause-only : goal.returns-clause-only
returns-clause-only c v fits e = only subscriber_codec c.args.bytes.now c.subscriber.result v fits e c.subscriber.ensures
