use Rattle.std.proofs.Common.{arith}
use Rattle.ks_row.proofs.Decoded.{is_found, is_only}
use Rattle.ks_wire.proofs.Wired.{subscription_codec}
use Rattle.ks_wire.proofs.codec.read_subscription.Goals as goal

pub returns-clause-found : goal.returns-clause-found
returns-clause-found c = is_found subscription_codec c.args.bytes.now c.subscription.result (λ i. omega (arith, c.type_inv.bytes i)) c.subscription.ensures

pub returns-clause-only : goal.returns-clause-only
returns-clause-only c v fits e = is_only subscription_codec c.args.bytes.now c.subscription.result v fits e c.subscription.ensures
