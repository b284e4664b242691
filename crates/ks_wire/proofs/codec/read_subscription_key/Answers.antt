use Rattle.std.proofs.Common.{arith}
use Rattle.ks_row.proofs.Decoded.{is_found, is_only}
use Rattle.ks_wire.proofs.Wired.{subscription_key_codec}
use Rattle.ks_wire.proofs.codec.read_subscription_key.Goals as goal

pub returns-clause-found : goal.returns-clause-found
returns-clause-found c = is_found subscription_key_codec c.args.bytes.now c.subscription_key.result (λ i. omega (arith, c.type_inv.bytes i)) c.subscription_key.ensures

pub returns-clause-only : goal.returns-clause-only
returns-clause-only c v fits e = is_only subscription_key_codec c.args.bytes.now c.subscription_key.result v fits e c.subscription_key.ensures
