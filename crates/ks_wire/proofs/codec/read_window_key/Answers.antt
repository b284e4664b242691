use Rattle.std.proofs.Common.{arith}
use Rattle.ks_row.proofs.Decoded.{is_found, is_only}
use Rattle.ks_wire.proofs.Wired.{window_key_codec}
use Rattle.ks_wire.proofs.codec.read_window_key.Goals as goal

pub returns-clause-found : goal.returns-clause-found
returns-clause-found c = is_found window_key_codec c.args.bytes.now c.window_key.result (λ i. omega (arith, c.type_inv.bytes i)) c.window_key.ensures

pub returns-clause-only : goal.returns-clause-only
returns-clause-only c v fits e = is_only window_key_codec c.args.bytes.now c.window_key.result v fits e c.window_key.ensures
