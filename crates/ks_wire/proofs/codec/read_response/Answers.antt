use Rattle.std.proofs.Common.{arith}
use Rattle.ks_row.proofs.Decoded.{is_found, is_only}
use Rattle.ks_wire.proofs.Wired.{response_codec}
use Rattle.ks_wire.proofs.codec.read_response.Goals as goal

pub returns-clause-found : goal.returns-clause-found
returns-clause-found c = is_found response_codec c.args.bytes.now c.response.result (λ i. omega (arith, c.type_inv.bytes i)) c.response.ensures

pub returns-clause-only : goal.returns-clause-only
returns-clause-only c v fits e = is_only response_codec c.args.bytes.now c.response.result v fits e c.response.ensures
