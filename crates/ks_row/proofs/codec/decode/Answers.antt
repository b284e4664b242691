use Rattle.std.proofs.Common.{arith}
use Rattle.ks_row.proofs.Spelled.{row_codec}
use Rattle.ks_row.proofs.Decoded.{is_found, is_only}
use Rattle.ks_row.proofs.codec.decode.Goals as goal

pub returns-clause-found : goal.returns-clause-found
returns-clause-found c = is_found row_codec c.args.bytes.now c.from_bytes.result (λ i. omega (arith, c.type_inv.bytes i)) c.from_bytes.ensures

pub returns-clause-only : goal.returns-clause-only
returns-clause-only c ms fits e = is_only row_codec c.args.bytes.now c.from_bytes.result ms fits e c.from_bytes.ensures
