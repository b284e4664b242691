use Rattle.ks_row.proofs.Spelled.{row_codec}
use Rattle.ks_row.proofs.codec.spelling_is_injective.Goals as goal

pub returns : goal.returns
returns c = row_codec.one
