use Rattle.ks_row.proofs.Spelled.{row_codec}
use Rattle.ks_row.proofs.codec.reading_undoes_spelling.Goals as goal

pub returns : goal.returns
returns c = row_codec
