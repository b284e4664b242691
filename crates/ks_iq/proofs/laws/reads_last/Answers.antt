use Rattle.ks_iq.proofs.Lasting.{reads_last}
use Rattle.ks_iq.proofs.laws.reads_last.Goals as goal

pub returns : goal.returns
returns c = reads_last
