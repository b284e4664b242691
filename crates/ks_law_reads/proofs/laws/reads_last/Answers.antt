use Rattle.ks_law_reads.proofs.Lasting as lasting
use Rattle.ks_law_reads.proofs.laws.reads_last.Goals as goal

pub returns : goal.returns
returns c = lasting.reads_last
