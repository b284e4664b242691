use Rattle.ks_law_reads.proofs.Lasting as lasting
use Rattle.ks_law_reads.proofs.laws.replica_reads.Goals as goal

pub returns : goal.returns
returns c = lasting.replica_reads
