use Rattle.ks_law_settled.proofs.Readers.{partitions_are_read}
use Rattle.ks_law_settled.proofs.routes.partitions_are_read.Goals as goal

pub returns : goal.returns
returns c = partitions_are_read
