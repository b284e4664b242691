use Rattle.ks_law_audit.proofs.Merging.{merged_is_taken}
use Rattle.ks_law_audit.proofs.laws.merged_is_taken.Goals as goal

pub returns : goal.returns
returns c = merged_is_taken
