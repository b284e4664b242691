use Rattle.std.proofs.Common.{refl}
use Rattle.ks_law_exactly_once.proofs.Written.{commit_history, is_network}
use Rattle.ks_law_exactly_once.proofs.examples.one_commit_is_history.Goals as goal

pub returns : goal.returns
returns c = record { network = is_network; history = commit_history; replay = λ rec. refl; taken = λ rec. refl; past = λ rec. refl; produced = λ rec. refl; begun = λ rec. refl; decided = λ rec. refl; marked = λ rec. refl }
