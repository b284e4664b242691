use Rattle.std.proofs.Common.{refl}
use Rattle.ks_law_exactly_once.proofs.Written.{zombie_history}
use Rattle.ks_law_exactly_once.proofs.examples.zombie_is_history.Goals as goal

pub returns : goal.returns
returns c = record { history = zombie_history; unstable = λ rec. refl; answered = λ rec. refl; committed = λ rec. refl; fetched = λ rec. refl; ends = λ rec. refl; replay = λ rec. refl }
