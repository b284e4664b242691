use Rattle.ks_commit.proofs.Slots.{is_stable}
use Rattle.ks_commit.proofs.laws.idle_is_stable.Goals as goal

pub returns : goal.returns
returns c = is_stable
