use Rattle.ks_worker_state.proofs.Workers.{crashed}
use Rattle.ks_worker_state.proofs.laws.crash_leaves.Goals as goal

pub returns : goal.returns
returns g c = crashed g.W.Work.plan
