use Rattle.ks_worker_state.proofs.Workers.{worker_stays}
use Rattle.ks_worker_state.proofs.laws.worker_stays.Goals as goal

pub returns : goal.returns
returns g c = worker_stays g.W.Work.plan
