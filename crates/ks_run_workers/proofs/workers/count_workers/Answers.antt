use Rattle.ks_run_workers.proofs.Enlisted.{are_workers}
use Rattle.ks_run_workers.proofs.workers.count_workers.Goals as goal
