use Rattle.ks_worker.proofs.Summing.{summed}
use Rattle.ks_worker.proofs.view.uncommitted_of.Goals as goal

pub returns : goal.returns
returns c = summed c.loop-rest.sum c.loop-rest.rest.now _ c.loop-rest.invariant.1 c.in_default.len_below c.loop-rest.invariant.0
