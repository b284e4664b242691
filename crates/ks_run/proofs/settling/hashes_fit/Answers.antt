use Rattle.ks_row.specs.Spelling.{spelling}
use Rattle.ks_run.proofs.settling.hashes_fit.Goals as goal

pub returns : goal.returns
returns g c row = g.met.H.Hash128.bounded (spelling row)
