use Rattle.ks_law_settled.proofs.Inside.{topologies_send_inside}
use Rattle.ks_law_settled.proofs.routes.topologies_send_inside.Goals as goal

pub returns : goal.returns
returns c = topologies_send_inside
