use Rattle.ks_law_topology.proofs.Order.{drain_rises}
use Rattle.ks_law_topology.proofs.Caused.{made_in_order}
use Rattle.ks_law_topology.proofs.topics_in_order.Goals as goal

pub returns : goal.returns
returns c = record { made = made_in_order; drain = drain_rises }
