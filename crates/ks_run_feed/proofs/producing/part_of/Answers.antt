use Rattle.std.proofs.Common.{◌∙◌, ap}
use Rattle.ks_topo.specs.Topologies.{plan_in}
use Rattle.ks_topo.specs.Places.{spread_in}
use Rattle.ks_run_feed.specs.Placing.{part_at}
use Rattle.ks_run_feed.proofs.producing.part_of.Goals as goal

pub returns-clause-part : goal.returns-clause-part
returns-clause-part c = c.place_of.ensures.part ∙ ap (λ k. part_at k (spread_in (plan_in c.args.topology.now) c.args.topic)) c.key.ensures
