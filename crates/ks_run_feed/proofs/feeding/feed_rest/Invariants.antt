use Rattle.std.proofs.Common.{◌-◌}
use Rattle.ks_topo.specs.Topologies.{draft_of}
use Rattle.ks_run_feed.proofs.Feeds.{IsFeeding}
use Rattle.ks_run_feed.proofs.feeding.feed_rest.Given as goal

abbrev pub invariant-loop-records : goal.invariant-loop-records
invariant-loop-records g l =
    IsFeeding g.W.Work.plan l.shared.growing.id (draft_of l.topology) l.fn.feeder l.feeder (g.S.Source.left l.fn.input) (g.S.Source.left l.input) (g.S.Source.faults l.fn.input) (g.S.Source.faults l.input)

abbrev pub decreases-loop-records : goal.decreases-loop-records
decreases-loop-records g l = 67174401 - l.feeder.rest.taken
