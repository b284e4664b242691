use Rattle.std.specs.Vec.Iter.{into_iter_items, into_iter_len}
use Rattle.ks_job.specs.Items.{item_views}
use Rattle.ks_law_inputs.specs.Records.{AreRecords}
use Rattle.ks_topo.specs.Topologies.{plan_in}
use Rattle.ks_shared.specs.Calls.{setup_in}
use Rattle.ks_run_feed.proofs.Produced.{IsProducing}
use Rattle.ks_run_feed.proofs.producing.produce_all.Given as goal

-- the records of the items so far are produced, and the items that are left are records
abbrev pub invariant-loop-item : goal.invariant-loop-item
invariant-loop-item g l = record {
  producing : IsProducing (plan_in l.topology) l.fn.pass l.pass (item_views (into_iter_items l.rest)) (item_views l.fn.items.items);
  records : AreRecords (setup_in g.W.Work.plan l.fn.pass.frame).plan.sources (item_views (into_iter_items l.rest));
}

abbrev pub decreases-loop-item : goal.decreases-loop-item
decreases-loop-item g l = into_iter_len l.rest
