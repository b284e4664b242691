use Rattle.std.specs.Vec.Iter.{into_iter_items}
use Rattle.ks_topo.specs.Topologies.{plan_in}
use Rattle.ks_shared.specs.Calls.{setup_in}
use Rattle.ks_run_feed.proofs.Produced.{next_produced, more_records}
use Rattle.ks_run_feed.proofs.producing.produce_all.Goals as goal

pub loop-item-preserved : goal.loop-item-preserved
loop-item-preserved g c =
    let rest = into_iter_items c.loop-item.rest in
    let more = into_iter_items c.next.new.self in
    record {
      producing = next_produced (plan_in c.args.topology.now) c.args.pass.now c.loop-item.pass c.produce_one.new.pass c.in-Input.topic c.in-Input.rec c.in-Some.item rest more c.args.items.items
          c.in-Some.ensures.items c.in-Input.is c.loop-item.invariant.producing c.in_ok-produce_one-in-Input.ensures.ok;
      records = more_records (setup_in g.W.Work.plan c.args.pass.now.frame).plan.sources c.in-Input.topic c.in-Input.rec c.in-Some.item rest more
          c.in-Some.ensures.items c.in-Input.is c.loop-item.invariant.records;
    }
