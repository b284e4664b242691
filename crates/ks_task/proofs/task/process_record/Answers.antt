use Rattle.std.proofs.Common.{map}
use Rattle.std.specs.Prelude.{slice_get}
use Rattle.ks_record.specs.Records.{record_seen}
use Rattle.ks_task_nodes.specs.Nodes.{node_view, kinds_in}
use Rattle.ks_task.proofs.Reached.{reached_there}
use Rattle.ks_task.proofs.task.process_record.Goals as goal

pub invariant_of-step : goal.invariant_of-step
invariant_of-step g c = record {
  numbered = c.requires.numbered;
  reached = reached_there c.args.nodes.now (kinds_in (map node_view c.args.nodes.now)) (slice_get c.args.purposes.now c.args.at.topic) (record_seen c.args.rec) c.in-Some.stamped c.args.live.now (rw c.in-Some.is at c.in_ok-stamped.ensures) c.requires.live;
}
