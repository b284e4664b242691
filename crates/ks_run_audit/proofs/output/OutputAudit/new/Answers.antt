use Rattle.ks_topo.specs.Topologies.{draft_of}
use Rattle.ks_run_audit.proofs.Counts.{nodes_ready}
use Rattle.ks_run_audit.proofs.output.OutputAudit.new.Goals as goal

pub new-requires : goal.new-requires
new-requires g c = record { parts = nodes_ready (draft_of c.args.topology.now) c.requires.ready.fine c.requires.ready.partitions }
