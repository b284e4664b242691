use Rattle.ks_topo.specs.Topologies.{draft_of}
use Rattle.ks_standby.specs.Replicas.{replica_view}
use Rattle.ks_iq.proofs.Answering.{all_reads, all_enough}
use Rattle.ks_iq.proofs.lent_store.stale.Goals as goal

pub returns-clause-reads : goal.returns-clause-reads
returns-clause-reads c setup journal top follows =
    all_reads (draft_of c.args.topology.now) (replica_view c.args.replica.now) c.args.ask.now c.args.at_least c.read_lent.result setup journal top follows c.read_lent.ensures

pub returns-clause-bound : goal.returns-clause-bound
returns-clause-bound c = all_enough (draft_of c.args.topology.now) (replica_view c.args.replica.now) c.args.ask.now c.args.at_least c.read_lent.result c.read_lent.ensures
