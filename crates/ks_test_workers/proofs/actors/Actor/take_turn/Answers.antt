use Rattle.std.proofs.Common.{arith}
use Rattle.ks_topo.specs.Topologies.{draft_of}
use Rattle.ks_test_workers.proofs.Going.{may_once, goes_on}
use Rattle.ks_test_workers.proofs.actors.Actor.take_turn.Goals as goal

pub run-requires : goal.run-requires
run-requires g c =
    record {
      may = may_once g.W.Work.plan g.W.Work.good g.H.Hash128.hash_of c.args.shared.now.growing.id (draft_of c.args.topology.now) c.args.self.now.worker.placing c.args.self.now.left c.args.self.now.worker.state c.requires.may (omega arith);
    }

pub returns-clause-may : goal.returns-clause-may
returns-clause-may g c =
    goes_on g.W.Work.plan g.W.Work.good g.H.Hash128.hash_of c.args.shared.now.growing.id (draft_of c.args.topology.now) c.args.self.now.worker.placing c.args.self.now.left c.args.self.now.worker.state c.requires.may (omega arith)
    _ c.run.new.self.state c.run.new.self.placing (omega arith) c.run.ensures.placing c.run.ensures.later c.in-Ok.ensures.worker c.in-Ok.ensures.counts
