use Rattle.std.proofs.Common.{arith}
use Rattle.ks_topo.specs.Topologies.{draft_of}
use Rattle.ks_test_workers.proofs.Going.{counted_cut, goes_on}
use Rattle.ks_test_workers.proofs.actors.Actor.perform.Goals as goal

pub returns-clause-may : goal.returns-clause-may
returns-clause-may g c =
    goes_on g.W.Work.plan g.W.Work.good g.H.Hash128.hash_of c.args.shared.now.growing.id (draft_of c.args.topology.now) c.args.self.now.worker.placing c.args.self.now.left c.args.self.now.worker.state c.requires.may (omega arith)
    _ c.perform.new.self.state c.perform.new.self.placing (omega arith) c.perform.ensures.placing c.perform.ensures.later c.in-Ok.ensures.worker (counted_cut _ _ c.perform.ensures.gate)
