use Rattle.std.proofs.Common.{OnOk, refl, sym, subst}
use Rattle.ks_edge.specs.declared.gate.Act.{Act}
use Rattle.ks_topo.specs.Topologies.{draft_of}
use Rattle.ks_worker_state.proofs.States.{same_state}
use Rattle.ks_worker_state.specs.State.{IsWorkerState}
use Rattle.ks_worker.specs.Acts.{Does}
use Rattle.ks_worker.proofs.Crashing.{on_ok, always_ok, lost_is_worker, lost_later, unmoved}
use Rattle.ks_worker.proofs.Performed.{has_pumped}
use Rattle.ks_worker.proofs.worker.Worker.act.Goals as goal

pub returns-in-Leave-clause-worker : goal.returns-in-Leave-clause-worker
returns-in-Leave-clause-worker g c = on_ok _ _ c.leave.result (λ f. f (draft_of c.args.topology.now)) c.leave.ensures.worker

pub returns-in-Evict-clause-worker : goal.returns-in-Evict-clause-worker
returns-in-Evict-clause-worker g c = always_ok _ c.evict.result (c.evict.ensures.worker (draft_of c.args.topology.now) c.requires.may.worker)

pub returns-in-Abort-clause-later : goal.returns-in-Abort-clause-later
returns-in-Abort-clause-later g c = unmoved g.W.Work.plan _ c.args.self.now.state c.abort.new.state c.requires.may.call c.abort.ensures.member c.abort.ensures.session

pub returns-in-Abort-clause-worker : goal.returns-in-Abort-clause-worker
returns-in-Abort-clause-worker g c = c.abort.ensures.worker (draft_of c.args.topology.now) c.requires.may.worker

pub returns-in-Crash-clause-later : goal.returns-in-Crash-clause-later
returns-in-Crash-clause-later g c =
    lost_later g.W.Work.plan c.args.self.now.state c.args.self.now.state c.crash.new.self (same_state g.W.Work.plan _ c.args.self.now.state c.requires.may.call)
    (record { member = c.crash.ensures.member; tasks = c.crash.ensures.tasks; replicas = c.crash.ensures.replicas; last = c.crash.ensures.last; numbers = c.crash.ensures.numbers; client = c.crash.ensures.client })

pub returns-in-Crash-clause-worker : goal.returns-in-Crash-clause-worker
returns-in-Crash-clause-worker g c =
    lost_is_worker g.W.Work.plan (draft_of c.args.topology.now) c.args.self.now.state c.args.self.now.state c.crash.new.self (same_state g.W.Work.plan _ c.args.self.now.state c.requires.may.call) c.requires.may.worker.number c.requires.may.worker.instance
    (record { member = c.crash.ensures.member; tasks = c.crash.ensures.tasks; replicas = c.crash.ensures.replicas; last = c.crash.ensures.last; numbers = c.crash.ensures.numbers; client = c.crash.ensures.client })

pub returns-in-Pump-clause-does : goal.returns-in-Pump-clause-does
returns-in-Pump-clause-does g c =
    subst (λ (a : Act). OnOk c.pump.result (Does g.W.Work.plan (draft_of c.args.topology.now) c.args.self.now.waiting a c.args.self.now.state c.pump.new.state)) (sym c.in-Pump.is)
    (has_pumped g.W.Work.plan c.args.self.now.state c.pump.new.state c.args.self.now.waiting c.pump.result c.pump.ensures.same c.pump.ensures.tasks c.pump.ensures.names c.pump.ensures.fed c.pump.ensures.marked)

pub returns-in-Stop-clause-later : goal.returns-in-Stop-clause-later
returns-in-Stop-clause-later g c = same_state g.W.Work.plan _ c.args.self.now.state c.requires.may.call
