use Rattle.std.proofs.Common.{ap}
use Rattle.ks_topo.specs.Topologies.{draft_of}
use Rattle.ks_worker_client.specs.Turns.{GateCounts}
use Rattle.ks_worker.specs.Turns.{with_gate}
use Rattle.ks_worker.proofs.Shown.{shows_calls}
use Rattle.ks_worker.proofs.Taken.{has_acted}
use Rattle.std.proofs.lemmas.Result.{IfOk-from_err}
use Rattle.ks_worker.proofs.worker.Worker.obey.Goals as goal

pub returns-clause-shown : goal.returns-clause-shown
returns-clause-shown g c =
    shows_calls g.W.Work.plan (draft_of c.args.topology.now) c.args.self.now.waiting c.next-act.result c.args.self.now.state.session.client.gate _ c.perform.new.self.state c.perform.ensures.later.later
    (ap (λ (k : GateCounts). k.calls) c.next-act.ensures) (ap (λ (k : GateCounts). k.cuts) c.next-act.ensures) c.perform.ensures.gate c.in_ok-perform.ensures.does

pub returns-clause-obeys : goal.returns-clause-obeys
returns-clause-obeys g c =
    let asked = with_gate c.args.self.now c.next-act.new.self in
    record {
      act = c.next-act.result;
      asked = asked;
      counted = ap (λ (k : GateCounts). with_gate c.args.self.now k) c.next-act.ensures;
      acted = has_acted g.W.Work.plan (draft_of c.args.topology.now) c.next-act.result asked c.perform.new.self c.perform.ensures.gate
          (record { placing = c.perform.ensures.placing; turn = c.perform.ensures.turn; waiting = c.perform.ensures.waiting })
          c.in_ok-perform.ensures.does c.in_ok-perform.ensures.cut c.in_ok-perform.ensures.dry c.in_ok-perform.ensures.dry_cut;
    }

pub returns-in_err-perform-clause-worker : goal.returns-in_err-perform-clause-worker
returns-in_err-perform-clause-worker g c = IfOk-from_err c.from_residual.result _ c.from_residual.ensures.0

pub returns-in_err-perform-clause-obeys : goal.returns-in_err-perform-clause-obeys
returns-in_err-perform-clause-obeys g c = IfOk-from_err c.from_residual.result _ c.from_residual.ensures.0

pub returns-in_err-perform-clause-stops : goal.returns-in_err-perform-clause-stops
returns-in_err-perform-clause-stops g c = IfOk-from_err c.from_residual.result _ c.from_residual.ensures.0

pub returns-in_err-perform-clause-shown : goal.returns-in_err-perform-clause-shown
returns-in_err-perform-clause-shown g c = IfOk-from_err c.from_residual.result _ c.from_residual.ensures.0
