use Rattle.std.proofs.Common.{refl, ◌∙◌}
use Rattle.ks_plan.specs.Layout.{tasks}
use Rattle.ks_topo.specs.Topologies.{draft_of, plan_in}
use Rattle.ks_worker_client.proofs.Halting.{same_counts}
use Rattle.ks_worker.proofs.Crashing.{lost_is_worker, lost_later}
use Rattle.ks_worker.proofs.Turning.{begun_as, begun_with, ok_so}
use Rattle.ks_worker.proofs.worker.Worker.begin.Goals as goal

pub returns-in-Ok-clause-begins : goal.returns-in-Ok-clause-begins
returns-in-Ok-clause-begins g c = λ e. record {
  placing = refl;
  turn = c.saturating_add-self.ensures;
  dry = refl;
  gate = same_counts _ _ c.begin_turn-2.result c.in-Ok.waiting c.in-Ok.is c.begin_turn-2.ensures.gate ∙ c.begin_turn.ensures;
  begun = begun_as g.W.Work.plan c.args.self.now.placing.threads (tasks (plan_in c.args.topology.now)) c.args.self.now.state c.begin_turn.new.self c.begin_turn-2.new.state c.in-Ok.waiting c.begin_turn.ensures
      (begun_with c.begin_turn-2.result c.in-Ok.waiting _ c.in-Ok.is c.begin_turn-2.ensures.begun);
  made = ok_so c.begin_turn-2.result c.in-Ok.waiting c.in-Ok.is c.begin_turn-2.ensures.made;
}

pub returns-in-Err-Cut-clause-worker : goal.returns-in-Err-Cut-clause-worker
returns-in-Err-Cut-clause-worker g c =
    lost_is_worker g.W.Work.plan (draft_of c.args.topology.now) _ c.begin_turn-2.new.state c.crash.new.self c.begin_turn-2.ensures.later c.requires.may.worker.number c.requires.may.worker.instance
    (record { member = c.crash.ensures.member; tasks = c.crash.ensures.tasks; replicas = c.crash.ensures.replicas; last = c.crash.ensures.last; numbers = c.crash.ensures.numbers; client = c.crash.ensures.client })
