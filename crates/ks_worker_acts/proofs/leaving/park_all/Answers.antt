use Rattle.std.proofs.Common.{subst, ◌∙◌}
use Rattle.std.specs.List.{All}
use Rattle.std.specs.Vec.Iter.{into_iter_items}
use Rattle.std.proofs.lemmas.List.Elements.{All-head, All-tail}
use Rattle.ks_history.specs.declared.journal.Request.TheVariants.{Park}
use Rattle.ks_history.specs.declared.journal.Reply.TheVariants.{Done}
use Rattle.ks_shared.specs.Calls.{setup_in}
use Rattle.ks_worker_client.proofs.Halting.{same_counts}
use Rattle.ks_worker_client.proofs.Moments.{may_later, later_twice}
use Rattle.ks_worker_state.specs.Standbys.{IsStandby}
use Rattle.ks_worker_state.proofs.Gains.{made_one}
use Rattle.ks_worker_acts.proofs.Leavers.{parked_more}
use Rattle.ks_worker_acts.proofs.StatesOn.{net_later, standbys_on}
use Rattle.std.proofs.lemmas.Result.{IfOk-from_err}
use Rattle.ks_worker_state.proofs.Exits.{counts_out, counts_none}
use Rattle.ks_worker_acts.proofs.leaving.park_all.Goals as goal

pub park-requires-clause-task : goal.park-requires-clause-task
park-requires-clause-task g c =
    let P = IsStandby (setup_in g.W.Work.plan c.loop-replica.client.pass.frame) c.loop-replica.client.pass.seen in
    (All-head P c.in-Some.replica (into_iter_items c.next.new.self) (subst (All P) c.in-Some.ensures.items c.loop-replica.invariant.standbys)).known

pub park-requires-clause-follows : goal.park-requires-clause-follows
park-requires-clause-follows g c =
    let P = IsStandby (setup_in g.W.Work.plan c.loop-replica.client.pass.frame) c.loop-replica.client.pass.seen in
    (All-head P c.in-Some.replica (into_iter_items c.next.new.self) (subst (All P) c.in-Some.ensures.items c.loop-replica.invariant.standbys)).replica

pub loop-replica-preserved : goal.loop-replica-preserved
loop-replica-preserved g c =
    let plan = g.W.Work.plan in
    let old = c.args.client.now.pass in
    let mid = c.loop-replica.client.pass in
    let new = c.park.new.self.pass in
    let P = IsStandby (setup_in plan mid.frame) mid.seen in
    record {
      later = later_twice plan old mid new c.loop-replica.invariant.later c.park.ensures.later;
      gate = same_counts _ _ c.park.result c.in_ok-park.field-0 c.in_ok-park.was c.park.ensures.gate ∙ c.loop-replica.invariant.gate;
      standbys = standbys_on plan mid new c.park.ensures.later (net_later plan old mid c.loop-replica.invariant.later c.requires.may.network) (into_iter_items c.next.new.self)
          (All-tail P c.in-Some.replica (into_iter_items c.next.new.self) (subst (All P) c.in-Some.ensures.items c.loop-replica.invariant.standbys));
      parked = parked_more plan old c.args.instance c.args.replicas.items mid new c.in-Some.replica (into_iter_items c.loop-replica.rest) (into_iter_items c.next.new.self) c.in-Some.ensures.items c.loop-replica.invariant.parked
          (made_one plan mid new (Park c.args.instance c.in-Some.replica.id) Done c.in_ok-park.ensures.wrote);
    }

pub park-requires-clause-may : goal.park-requires-clause-may
park-requires-clause-may g c = may_later g.W.Work.plan _ _ _ _ _ c.loop-replica.invariant.later c.loop-replica.invariant.gate c.requires.may

pub returns-in_err-park-clause-gate : goal.returns-in_err-park-clause-gate
returns-in_err-park-clause-gate g c = counts_out _ _ _ c.park.result c.from_residual.result c.in_err-park.field-0.0 c.loop-replica.invariant.gate c.in_err-park.was c.park.ensures.gate c.from_residual.ensures.1

pub returns-in_err-park-clause-later : goal.returns-in_err-park-clause-later
returns-in_err-park-clause-later g c = later_twice g.W.Work.plan _ _ _ c.loop-replica.invariant.later c.park.ensures.later

pub returns-in_err-park-clause-parked : goal.returns-in_err-park-clause-parked
returns-in_err-park-clause-parked g c = IfOk-from_err c.from_residual.result _ c.from_residual.ensures.0

pub returns-clause-gate : goal.returns-clause-gate
returns-clause-gate g c = counts_none _ _ c.loop-replica.invariant.gate
