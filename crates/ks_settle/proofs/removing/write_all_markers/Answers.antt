use Rattle.std.proofs.Common.{refl, sym, subst, ◌∙◌, arith}
use Rattle.ks_history.specs.Machine.{IsNetwork}
use Rattle.ks_history.specs.State.{Setup}
use Rattle.ks_cluster.specs.View.{setup_of}
use Rattle.ks_settle.proofs.Publishing.{drains_none, drains_both, drains_markers, same_setup}
use Rattle.ks_settle.proofs.Idling.{one_marked, all_marked}
use Rattle.ks_settle.proofs.Members.{same_members}
use Rattle.ks_settle.proofs.removing.write_all_markers.Goals as goal

pub loop-worker-init : goal.loop-worker-init
loop-worker-init g c = record { marked = record { decided = c.requires.decided; written = λ w lt. absurd (omega (arith, lt)) }; members = refl; on = drains_none 0 c.args.cluster.now }

pub loop-worker-preserved : goal.loop-worker-preserved
loop-worker-preserved g c =
    let plan = g.W.Work.plan in
    let step = c.in_ok-write_markers.ensures in
    record {
      marked = one_marked plan c.loop-worker.cluster c.write_markers.new.cluster c.loop-worker.worker step.marked step.done c.loop-worker.invariant.marked;
      members = same_members plan c.loop-worker.cluster c.write_markers.new.cluster c.loop-worker.worker step.marked ∙ c.loop-worker.invariant.members;
      on = drains_both 0 0 c.args.cluster.now c.loop-worker.cluster c.write_markers.new.cluster c.loop-worker.invariant.on (drains_markers plan c.loop-worker.worker c.loop-worker.cluster c.write_markers.new.cluster step.marked);
    }

pub returns-clause-idle : goal.returns-clause-idle
returns-clause-idle g c =
    let plan = g.W.Work.plan in
    let network = subst (λ (s : Setup). IsNetwork s.plan) (sym (same_setup plan 0 c.args.cluster.now c.loop-worker.cluster c.loop-worker.invariant.on)) c.requires.network in
    all_marked (setup_of plan c.loop-worker.cluster) c.loop-worker.cluster.journal network c.is_history.ensures.history c.loop-worker.worker c.loop-worker-test.false c.loop-worker.invariant.marked

pub returns-in_err-write_markers-clause-on : goal.returns-in_err-write_markers-clause-on
returns-in_err-write_markers-clause-on g c =
    drains_both 0 0 c.args.cluster.now c.loop-worker.cluster c.write_markers.new.cluster c.loop-worker.invariant.on (drains_markers g.W.Work.plan c.loop-worker.worker c.loop-worker.cluster c.write_markers.new.cluster c.in_err-write_markers.ensures.marked)
