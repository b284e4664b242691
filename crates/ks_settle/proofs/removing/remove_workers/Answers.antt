use Rattle.std.proofs.Common.{refl, arith}
use Rattle.ks_settle.proofs.Publishing.{drains_none, drains_same, drains_one, drains_both}
use Rattle.ks_cluster.specs.View.{setup_of}
use Rattle.ks_settle.proofs.Idling.{one_removed}
use Rattle.ks_settle.proofs.Members.{one_gone, all_gone}
use Rattle.ks_settle.proofs.removing.remove_workers.Goals as goal

pub loop-worker-init : goal.loop-worker-init
loop-worker-init g c = record { decided = λ w lt. absurd (omega (arith, lt)); gone = λ k n lt. omega arith; on = drains_none 0 c.args.cluster.now }

pub loop-worker-preserved : goal.loop-worker-preserved
loop-worker-preserved g c =
    let plan = g.W.Work.plan in
    let step = c.in_ok-expire.ensures.ok in
    record {
      decided = one_removed plan c.loop-worker.cluster c.expire.new.self c.loop-worker.worker _ step c.loop-worker.invariant.decided;
      gone = one_gone plan c.loop-worker.cluster c.expire.new.self c.loop-worker.worker _ step c.loop-worker.invariant.gone;
      on = drains_both 0 0 c.args.cluster.now c.loop-worker.cluster c.expire.new.self c.loop-worker.invariant.on (drains_one plan c.loop-worker.cluster c.expire.new.self _ _ step refl refl);
    }

pub returns-clause-decided : goal.returns-clause-decided
returns-clause-decided g c = λ w le. c.loop-worker.invariant.decided w (omega (arith, le, c.loop-worker-test.false))

pub returns-clause-gone : goal.returns-clause-gone
returns-clause-gone g c =
    all_gone (setup_of g.W.Work.plan c.loop-worker.cluster) c.loop-worker.cluster.journal c.loop-worker.worker c.is_history.ensures.history c.loop-worker-test.false c.loop-worker.invariant.gone

pub returns-in_err-expire-clause-on : goal.returns-in_err-expire-clause-on
returns-in_err-expire-clause-on g c = drains_both 0 0 c.args.cluster.now c.loop-worker.cluster c.expire.new.self c.loop-worker.invariant.on (drains_same 0 c.loop-worker.cluster c.expire.new.self c.in_err-expire.ensures.err)
