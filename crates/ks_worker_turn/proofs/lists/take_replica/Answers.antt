use Rattle.std.proofs.Common.{refl, sym, ap, ◌∙◌, arith, length}
use Rattle.ks_history.specs.State.{has_task}
use Rattle.ks_worker_state.specs.Names.{replica_names}
use Rattle.ks_worker_turn.proofs.Listing.{absent_next, absent_all}
use Rattle.ks_worker_turn.proofs.lists.take_replica.Goals as goal

pub loop-i-init : goal.loop-i-init
loop-i-init c = record { same = refl; absent = refl }

pub loop-i-preserved : goal.loop-i-preserved
loop-i-preserved c = record {
  same = c.loop-i.invariant.same;
  absent = absent_next c.args.task c.loop-i.replicas.items c.loop-i.i c.index.result.now c.id.result
      (omega (arith, c.loop-i-test.true, c.len-i-end.ensures, c.args.replicas.now.ok.0, ap length c.loop-i.invariant.same)) c.index.ensures c.id.ensures (sym c.is.ensures ∙ c.if-is.false) c.loop-i.invariant.absent;
}

pub returns-clause-absent : goal.returns-clause-absent
returns-clause-absent c = λ none.
    ap (λ l. has_task c.args.task (replica_names l)) (sym c.loop-i.invariant.same)
    ∙ absent_all c.args.task c.loop-i.replicas.items c.loop-i.i (omega (arith, c.loop-i-test.false, c.len-i-end.ensures, c.args.replicas.now.ok.0, ap length c.loop-i.invariant.same)) c.loop-i.invariant.absent
