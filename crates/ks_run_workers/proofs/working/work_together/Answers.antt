use Rattle.std.proofs.Common.{rules}
use Rattle.std.specs.Prelude.{slice_index_or}
use Rattle.ks_topo.specs.Topologies.{draft_of}
use Rattle.ks_run_workers.specs.Members.{pass_key}
use Rattle.ks_run_workers.specs.Working.{TurnedUnlessStarved}
use Rattle.ks_run_workers.proofs.LockPasses.{same_at, same_keys}
use Rattle.ks_run_workers.proofs.working.work_together.Goals as goal

pub returns-clause-keys : goal.returns-clause-keys
returns-clause-keys g c =
    same_keys (λ m. pass_key m.worker.state.session.client.pass) c.for_each_mut.new.s c.args.members.now
    (same_at (λ m. pass_key m.worker.state.session.client.pass) c.args.members.now c.for_each_mut.new.s c.for_each_mut.auto.s (λ k x lt. let h = (c.for_each_mut.ensures k x lt).1 in search rules))

pub returns-clause-turned : goal.returns-clause-turned
returns-clause-turned g c = record {
  each = λ k m lt.
      let h = (c.for_each_mut.ensures k m lt).1 in
      let turned : TurnedUnlessStarved g.W.Work.plan (draft_of c.args.topology.now) c.args.turns (slice_index_or c.args.members.now k m) (slice_index_or c.for_each_mut.new.s k m) = search rules in
      turned;
}
