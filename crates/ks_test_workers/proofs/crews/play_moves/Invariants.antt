use Rattle.std.proofs.Common.{◌≡◌}
use Rattle.ks_topo.specs.Topologies.{draft_of}
use Rattle.ks_run_workers.specs.Members.{pass_key}
use Rattle.ks_worker.specs.Beginning.{MayRun}
use Rattle.ks_test_workers.proofs.crews.play_moves.Given as goal

-- both may go on, with the passes of before
abbrev pub invariant-loop-step : goal.invariant-loop-step
invariant-loop-step g l = record {
  one : MayRun g.W.Work.plan g.W.Work.good g.H.Hash128.hash_of l.shared.growing.id (draft_of l.topology) l.pair.one.worker.placing l.pair.one.left l.pair.one.worker.state;
  two : MayRun g.W.Work.plan g.W.Work.good g.H.Hash128.hash_of l.shared.growing.id (draft_of l.topology) l.pair.two.worker.placing l.pair.two.left l.pair.two.worker.state;
  one_pass : pass_key l.pair.one.worker.state.session.client.pass ≡ pass_key l.fn.pair.one.worker.state.session.client.pass;
  two_pass : pass_key l.pair.two.worker.state.session.client.pass ≡ pass_key l.fn.pair.two.worker.state.session.client.pass;
}
