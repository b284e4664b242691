use Rattle.std.proofs.Common.{◌≡◌, false}
use Rattle.ks_topo.specs.Topologies.{draft_of}
use Rattle.ks_run_workers.specs.Members.{pass_key}
use Rattle.ks_run_workers.specs.Working.{is_one_starved}
use Rattle.ks_run_workers.proofs.LockPasses.{keys_length}
use Rattle.ks_run_workers.proofs.Turned.{have_turned}
use Rattle.ks_run_workers.proofs.beside.feed_and_work.Goals as goal

pub returns-clause-turned : goal.returns-clause-turned
returns-clause-turned g c =
    let new = c.feed_team.new.team.crew.threads.members.items in
    let none : is_one_starved new ≡ false = c.is_team_starved.ensures.workers c.if-is_team_starved.false in
    have_turned g.W.Work.plan (draft_of c.args.topology.now) c.args.team.now.crew.threads.turns c.args.team.now.crew.threads.members.items new
    (keys_length (λ m. pass_key m.worker.state.session.client.pass) new c.args.team.now.crew.threads.members.items c.feed_team.ensures.keys) c.in_ok-end.ensures.turned none

pub returns-clause-awake : goal.returns-clause-awake
returns-clause-awake g c = c.is_team_starved.ensures.asker c.if-is_team_starved.false
