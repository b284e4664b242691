use Rattle.ks_worker_turn.proofs.Joined.{epoch_begun}
use Rattle.ks_history.specs.declared.journal.Request.TheVariants.{Init}
use Rattle.ks_history.specs.declared.journal.Reply.TheVariants.{Number}
use Rattle.ks_worker_state.proofs.Gains.{made_one}
use Rattle.ks_worker_turn.proofs.Requests.{epoch_now}
use Rattle.ks_worker_turn.proofs.joining.begin_epoch.Goals as goal

pub returns-clause-worker : goal.returns-clause-worker
returns-clause-worker g c = λ hash d runs w.
    epoch_begun g.W.Work.plan _ _ c.init.ensures.later d c.args.state.now.member c.in_ok-epoch.epoch c.args.state.now.session.last c.init.new.last c.args.state.now.session.numbers.items c.clear.new.self.items
    c.args.state.now.tasks.items c.args.state.now.replicas.items c.in_ok-epoch.ensures.wrote c.in_ok-epoch.ensures.last c.clear.ensures.items c.requires.outside c.requires.may.network w

pub returns-clause-made : goal.returns-clause-made
returns-clause-made g c =
    made_one g.W.Work.plan c.args.state.now.session.client.pass c.init.new.self.pass (Init c.args.state.now.member.number) (Number c.in_ok-epoch.epoch) c.in_ok-epoch.ensures.wrote

pub returns-clause-begun : goal.returns-clause-begun
returns-clause-begun g c =
    let s = c.args.state.now in
    epoch_now g.W.Work.plan s (record s { session = record s.session { client = c.init.new.self; last = c.init.new.last; numbers = c.clear.new.self }; member = record s.member { epoch = c.in_ok-epoch.epoch } })
    c.init.ensures.later c.in_ok-epoch.ensures.wrote c.in_ok-epoch.ensures.last c.clear.ensures.items
