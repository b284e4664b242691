use Rattle.std.proofs.Common.{arith}
use Rattle.ks_history.specs.declared.journal.Request.TheVariants.{Expire}
use Rattle.ks_history.specs.declared.journal.Reply.TheVariants.{Truth}
use Rattle.ks_worker_state.proofs.Workers.{worker_later}
use Rattle.ks_worker_state.proofs.Gains.{made_one}
use Rattle.ks_worker_acts.proofs.removing.evict.Goals as goal

pub returns-in_err-expire-clause-worker : goal.returns-in_err-expire-clause-worker
returns-in_err-expire-clause-worker g c = λ d w. worker_later g.W.Work.plan c.args.state.now.session.client.pass c.expire.new.self.pass c.expire.ensures.later c.requires.may.network d _ _ _ _ _ w

pub returns-clause-worker : goal.returns-clause-worker
returns-clause-worker g c = λ d w. worker_later g.W.Work.plan c.args.state.now.session.client.pass c.expire.new.self.pass c.expire.ensures.later c.requires.may.network d _ _ _ _ _ w

pub returns-clause-expired : goal.returns-clause-expired
returns-clause-expired g c = λ few. made_one g.W.Work.plan c.args.state.now.session.client.pass c.expire.new.self.pass (Expire c.args.w) (Truth c.in_ok-expire.field-0) c.in_ok-expire.ensures.wrote

pub returns-in_err-expire-clause-quiet : goal.returns-in_err-expire-clause-quiet
returns-in_err-expire-clause-quiet g c = λ more. absurd (omega (arith, more, c.if-w-gt-LAST_WORKER.false))

pub returns-clause-quiet : goal.returns-clause-quiet
returns-clause-quiet g c = λ more. absurd (omega (arith, more, c.if-w-gt-LAST_WORKER.false))
