use Rattle.std.proofs.Common.{◌≡◌, subst}
use Rattle.std.specs.Prelude.{IfOk}
use Rattle.ks_history.specs.State.{State}
use Rattle.ks_history.specs.Reads.{ends_of}
use Rattle.ks_worker_client.proofs.Called.{later, read_at, read_made}
use Rattle.ks_iq.proofs.feeding.ends_through.Goals as goal

pub returns-clause-later : goal.returns-clause-later
returns-clause-later g c = later g.W.Work.plan c.args.pass.now c.ends.new.pass c.ends.ensures

pub returns-clause-made : goal.returns-clause-made
returns-clause-made g c = read_made g.W.Work.plan c.args.pass.now c.ends.new.pass c.ends.ensures c.ends.ensures.does.0

pub returns-clause-ends : goal.returns-clause-ends
returns-clause-ends g c = subst (λ (s : State). IfOk c.ends.result (λ v. v.items ≡ ends_of s c.args.parts.now)) (read_at g.W.Work.plan c.args.pass.now c.ends.new.pass c.ends.ensures c.ends.ensures.does.0) c.ends.ensures.does.1
