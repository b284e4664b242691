use Rattle.std.proofs.Common.{◌≡◌, subst}
use Rattle.std.specs.Prelude.{IfOk}
use Rattle.ks_history.specs.State.{State}
use Rattle.ks_history.specs.Reads.{fetched}
use Rattle.ks_worker_client.proofs.Called.{later, read_at, read_made}
use Rattle.ks_iq.proofs.feeding.fetch_through.Goals as goal

pub returns-clause-later : goal.returns-clause-later
returns-clause-later g c = later g.W.Work.plan c.args.pass.now c.fetch.new.pass c.fetch.ensures

pub returns-clause-made : goal.returns-clause-made
returns-clause-made g c = read_made g.W.Work.plan c.args.pass.now c.fetch.new.pass c.fetch.ensures c.fetch.ensures.does.0

pub returns-clause-records : goal.returns-clause-records
returns-clause-records g c = subst (λ (s : State). IfOk c.fetch.result (λ r. r.0.items ≡ (fetched s c.args.part c.args.from 4096).0)) (read_at g.W.Work.plan c.args.pass.now c.fetch.new.pass c.fetch.ensures c.fetch.ensures.does.0) c.fetch.ensures.does.1

pub returns-clause-next : goal.returns-clause-next
returns-clause-next g c = subst (λ (s : State). IfOk c.fetch.result (λ r. r.1 ≡ (fetched s c.args.part c.args.from 4096).1)) (read_at g.W.Work.plan c.args.pass.now c.fetch.new.pass c.fetch.ensures c.fetch.ensures.does.0) c.fetch.ensures.does.2
