use Rattle.std.proofs.Common.{◌≡◌, ℕ, List, ap, subst}
use Rattle.std.specs.Prelude.{OnOk}
use Rattle.ks_history.specs.Machine.{TaskPlan}
use Rattle.ks_settle.specs.Drained.{caches_in}
use Rattle.ks_settle.proofs.Publishing.{drains_none}
use Rattle.ks_settle.proofs.draining.TaskManager.drain_topic.Goals as goal

pub read_tasks-requires-clause-may : goal.read_tasks-requires-clause-may
read_tasks-requires-clause-may g c κs within = record { of = c.requires.of; idle = c.requires.resting.ready.alone.idle }

pub publish-requires-clause-may : goal.publish-requires-clause-may
publish-requires-clause-may g c = c.requires.of.may

pub publish-requires-clause-logs : goal.publish-requires-clause-logs
publish-requires-clause-logs g c = λ sub. ap (λ (q : TaskPlan). q.changelogs sub) c.requires.of.work

pub returns-clause-caches : goal.returns-clause-caches
returns-clause-caches g c = subst (λ (l : List ℕ). OnOk c.publish.result (caches_in c.publish.new.self.tasks.items ≡ l)) c.in_ok-works.ensures.caches c.publish.ensures.caches

pub returns-in_err-works-clause-on : goal.returns-in_err-works-clause-on
returns-in_err-works-clause-on g c = drains_none 1 c.args.cluster.now
