use Rattle.ks_cluster.specs.View.{setup_of}
use Rattle.ks_settle.proofs.Feeding.{new_replica}
use Rattle.ks_settle.proofs.Given.{given_first}
use Rattle.ks_settle.proofs.restoring.replica_or_new.Goals as goal

pub returns-in-Some : goal.returns-in-Some
returns-in-Some g c = given_first (setup_of g.W.Work.plan c.args.cluster.now) c.args.cluster.now.journal c.args.task c.args.changelogs.now c.args.given c.in-Some.replica c.requires.given c.in-Some.is

pub returns-in_ok-replica-in-None : goal.returns-in_ok-replica-in-None
returns-in_ok-replica-in-None g c = new_replica g.W.Work.plan c.args.cluster.now c.requires.quiet c.is_history.ensures.history c.args.task c.args.changelogs.now c.in_ok-replica-in-None.replica c.requires.there c.requires.changelogs c.in_ok-replica-in-None.ensures.view c.in_ok-replica-in-None.ensures.changelogs
