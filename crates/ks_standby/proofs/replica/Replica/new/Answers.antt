use Rattle.std.proofs.Common.{ap, ◌∙◌}
use Rattle.ks_standby.specs.Replicas.{numbers_of, view_in}
use Rattle.ks_standby.proofs.Feeding.{new_view, new_numbers}
use Rattle.ks_standby.proofs.replica.Replica.new.Goals as goal

pub returns-clause-view : goal.returns-clause-view
returns-clause-view c = ap (view_in c.args.task) c.in_ok-changelogs.ensures ∙ new_view c.args.task c.args.changelogs.now

pub returns-clause-changelogs : goal.returns-clause-changelogs
returns-clause-changelogs c = ap numbers_of c.in_ok-changelogs.ensures ∙ new_numbers c.args.changelogs.now
