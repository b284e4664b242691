use Rattle.std.proofs.Common.{refl}
use Rattle.ks_worker_acts.proofs.Leavers.{rests_clean, rests_dirty}
use Rattle.ks_worker_acts.proofs.leaving.rest_task.Goals as goal

pub returns-in_ok-push : goal.returns-in_ok-push
returns-in_ok-push c = rests_clean c.args.task c.in-Ok.replica c.args.replicas.now.items c.push.new.self.items c.in-Ok.ensures.clean c.in-Ok.ensures.view c.in-Ok.ensures.changelogs c.in_ok-push.ensures.items

pub returns-in_default : goal.returns-in_default
returns-in_default c = rests_dirty c.args.task c.args.replicas.now.items c.args.replicas.now.items c.in_default.ensures.dirty refl
