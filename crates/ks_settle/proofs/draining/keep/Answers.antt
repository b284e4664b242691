use Rattle.ks_settle.proofs.Works.{kept_one}
use Rattle.ks_settle.proofs.draining.keep.Goals as goal

pub returns-in_ok-push-in-Some : goal.returns-in_ok-push-in-Some
returns-in_ok-push-in-Some c = kept_one c.args.works.now.items c.push.new.self.items c.in-Some.work c.args.work c.in_ok-push-in-Some.ensures.items c.in-Some.is
