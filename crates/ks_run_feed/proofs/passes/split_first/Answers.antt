use Rattle.ks_run_feed.proofs.Fresh.{split_off}
use Rattle.ks_run_feed.proofs.passes.split_first.Goals as goal

pub returns : goal.returns
returns g c = split_off c.args.passes.items c.remove-first.new.self.items c.remove-first.result c.remove-first.ensures.value c.remove-first.ensures.items c.requires
