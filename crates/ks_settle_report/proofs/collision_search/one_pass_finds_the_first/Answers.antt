use Rattle.ks_settle_report.proofs.OnePass.{one_pass_finds_the_first}
use Rattle.ks_settle_report.proofs.collision_search.one_pass_finds_the_first.Goals as goal

pub returns : goal.returns
returns c = one_pass_finds_the_first
