use Rattle.std.proofs.Common.{◌≡◌, drop}
use Rattle.ks_run_workers.specs.Working.{is_one_starved}
use Rattle.ks_run_workers.proofs.beside.is_one_starved.Given as goal

abbrev pub invariant-loop-member : goal.invariant-loop-member
invariant-loop-member g l = is_one_starved (drop l.member-index l.members) ≡ is_one_starved l.members
