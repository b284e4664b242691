use Rattle.std.proofs.Common.{◌≡◌, drop}
use Rattle.ks_assign_group.specs.Groups.{end_in}
use Rattle.ks_assign_group.proofs.lags.end_in.Given as goal

abbrev pub invariant-loop-end : goal.invariant-loop-end
invariant-loop-end l = end_in l.part (drop l.end-index l.ends) ≡ end_in l.part l.ends
