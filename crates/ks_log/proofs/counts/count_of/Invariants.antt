use Rattle.std.proofs.Common.{◌≡◌, drop}
use Rattle.ks_log.specs.Index.{counted}
use Rattle.ks_log.proofs.counts.count_of.Given as goal

abbrev pub invariant-loop-kept : goal.invariant-loop-kept
invariant-loop-kept l = counted l.w l.epoch (drop l.kept-index l.counts) ≡ counted l.w l.epoch l.counts
