use Rattle.std.proofs.Common.{◌≡◌, ◌+◌, drop}
use Rattle.ks_log.specs.Index.{count_place}
use Rattle.ks_log.proofs.counts.place_of.Given as goal

abbrev pub invariant-loop-kept : goal.invariant-loop-kept
invariant-loop-kept l = (l.at + count_place l.w l.epoch (drop l.kept-index l.counts) ≡ count_place l.w l.epoch l.counts) × (l.at ≡ l.kept-index)
