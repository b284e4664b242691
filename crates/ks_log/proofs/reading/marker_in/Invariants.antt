use Rattle.std.proofs.Common.{◌≡◌, drop}
use Rattle.ks_history.specs.Faithful.{marker_among}
use Rattle.ks_log.proofs.reading.marker_in.Given as goal

abbrev pub invariant-loop-marker : goal.invariant-loop-marker
invariant-loop-marker l = marker_among l.part l.epoch (drop l.marker-index l.markers) ≡ marker_among l.part l.epoch l.markers
