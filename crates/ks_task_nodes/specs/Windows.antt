-- Hopping windows (Kafka Streams developer guide, "Windowing").
use Rattle.std.specs.Prelude.{Bool, ◌&&◌, nat_le}
use Rattle.ks_plan.specs.Plan.{Window}

-- the advance is at least 1 and at most the size
abbrev pub fits_window : Window → Bool
fits_window w = nat_le 1 w.advance && nat_le w.advance w.size
