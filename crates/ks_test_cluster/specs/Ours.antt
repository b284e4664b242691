-- A cluster of the copying task, whatever its journal.
use Rattle.std.specs.Prelude.{◌≡◌}
use Rattle.ks_cluster.specs.View.{ClusterView}
use Rattle.ks_law_exactly_once.specs.Example.{setup}

abbrev pub IsOurs : {W : Type 0} → ClusterView W → Type 0
IsOurs c = (c.counts ≡ setup.counts) × (c.tasks ≡ setup.tasks)
