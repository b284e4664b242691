-- What a windowed count makes of an item over the bytes of its store.
use Rattle.std.specs.Prelude.{ℕ, [], Option, Some, None}
use Rattle.ks_def_runs.specs.Bytes.{Store}
use Rattle.ks_plan.specs.Plan.{Window}
use Rattle.ks_query.specs.Streams.{Key, StreamItem}
use Rattle.ks_def_lookups.specs.Windows.{CountedBytes, counted}

abbrev pub nothing_counted : Store → CountedBytes
nothing_counted m = record { store = m; late = 0; recs = [] }

abbrev pub counted_key : Window → Store → ℕ → Option Key → CountedBytes
counted_key w m time None = nothing_counted m
counted_key w m time (Some g) = counted w m g time

abbrev pub counted_item : Window → Store → Option StreamItem → CountedBytes
counted_item w m None = nothing_counted m
counted_item w m (Some x) = counted_key w m x.time x.key
