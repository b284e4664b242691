-- Nodes that pass items on.
use Rattle.std.specs.Prelude.{ℕ, Bool, true, false, ◌||◌, List, [], ◌∷◌, Option, Some, None, slice_get}
use Rattle.ks_plan.specs.Plan.{Kind}
use Rattle.ks_plan.specs.Plan.Kind.{StreamSource, StreamFilter, StreamMap, KeySelected}

abbrev pub is_stream : Kind → Bool
is_stream (StreamSource topic) = true
is_stream (StreamFilter from test) = true
is_stream (StreamMap from set) = true
is_stream (KeySelected from field) = true
is_stream _ = false

-- one of the nodes with these numbers passes items on
abbrev pub is_stream_at : Option Kind → Bool
is_stream_at None = false
is_stream_at (Some kind) = is_stream kind

abbrev pub has_live_stream : List Kind → List ℕ → Bool
has_live_stream kinds [] = false
has_live_stream kinds (n ∷ ns) = is_stream_at (slice_get kinds n) || has_live_stream kinds ns
