use Rattle.std.proofs.Common.{◌≡◌, ◌++◌, length}
use Rattle.ks_query.specs.Streams.{some_of, item_of}
use Rattle.ks_query.specs.Query.{of_topic}
use Rattle.ks_oracle.proofs.streams.source_items.Given as goal

abbrev pub invariant-loop-rest : goal.invariant-loop-rest
invariant-loop-rest l = l.found.items ++ some_of item_of (of_topic l.topic l.rest) ≡ some_of item_of (of_topic l.topic l.records)

abbrev pub decreases-loop-rest : goal.decreases-loop-rest
decreases-loop-rest l = length l.rest
