use Rattle.std.proofs.Common.{◌≡◌, ◌++◌, length}
use Rattle.ks_expr.specs.Terms.{set_of}
use Rattle.ks_query.specs.Streams.{some_of, map_item}
use Rattle.ks_oracle.proofs.streams.mapped_items.Given as goal

abbrev pub invariant-loop-rest : goal.invariant-loop-rest
invariant-loop-rest l = l.found.items ++ some_of (map_item (set_of l.set)) l.rest ≡ some_of (map_item (set_of l.set)) l.items

abbrev pub decreases-loop-rest : goal.decreases-loop-rest
decreases-loop-rest l = length l.rest
