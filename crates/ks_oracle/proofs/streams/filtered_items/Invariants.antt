use Rattle.std.proofs.Common.{◌≡◌, ◌++◌, length}
use Rattle.ks_expr.specs.Terms.{test_of}
use Rattle.ks_query.specs.Streams.{some_of, filter_item}
use Rattle.ks_oracle.proofs.streams.filtered_items.Given as goal

abbrev pub invariant-loop-rest : goal.invariant-loop-rest
invariant-loop-rest l = l.found.items ++ some_of (filter_item (test_of l.test)) l.rest ≡ some_of (filter_item (test_of l.test)) l.items

abbrev pub decreases-loop-rest : goal.decreases-loop-rest
decreases-loop-rest l = length l.rest
