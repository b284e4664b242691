use Rattle.std.proofs.Common.{◌≡◌, ◌++◌, length}
use Rattle.ks_query.specs.Streams.{some_of, rekey_item}
use Rattle.ks_oracle.proofs.streams.rekeyed_items.Given as goal

abbrev pub invariant-loop-rest : goal.invariant-loop-rest
invariant-loop-rest l = l.found.items ++ some_of (rekey_item l.name) l.rest ≡ some_of (rekey_item l.name) l.items

abbrev pub decreases-loop-rest : goal.decreases-loop-rest
decreases-loop-rest l = length l.rest
