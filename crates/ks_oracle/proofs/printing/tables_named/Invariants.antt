use Rattle.std.proofs.Common.{◌≡◌, ◌++◌, length}
use Rattle.ks_query.specs.Streams.{some_of}
use Rattle.ks_oracle.specs.Found.{answers_of}
use Rattle.ks_oracle.specs.Printing.{table_named}
use Rattle.ks_oracle.proofs.printing.tables_named.Given as goal

abbrev pub invariant-loop-rest : goal.invariant-loop-rest
invariant-loop-rest l = l.tables.items ++ some_of (table_named l.nodes (answers_of l.found)) l.rest ≡ some_of (table_named l.nodes (answers_of l.found)) l.names

abbrev pub decreases-loop-rest : goal.decreases-loop-rest
decreases-loop-rest l = length l.rest
