use Rattle.std.proofs.Common.{◌≡◌, fold, length}
use Rattle.ks_def_runs.specs.Bytes.{by_bytes}
use Rattle.ks_def_runs.specs.Table.{write, latest}
use Rattle.ks_query.specs.Query.{of_topic, table_changes}
use Rattle.ks_oracle.proofs.tables.latest_rows.Given as goal

abbrev pub invariant-loop-rest : goal.invariant-loop-rest
invariant-loop-rest l = fold (λ m r. write by_bytes m r.0 r.1) l.rows (table_changes (of_topic l.topic l.rest)) ≡ latest by_bytes (table_changes (of_topic l.topic l.records))

abbrev pub decreases-loop-rest : goal.decreases-loop-rest
decreases-loop-rest l = length l.rest
