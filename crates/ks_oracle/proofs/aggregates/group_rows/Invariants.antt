use Rattle.std.proofs.Common.{◌≡◌, fold, length}
use Rattle.ks_def_runs.specs.Bytes.{by_bytes}
use Rattle.ks_def_runs.specs.FinMap as fin
use Rattle.ks_query.specs.Query.{add_to, grouped_rows}
use Rattle.std.specs.Prelude.{option_copied}
use Rattle.ks_oracle.proofs.aggregates.group_rows.Given as goal

abbrev pub invariant-loop-rest : goal.invariant-loop-rest
invariant-loop-rest l = fold (add_to {R = by_bytes} (option_copied l.field)) l.groups (grouped_rows l.by l.rest) ≡ fold (add_to {R = by_bytes} (option_copied l.field)) fin.empty (grouped_rows l.by (fin.entries l.rows))

abbrev pub decreases-loop-rest : goal.decreases-loop-rest
decreases-loop-rest l = length l.rest
