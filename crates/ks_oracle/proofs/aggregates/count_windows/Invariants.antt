use Rattle.std.proofs.Common.{◌≡◌, None, fold, length}
use Rattle.ks_def_runs.specs.FinMap as fin
use Rattle.ks_query.specs.Query.{add_to, in_windows}
use Rattle.ks_query.specs.Streams.{grouped}
use Rattle.ks_query.specs.Windows.{by_window}
use Rattle.std.specs.Prelude.{option_copied}
use Rattle.ks_oracle.proofs.aggregates.count_windows.Given as goal

abbrev pub invariant-loop-rest : goal.invariant-loop-rest
invariant-loop-rest l = fold (add_to {R = by_window} None) l.spans (in_windows (record { size = l.size; advance = l.advance; grace = 0 }) (grouped (option_copied l.by) l.rest)) ≡ fold (add_to {R = by_window} None) fin.empty (in_windows (record { size = l.size; advance = l.advance; grace = 0 }) (grouped (option_copied l.by) l.items))

abbrev pub decreases-loop-rest : goal.decreases-loop-rest
decreases-loop-rest l = length l.rest
