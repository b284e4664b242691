use Rattle.std.proofs.Common.{◌≡◌, None, fold, map, length}
use Rattle.ks_query.specs.Query.{add_to}
use Rattle.ks_query.specs.Windows.{by_window}
use Rattle.ks_oracle.proofs.aggregates.count_in.Given as goal

abbrev pub invariant-loop-rest : goal.invariant-loop-rest
invariant-loop-rest l = fold (add_to {R = by_window} None) l.spans (map (λ s. ((l.group, s), l.row)) l.rest) ≡ fold (add_to {R = by_window} None) l.initial.spans (map (λ s. ((l.group, s), l.row)) l.starts)

abbrev pub decreases-loop-rest : goal.decreases-loop-rest
decreases-loop-rest l = length l.rest
