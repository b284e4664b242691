use Rattle.std.proofs.Common.{◌≡◌, ◌++◌, drop}
use Rattle.ks_plan.specs.Layout.{relabel}
use Rattle.ks_topo_layout.proofs.layout.with_labels.Given as goal

-- what was changed and the rest
abbrev pub invariant-loop-label : goal.invariant-loop-label
invariant-loop-label l = l.changed.items ++ relabel l.new l.old (drop l.label-index l.labels) ≡ relabel l.new l.old l.labels
