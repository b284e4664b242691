use Rattle.std.proofs.Common.{◌≡◌, [], fold, drop, length}
use Rattle.ks_plan.specs.Layout.{wired_label}
use Rattle.ks_topo_layout.proofs.layout.labels_of.Given as goal

-- the rest of the nodes on what was found
abbrev pub invariant-loop-wiring : goal.invariant-loop-wiring
invariant-loop-wiring l = record { found : fold wired_label l.labels.items (drop l.wiring-index l.wirings) ≡ fold wired_label [] l.wirings; count : length l.labels.items ≡ l.wiring-index }
