use Rattle.std.proofs.Common.{◌≡◌, ◌+◌, drop}
use Rattle.ks_plan.specs.Plan.{name_place}
use Rattle.ks_oracle.specs.Printing.{names_of}
use Rattle.ks_oracle.proofs.printing.place_of.Given as goal

abbrev pub invariant-loop-node : goal.invariant-loop-node
invariant-loop-node l = (l.place ≡ l.node-index) × (l.place + name_place (names_of (drop l.node-index l.nodes)) l.name ≡ name_place (names_of l.nodes) l.name)
