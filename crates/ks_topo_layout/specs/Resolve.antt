-- What is known of the nodes of a draft while it is resolved, as the code keeps it.
use Rattle.std.specs.Prelude.{List, map, Bool, false, ◌||◌, cond}
use Rattle.ks_plan.specs.declared.node.Wiring.TheVariants as wired
use Rattle.ks_topo_layout.specs.declared.resolve.Resolved.{Resolved}
use Rattle.ks_topo_layout.specs.declared.resolve.Input.{Input}
use Rattle.ks_plan.specs.Drafts.{Name, Topics, OpView, NodeView}
use Rattle.ks_plan.specs.Plan.{Known, Kind, wiring_of, gives_stream, known_of, known_from, known_at, node_number}

abbrev pub resolved_kind : (Kind × Bool) → Resolved
resolved_kind k = record { wiring = wiring_of k.0; rekeyed = k.1 }

abbrev pub resolved : Known → Resolved
resolved k = record { wiring = wiring_of k.kind; rekeyed = k.rekeyed }

abbrev pub resolved_from : Topics → List NodeView → List Resolved
resolved_from ts ns = map resolved (known_from ts ns)

abbrev pub resolved_op : Topics → List NodeView → OpView → Resolved
resolved_op ts ns op = resolved_kind (known_of ts (known_from ts ns) op)

-- what a node's input is, by the name that the draft gives it
abbrev pub input_in : List Known → Name → Input
input_in ks n = record { number = node_number ks n; wiring = wiring_of (known_at ks n).kind; rekeyed = (known_at ks n).rekeyed }

abbrev pub aggregate_of : Input → Bool → Resolved
aggregate_of i grouped = record { wiring = cond (gives_stream i.wiring) (wired.StreamAggregate i.number (grouped || i.rekeyed)) (wired.TableAggregate i.number); rekeyed = false }
