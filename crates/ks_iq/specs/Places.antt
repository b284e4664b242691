-- Where an ask is answered, as code finds it.
use Rattle.std.specs.Prelude.{◌≡◌, ℕ, true, List, get_or, Option, Some, None, Result, Ok, Err, option_map, cond}
use Rattle.ks_plan.specs.Drafts.{DraftView, OpView, op_view}
use Rattle.ks_plan.specs.Plan.{plan_of}
use Rattle.ks_plan.specs.Layout.{kind_at}
use Rattle.ks_plan.specs.Infos.{node_place, place_in, built_view}
use Rattle.ks_expr.specs.Eval.{Row}
use Rattle.ks_wire.specs.Reading.{agg_from}
use Rattle.ks_query.specs.Aggregates.{agg_row}
use Rattle.ks_settle.specs.Rows.{row_by, counts_windows}
use Rattle.ks_iq.specs.declared.ask.Ask.{Ask}
use Rattle.ks_iq.specs.declared.fault.IqFault.{IqFault}
use Rattle.ks_iq.specs.declared.place.Place.{Place}
use Rattle.ks_iq.specs.Asks.{node_of, log_of, task_of, ask_fault, shown_row}

-- the row that kept bytes are shown as, by the node's operation
abbrev pub op_row : OpView → List ℕ → Option Row
op_row op bytes = cond (counts_windows op) (option_map (agg_row true) (agg_from bytes)) (row_by op bytes)

-- the node of an ask's name, its changelog, and the task that has the key
pub record IsPlaceOf (d : DraftView) (a : Ask) (p : Place) : Type 0 where
  pub fine : ask_fault d a ≡ None
  pub named : p.node.now.name ≡ a.node
  pub drafted : get_or d.nodes (node_of d a) (built_view p.node.now) ≡ built_view p.node.now
  pub stands : node_place p.node.now ≡ place_in (plan_of d) (node_of d a)
  pub log : p.log ≡ log_of d a
  pub task : p.task ≡ task_of d a
  pub shows : (bytes : List ℕ) → shown_row (kind_at (plan_of d) (node_of d a)) bytes ≡ op_row (op_view p.node.now.op) bytes

-- what is found: the place, or what the job alone has against the ask
abbrev pub Finds : DraftView → Ask → Result Place IqFault → Type 0
Finds d a (Ok p) = IsPlaceOf d a p
Finds d a (Err f) = ask_fault d a ≡ Some f
