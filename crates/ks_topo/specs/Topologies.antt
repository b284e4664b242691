-- A built topology by the draft that it was built from: what it shows are functions of that.
use Rattle.std.specs.Prelude.{◌≡◌, Result, Ok, Err, None, Some}
use Rattle.ks_topo.specs.declared.built.Topology.{Topology}
use Rattle.ks_plan.specs.declared.fault.TopoFault.{TopoFault}
use Rattle.ks_topo.specs.declared.stop.Refusal.{Refusal}
use Rattle.ks_topo.specs.declared.stop.Refusal.TheVariants.{Memory, Fault}
use Rattle.ks_plan.specs.Drafts.{DraftView}
use Rattle.ks_plan.specs.Plan.{Plan, plan_of}
use Rattle.ks_plan.specs.Faults.{fault_of}
use Rattle.ks_topo.specs.Built.{kept_draft}

abbrev pub draft_of : Topology → DraftView
draft_of t = kept_draft t.app t.counts t.nodes.items t.print

abbrev pub plan_in : Topology → Plan
plan_in t = plan_of (draft_of t)

-- a topology of the draft where it is well formed, else its first fault
abbrev pub Builds : DraftView → Result Topology TopoFault → Type 0
Builds d (Ok t) = (fault_of d ≡ None) × (draft_of t ≡ d)
Builds d (Err f) = fault_of d ≡ Some f

-- the same, or want of memory
abbrev pub BuildsOr : DraftView → Result Topology Refusal → Type 0
BuildsOr d (Ok t) = (fault_of d ≡ None) × (draft_of t ≡ d)
BuildsOr d (Err Memory) = Unit {0}
BuildsOr d (Err (Fault f)) = fault_of d ≡ Some f
