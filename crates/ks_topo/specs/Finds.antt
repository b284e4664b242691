-- What a test of a draft answers: no fault, or the fault, unless memory ran out.
use Rattle.std.specs.Prelude.{◌≡◌, Option, Some, None, Result, Ok, Err}
use Rattle.ks_plan.specs.declared.fault.TopoFault.{TopoFault}
use Rattle.ks_topo.specs.declared.stop.Refusal.{Refusal}
use Rattle.ks_topo.specs.declared.stop.Refusal.TheVariants.{Memory, Fault}

abbrev pub Stops : Refusal → Option TopoFault → Type 0
Stops Memory fault = Unit {0}
Stops (Fault f) fault = fault ≡ Some f

abbrev pub Finds : {X : Type 0} → Result X Refusal → Option TopoFault → Type 0
Finds (Ok x) fault = fault ≡ None
Finds (Err e) fault = Stops e fault
