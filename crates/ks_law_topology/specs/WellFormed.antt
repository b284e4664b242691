-- Well-formed topologies.
use Rattle.std.specs.Prelude.{◌≡◌, None}
use Rattle.ks_plan.specs.Drafts.{DraftView}
use Rattle.ks_plan.specs.Faults.{fault_of}

-- no fault fits
abbrev pub IsWellFormed : DraftView → Type 0
IsWellFormed d = fault_of d ≡ None
