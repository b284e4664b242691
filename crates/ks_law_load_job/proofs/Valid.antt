-- The load job's topology has no fault and no windowed count.
use Rattle.std.proofs.Common.{◌≡◌, ℕ, zero, suc, List, Option, Some, None, slice_get, refl}
use Rattle.std.specs.Prelude.{Bool}
use Rattle.ks_plan.specs.Drafts.{Name}
use Rattle.ks_plan.specs.Faults.{fault_of}
use Rattle.ks_plan.specs.Plan.{Window, plan_of}
use Rattle.ks_plan.specs.Plan.Kind.{Windowed}
use Rattle.ks_query.specs.Streams.{Input}
use Rattle.ks_query.specs.Grace.{IsWithinGrace}
use Rattle.ks_law_load_job.specs.Items.{load_draft}

pub well_formed : fault_of load_draft ≡ None
well_formed = refl

no_window : (n f : ℕ) (by : Option Name) (w : Window) (through : Bool) → slice_get (plan_of load_draft).kinds n ≡ Some (Windowed f by w through) → ⊥
no_window zero f by w through e = cc
no_window (suc zero) f by w through e = cc
no_window (suc (suc zero)) f by w through e = cc
no_window (suc (suc (suc zero))) f by w through e = cc
no_window (suc (suc (suc (suc zero)))) f by w through e = cc
no_window (suc (suc (suc (suc (suc n))))) f by w through e = cc

pub in_time : (records : List Input) → IsWithinGrace (plan_of load_draft) records
in_time records n f by w through e = absurd (no_window n f by w through e)
