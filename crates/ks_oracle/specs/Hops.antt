-- Windows as the program keeps them.
use Rattle.ks_plan.specs.Plan.{Window}
use Rattle.ks_oracle.specs.declared.parts.Hops.{Hops}

abbrev pub hops_view : Hops → Window
hops_view h = record { size = h.size; advance = h.advance; grace = h.grace }
