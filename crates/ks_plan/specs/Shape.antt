-- A window as the topology has it.
use Rattle.ks_plan.specs.Plan.{Window}
use Rattle.ks_plan.specs.declared.window.Window.{Window as WindowCode}

abbrev pub shape : WindowCode → Window
shape w = record { size = w.size; advance = w.advance; grace = w.grace }
