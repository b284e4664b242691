-- A gate that does as it was told beforehand, as a plain value.
use Rattle.std.specs.Prelude.{ℕ, ◌+◌, ◌==◌, ◌&&◌, Bool, List, get_or, if◌then◌else◌}
use Rattle.std.specs.List.{list_any}
use Rattle.ks_edge.specs.Causes.{counted}
use Rattle.ks_edge.specs.Counts.{stops_of, calls_of, one_if}
use Rattle.ks_edge.specs.declared.gate.Act.{Act}
use Rattle.ks_edge.specs.declared.gate.Act.TheVariants.{Stop}

-- the acts and the cuts that were listed; the turn; and the four counts since the last reset
pub record Script : Type 0 where
  pub acts : List Act
  pub cuts : List (ℕ × ℕ)
  pub turn : ℕ
  pub asked : ℕ
  pub stops : ℕ
  pub calls : ℕ
  pub made : ℕ

-- after a reset the script begins anew
abbrev pub after_reset : Script → Script
after_reset s = record s { turn = 0; asked = 0; stops = 0; calls = 0; made = 0 }

-- the listed acts in order, and then Stop
abbrev pub act_of : Script → Act
act_of s = get_or s.acts s.asked Stop

abbrev pub after_next : Script → Script
after_next s = record s { asked = s.asked + 1; stops = s.stops + stops_of (act_of s); calls = s.calls + calls_of (act_of s) }

-- the turn in which this step is asked for: step 0 begins one more
abbrev pub turn_of : Script → ℕ → ℕ
turn_of s step = if step == 0 then counted s.turn else s.turn

-- cut exactly at the listed pairs of turn and step
abbrev pub cut_of : Script → ℕ → Bool
cut_of s step = list_any (λ c. (c.0 == turn_of s step) && (c.1 == step)) s.cuts

abbrev pub after_cut : Script → ℕ → Script
after_cut s step = record s { turn = turn_of s step; made = s.made + one_if (cut_of s step) }
