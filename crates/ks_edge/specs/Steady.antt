-- A gate that works, commits and ends by a rule, and with a seed draws crashes and other accidents among its acts.
use Rattle.std.specs.Prelude.{ℕ, ◌+◌, ◌/◌, ◌%◌, ◌^◌, ◌==◌, ◌&&◌, not, nat_le, nat_lt, bit_xor, Bool, true, false, Option, Some, None, option_map, if◌then◌else◌}
use Rattle.rand_core.specs.Pcg32Seed.{pcg32_seed}
use Rattle.rand_pcg.specs.Lcg.{Lcg}
use Rattle.rand_pcg.specs.Pcg.{pcg32, pcg32_of_seed}
use Rattle.ks_edge.specs.Counts.{stops_of, calls_of, one_if}
use Rattle.ks_edge.specs.declared.gate.Act.{Act}
use Rattle.ks_edge.specs.declared.gate.Act.TheVariants.{Work, Commit, Abort, Crash, Leave, Pump, Probe, Evict, Stop}
use Rattle.ks_edge.specs.declared.gate.TurnView.{TurnView}

-- PCG32 (XSH RR): the generator that a number seeds, and its next word with the generator after it
unfoldable pub generator_of : ℕ → Lcg
generator_of n = pcg32_of_seed (pcg32_seed 16 n)

unfoldable pub draw : Lcg → ℕ × Lcg
draw g = pcg32 g

-- the generator where there is a seed; after how many changes a commit is due; whether the last act was to work; and the
-- four counts since the last reset
pub record Steady : Type 0 where
  pub generator : Option Lcg
  pub interval : ℕ
  pub worked : Bool
  pub asked : ℕ
  pub stops : ℕ
  pub calls : ℕ
  pub made : ℕ

-- as a reset for this worker leaves it
abbrev pub at_reset : ℕ → Option ℕ → ℕ → Steady
at_reset worker seed interval = record {
  generator = option_map (λ n. generator_of (bit_xor n worker)) seed;
  interval = interval;
  worked = false;
  asked = 0;
  stops = 0;
  calls = 0;
  made = 0;
}

-- the steady rule, the first case that fits: commit where that is due, or where work brought nothing and there is something
-- to commit; end after 16 works that brought nothing, unless more input may come; feed replicas between two such works; work
abbrev pub steady_act : ℕ → Bool → TurnView → Act
steady_act interval worked view =
    if nat_le interval view.dirty then Commit
    else if nat_le 1 view.dry && nat_lt 0 view.dirty then Commit
    else if nat_le 16 view.dry && not view.feeding then Stop
    else if nat_le 1 view.dry && worked then Pump
    else Work (view.turn % 2 ^ 32)

-- the act by the number that was drawn: one of 64 is a crash, and so on; else the steady rule's
abbrev pub act_by : ℕ → ℕ → Act → Act
act_by r sort steady =
    if sort == 0 then Crash
    else if sort == 1 then Abort
    else if sort == 2 then Evict (r / 64 % 16)
    else if sort == 3 then Probe
    else if sort == 4 then Leave
    else if nat_le sort 7 then Pump
    else if sort == 8 then Commit
    else steady

abbrev pub drawn_act : ℕ → Act → Act
drawn_act r steady = act_by r (r % 64) steady

abbrev pub next_act : Steady → TurnView → Act
next_act s view = elim s.generator [
  | None ↦ steady_act s.interval s.worked view
  | Some g ↦ drawn_act (draw g).0 (steady_act s.interval s.worked view)
]

abbrev pub is_work : Act → Bool
is_work (Work pick) = true
is_work Commit = false
is_work Abort = false
is_work Crash = false
is_work Leave = false
is_work Pump = false
is_work Probe = false
is_work (Evict w) = false
is_work Stop = false

-- each act takes one word, where there is a seed
abbrev pub after_act : Steady → TurnView → Steady
after_act s view = record s {
  generator = option_map (λ g. (draw g).1) s.generator;
  worked = is_work (next_act s view);
  asked = s.asked + 1;
  stops = s.stops + stops_of (next_act s view);
  calls = s.calls + calls_of (next_act s view);
}

-- a cut where the next word is a multiple of 128; without a seed none
abbrev pub is_cut : Steady → Bool
is_cut s = elim s.generator [ None ↦ false | Some g ↦ (draw g).0 % 128 == 0 ]

-- each question takes one word, where there is a seed
abbrev pub after_question : Steady → Steady
after_question s = record s {
  generator = option_map (λ g. (draw g).1) s.generator;
  made = s.made + one_if (is_cut s);
}
