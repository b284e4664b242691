-- The bounds of a command's numbers.
use Rattle.std.specs.Prelude.{◌≤◌, ℕ, ⊤, IfSome}
use Rattle.ks_words.specs.declared.command.Command.{Command}
use Rattle.ks_words.specs.declared.command.Command.TheVariants.{Run, Load, Ask, Audit}
use Rattle.ks_words.specs.declared.settings.Settings.{Settings}
use Rattle.ks_words.specs.Grammar.{greatest_seed, greatest_start}

abbrev pub IsBetween : ℕ → ℕ → ℕ → Type 0
IsBetween low high n = (low ≤ n) × (n ≤ high)

pub record HasRanges (s : Settings) : Type 0 where
  pub instances : IsBetween 1 4 s.instances
  pub threads : IsBetween 1 4 s.threads
  pub standbys : IsBetween 0 3 s.standbys
  pub interval : IsBetween 1 10000 s.interval
  pub chaos : IfSome s.chaos (IsBetween 0 greatest_seed)
  pub stop : IfSome s.stop (IsBetween 1 1000000)
  pub cache : IsBetween 0 100000 s.cache

abbrev pub IsWithin : Command → Type 0
IsWithin (Run s) = HasRanges s
IsWithin (Load orders s) = IsBetween 1 150000 orders × HasRanges s
IsWithin (Ask node key start s) = IfSome start (IsBetween 0 greatest_start) × HasRanges s
IsWithin Audit = ⊤
