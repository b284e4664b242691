use Rattle.std.proofs.Common.{◌≡◌, drop}
use Rattle.ks_commit.specs.Alone.{number_in}
use Rattle.ks_commit.proofs.numbers.number_at.Given as goal

abbrev pub invariant-loop-pair : goal.invariant-loop-pair
invariant-loop-pair l = number_in l.part (drop l.pair-index l.numbers) ≡ number_in l.part l.numbers
