use Rattle.std.proofs.Common.{◌≡◌, length}
use Rattle.ks_test_runs.proofs.runs.idle_gates.Given as goal

-- one gate for each turn so far
abbrev pub invariant-loop : goal.invariant-loop
invariant-loop g l = length l.gates.items ≡ l.counter
