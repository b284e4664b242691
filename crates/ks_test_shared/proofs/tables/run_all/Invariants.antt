use Rattle.std.proofs.Common.{◌≡◌}
use Rattle.ks_test_shared.specs.Ours.{IsOurs}
use Rattle.ks_test_shared.proofs.tables.run_all.Given as goal

abbrev pub invariant-loop-is_first : goal.invariant-loop-is_first
invariant-loop-is_first g l = (IsOurs l.shared.growing.id l.first × (l.first.number ≡ l.fn.first.number)) × (IsOurs l.shared.growing.id l.second × (l.second.number ≡ l.fn.second.number))
