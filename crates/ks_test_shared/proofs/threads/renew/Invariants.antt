use Rattle.std.proofs.Common.{◌≡◌}
use Rattle.ks_test_shared.specs.Ours.{IsOurs}
use Rattle.ks_test_shared.proofs.threads.renew.Given as goal

abbrev pub invariant-loop : goal.invariant-loop
invariant-loop g l = IsOurs l.shared.growing.id l.pass × (l.pass.number ≡ l.fn.pass.number)
