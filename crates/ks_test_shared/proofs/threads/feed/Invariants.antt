use Rattle.std.proofs.Common.{◌≡◌}
use Rattle.ks_test_shared.specs.Ours.{IsOurs}
use Rattle.ks_test_shared.proofs.threads.feed.Given as goal

abbrev pub invariant-loop-ts : goal.invariant-loop-ts
invariant-loop-ts g l = IsOurs l.shared.growing.id l.pass × (l.pass.number ≡ l.fn.pass.number)
