use Rattle.std.proofs.Common.{◌≡◌}
use Rattle.std.specs.Prelude.{replicate}
use Rattle.ks_audit_ledger.specs.Accounts.{blank}
use Rattle.ks_audit_ledger.proofs.ledger.new_ledger.Given as goal

abbrev pub invariant-loop : goal.invariant-loop
invariant-loop l = l.accounts.items ≡ replicate l.counter blank
