use Rattle.std.proofs.Common.{◌≡◌, length}
use Rattle.std.specs.Prelude.{option_map}
use Rattle.ks_audit_ledger.specs.Accounts.{last_from, last_of}
use Rattle.ks_audit_ledger.proofs.ledger.last_for.Given as goal

abbrev pub invariant-loop-rest : goal.invariant-loop-rest
invariant-loop-rest l = last_from l.task (option_map (λ p. p.now) l.found) l.rest ≡ last_of l.task l.pending

abbrev pub decreases-loop-rest : goal.decreases-loop-rest
decreases-loop-rest l = length l.rest
