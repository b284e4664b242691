use Rattle.std.proofs.Common.{◌≡◌, ℕ, ◌++◌, map, drop}
use Rattle.ks_audit_commit.proofs.audited.first_offsets.Given as goal

abbrev pub invariant-loop-input : goal.invariant-loop-input
invariant-loop-input l = l.offsets.items ++ map (λ (n : ℕ). (n, 0)) (drop l.input-index l.inputs) ≡ map (λ (n : ℕ). (n, 0)) l.inputs
