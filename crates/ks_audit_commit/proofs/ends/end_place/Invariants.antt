use Rattle.std.proofs.Common.{◌≡◌, ◌+◌, drop}
use Rattle.ks_audit_commit.specs.Ends.{end_place}
use Rattle.ks_audit_commit.proofs.ends.end_place.Given as goal

abbrev pub invariant-loop-end : goal.invariant-loop-end
invariant-loop-end l = (l.at + end_place l.part (drop l.end-index l.ends) ≡ end_place l.part l.ends) × (l.at ≡ l.end-index)
