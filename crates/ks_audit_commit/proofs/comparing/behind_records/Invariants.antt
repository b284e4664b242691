use Rattle.std.proofs.Common.{◌≡◌, ◌≤◌, drop, length}
use Rattle.ks_audit_commit.specs.Comparing.{behind}
use Rattle.ks_audit_commit.proofs.comparing.behind_records.Given as goal

abbrev pub invariant-loop-place : goal.invariant-loop-place
invariant-loop-place l = (behind (drop l.place l.front) (drop l.next l.recs) ≡ behind l.front (drop l.at l.recs)) × (l.next ≤ length l.recs)
