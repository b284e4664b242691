use Rattle.std.proofs.Common.{ℕ, List, length}
use Rattle.ks_job_source.specs.AuditOpening.{IsBefore}
use Rattle.ks_job_source.proofs.AuditOpens.{IsAlong}
use Rattle.ks_job_source.proofs.audit_opening.feed_lines.Given as goal

abbrev pub invariant-loop-front : goal.invariant-loop-front
invariant-loop-front l = (got : List ℕ) → IsBefore got l.fn.reader → IsAlong l.fn.reader l.reader l.piece l.rest got

abbrev pub decreases-loop-front : goal.decreases-loop-front
decreases-loop-front l = length l.rest
