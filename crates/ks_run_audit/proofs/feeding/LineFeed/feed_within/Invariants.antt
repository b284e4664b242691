use Rattle.std.proofs.Common.{◌≡◌, ◌+◌, ◌≤◌, length}
use Rattle.ks_run_audit.specs.Feeding.{Feeding, draft_in}
use Rattle.ks_run_audit.proofs.feeding.LineFeed.feed_within.Given as goal

abbrev pub invariant-loop-end : goal.invariant-loop-end
invariant-loop-end g l =
    Feeding g.H.Hash128.hash_of (draft_in l.fn.output) l.bytes l.rest l.fn.self.line.items l.self.line.items l.fn.self.lines l.self.lines l.fn.output l.output
    × (l.self.taken ≡ l.fn.self.taken)
    × (l.self.lines + length l.rest ≤ l.fn.self.lines + length l.bytes)

abbrev pub decreases-loop-end : goal.decreases-loop-end
decreases-loop-end g l = length l.rest
