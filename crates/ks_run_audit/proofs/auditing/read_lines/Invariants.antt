use Rattle.std.proofs.Common.{◌≡◌, ◌-◌, ◌<◌, length}
use Rattle.ks_run_audit.specs.Outputs.{IsSound}
use Rattle.ks_run_audit.specs.Feeding.{HasLost, IsFeed, draft_in}
use Rattle.ks_run_audit.proofs.auditing.read_lines.Given as goal

abbrev pub invariant-loop-count : goal.invariant-loop-count
invariant-loop-count g l =
    IsSound g.H.Hash128.hash_of l.output
    × (l.output.topology ≡ l.fn.output.topology)
    × IsFeed l.feed
    × (0 < length l.buf)
    × (g.S.Source.faults l.input ≡ g.S.Source.faults l.fn.input)
    × HasLost g.H.Hash128.hash_of (draft_in l.fn.output) l.fn.feed.taken l.feed.taken (g.S.Source.left l.fn.input) (g.S.Source.left l.input) l.fn.feed.line.items l.feed.line.items l.fn.feed.lines l.feed.lines l.fn.output l.output

abbrev pub decreases-loop-count : goal.decreases-loop-count
decreases-loop-count g l = 536870913 - l.feed.taken
