use Rattle.std.proofs.Common.{◌≡◌, length, ℕ, List}
use Rattle.std.specs.Prelude.{Option, Some, None}
use Rattle.std.specs.List.{flat_map}
use Rattle.ks_job.specs.declared.judge.JobItem.{JobItem}
use Rattle.ks_job.specs.Items.{item_views}
use Rattle.ks_job.specs.Reader.{Reader, after}
use Rattle.ks_job.proofs.reader.feed_all.Given as goal

-- what is left leads where all leads
abbrev pub SameEnd : Option Reader → Option Reader → List JobItem → List JobItem → List ℕ → List ℕ → Type 0
SameEnd None now old_items items all rest = Unit {0}
SameEnd (Some r) None old_items items all rest = ⊥
SameEnd (Some r) (Some s) old_items items all rest = after (record { reader = s; items = item_views items }) rest ≡ after (record { reader = r; items = item_views old_items }) all

abbrev pub invariant-loop-rest : goal.invariant-loop-rest
invariant-loop-rest l = SameEnd l.fn.reader l.reader l.fn.items.items l.items.items (flat_map (λ v. v.items) l.pieces) (flat_map (λ v. v.items) l.rest)

abbrev pub decreases-loop-rest : goal.decreases-loop-rest
decreases-loop-rest l = length l.rest
