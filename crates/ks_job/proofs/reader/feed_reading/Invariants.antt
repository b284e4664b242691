use Rattle.std.proofs.Common.{◌≡◌, List, ◌++◌, length}
use Rattle.ks_job.specs.declared.judge.JobItem.{JobItem}
use Rattle.ks_job.specs.Items.{item_views}
use Rattle.ks_job.specs.Lines.{spot}
use Rattle.ks_job.specs.Reader.{Reading, Machine, after}
use Rattle.ks_job.proofs.reader.feed_reading.Given as goal

-- what is left of the piece leads where all of it leads, and the old items stay
pub record Feeding (old now : List JobItem) (here whole : Machine) : Type 0 where
  pub leads : here ≡ whole
  pub pushed : List JobItem
  pub kept : now ≡ old ++ pushed

abbrev pub invariant-loop-front : goal.invariant-loop-front
invariant-loop-front l =
    Feeding l.fn.items.items l.items.items
    (after (record { reader = Reading (spot l.place) l.begun.items; items = item_views l.items.items }) l.rest)
    (after (record { reader = Reading (spot l.fn.place) l.fn.begun.items; items = item_views l.fn.items.items }) l.piece)

abbrev pub decreases-loop-front : goal.decreases-loop-front
decreases-loop-front l = length l.rest
