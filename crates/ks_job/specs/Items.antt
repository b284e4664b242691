-- What a job's lines give, without the places of the boxes in them.
use Rattle.std.specs.Prelude.{◌≡◌, ℕ, List, ◌++◌, map}
use Rattle.ks_record.specs.Records.{Record as Rec}
use Rattle.ks_plan.specs.Drafts.{DraftView, draft_view}
use Rattle.ks_job.specs.declared.judge.JobItem.{JobItem}
use Rattle.ks_job.specs.declared.judge.JobItem.TheVariants as items

-- a topology with the number of its line; a record with the number of its topic
pub data ItemView : Type 0 where
  TopologyAt : ℕ → DraftView → ItemView
  RecordTo : ℕ → Rec → ItemView

abbrev pub item_view : JobItem → ItemView
item_view (items.Topology line draft) = TopologyAt line (draft_view draft)
item_view (items.Input topic rec) = RecordTo topic rec

abbrev pub item_views : List JobItem → List ItemView
item_views is = map item_view is

-- the old items stay, and what was pushed behind them is the front of what the whole has there
pub record PushesFront (old new : List JobItem) (whole : List ItemView) : Type 0 where
  pub pushed : List JobItem
  pub left : List ItemView
  pub kept : new ≡ old ++ pushed
  pub front : whole ≡ item_views new ++ left
