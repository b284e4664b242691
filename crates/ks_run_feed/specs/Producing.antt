-- What a pass has produced, and what a cluster has that it was produced into.
use Rattle.std.specs.Prelude.{◌≡◌, ◌==◌, Bool, false, List, [], ◌++◌, filter}
use Rattle.ks_record.specs.Records.{Record as Rec}
use Rattle.ks_record.specs.declared.record.PartId.{PartId}
use Rattle.ks_history.specs.declared.journal.Request.{Request}
use Rattle.ks_history.specs.declared.journal.Request.TheVariants.{Init, Join}
use Rattle.ks_history.specs.declared.journal.Entry.{Entry}
use Rattle.ks_cluster.specs.View.{ClusterView}
use Rattle.ks_growing.specs.Passes.{PassView}
use Rattle.ks_shared.specs.declared.state.Frame.{Frame}
use Rattle.ks_shared.specs.Calls.{frame_of}
use Rattle.ks_law_settled.specs.Jobs.{produces}

-- an `init` or a `join` of the caller's own number, 16, with which the drain begins
abbrev pub asks_to_drain : Request → Bool
asks_to_drain (Init w) = w == 16
asks_to_drain (Join w) = w == 16
asks_to_drain _ = false

abbrev pub begins_drain : Entry → Bool
begins_drain entry = asks_to_drain entry.request

-- what the pass has seen produced is these records more, and it has begun no drain; its lock, its number and its frame are as they were
pub record HasProduced {W : Type 0} (old new : PassView Entry (Frame W)) (records : List (PartId × Rec)) : Type 0 where
  pub same : new ≡ record old { seen = new.seen; made = new.made }
  pub produced : produces new.seen ≡ produces old.seen ++ records
  pub undrained : filter begins_drain new.seen ≡ filter begins_drain old.seen

-- it is a front of these records
pub record HasProducedFront {W : Type 0} (old new : PassView Entry (Frame W)) (records : List (PartId × Rec)) : Type 0 where
  pub front : List (PartId × Rec)
  pub rest : List (PartId × Rec)
  pub is : records ≡ front ++ rest
  pub produced : HasProduced old new front

-- the cluster's work, partition counts and tasks are as they were, and its journal has produced exactly these records and begun no drain
pub record IsFilled {W : Type 0} (old new : ClusterView W) (records : List (PartId × Rec)) : Type 0 where
  pub frame : frame_of new ≡ frame_of old
  pub produced : produces new.journal ≡ records
  pub undrained : filter begins_drain new.journal ≡ []
