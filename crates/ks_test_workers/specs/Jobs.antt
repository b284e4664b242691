-- A job's topology and records.
use Rattle.std.specs.Prelude.{List, length}
use Rattle.ks_plan.specs.Drafts.{DraftView}
use Rattle.ks_job.specs.Items.{ItemView}
use Rattle.ks_law_inputs.specs.Records.{HavePartitions, AreRecords}

-- each topic of the topology has a partition, and the items are records for its topics
pub record IsJobOf (d : DraftView) (is : List ItemView) : Type 0 where
  pub partitions : HavePartitions d.topics
  pub records : AreRecords (length d.topics) is
