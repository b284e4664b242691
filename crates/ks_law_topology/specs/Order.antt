-- The order of topics by number: a task makes of a record records for topics of greater number alone. So where topics are drained
-- one after another by number, none gets a record again once it is empty.
-- Kafka Streams developer guide, "Processor topology": nodes and the topics between them make an acyclic graph.
use Rattle.std.specs.Prelude.{◌≡◌, ◌≤◌, []}
use Rattle.std.specs.List.Sorted.{IsStrictlyIncreasing}
use Rattle.ks_record.specs.Records.{Record as Rec}
use Rattle.ks_record.specs.declared.record.PartId.{PartId}
use Rattle.ks_record.specs.declared.record.TaskId.{TaskId}
use Rattle.ks_def_runs.specs.Run.{sent_to}
use Rattle.ks_plan.specs.Drafts.{DraftView}
use Rattle.ks_plan.specs.Plan.{Plan, plan_of}
use Rattle.ks_plan.specs.Infos.{drain_numbers}
use Rattle.ks_def_tasks.specs.Messages.{Rules}
use Rattle.ks_def_tasks.specs.Bytes.{ByteStores, byte_step}
use Rattle.ks_history.specs.Machine.{network}
use Rattle.ks_law_topology.specs.WellFormed.{IsWellFormed}
use Rattle.ks_law_topology.specs.Work.{work_of}

-- whatever a task makes of a record goes to topics of greater number
abbrev pub IsInOrder : Type 0
IsInOrder = (rules : Rules) (d : DraftView) → IsWellFormed d → let p = plan_of d in (t : TaskId) (stores : ByteStores) (q : PartId) (rec : Rec) (r : PartId) → r.topic ≤ q.topic →
    sent_to (network (work_of rules p)) r (byte_step rules p t stores q rec).made ≡ []

-- the drain order is by number: each number is less than the next
abbrev pub DrainRises : Type 0
DrainRises = (p : Plan) → IsStrictlyIncreasing (drain_numbers p)
