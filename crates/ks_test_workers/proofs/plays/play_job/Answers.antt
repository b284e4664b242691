use denote.Exit.{no}
use denote.Param.Send.{sendable, param_sync, arg_sync}
use denote.Param.SendFields.{declared_sync}
use Rattle.std.proofs.Common.{ap₂, sym, subst, length}
use Rattle.std.proofs.Crossing.{crosses}
use Rattle.ks_topo.specs.Topologies.{plan_in}
use Rattle.ks_job.specs.Items.{item_views}
use Rattle.ks_law_inputs.specs.Records.{HavePartitions, AreRecords}
use Rattle.ks_task.specs.Placing.{placed_by}
use Rattle.ks_task.specs.contracts.work.TaskWork as TaskWork
use Rattle.ks_test_workers.proofs.plays.play_job.Goals as goal

-- Threads may share the work: its topology, its placing and the name of a hash.
pub play_tasks-played-requires-sync-W : goal.play_tasks-played-requires-sync-W
play_tasks-played-requires-sync-W g c κs within = param_sync _ _ (arg_sync _ no _ (declared_sync (TaskWork.the_type _ _) (search (c.share_topology.ensures, sendable) depth 20, (search (sendable, crosses) depth 20, (search (sendable, crosses) depth 20, tt)))))

pub play_tasks-played-requires-clause-good : goal.play_tasks-played-requires-clause-good
play_tasks-played-requires-clause-good g c κs within = ap₂ (λ t p. placed_by (plan_in t) p) c.new-work.ensures.topology c.new-work.ensures.placing

pub play_tasks-played-requires-clause-partitions : goal.play_tasks-played-requires-clause-partitions
play_tasks-played-requires-clause-partitions g c κs within =
    let built = rw c.in-Ok-Ok.field-0-is at c.in-Ok-Ok.ensures in
    subst (λ d. HavePartitions d.topics) (sym built.1) c.read_text-draft.ensures.partitions

pub play_tasks-played-requires-clause-records : goal.play_tasks-played-requires-clause-records
play_tasks-played-requires-clause-records g c κs within =
    let built = rw c.in-Ok-Ok.field-0-is at c.in-Ok-Ok.ensures in
    subst (λ d. AreRecords (length d.topics) (item_views c.read_text-draft.result.records.items)) (sym built.1) c.read_text-draft.ensures.records
