-- Partitions and tasks, compared.
use Rattle.std.specs.Prelude.{Bool, ◌==◌, ◌&&◌, ◌||◌, nat_lt}
use Rattle.ks_record.specs.declared.record.PartId.{PartId}
use Rattle.ks_record.specs.declared.record.TaskId.{TaskId}

abbrev pub same_part : PartId → PartId → Bool
same_part p q = (p.topic == q.topic) && (p.part == q.part)

abbrev pub same_task : TaskId → TaskId → Bool
same_task t u = (t.sub == u.sub) && (t.part == u.part)

-- by topic, then by partition
abbrev pub part_lt : PartId → PartId → Bool
part_lt p q = nat_lt p.topic q.topic || ((p.topic == q.topic) && nat_lt p.part q.part)

-- by subtopology, then by partition
abbrev pub task_lt : TaskId → TaskId → Bool
task_lt t u = nat_lt t.sub u.sub || ((t.sub == u.sub) && nat_lt t.part u.part)
