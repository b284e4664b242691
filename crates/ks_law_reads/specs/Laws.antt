-- What a read is in a longer journal, and that a replica gives reads.
use Rattle.std.specs.Prelude.{◌≡◌, ℕ, true, List, ◌++◌, Option}
use Rattle.ks_record.specs.declared.record.TaskId.{TaskId}
use Rattle.ks_def_runs.specs.FinMap as fin
use Rattle.ks_history.specs.declared.journal.Entry.{Entry}
use Rattle.ks_history.specs.Machine.{IsNetwork, part_of, has_topic}
use Rattle.ks_history.specs.State.{Setup}
use Rattle.ks_history.specs.Follows.{ReplicaView, ReplicaFollows}
use Rattle.ks_history.specs.History.{at, IsHistory}
use Rattle.ks_law_reads.specs.Reads.{IsReadAt}

-- whatever is written later, a read of a task's changelog is one
abbrev pub ReadsLast : Type 0
ReadsLast = (setup : Setup) (journal more : List Entry) (task : TaskId) (log : ℕ) (key : List ℕ) (value : Option (List ℕ)) (position : ℕ) →
    IsNetwork setup.plan → IsHistory setup (journal ++ more) → has_topic log (setup.plan.changelogs task.sub) ≡ true →
    IsReadAt (at setup journal) (part_of log task) key value position → IsReadAt (at setup (journal ++ more)) (part_of log task) key value position

-- what a replica has at a key of a changelog of its task is a read at its position there, in every journal that it follows
abbrev pub ReplicaReads : Type 0
ReplicaReads = (setup : Setup) (journal : List Entry) (r : ReplicaView) (log : ℕ) (key : List ℕ) → has_topic log (setup.plan.changelogs r.task.sub) ≡ true →
    ReplicaFollows setup journal r → IsReadAt (at setup journal) (part_of log r.task) key (fin.get (r.stores log) key) (r.position log)
