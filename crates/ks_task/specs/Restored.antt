-- Tasks made of replicas that have reached the ends of their changelogs (KIP-441: restoring before a task is active).
use Rattle.std.specs.Prelude.{◌≡◌, ◌≤◌, ℕ, true, None, List, ◌++◌}
use Rattle.ks_history.specs.declared.journal.Entry.{Entry}
use Rattle.ks_history.specs.Machine.{IsNetwork, part_of, has_topic}
use Rattle.ks_history.specs.State.{Setup, offset_in}
use Rattle.ks_history.specs.Reads.{committed_refusal, committed_offsets, end_of}
use Rattle.ks_history.specs.Follows.{TaskView, ReplicaFollows}
use Rattle.ks_history.specs.History.{at, IsHistory}
use Rattle.ks_law_restore.specs.Replicas.{restored_view, rested_view}
use Rattle.ks_law_sharing.specs.Tasks.{IsActive, HasSeen, HasReached}
use Rattle.ks_standby.specs.declared.replica.Replica.{Replica}
use Rattle.ks_standby.specs.Replicas.{replica_view, IsReplicaIn}
use Rattle.ks_task.specs.declared.task.Task.{Task}
use Rattle.ks_task.specs.Tasks.{task_view, IsClean}

-- a worker of generation `g`, whose transaction was touched at `last`, was given these committed offsets at `journal` and the ends of
-- the changelogs at `journal ++ one`; the replica, which follows what stands now, has reached these ends
pub record MayRestore (setup : Setup) (journal one two : List Entry) (w g last : ℕ) (r : Replica) (offsets : List (ℕ × ℕ)) : Type 0 where
  pub network : IsNetwork setup.plan
  pub history : IsHistory setup (journal ++ one ++ two)
  pub seen : HasSeen setup journal w g last
  pub answered : committed_refusal (at setup journal) w g r.id ≡ None
  pub offsets_are : offsets ≡ committed_offsets setup (at setup journal) r.id
  pub changelogs : IsReplicaIn setup.plan r
  pub reached : HasReached setup (at setup (journal ++ one)) (replica_view r)
  pub follows : ReplicaFollows setup (journal ++ one ++ two) (replica_view r)

-- the task is clean and the worker's own while its generation and that place stand; and whatever others write, it is a replica that
-- follows the journal, and may fetch on from where it stands
pub record IsRestored (setup : Setup) (journal : List Entry) (w g last : ℕ) (v : TaskView) : Type 0 where
  pub active : IsActive setup journal w g last v
  pub clean : IsClean v
  pub rests : ReplicaFollows setup journal (rested_view v)
  pub within : (topic : ℕ) → has_topic topic (setup.plan.inputs v.task.sub) ≡ true → v.inputs topic ≤ end_of (at setup journal) (part_of topic v.task)

-- the law: the task made of such a replica, with these offsets
abbrev pub MadeIsRestored : Type 0
MadeIsRestored =
    (setup : Setup) (journal one two : List Entry) (w g last : ℕ) (r : Replica) (offsets : List (ℕ × ℕ)) (t : Task) →
    MayRestore setup journal one two w g last r offsets →
    task_view t ≡ restored_view (replica_view r) (λ topic. offset_in 0 topic offsets) →
    IsRestored setup (journal ++ one ++ two) w g last (task_view t)
