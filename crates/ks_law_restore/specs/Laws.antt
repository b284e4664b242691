-- What keeps a task, and a replica, following a journal.
use Rattle.std.specs.Prelude.{◌≡◌, ◌≤◌, ℕ, true, false, Some, List, [], ◌++◌}
use Rattle.std.specs.List.{All}
use Rattle.ks_record.specs.Records.{Record as Rec}
use Rattle.ks_record.specs.declared.record.PartId.{PartId}
use Rattle.ks_record.specs.declared.record.TaskId.{TaskId}
use Rattle.ks_history.specs.declared.journal.Entry.{Entry}
use Rattle.ks_history.specs.Partition.{past_last, with_offsets}
use Rattle.ks_history.specs.Machine.{IsNetwork, part_of, has_topic}
use Rattle.ks_history.specs.State.{State, Setup, start, IsPart, has_task}
use Rattle.ks_history.specs.Step.{owner, has_pending}
use Rattle.ks_history.specs.Faithful.{decided}
use Rattle.ks_history.specs.Follows.{TaskView, ReplicaView, ReplicaFollows}
use Rattle.ks_history.specs.Reads.{fetched}
use Rattle.ks_history.specs.History.{at, IsHistory}
use Rattle.ks_law_restore.specs.Views.{Stands, fresh_view, take_view, skip_view, take_all, committed_view, IsNext, MaySkip, WorkView, pending_work, IsFrozen, IsWork, are_topics_once, SendsInside, IsPast, AreEnds}
use Rattle.ks_law_restore.specs.Commits.{NoCommit, OneCommit, AllBy, commits_for}

-- a task that has taken nothing, where none of its inputs is committed and nothing is decided in its changelogs
abbrev pub FreshStands : Type 0
FreshStands = (setup : Setup) (journal : List Entry) (t : TaskId) →
    ((topic : ℕ) → has_topic topic (setup.plan.inputs t.sub) ≡ true → (at setup journal).committed t topic ≡ 0) →
    ((topic : ℕ) → has_topic topic (setup.plan.changelogs t.sub) ≡ true → decided (at setup journal) (part_of topic t) ≡ []) →
    Stands setup journal (fresh_view t)

-- a task that has taken nothing follows every history that commits nothing for it
abbrev pub FreshFollows : Type 0
FreshFollows = (setup : Setup) (journal : List Entry) (t : TaskId) → IsNetwork setup.plan → IsHistory setup journal → NoCommit setup start journal t → Stands setup journal (fresh_view t)

-- taking the next record
abbrev pub TakingStands : Type 0
TakingStands = (setup : Setup) (journal : List Entry) (v : TaskView) (topic offset : ℕ) (rec : Rec) → IsNetwork setup.plan →
    IsNext setup (at setup journal) v topic offset rec → Stands setup journal v → Stands setup journal (take_view setup.plan v topic offset rec)

-- passing over what is not readable
abbrev pub SkippingStands : Type 0
SkippingStands = (setup : Setup) (journal : List Entry) (v : TaskView) (topic next : ℕ) → IsNetwork setup.plan →
    MaySkip setup (at setup journal) v topic next → Stands setup journal v → Stands setup journal (skip_view v topic next)

-- taking all that a fetch gives of an input, and going on where the next fetch does
abbrev pub FetchingStands : Type 0
FetchingStands = (setup : Setup) (journal : List Entry) (v : TaskView) (topic limit : ℕ) → IsNetwork setup.plan → has_topic topic (setup.plan.inputs v.task.sub) ≡ true → 1 ≤ limit →
    Stands setup journal v → let got = fetched (at setup journal) (part_of topic v.task) (v.inputs topic) limit in
    Stands setup journal (skip_view (take_all setup.plan v topic got.0) topic got.1)

-- what a task hands to a transaction is what the transaction needs to commit it
abbrev pub FrozenIsWork : Type 0
FrozenIsWork = (setup : Setup) (journal : List Entry) (v : TaskView) (f : WorkView) → IsNetwork setup.plan →
    Stands setup journal v → IsFrozen setup.plan v f → has_task v.task setup.tasks ≡ true → are_topics_once (setup.plan.inputs v.task.sub) ≡ true → IsWork setup (at setup journal) f

-- where the cluster's tasks send to partitions of the cluster alone, so does frozen work
abbrev pub FrozenIsInside : Type 0
FrozenIsInside = (setup : Setup) (journal : List Entry) (v : TaskView) (f : WorkView) → SendsInside setup →
    Stands setup journal v → IsFrozen setup.plan v f → has_task v.task setup.tasks ≡ true → All (λ out. IsPart setup out.0) f.outputs

-- whatever a longer journal commits for other tasks
abbrev pub LongerStands : Type 0
LongerStands = (setup : Setup) (journal more : List Entry) (v : TaskView) → IsNetwork setup.plan → IsHistory setup (journal ++ more) →
    NoCommit setup (at setup journal) more v.task → Stands setup journal v → Stands setup (journal ++ more) v

-- a replica follows every longer journal
abbrev pub ReplicaStands : Type 0
ReplicaStands = (setup : Setup) (journal more : List Entry) (replica : ReplicaView) → IsNetwork setup.plan → IsHistory setup (journal ++ more) →
    ReplicaFollows setup journal replica → ReplicaFollows setup (journal ++ more) replica

-- a longer journal whose one further commit for the task is that of its frozen work
abbrev pub CommittedStands : Type 0
CommittedStands = (setup : Setup) (journal more : List Entry) (v : TaskView) (f : WorkView) (ends : List (ℕ × ℕ)) → IsNetwork setup.plan → IsHistory setup (journal ++ more) →
    Stands setup journal v → IsFrozen setup.plan v f → OneCommit setup (at setup journal) more (pending_work f) → AreEnds setup (at setup (journal ++ more)) f ends →
    Stands setup (journal ++ more) (committed_view v ends)

-- one past the last decided record of a partition is an end past its records
abbrev pub LastIsPast : Type 0
LastIsPast = (s : State) (p : PartId) → IsPast s p (past_last (with_offsets (decided s p)))

-- while the generation stays, only the worker at which the task is active commits for it, where nothing of it was pending
abbrev pub OwnerCommits : Type 0
OwnerCommits = (setup : Setup) (journal more : List Entry) (t : TaskId) (w : ℕ) → (at setup (journal ++ more)).generation ≡ (at setup journal).generation →
    owner (at setup journal) t ≡ Some w → ((v : ℕ) → has_pending ((at setup journal).producer v) t ≡ false) →
    AllBy w (commits_for setup (at setup journal) more t)
