-- What the replay of a legal, faithful journal is: an uncrashed run that has taken what the cluster has committed.
use Rattle.std.specs.Prelude.{◌≡◌, ◌≢◌, ◌≤◌, length, ℕ, true, List, [], ◌∷◌, Option, Some}
use Rattle.ks_record.specs.declared.record.PartId.{PartId}
use Rattle.ks_record.specs.declared.record.TaskId.{TaskId}
use Rattle.ks_def_runs.specs.Run.{initial, TakesEach}
use Rattle.ks_history.specs.declared.journal.Entry.{Entry}
use Rattle.ks_history.specs.Partition.{recs, by_sender, past_from, below, readable, stable}
use Rattle.ks_history.specs.Machine.{TaskPlan, IsNetwork, network, reader_of, part_of, has_topic}
use Rattle.ks_history.specs.State.{State, Setup, start, has_task}
use Rattle.ks_history.specs.Faithful.{decided, folds, capped}
use Rattle.ks_history.specs.History.{at, IsHistory}
use Rattle.ks_history.specs.Settled.{IsSettled}
use Rattle.ks_history.specs.Count.{records_in}
use Rattle.ks_history.specs.Replay.{replayed, replay, produced, run_of}

-- what holds of every legal, faithful journal over tasks that make a network
abbrev pub OfHistories : (Setup → List Entry → Type 0) → Type 0
OfHistories P = (setup : Setup) (journal : List Entry) → IsNetwork setup.plan → IsHistory setup journal → P setup journal

-- each list from which a step takes is one of an input of the task that reads it
abbrev pub OnInputs : TaskPlan → List (Option TaskId × PartId) → Type 0
OnInputs plan [] = Unit {0}
OnInputs plan (c ∷ cs) = (has_topic c.1.topic (plan.inputs (reader_of plan c.1).sub) ≡ true) × OnInputs plan cs

-- the replay is a run: from empty stores and the produced records, each step takes the first record of a list of its task's
-- inputs that isn't empty; and the records that it takes are those of the commits
abbrev pub IsRun : Setup → List Entry → Type 0
IsRun setup journal =
    OnInputs setup.plan (replay setup journal)
    × TakesEach (network setup.plan) (initial (network setup.plan) (produced journal)) (replay setup journal)
    × ((run_of setup journal).taken ≡ replayed setup start journal)

-- each task's stores are the folds of its changelogs
abbrev pub TellsStores : Setup → List Entry → Type 0
TellsStores setup journal = (t : TaskId) → (run_of setup journal).stores t ≡ folds setup (at setup journal) t

-- the past of each changelog's partition is what is decided there, and its own task alone sent it
abbrev pub TellsPasts : Setup → List Entry → Type 0
TellsPasts setup journal = (t : TaskId) (topic : ℕ) → has_topic topic (setup.plan.changelogs t.sub) ≡ true →
    ((run_of setup journal).given (Some t) (part_of topic t) ≡ recs (decided (at setup journal) (part_of topic t)))
    × ((r : Option TaskId) → r ≢ Some t → (run_of setup journal).given r (part_of topic t) ≡ [])

-- all that a sender ever sent to a partition is what is decided there of its records
abbrev pub TellsAll : Setup → List Entry → Type 0
TellsAll setup journal = (r : Option TaskId) (q : PartId) → (run_of setup journal).given r q ≡ recs (by_sender r (decided (at setup journal) q))

-- the lists hold exactly, for each sender and partition, the decided records at or past the committed offset of the task that
-- reads the partition, in order
abbrev pub TellsLists : Setup → List Entry → Type 0
TellsLists setup journal = (r : Option TaskId) (q : PartId) →
    (run_of setup journal).waiting r q
    ≡ recs (by_sender r (past_from ((at setup journal).committed (reader_of setup.plan q) q.topic) (decided (at setup journal) q)))

-- the committed late total is the run's late count, which stops at the greatest u64
abbrev pub TellsLate : Setup → List Entry → Type 0
TellsLate setup journal = (at setup journal).late ≡ capped (run_of setup journal).late

-- in a settled cluster nothing waits in the lists of what the tasks read
abbrev pub SettledIsEmpty : Setup → List Entry → Type 0
SettledIsEmpty setup journal = IsSettled setup (at setup journal) → (r : Option TaskId) (t : TaskId) (topic : ℕ) →
    has_task t setup.tasks ≡ true → has_topic topic (setup.plan.inputs t.sub) ≡ true → (run_of setup journal).waiting r (part_of topic t) ≡ []

-- what is readable is what is decided below the stable offset, however the markers that wait decide
abbrev pub ReadableIsDecided : Type 0
ReadableIsDecided = (s : State) (p : PartId) → readable (s.partition p) ≡ below (stable (s.partition p)) (decided s p)

-- the replay has at most as many steps as there are records
abbrev pub IsShort : Setup → List Entry → Type 0
IsShort setup journal = length (replay setup journal) ≤ records_in setup journal
