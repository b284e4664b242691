-- What a journal commits, as the steps of one run.
use Rattle.std.specs.Prelude.{true, false, List, [], ◌∷◌, ◌++◌, Option, Some, None, cond, map}
use Rattle.ks_record.specs.Records.{Record as Rec}
use Rattle.ks_record.specs.declared.record.PartId.{PartId}
use Rattle.ks_record.specs.declared.record.TaskId.{TaskId}
use Rattle.ks_record.specs.declared.assignment.Refused.{Refused}
use Rattle.ks_record.specs.Parts.{same_part}
use Rattle.ks_history.specs.declared.journal.Request.{Request}
use Rattle.ks_history.specs.declared.journal.Request.TheVariants.{Produce, Init, Add, Append, SendOffsets, Decide, MarkNext, Join, Expire, Hold, Probe, Assign, Park, Unpark}
use Rattle.ks_history.specs.declared.journal.Entry.{Entry}
use Rattle.ks_history.specs.declared.transaction.Pending.{Pending}
use Rattle.ks_def_runs.specs.Run.{RunState, Taken, channel, run}
use Rattle.ks_history.specs.Machine.{Stores, network, batch}
use Rattle.ks_history.specs.State.{State, Setup, start}
use Rattle.ks_history.specs.Step.{refusal, after, pending_at}
use Rattle.ks_history.specs.Faithful.{taken, pending_offsets}

-- what a task takes by its pending offsets and order
abbrev pub takes : Setup → State → Pending → List (Taken TaskId PartId Rec)
takes setup s p = batch p.task (taken setup s p.task (pending_offsets s p)) p.order

-- the tasks of a transaction one after another
abbrev pub takes_of : Setup → State → List Pending → List (Taken TaskId PartId Rec)
takes_of setup s [] = []
takes_of setup s (p ∷ ps) = takes setup s p ++ takes_of setup s ps

-- only an accepted commit takes records
abbrev pub takes_by : Setup → State → Request → Option Refused → List (Taken TaskId PartId Rec)
takes_by setup s (Decide w e true) None = takes_of setup s (pending_at (s.producer w))
takes_by setup s (Decide w e true) (Some refused) = []
takes_by setup s (Decide w e false) r = []
takes_by setup s (Produce p rec) r = []
takes_by setup s (Init w) r = []
takes_by setup s (Add w e p) r = []
takes_by setup s (Append w e number t p rs) r = []
takes_by setup s (SendOffsets w e g t offsets order late) r = []
takes_by setup s (MarkNext w) r = []
takes_by setup s (Join w) r = []
takes_by setup s (Expire w) r = []
takes_by setup s (Hold w held) r = []
takes_by setup s (Probe w g) r = []
takes_by setup s (Assign w g a) r = []
takes_by setup s (Park instance t) r = []
takes_by setup s (Unpark instance t) r = []

-- the records that the accepted commits took, in the journal's order, and within one in task order
abbrev pub replayed : Setup → State → List Entry → List (Taken TaskId PartId Rec)
replayed setup s [] = []
replayed setup s (entry ∷ entries) = takes_by setup s entry.request (refusal setup s entry.request) ++ replayed setup (after setup s entry.request) entries

-- the list of steps, each named by the list from which it takes
abbrev pub replay : Setup → List Entry → List (Option TaskId × PartId)
replay setup journal = map (channel (network setup.plan)) (replayed setup start journal)

abbrev pub produced_by : Request → PartId → List Rec → List Rec
produced_by (Produce p rec) q more = cond (same_part q p) (rec ∷ more) more
produced_by request q more = more

-- the records that were produced, by partition
abbrev pub produced : List Entry → PartId → List Rec
produced [] q = []
produced (entry ∷ entries) q = produced_by entry.request q (produced entries q)

-- the run that a journal tells
abbrev pub run_of : Setup → List Entry → RunState TaskId PartId Stores Rec
run_of setup journal = run (network setup.plan) (produced journal) (replay setup journal)
