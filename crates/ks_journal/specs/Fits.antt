-- Entries as the types allow them: each number within the bounds of its type, and a reply that its request can have.
use Rattle.std.specs.Prelude.{ℕ, ◌<◌, ◌^◌, List, Option, IfSome, ⊤}
use Rattle.std.specs.List.{AllByRecursion}
use Rattle.ks_record.specs.Bytes.{IsBytes}
use Rattle.ks_record.specs.Records.{Record as Rec}
use Rattle.ks_record.specs.declared.record.PartId.{PartId}
use Rattle.ks_record.specs.declared.record.TaskId.{TaskId}
use Rattle.ks_record.specs.declared.assignment.Refused.{Refused as Refusal}
use Rattle.ks_record.specs.declared.assignment.Refused.TheVariants.{OutOfSequence, Fenced, AlreadyDecided, NoTransaction, OldGeneration, NotAssigned, Unstable, MarkersWaiting, BadAssignment}
use Rattle.ks_history.specs.declared.journal.Request.{Request}
use Rattle.ks_history.specs.declared.journal.Request.TheVariants.{Produce, Init, Add, Append, SendOffsets, Decide, MarkNext, Join, Expire, Hold, Probe, Assign, Park, Unpark}
use Rattle.ks_history.specs.declared.journal.Reply.{Reply}
use Rattle.ks_history.specs.declared.journal.Reply.TheVariants.{Done, Number, Truth, Mark, Refused}
use Rattle.ks_history.specs.declared.journal.Entry.{Entry}
use Rattle.ks_journal.specs.Replies.{HasReply}

abbrev pub FitsTask : TaskId → Type 0
FitsTask t = (t.sub < 256) × (t.part < 256)

abbrev pub FitsPart : PartId → Type 0
FitsPart p = (p.topic < 65536) × (p.part < 256)

abbrev pub FitsBytes : Option (List ℕ) → Type 0
FitsBytes o = IfSome o IsBytes

abbrev pub FitsRec : Rec → Type 0
FitsRec r = FitsBytes r.key × FitsBytes r.value × (r.ts < 2 ^ 64)

-- a topic with an offset or a count
abbrev pub FitsPair : ℕ × ℕ → Type 0
FitsPair p = (p.0 < 65536) × (p.1 < 2 ^ 64)

-- a task with a position or a worker
abbrev pub FitsPlace : ℕ → TaskId × ℕ → Type 0
FitsPlace bound p = FitsTask p.0 × (p.1 < bound)

abbrev pub FitsRequest : Request → Type 0
FitsRequest (Produce p rec) = FitsPart p × FitsRec rec
FitsRequest (Init w) = w < 256
FitsRequest (Add w e p) = (w < 256) × (e < 2 ^ 64) × FitsPart p
FitsRequest (Append w e n t p recs) = (w < 256) × (e < 2 ^ 64) × (n < 2 ^ 64) × FitsTask t × FitsPart p × AllByRecursion FitsRec recs
FitsRequest (SendOffsets w e g t offsets order late) = (w < 256) × (e < 2 ^ 64) × (g < 2 ^ 64) × FitsTask t × AllByRecursion FitsPair offsets × AllByRecursion FitsPair order × (late < 2 ^ 64)
FitsRequest (Decide w e commit) = (w < 256) × (e < 2 ^ 64)
FitsRequest (MarkNext w) = w < 256
FitsRequest (Join w) = w < 256
FitsRequest (Expire w) = w < 256
FitsRequest (Hold w held) = (w < 256) × AllByRecursion (FitsPlace (2 ^ 64)) held
FitsRequest (Probe w g) = (w < 256) × (g < 2 ^ 64)
FitsRequest (Assign w g a) = (w < 256) × (g < 2 ^ 64) × AllByRecursion (FitsPlace 256) a.active × AllByRecursion (FitsPlace 256) a.standby × AllByRecursion (FitsPlace 256) a.warmup
FitsRequest (Park instance t) = (instance < 256) × FitsTask t
FitsRequest (Unpark instance t) = (instance < 256) × FitsTask t

abbrev pub FitsRefusal : Refusal → Type 0
FitsRefusal (OutOfSequence expected) = expected < 2 ^ 64
FitsRefusal (Fenced held) = held < 2 ^ 64
FitsRefusal (AlreadyDecided commit) = ⊤
FitsRefusal NoTransaction = ⊤
FitsRefusal (OldGeneration now) = now < 2 ^ 64
FitsRefusal (NotAssigned owner) = IfSome owner (λ w. w < 256)
FitsRefusal (Unstable producer) = producer < 256
FitsRefusal (MarkersWaiting left) = left < 2 ^ 32
FitsRefusal (BadAssignment task) = FitsTask task

abbrev pub FitsReply : Reply → Type 0
FitsReply Done = ⊤
FitsReply (Number n) = n < 2 ^ 64
FitsReply (Truth b) = ⊤
FitsReply (Mark m) = IfSome m (λ p. FitsPart p.0)
FitsReply (Refused r) = FitsRefusal r

pub record FitsEntry (e : Entry) : Type 0 where
  pub request : FitsRequest e.request
  pub reply : FitsReply e.reply
  pub kind : HasReply e

abbrev pub FitsJournal : List Entry → Type 0
FitsJournal entries = AllByRecursion FitsEntry entries
