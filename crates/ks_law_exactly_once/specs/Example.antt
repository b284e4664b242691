-- One record is copied to a changelog: its commit, and a zombie whose commit comes too late. Two histories, written out.
use Rattle.std.specs.Prelude.{ℕ, ◌==◌, ◌&&◌, true, false, Some, None, List, [], ◌∷◌, cond, take}
use Rattle.ks_record.specs.Records.{Record as Rec}
use Rattle.ks_record.specs.declared.record.PartId.{PartId}
use Rattle.ks_record.specs.declared.record.TaskId.{TaskId}
use Rattle.ks_record.specs.declared.assignment.Assignment.{Assignment}
use Rattle.ks_record.specs.declared.assignment.Refused.TheVariants.{Fenced, OldGeneration}
use Rattle.ks_def_runs.specs.Run.{Outcome}
use Rattle.ks_history.specs.declared.journal.Request.{Request}
use Rattle.ks_history.specs.declared.journal.Request.TheVariants.{Produce, Init, Add, Append, SendOffsets, Decide, MarkNext, Join, Expire, Hold, Probe, Assign}
use Rattle.ks_history.specs.declared.journal.Reply.{Reply}
use Rattle.ks_history.specs.declared.journal.Reply.TheVariants.{Done, Number, Truth, Mark as Marked, Refused as Refuse}
use Rattle.ks_history.specs.declared.journal.Entry.{Entry}
use Rattle.ks_history.specs.Machine.{Stores, part_of, applied}
use Rattle.ks_history.specs.State.{Setup}
use Rattle.ks_history.specs.History.{at}
use Rattle.ks_history.specs.Reads.{end_of, pending_producers}

-- topic 0 is the input, topic 1 the changelog
abbrev pub input : PartId
input = record { topic = 0; part = 0 }

abbrev pub changelog : PartId
changelog = record { topic = 1; part = 0 }

abbrev pub the_task : TaskId
the_task = record { sub = 0; part = 0 }

-- the task copies its input to its changelog
abbrev pub copying : TaskId → Stores → PartId → Rec → Outcome PartId Stores Rec
copying t stores q rec = record {
  store = λ topic. cond ((t.sub == 0) && (topic == 1)) (applied (stores topic) rec.key rec.value) (stores topic);
  made = cond (t.sub == 0) ((part_of 1 t, rec) ∷ []) [];
  late = 0;
}

abbrev pub setup : Setup
setup = record {
  plan = record { sources = 1; inputs = λ sub. cond (sub == 0) (0 ∷ []) []; changelogs = λ sub. cond (sub == 0) (1 ∷ []) []; reader = λ topic. 0; step = copying };
  counts = 1 ∷ 1 ∷ [];
  tasks = the_task ∷ [];
}

abbrev pub active_at : ℕ → Assignment
active_at w = record { active = (the_task, w) ∷ []; standby = []; warmup = [] }

abbrev pub entry : Request → Reply → Entry
entry request reply = record { request = request; reply = reply }

-- up to the offsets of a transaction of worker 0
abbrev pub begun : Rec → List Entry → List Entry
begun rec more =
    entry (Produce input rec) (Number 0)
    ∷ entry (Init 0) (Number 1)
    ∷ entry (Join 0) (Number 1)
    ∷ entry (Assign 0 1 (active_at 0)) (Truth true)
    ∷ entry (Add 0 1 changelog) Done
    ∷ entry (Append 0 1 0 the_task changelog (rec ∷ [])) (Number 0)
    ∷ entry (SendOffsets 0 1 1 the_task ((0, 1) ∷ []) ((0, 1) ∷ []) 0) Done
    ∷ more

-- it commits
abbrev pub one_commit : Rec → List Entry
one_commit rec = begun rec (
    entry (Decide 0 1 true) Done
    ∷ entry (MarkNext 0) (Marked (Some (changelog, true)))
    ∷ [])

-- worker 1 comes, and worker 0 is expired before it decides
abbrev pub zombie : Rec → List Entry
zombie rec = begun rec (
    entry (Init 1) (Number 1)
    ∷ entry (Join 1) (Number 2)
    ∷ entry (Assign 1 2 (active_at 1)) (Truth true)
    ∷ entry (Expire 0) (Truth true)
    ∷ entry (Decide 0 1 true) (Refuse (Fenced 2))
    ∷ entry (MarkNext 0) (Marked (Some (changelog, false)))
    ∷ entry (Assign 1 3 (active_at 1)) (Truth true)
    ∷ entry (MarkNext 0) (Marked None)
    ∷ entry (Hold 1 ((the_task, 2) ∷ [])) Done
    ∷ entry (Probe 1 3) (Number 4)
    ∷ entry (Probe 1 3) (Refuse (OldGeneration 4))
    ∷ [])

-- after so many entries: the committed offset of the task's input, the input's end, and the producers with something pending
abbrev pub told_after : ℕ → List Entry → ℕ × ℕ × ℕ
told_after n entries =
    let s = at setup (take n entries) in
    (s.committed the_task 0, end_of s input, pending_producers s)
