-- The conditions under which a request may be made, as a test.
use Rattle.std.specs.Prelude.{ℕ, ◌&&◌, Bool, false, if◌then◌else◌, nat_le, nat_lt, length, slice_index}
use Rattle.ks_record.specs.declared.record.PartId.{PartId}
use Rattle.ks_record.specs.declared.assignment.Assignment.{Assignment}
use Rattle.ks_history.specs.declared.journal.Request.{Request}
use Rattle.ks_history.specs.declared.journal.Request.TheVariants.{Produce, Init, Add, Append, SendOffsets, Decide, MarkNext, Join, Expire, Hold, Probe, Assign, Park, Unpark}
use Rattle.ks_history.specs.State.{State, Setup, has_task}
use Rattle.ks_history.specs.History.{are_places, are_tasks, are_offsets}

abbrev pub is_part : Setup → PartId → Bool
is_part setup p = if nat_lt p.topic (length setup.counts) then nat_lt p.part (slice_index setup.counts p.topic) else false

abbrev pub is_worker : ℕ → Bool
is_worker w = nat_le w 16

abbrev pub are_assigned : Setup → Assignment → Bool
are_assigned setup a = are_places setup a.active && (are_places setup a.standby && are_places setup a.warmup)

abbrev pub meets : Setup → State → Request → Bool
meets setup s (Produce p rec) = nat_lt p.topic setup.plan.sources && is_part setup p
meets setup s (Init w) = is_worker w
meets setup s (Add w e p) = is_worker w && is_part setup p
meets setup s (Append w e number t p recs) = is_worker w && (is_part setup p && has_task t setup.tasks)
meets setup s (SendOffsets w e g t offsets order late) = if is_worker w && has_task t setup.tasks then are_offsets setup s t offsets else false
meets setup s (Decide w e commit) = is_worker w
meets setup s (MarkNext w) = is_worker w
meets setup s (Join w) = is_worker w
meets setup s (Expire w) = is_worker w
meets setup s (Hold w held) = is_worker w && are_tasks setup held
meets setup s (Probe w g) = is_worker w
meets setup s (Assign w g a) = is_worker w && are_assigned setup a
meets setup s (Park instance t) = nat_le instance 3 && has_task t setup.tasks
meets setup s (Unpark instance t) = nat_le instance 3 && has_task t setup.tasks
