-- What a task made, beside what was sent for it.
use Rattle.std.specs.Prelude.{ℕ, ◌==◌, ◌&&◌, Bool, true, false, if◌then◌else◌, List, [], ◌∷◌, Option, Some, None}
use Rattle.std.specs.Ordering.{eq_by_cmp, nat_cmp}
use Rattle.std.specs.Cmp.Lexicographic.{slice_cmp}
use Rattle.ks_record.specs.Records.{Record as Rec}
use Rattle.ks_record.specs.declared.record.PartId.{PartId}
use Rattle.ks_record.specs.declared.record.TaskId.{TaskId}
use Rattle.ks_record.specs.Parts.{same_part, same_task}
use Rattle.ks_law_restore.specs.Views.{names_part, is_empty}
use Rattle.ks_audit_ledger.specs.declared.account.Sent.{Sent}
use Rattle.ks_audit_commit.specs.Ends.{is_sent_by}

-- ---- records
abbrev pub same_bytes : Option (List ℕ) → Option (List ℕ) → Bool
same_bytes (Some a) (Some b) = eq_by_cmp (slice_cmp nat_cmp) a b
same_bytes None None = true
same_bytes (Some a) None = false
same_bytes None (Some b) = false

abbrev pub same_record : Rec → Rec → Bool
same_record a b = (same_bytes a.key b.key && same_bytes a.value b.value) && (a.ts == b.ts)

-- what stands behind these first records, where they are the first
abbrev pub behind : List Rec → List Rec → Option (List Rec)
behind [] recs = Some recs
behind (x ∷ front) [] = None
behind (x ∷ front) (r ∷ recs) = if same_record x r then behind front recs else None

-- ---- sent records
abbrev pub is_sent_to : TaskId → PartId → Sent → Bool
is_sent_to t q x = same_task t x.task && same_part q x.part

-- what is left behind those of this append, if they are for the task and the partition
abbrev pub left_behind : TaskId → PartId → List Rec → Sent → Option (List Rec)
left_behind t q recs x = if is_sent_to t q x then behind x.recs recs else Some recs

abbrev pub goes_on : Option (List Rec) → (List Rec → Bool) → Bool
goes_on None f = false
goes_on (Some recs) f = f recs

-- all that was sent for the task to the partition is these records
abbrev pub are_sent : TaskId → PartId → List Rec → List Sent → Bool
are_sent t q recs [] = is_empty recs
are_sent t q recs (x ∷ xs) = goes_on (left_behind t q recs x) (λ left. are_sent t q left xs)

-- ---- outputs
-- each was sent as it was made
abbrev pub outputs_are_sent : TaskId → List Sent → List (PartId × List Rec) → Bool
outputs_are_sent t sent [] = true
outputs_are_sent t sent (out ∷ outs) = if are_sent t out.0 out.1 sent then outputs_are_sent t sent outs else false

-- if these are records of the task, they went to a partition of an output
abbrev pub is_output : TaskId → List (PartId × List Rec) → Sent → Bool
is_output t outputs x = if is_sent_by t x then names_part x.part outputs else true

abbrev pub sent_are_outputs : TaskId → List (PartId × List Rec) → List Sent → Bool
sent_are_outputs t outputs [] = true
sent_are_outputs t outputs (x ∷ xs) = if is_output t outputs x then sent_are_outputs t outputs xs else false

-- the records that were sent for the task are its outputs
abbrev pub are_made : TaskId → List (PartId × List Rec) → List Sent → Bool
are_made t outputs sent = if outputs_are_sent t sent outputs then sent_are_outputs t outputs sent else false
