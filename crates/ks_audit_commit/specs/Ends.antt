-- Where a task's decided records end in each partition to which it sends, beside what a transaction has for it.
use Rattle.std.specs.Prelude.{ℕ, suc, ◌+◌, ◌&&◌, Bool, true, false, not, if◌then◌else◌, nat_le, nat_lt, List, [], ◌∷◌, ◌++◌, Option, Some, None, length, set}
use Rattle.ks_record.specs.declared.record.PartId.{PartId}
use Rattle.ks_record.specs.declared.record.TaskId.{TaskId}
use Rattle.ks_record.specs.Parts.{same_part, same_task}
use Rattle.ks_law_restore.specs.Views.{is_empty}
use Rattle.ks_audit_ledger.specs.declared.account.Sent.{Sent}

-- one past the last decided record in a partition; 0 where there is none
abbrev pub end_in : PartId → List (PartId × ℕ) → ℕ
end_in q [] = 0
end_in q (end ∷ ends) = if same_part q end.0 then end.1 else end_in q ends

-- the place of a partition's end; the length where it has none
abbrev pub end_place : PartId → List (PartId × ℕ) → ℕ
end_place q [] = 0
end_place q (end ∷ ends) = if same_part q end.0 then 0 else suc (end_place q ends)

-- with another end of a partition
abbrev pub with_end : PartId → ℕ → List (PartId × ℕ) → List (PartId × ℕ)
with_end q n ends = if nat_lt (end_place q ends) (length ends) then set ends (end_place q ends) (q, n) else ends ++ (q, n) ∷ []

-- ---- what was sent for a task
-- these are records of the task
abbrev pub is_sent_by : TaskId → Sent → Bool
is_sent_by t x = same_task t x.task && not (is_empty x.recs)

-- where the first record stands that was sent for the task to a partition
abbrev pub first_in : TaskId → PartId → List Sent → Option ℕ
first_in t q [] = None
first_in t q (x ∷ xs) = if is_sent_by t x && same_part q x.part then Some x.first else first_in t q xs

-- it stands at or past an end, if there is one
abbrev pub is_from : ℕ → Option ℕ → Bool
is_from end None = true
is_from end (Some first) = nat_le end first

-- so for the partitions of these records of the task
abbrev pub are_from : TaskId → List (PartId × ℕ) → List Sent → List Sent → Bool
are_from t ends sent [] = true
are_from t ends sent (x ∷ xs) = if is_from (end_in x.part ends) (first_in t x.part sent) then are_from t ends sent xs else false

-- the ends behind what was sent for the task
abbrev pub moved_by : TaskId → List (PartId × ℕ) → Sent → List (PartId × ℕ)
moved_by t ends x = if is_sent_by t x then with_end x.part (x.first + length x.recs) ends else ends

abbrev pub moved : TaskId → List (PartId × ℕ) → List Sent → List (PartId × ℕ)
moved t ends [] = ends
moved t ends (x ∷ xs) = moved t (moved_by t ends x) xs
