-- What an append answers, and what it leaves of a partition.
use Rattle.std.specs.Prelude.{ℕ, ◌==◌, if◌then◌else◌, Result, Ok, Err, List, ◌++◌, length}
use Rattle.ks_record.specs.Records.{Record as Rec}
use Rattle.ks_record.specs.declared.record.TaskId.{TaskId}
use Rattle.ks_history.specs.declared.partition.Slot.{Slot}
use Rattle.ks_history.specs.Partition.{count_sent, sent_slots}
use Rattle.ks_log.specs.declared.part.OutOfSequence.{OutOfSequence}

-- the first offset, or the count of the producer's and epoch's records where the number is another (KIP-98)
abbrev pub append_answer : ℕ → ℕ → ℕ → List Slot → Result ℕ OutOfSequence
append_answer w e number slots =
    if number == count_sent w e slots then Ok (length slots) else Err (record { expected = count_sent w e slots })

abbrev pub appended : ℕ → ℕ → ℕ → TaskId → List Rec → List Slot → List Slot
appended w e number t recs slots = if number == count_sent w e slots then slots ++ sent_slots w e number t recs else slots
