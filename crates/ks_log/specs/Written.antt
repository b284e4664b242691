-- The partitions that were written to, each beside its name.
use Rattle.std.specs.Prelude.{◌≡◌, ℕ, suc, ◌+◌, ◌==◌, ◌<◌, ◌^◌, if◌then◌else◌, List, [], ◌∷◌, ◌++◌, length}
use Rattle.ks_record.specs.declared.record.PartId.{PartId}
use Rattle.ks_record.specs.Parts.{same_part}
use Rattle.ks_history.specs.declared.partition.Slot.{Slot}
use Rattle.ks_history.specs.Partition.{count_sent, sent_slots}
use Rattle.ks_log.specs.declared.append.Batch.{Batch}
use Rattle.ks_log.specs.declared.log.Written.{Written}

-- the slots of a partition
abbrev pub slots_in : PartId → List Written → List Slot
slots_in p [] = []
slots_in p (written ∷ log) = if same_part p written.part then written.slots else slots_in p log

-- how many slots there are
abbrev pub total : List Written → ℕ
total [] = 0
total (written ∷ log) = length written.slots + total log

-- where a partition stands, or how many there are
abbrev pub place : PartId → List Written → ℕ
place p [] = 0
place p (written ∷ log) = if same_part p written.part then 0 else suc (place p log)

-- with more slots at the end of one partition
abbrev pub with_slots : PartId → List Slot → List Written → List Written
with_slots p more [] = record { part = p; slots = more } ∷ []
with_slots p more (written ∷ log) =
    if same_part p written.part then record { part = written.part; slots = written.slots ++ more } ∷ log else written ∷ with_slots p more log

-- the count is that of the slots, which are fewer than 2^48
pub record IsCounted (log : List Written) (empty : List Slot) (count : ℕ) : Type 0 where
  pub empty_is : empty ≡ []
  pub count_is : count ≡ total log
  pub few : count < 2 ^ 48

-- with a batch at the end of one partition, where its number is the count of its producer's and epoch's records there
abbrev pub log_appended : PartId → Batch → List Written → List Written
log_appended p b log =
    if b.number == count_sent b.producer b.epoch (slots_in p log) then with_slots p (sent_slots b.producer b.epoch b.number b.task b.recs) log else log
