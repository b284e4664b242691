-- A producer, as it is kept: one list of partitions serves its undecided transaction, and then the markers that wait.
use Rattle.std.specs.Prelude.{ℕ, ◌<◌, ◌≤◌, ◌^◌, Bool, Option, Some, None, List, [], drop, length}
use Rattle.ks_record.specs.declared.record.PartId.{PartId}
use Rattle.ks_record.specs.declared.assignment.Marker.{Marker}
use Rattle.ks_history.specs.declared.transaction.Transaction.{Transaction}
use Rattle.ks_history.specs.declared.transaction.Producer.{Producer}
use Rattle.ks_history.specs.Step.{markers_for}
use Rattle.ks_txn.specs.declared.txn.Stage.{Stage}
use Rattle.ks_txn.specs.declared.txn.Stage.TheVariants.{Open, Decided}

-- the transaction with these partitions, if it is undecided; which tasks and offsets are in it isn't kept here
abbrev pub undecided_in : Stage → List PartId → Option Transaction
undecided_in Open parts = Some (record { parts = parts; tasks = []; pending = [] })
undecided_in (Decided epoch commit written) parts = None

-- the markers of the partitions that aren't written yet, once the transaction is decided
abbrev pub waiting_in : Stage → List PartId → List Marker
waiting_in Open parts = []
waiting_in (Decided epoch commit written) parts = markers_for epoch commit (drop written parts)

abbrev pub written_in : Stage → ℕ
written_in Open = 0
written_in (Decided epoch commit written) = written

-- the producer that is kept so
abbrev pub seen : ℕ → Option Bool → List PartId → Stage → Producer
seen epoch last parts stage = record { epoch = epoch; undecided = undecided_in stage parts; last = last; waiting = waiting_in stage parts }

-- fewer than 2^32 partitions, and no more markers written than there are
pub record IsKept (parts : List PartId) (stage : Stage) : Type 0 where
  pub few : length parts < 2 ^ 32
  pub within : written_in stage ≤ length parts
