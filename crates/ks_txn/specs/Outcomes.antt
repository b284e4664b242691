-- What a request of a producer is answered, and what it leaves of the producers.
use Rattle.std.specs.Prelude.{ℕ, Option, Some, None, Result, Ok, Err, List, [], ◌∷◌, get_or, set}
use Rattle.ks_record.specs.declared.record.PartId.{PartId}
use Rattle.ks_record.specs.declared.assignment.Marker.{Marker}
use Rattle.ks_record.specs.declared.assignment.Refused.{Refused}
use Rattle.ks_history.specs.declared.transaction.Producer.{Producer}
use Rattle.ks_history.specs.State.{new_producer, insert_part}
use Rattle.ks_history.specs.Step.{or_else, fenced, markers_waiting, without_part, none_undecided, tx_of}

abbrev pub producer_at : List Producer → ℕ → Producer
producer_at producers w = get_or producers w new_producer

-- refused so, or done
abbrev pub done_by : Option Refused → Result (Unit {0}) Refused
done_by None = Ok tt
done_by (Some refused) = Err refused

-- the producers with this one in place of one of them, where nothing is refused
abbrev pub changed_by : Option Refused → List Producer → ℕ → Producer → List Producer
changed_by None producers w p = set producers w p
changed_by (Some refused) producers w p = producers

-- ---- why a request is refused (KIP-98), the first that fits
-- a transaction may not begin or go on
abbrev pub start_fault : Producer → ℕ → Option Refused
start_fault p epoch = or_else (fenced p epoch) (markers_waiting p)

-- a partition may not be written to
abbrev pub has_fault : Producer → ℕ → PartId → Option Refused
has_fault p epoch part = or_else (fenced p epoch) (without_part p part)

-- a transaction may not be decided
abbrev pub decide_fault : Producer → ℕ → Option Refused
decide_fault p epoch = or_else (fenced p epoch) (none_undecided p)

-- ---- what a request leaves of its producer
-- with a transaction, a new one where there is none
abbrev pub started : Producer → Producer
started p = record p { undecided = Some (tx_of p) }

-- the same, and with one partition more
abbrev pub added : Producer → PartId → Producer
added p part = record p { undecided = Some (record (tx_of p) { parts = insert_part part (tx_of p).parts }) }

abbrev pub first_marker : List Marker → Option Marker
first_marker [] = None
first_marker (m ∷ ms) = Some m
