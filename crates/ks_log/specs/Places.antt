-- Where each partition stands among those that were written to.
use Rattle.std.specs.Prelude.{◌≡◌, ℕ, zero, suc, ◌+◌, ◌*◌, ◌<◌, if◌then◌else◌, List, [], ◌∷◌, get_or}
use Rattle.ks_record.specs.declared.record.PartId.{PartId}
use Rattle.ks_record.specs.Parts.{same_part}
use Rattle.ks_log.specs.declared.log.Written.{Written}

-- one more, but for 0
abbrev pub seat_on : ℕ → ℕ
seat_on zero = 0
seat_on (suc n) = suc (suc n)

-- one past the place of a partition, or 0 where it isn't there
abbrev pub seat : PartId → List Written → ℕ
seat p [] = 0
seat p (written ∷ log) = if same_part p written.part then 1 else seat_on (seat p log)

-- the number of a partition among all that there may be
abbrev pub part_number : PartId → ℕ
part_number p = p.topic * 256 + p.part

-- at the number of each partition stands its seat
abbrev pub AreSeats : List ℕ → List Written → Type 0
AreSeats seats log = (p : PartId) → p.part < 256 → get_or seats (part_number p) 0 ≡ seat p log
