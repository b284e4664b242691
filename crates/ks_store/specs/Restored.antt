-- The records of a piece of a changelog, without their offsets.
use Rattle.std.specs.Prelude.{ℕ, List, map}
use Rattle.ks_record.specs.Records.{Record as Rec}

abbrev pub records_of : List (ℕ × Rec) → List Rec
records_of recs = map (λ r. r.1) recs
