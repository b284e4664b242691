-- Records, and what a list of them keeps.
use Rattle.std.specs.Prelude.{◌≡◌, ℕ, ◌+◌, ◌-◌, ◌≤◌, Bool, List, [], ◌∷◌, ◌++◌, map, length, slice_range, slice_index_or, Option, Some, None, is_some, option_copied, if◌then◌else◌}
use Rattle.std.specs.List.{All}
use Rattle.ks_record.specs.declared.record.PartId.{PartId}
use Rattle.ks_record.specs.declared.records.Ends.{Ends}
use Rattle.ks_record.specs.declared.records.RecordRef.{RecordRef}

-- a record as a log keeps it; the time in milliseconds
pub record Record : Type 0 where
  pub key : Option (List ℕ)
  pub value : Option (List ℕ)
  pub ts : ℕ

-- a record where it stands
abbrev pub record_seen : RecordRef → Record
record_seen r = record { key = option_copied r.key; value = option_copied r.value; ts = r.ts }

abbrev pub bytes_or_none : Option (List ℕ) → List ℕ
bytes_or_none None = []
bytes_or_none (Some bytes) = bytes

-- all bytes of a record, the key's first
abbrev pub record_bytes : Record → List ℕ
record_bytes r = bytes_or_none r.key ++ bytes_or_none r.value

-- ---- records whose bytes stand in one block
abbrev pub part_between : Bool → List ℕ → ℕ → ℕ → Option (List ℕ)
part_between is_there block start end = if is_there then Some (slice_range block start end) else None

abbrev pub rec_at : List ℕ → Ends → Record
rec_at block e = record {
  key = part_between e.has_key block e.start e.middle;
  value = part_between e.has_value block e.middle e.end;
  ts = e.ts;
}

abbrev pub recs_in : List ℕ → List Ends → List Record
recs_in block ends = map (rec_at block) ends

-- where a record stands that is put behind so many bytes
abbrev pub ends_behind : ℕ → Record → Ends
ends_behind start r = record {
  start = start;
  middle = start + length (bytes_or_none r.key);
  end = start + length (bytes_or_none r.key) + length (bytes_or_none r.value);
  has_key = is_some r.key;
  has_value = is_some r.value;
  ts = r.ts;
}

-- where one stands that is moved with its bytes behind so many
abbrev pub ends_moved : ℕ → Ends → Ends
ends_moved start e = record {
  start = start;
  middle = start + (e.middle - e.start);
  end = start + (e.end - e.start);
  has_key = e.has_key;
  has_value = e.has_value;
  ts = e.ts;
}

pub record IsWithin (block : List ℕ) (e : Ends) : Type 0 where
  pub key : e.start ≤ e.middle
  pub value : e.middle ≤ e.end
  pub inside : e.end ≤ length block

abbrev pub AreWithin : List ℕ → List Ends → Type 0
AreWithin block ends = All (IsWithin block) ends

-- these bytes, behind whatever others, are those of a record that stood so
pub record IsCopy (e : Ends) (bytes : List ℕ) (r : Record) : Type 0 where
  pub same : (block : List ℕ) → rec_at (block ++ bytes) (ends_moved (length block) e) ≡ r
  pub within : (block : List ℕ) → IsWithin (block ++ bytes) (ends_moved (length block) e)

-- ---- by place; whatever past the end
abbrev pub no_rec : Record
no_rec = record { key = None; value = None; ts = 0 }

abbrev pub no_part : PartId
no_part = record { topic = 0; part = 0 }

abbrev pub rec_of_list : List Record → ℕ → Record
rec_of_list rs n = slice_index_or rs n no_rec

-- with the partitions that they are for
abbrev pub placed_in : List PartId → List Record → List (PartId × Record)
placed_in [] rs = []
placed_in (p ∷ ps) [] = []
placed_in (p ∷ ps) (r ∷ rs) = (p, r) ∷ placed_in ps rs

abbrev pub part_of_list : List (PartId × Record) → ℕ → PartId
part_of_list xs n = (slice_index_or xs n (no_part, no_rec)).0

abbrev pub placed_of_list : List (PartId × Record) → ℕ → Record
placed_of_list xs n = (slice_index_or xs n (no_part, no_rec)).1
