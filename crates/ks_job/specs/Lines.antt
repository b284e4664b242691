-- One line, and what it gives.
use Rattle.std.specs.Prelude.{ℕ, ◌+◌, ◌==◌, ◌||◌, List, length, Bool, Option, Some, None, Result, Ok, Err, codes, nat_lt, min, if◌then◌else◌}
use Rattle.std.specs.List.{list_all}
use Rattle.std.specs.Str.Lossy.{utf8_valid_len}
use Rattle.serde_json.specs.Data.{Data}
use Rattle.serde_json.specs.Read.{read}
use Rattle.ks_job_record.specs.declared.fault.JobKind.{JobKind}
use Rattle.ks_job_record.specs.declared.fault.JobKind.TheVariants.{TooMany, NotJson, LineTooLong}
use Rattle.ks_job_record.specs.Gives.{◌>>=◌, some_or}
use Rattle.ks_job_record.specs.Record.{input_from}
use Rattle.ks_job_topology.specs.Topology.{topology_from, names_of}
use Rattle.ks_job.specs.Items.{ItemView, TopologyAt, RecordTo}
use Rattle.ks_job.specs.declared.place.Place.{Place}

-- where reading stands at the start of a line: its number from 1, the bytes before it, the names of the topics where the topology was read, and the records before it
pub record Spot : Type 0 where
  pub line : ℕ
  pub start : ℕ
  pub topics : Option (List (List ℕ))
  pub records : ℕ

abbrev pub spot : Place → Spot
spot p = record { line = p.line; start = p.start; topics = p.topics; records = p.records }

-- a line of spaces, tabs and CRs alone is blank
abbrev pub is_blank_byte : ℕ → Bool
is_blank_byte b = (b == 32) || (b == 9) || (b == 13)

abbrev pub is_blank : List ℕ → Bool
is_blank line = list_all is_blank_byte line

-- what JSON says the line is; what is no UTF-8 has no reading
unfoldable pub parsed : List ℕ → Option Data
parsed line = if utf8_valid_len line == length line then read line else None

-- byte 67,108,865 of the input is among the first 65,537 bytes of a line of this size, which starts after so many bytes
unfoldable pub passes : ℕ → ℕ → Bool
passes start size = nat_lt 67108864 (start + min 65537 size)

unfoldable pub is_too_long : List ℕ → Bool
is_too_long line = nat_lt 65536 (length line)

unfoldable pub too_long : ℕ → JobKind
too_long start = if passes start 65537 then TooMany (codes "bytes") 67108864 else LineTooLong

-- after a line of this size that gives no item
abbrev pub next_line : Spot → ℕ → Spot
next_line s size = record { line = s.line + 1; start = s.start + size; topics = s.topics; records = s.records }

unfoldable pub topology_line : Spot → ℕ → Data → Result (Spot × Option ItemView) JobKind
topology_line s size d = do
  draft ← topology_from d
  Ok (record { line = s.line + 1; start = s.start + size; topics = Some (names_of draft.topics); records = s.records }, Some (TopologyAt s.line draft))

unfoldable pub record_line : Spot → ℕ → List (List ℕ) → Data → Result (Spot × Option ItemView) JobKind
record_line s size topics d = do
  input ← input_from topics d
  if nat_lt s.records 250000 then Ok (record { line = s.line + 1; start = s.start + size; topics = Some topics; records = s.records + 1 }, Some (RecordTo input.topic input.rec)) else Err (TooMany (codes "records") 250000)

-- the first line that is not blank is the topology, and each further one a record
abbrev pub value_line : Option (List (List ℕ)) → Spot → ℕ → Data → Result (Spot × Option ItemView) JobKind
value_line None s size d = topology_line s size d
value_line (Some topics) s size d = record_line s size topics d

unfoldable pub data_line : Spot → ℕ → List ℕ → Result (Spot × Option ItemView) JobKind
data_line s size line = do
  d ← some_or NotJson (parsed line)
  value_line s.topics s size d

-- a line, its LF counted by `end`: where reading stands after it, and its item; or its fault
unfoldable pub judged : Spot → ℕ → List ℕ → Result (Spot × Option ItemView) JobKind
judged s end line = if passes s.start (length line + end) then Err (TooMany (codes "bytes") 67108864) else (if is_too_long line then Err LineTooLong else (if is_blank line then Ok (next_line s (length line + end), None) else data_line s (length line + end) line))
