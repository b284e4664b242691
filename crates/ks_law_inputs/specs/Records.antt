-- The records of a job: what their keys and values are, and the same as inputs of its query.
use Rattle.std.specs.Prelude.{◌≡◌, ℕ, ◌<◌, ◌≤◌, ◌^◌, List, [], ◌∷◌, length, Option, Some, None, IfSome}
use Rattle.ks_record.specs.Texts.{IsKey}
use Rattle.ks_row.specs.Rows.{Member}
use Rattle.ks_row.specs.Spelling.{spelling, FitsRow}
use Rattle.ks_row.specs.Reading.{row_from}
use Rattle.ks_record.specs.Records.{Record as Rec}
use Rattle.ks_plan.specs.Drafts.{Topics}
use Rattle.ks_plan.specs.Plan.{natural}
use Rattle.ks_query.specs.Streams.{Input, some_of}
use Rattle.ks_job.specs.Items.{ItemView, TopologyAt, RecordTo}
use Rattle.ks_job.specs.Reader.{Reader, Reading, Faulty, Machine}

-- ---- as inputs
-- the row that the bytes of a value spell
abbrev pub row_in : Option (List ℕ) → Option (List Member)
row_in None = None
row_in (Some bytes) = row_from bytes

abbrev pub input_of : ℕ → Rec → Input
input_of topic r = record { topic = topic; key = r.key; value = row_in r.value; time = r.ts }

abbrev pub input_in : ItemView → Option Input
input_in (TopologyAt line d) = None
input_in (RecordTo topic r) = Some (input_of topic r)

-- the records among a job's items, in their order
abbrev pub records_of : List ItemView → List Input
records_of is = some_of input_in is

-- ---- what they are
abbrev pub IsRowBytes : List ℕ → Type 0
IsRowBytes bytes = (row : List Member) × FitsRow row × (bytes ≡ spelling row)

-- a record to one of so many topics: no key or a key, no value or a row's bytes, a timestamp of at most 2^53 ms
pub record IsRecord (topics : ℕ) (to : ℕ) (r : Rec) : Type 0 where
  pub topic : to < topics
  pub key : IfSome r.key IsKey
  pub value : IfSome r.value IsRowBytes
  pub time : r.ts < 2 ^ 64
  pub range : r.ts ≤ 2 ^ 53

abbrev pub AreRecords : ℕ → List ItemView → Type 0
AreRecords topics [] = Unit {0}
AreRecords topics (TopologyAt line d ∷ is) = ⊥
AreRecords topics (RecordTo topic r ∷ is) = IsRecord topics topic r × AreRecords topics is

-- each topic has a partition
abbrev pub HavePartitions : Topics → Type 0
HavePartitions [] = Unit {0}
HavePartitions (t ∷ ts) = (1 ≤ natural t.1.parts) × HavePartitions ts

-- a topology and its records, or nothing yet
abbrev pub IsJob : List ItemView → Type 0
IsJob [] = Unit {0}
IsJob (TopologyAt line d ∷ is) = HavePartitions d.topics × AreRecords (length d.topics) is
IsJob (RecordTo topic r ∷ is) = ⊥

-- a reader that has come to the end without a fault has had a topology
abbrev pub Told : Reader → List ItemView → Type 0
Told (Reading s begun) [] = ⊥
Told (Reading s begun) (i ∷ is) = Unit {0}
Told (Faulty n k) is = Unit {0}

-- of a whole input
pub record IsWhole (m : Machine) : Type 0 where
  pub job : IsJob m.items
  pub told : Told m.reader m.items
