-- A job that is opened, so that its topology is known, and then read on.
use Rattle.std.specs.Prelude.{◌≡◌, ℕ, ◌≤◌, List, [], ◌∷◌, length, Option, Some, None, IfSome, Result, Ok, Err}
use Rattle.std.specs.Io.KnownBytes.{Consumes, IsAtEnd}
use Rattle.ks_plan.specs.Drafts.{DraftView, draft_view}
use Rattle.ks_plan.specs.Faults.{fault_of}
use Rattle.ks_job.specs.Items.{ItemView, TopologyAt, item_views}
use Rattle.ks_job.specs.Reader.{Reader, Machine, after, end_of, so_far, whole}
use Rattle.ks_law_inputs.specs.Records.{HavePartitions, AreRecords}
use Rattle.ks_job_source.specs.declared.stop.JobStop.{JobStop}
use Rattle.ks_job_source.specs.declared.rest.Standing.{Standing}
use Rattle.ks_job_source.specs.declared.rest.Standing.TheVariants.{Reading, Whole, Stopped, Lost}
use Rattle.ks_job_source.specs.declared.rest.JobEnd.{JobEnd}
use Rattle.ks_job_source.specs.declared.rest.JobEnd.TheVariants as end
use Rattle.ks_job_source.specs.declared.rest.JobRest.{JobRest}
use Rattle.ks_job_source.specs.declared.opening.OpenJob.{OpenJob}
use Rattle.ks_job_source.specs.Reading.{Read}
use Rattle.ks_job_source.specs.Stops.{line_stop, stop_of}

-- ---- how a job is read on after a reader stood somewhere
-- a reader with nothing read
abbrev pub from : Reader → Machine
from r = record { reader = r; items = [] }

-- where the end of the input leaves it
abbrev pub ended : Machine → Machine
ended m = end_of m.reader m.items

-- the source lost some bytes since then, and these led the reader here, past these items, with nothing to stop at
pub record ReadsOn (start : Reader) (old now : Option (List ℕ)) (reader : Reader) (items : List ItemView) : Type 0 where
  pub taken : List ℕ
  pub lost : Consumes old now taken
  pub stands : after (from start) taken ≡ record { reader = reader; items = items }
  pub unstopped : line_stop reader ≡ None

-- all bytes from there on, which are those that the source had left where it tells them, have these items and then this faulty line
pub record ReadsOut (start : Reader) (old : Option (List ℕ)) (stop : Option JobStop) (items : List ItemView) : Type 0 where
  pub bytes : List ℕ
  pub known : IfSome old (λ b. b ≡ bytes)
  pub items_are : (ended (after (from start) bytes)).items ≡ items
  pub stops : line_stop (ended (after (from start) bytes)).reader ≡ stop

abbrev pub GoesOn : Reader → Option (List ℕ) → Option (List ℕ) → Standing → List ItemView → Type 0
GoesOn start old now (Reading None) items = ⊥
GoesOn start old now (Reading (Some r)) items = ReadsOn start old now r items
GoesOn start old now Whole items = ReadsOut start old None items × IsAtEnd now
GoesOn start old now (Stopped stop) items = ReadsOut start old (Some stop) items
GoesOn start old now Lost items = ⊥

-- how that ends, with these items that came
abbrev pub EndsFrom : Standing → Option (List ℕ) → Option (List ℕ) → JobEnd → List ItemView → Type 0
EndsFrom (Reading None) old now e items = ⊥
EndsFrom (Reading (Some r)) old now end.Whole items = ReadsOut r old None items × IsAtEnd now
EndsFrom (Reading (Some r)) old now (end.Stopped stop) items = ReadsOut r old (Some stop) items
EndsFrom (Reading (Some r)) old now end.Failed items = (reader : Reader) × ReadsOn r old now reader items
EndsFrom Whole old now end.Whole items = (items ≡ []) × (now ≡ old)
EndsFrom Whole old now (end.Stopped stop) items = ⊥
EndsFrom Whole old now end.Failed items = ⊥
EndsFrom (Stopped stop) old now end.Whole items = ⊥
EndsFrom (Stopped stop) old now (end.Stopped other) items = (items ≡ []) × (other ≡ stop)
EndsFrom (Stopped stop) old now end.Failed items = ⊥
EndsFrom Lost old now e items = ⊥

-- how reading has ended, where it has
abbrev pub end_at : Standing → Option JobEnd
end_at (Reading r) = None
end_at Whole = Some end.Whole
end_at (Stopped stop) = Some (end.Stopped stop)
end_at Lost = None

-- ---- a reader that has come past a topology with so many topics, after at least so many bytes
pub record IsPast (topics count : ℕ) (r : Reader) : Type 0 where
  pub taken : List ℕ
  pub line : ℕ
  pub draft : DraftView
  pub records : List ItemView
  pub stands : so_far taken ≡ record { reader = r; items = TopologyAt line draft ∷ records }
  pub unstopped : stop_of (so_far taken) ≡ None
  pub many : length draft.topics ≡ topics
  pub counted : count ≤ length taken

abbrev pub StandsPast : ℕ → ℕ → Standing → Type 0
StandsPast topics count (Reading None) = ⊥
StandsPast topics count (Reading (Some r)) = IsPast topics count r
StandsPast topics count Whole = Unit {0}
StandsPast topics count (Stopped stop) = Unit {0}
StandsPast topics count Lost = ⊥

abbrev pub IsReading : Standing → Type 0
IsReading (Reading r) = Unit {0}
IsReading Whole = ⊥
IsReading (Stopped stop) = ⊥
IsReading Lost = ⊥

-- ---- a job from its first byte on
-- some bytes, which are those that the source had left where it tells them, have this topology and these records, and then this stop
pub record HoldsJob (first : Option (List ℕ)) (stop : Option JobStop) (d : DraftView) (records : List ItemView) : Type 0 where
  pub bytes : List ℕ
  pub known : IfSome first (λ b. b ≡ bytes)
  pub line : ℕ
  pub items_are : (whole bytes).items ≡ TopologyAt line d ∷ records
  pub stops : stop_of (whole bytes) ≡ stop

-- the bytes that the source lost have this topology and these records, lead the reader here, and have nothing to stop at
pub record HoldsFront (first now : Option (List ℕ)) (r : Reader) (d : DraftView) (records : List ItemView) : Type 0 where
  pub taken : List ℕ
  pub lost : Consumes first now taken
  pub line : ℕ
  pub stands : so_far taken ≡ record { reader = r; items = TopologyAt line d ∷ records }
  pub unstopped : stop_of (so_far taken) ≡ None

-- how a job was read that has this topology and these records
abbrev pub EndsJob : Option (List ℕ) → Option (List ℕ) → JobEnd → DraftView → List ItemView → Type 0
EndsJob first now end.Whole d records = HoldsJob first None d records × IsAtEnd now
EndsJob first now (end.Stopped stop) d records = HoldsJob first (Some stop) d records
EndsJob first now end.Failed d records = (r : Reader) × HoldsFront first now r d records

abbrev pub OpensAt : Option (List ℕ) → Option (List ℕ) → DraftView → List ItemView → Standing → Type 0
OpensAt first now d records (Reading None) = ⊥
OpensAt first now d records (Reading (Some r)) = HoldsFront first now r d records
OpensAt first now d records Whole = HoldsJob first None d records × IsAtEnd now
OpensAt first now d records (Stopped stop) = HoldsJob first (Some stop) d records
OpensAt first now d records Lost = ⊥

-- its topology is well formed, these records came with it, and all that comes after them are records for its topics
pub record IsReadable (d : DraftView) (records : List ItemView) (rest : JobRest) : Type 0 where
  pub fine : fault_of d ≡ None
  pub partitions : HavePartitions d.topics
  pub records_are : AreRecords (length d.topics) records
  pub past : StandsPast (length d.topics) rest.taken rest.standing
  pub room : 1 ≤ length rest.buf.items

-- it was read so far
pub record IsOpened (first now : Option (List ℕ)) (d : DraftView) (records : List ItemView) (rest : JobRest) : Type 0 where
  pub readable : IsReadable d records rest
  pub stands : OpensAt first now d records rest.standing

abbrev pub Opens : Option (List ℕ) → Option (List ℕ) → Result OpenJob JobStop → Type 0
Opens first now (Ok job) = IsOpened first now (draft_view job.draft) (item_views job.records.items) job.rest
Opens first now (Err stop) = Read first (Err stop)
