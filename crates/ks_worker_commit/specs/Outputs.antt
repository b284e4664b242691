-- What the requests of a commit put into a transaction, in the order in which a worker makes them: each output partition, the records by
-- partition and then task, the offsets of each task (Kafka Streams: RecordCollector, StreamsProducer).
use Rattle.std.specs.Prelude.{ℕ, if◌then◌else◌, List, [], ◌∷◌}
use Rattle.ks_record.specs.Records.{Record as Rec}
use Rattle.ks_record.specs.declared.record.PartId.{PartId}
use Rattle.ks_record.specs.declared.record.TaskId.{TaskId}
use Rattle.ks_record.specs.Parts.{same_part}
use Rattle.ks_history.specs.State.{insert_part}
use Rattle.ks_law_restore.specs.Views.{WorkView, pending_work}
use Rattle.ks_law_commit.specs.Building.{Contents, no_contents, with_part, with_records, with_pending_offsets}

-- ---- the partitions in which works have records, rising, none twice
abbrev pub parts_with : List PartId → List (PartId × List Rec) → List PartId
parts_with parts [] = parts
parts_with parts (out ∷ outs) = parts_with (insert_part out.0 parts) outs

abbrev pub parts_in : List PartId → List WorkView → List PartId
parts_in parts [] = parts
parts_in parts (f ∷ fs) = parts_in (parts_with parts f.outputs) fs

-- ---- the contents after each kind of request
abbrev pub add_all : List PartId → Contents → Contents
add_all [] c = c
add_all (p ∷ ps) c = add_all ps (with_part p c)

-- a task's records, where they are of this partition
abbrev pub put_output : PartId → TaskId → PartId × List Rec → Contents → Contents
put_output p t out c = if same_part p out.0 then with_records t p out.1 c else c

-- a task's records in a partition
abbrev pub put_outputs : PartId → TaskId → List (PartId × List Rec) → Contents → Contents
put_outputs p t [] c = c
put_outputs p t (out ∷ outs) c = put_outputs p t outs (put_output p t out c)

-- the records of each work in a partition
abbrev pub put_works : PartId → List WorkView → Contents → Contents
put_works p [] c = c
put_works p (f ∷ fs) c = put_works p fs (put_outputs p f.task f.outputs c)

abbrev pub put_all : List PartId → List WorkView → Contents → Contents
put_all [] fs c = c
put_all (p ∷ ps) fs c = put_all ps fs (put_works p fs c)

abbrev pub send_all : List WorkView → Contents → Contents
send_all [] c = c
send_all (f ∷ fs) c = send_all fs (with_pending_offsets (pending_work f) c)

-- all requests before the decision
abbrev pub sends_of : List PartId → List WorkView → Contents → Contents
sends_of parts fs c = send_all fs (put_all parts fs (add_all parts c))

-- the whole transaction of some works
abbrev pub contents_of : List WorkView → Contents
contents_of fs = sends_of (parts_in [] fs) fs no_contents
