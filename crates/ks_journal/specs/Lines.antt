-- The text of a journal: for each entry a JSON array in compact form (RFC 8259, without spaces), and LF.
use Rattle.std.specs.Prelude.{ℕ, ◌/◌, ◌%◌, List, [], ◌∷◌, ◌++◌, map, codes, decimal, Bool, true, Option, Some, None}
use Rattle.std.specs.Char.{digit_char}
use Rattle.std.specs.List.{flat_map}
use Rattle.serde_json.specs.Data.{Data, null, boolean, number, unsigned, string, array}
use Rattle.serde_json.specs.View.{items_of}
use Rattle.serde_json.specs.Written.{compact_text}
use Rattle.ks_record.specs.Records.{Record as Rec}
use Rattle.ks_record.specs.declared.record.PartId.{PartId}
use Rattle.ks_record.specs.declared.record.TaskId.{TaskId}
use Rattle.ks_record.specs.declared.assignment.Assignment.{Assignment}
use Rattle.ks_record.specs.declared.assignment.Refused.{Refused as Refusal}
use Rattle.ks_record.specs.declared.assignment.Refused.TheVariants.{OutOfSequence, Fenced, AlreadyDecided, NoTransaction, OldGeneration, NotAssigned, Unstable, MarkersWaiting, BadAssignment}
use Rattle.ks_history.specs.declared.journal.Request.{Request}
use Rattle.ks_history.specs.declared.journal.Request.TheVariants.{Produce, Init, Add, Append, SendOffsets, Decide, MarkNext, Join, Expire, Hold, Probe, Assign, Park, Unpark}
use Rattle.ks_history.specs.declared.journal.Reply.{Reply}
use Rattle.ks_history.specs.declared.journal.Reply.TheVariants.{Done, Number, Truth, Mark, Refused}
use Rattle.ks_history.specs.declared.journal.Entry.{Entry}

-- ---- values
abbrev pub list : List Data → Data
list ds = array (items_of ds)

-- a whole number, in decimal digits
abbrev pub whole : ℕ → Data
whole n = number (unsigned n)

-- a byte as two digits of base 16, in lower case
abbrev pub hex_byte : ℕ → List ℕ
hex_byte b = digit_char (b / 16 % 16) ∷ digit_char (b % 16) ∷ []

abbrev pub hex : List ℕ → List ℕ
hex = flat_map hex_byte

-- bytes as a text of base 16; null where there are none
abbrev pub bytes_data : Option (List ℕ) → Data
bytes_data None = null
bytes_data (Some bytes) = string (hex bytes)

-- a record: key, value, timestamp
abbrev pub rec_data : Rec → Data
rec_data r = list (bytes_data r.key ∷ bytes_data r.value ∷ whole r.ts ∷ [])

-- a task: subtopology, low line, partition
abbrev pub task_text : TaskId → List ℕ
task_text t = decimal t.sub ++ (codes "_" ++ decimal t.part)

abbrev pub task_data : TaskId → Data
task_data t = string (task_text t)

-- a topic with an offset or a count
abbrev pub pair_data : ℕ × ℕ → Data
pair_data p = list (whole p.0 ∷ whole p.1 ∷ [])

-- a task with a position or a worker
abbrev pub place_data : TaskId × ℕ → Data
place_data p = list (task_data p.0 ∷ whole p.1 ∷ [])

abbrev pub recs_data : List Rec → Data
recs_data rs = list (map rec_data rs)

abbrev pub pairs_data : List (ℕ × ℕ) → Data
pairs_data ps = list (map pair_data ps)

abbrev pub places_data : List (TaskId × ℕ) → Data
places_data ps = list (map place_data ps)

-- ---- a request: its name, and its arguments in their order
abbrev pub call_of : Request → List ℕ × List Data
call_of (Produce p rec) = (codes "produce", whole p.topic ∷ whole p.part ∷ rec_data rec ∷ [])
call_of (Init w) = (codes "init", whole w ∷ [])
call_of (Add w e p) = (codes "add", whole w ∷ whole e ∷ whole p.topic ∷ whole p.part ∷ [])
call_of (Append w e n t p recs) = (codes "append", whole w ∷ whole e ∷ whole n ∷ task_data t ∷ whole p.topic ∷ whole p.part ∷ recs_data recs ∷ [])
call_of (SendOffsets w e g t offsets order late) = (codes "offsets", whole w ∷ whole e ∷ whole g ∷ task_data t ∷ pairs_data offsets ∷ pairs_data order ∷ whole late ∷ [])
call_of (Decide w e commit) = (codes "decide", whole w ∷ whole e ∷ boolean commit ∷ [])
call_of (MarkNext w) = (codes "mark", whole w ∷ [])
call_of (Join w) = (codes "join", whole w ∷ [])
call_of (Expire w) = (codes "expire", whole w ∷ [])
call_of (Hold w held) = (codes "hold", whole w ∷ places_data held ∷ [])
call_of (Probe w g) = (codes "probe", whole w ∷ whole g ∷ [])
call_of (Assign w g a) = (codes "assign", whole w ∷ whole g ∷ places_data a.active ∷ places_data a.standby ∷ places_data a.warmup ∷ [])
call_of (Park instance t) = (codes "park", whole instance ∷ task_data t ∷ [])
call_of (Unpark instance t) = (codes "unpark", whole instance ∷ task_data t ∷ [])

-- ---- a reply, the last item of a line
-- a worker; null where there is none
abbrev pub owner_data : Option ℕ → Data
owner_data None = null
owner_data (Some w) = whole w

-- a refusal's number, and what it tells
abbrev pub refusal_items : Refusal → List Data
refusal_items (OutOfSequence expected) = whole 1 ∷ whole expected ∷ []
refusal_items (Fenced held) = whole 2 ∷ whole held ∷ []
refusal_items (AlreadyDecided commit) = whole 3 ∷ boolean commit ∷ []
refusal_items NoTransaction = whole 4 ∷ []
refusal_items (OldGeneration now) = whole 5 ∷ whole now ∷ []
refusal_items (NotAssigned owner) = whole 6 ∷ owner_data owner ∷ []
refusal_items (Unstable producer) = whole 7 ∷ whole producer ∷ []
refusal_items (MarkersWaiting left) = whole 8 ∷ whole left ∷ []
refusal_items (BadAssignment task) = whole 9 ∷ task_data task ∷ []

-- the partition of a written marker, and whether it commits; null where none waited
abbrev pub mark_data : Option (PartId × Bool) → Data
mark_data None = null
mark_data (Some m) = list (whole m.0.topic ∷ whole m.0.part ∷ boolean m.1 ∷ [])

abbrev pub reply_data : Reply → Data
reply_data Done = boolean true
reply_data (Number n) = whole n
reply_data (Truth b) = boolean b
reply_data (Mark m) = mark_data m
reply_data (Refused r) = list (refusal_items r)

-- ---- a line
abbrev pub request_items : Request → List Data
request_items r = string (call_of r).0 ∷ (call_of r).1

abbrev pub entry_data : Entry → Data
entry_data e = list (request_items e.request ++ reply_data e.reply ∷ [])

abbrev pub entry_text : Entry → List ℕ
entry_text e = compact_text (entry_data e)

unfoldable pub line_text : Entry → List ℕ
line_text e = entry_text e ++ 10 ∷ []

abbrev pub journal_text : List Entry → List ℕ
journal_text entries = flat_map line_text entries

-- ---- the text, piece by piece
-- an item and the comma after it
abbrev pub field_text : Data → List ℕ
field_text d = compact_text d ++ 44 ∷ []

abbrev pub fields_text : List Data → List ℕ
fields_text = flat_map field_text

abbrev pub name_text : Request → List ℕ
name_text r = compact_text (string (call_of r).0)

abbrev pub arguments_text : Request → List ℕ
arguments_text r = fields_text (call_of r).1

abbrev pub part_text : PartId → List ℕ
part_text p = fields_text (whole p.topic ∷ whole p.part ∷ [])

abbrev pub task_work_text : ℕ → ℕ → ℕ → TaskId → List ℕ
task_work_text w e n t = fields_text (whole w ∷ whole e ∷ whole n ∷ task_data t ∷ [])

abbrev pub offsets_text : List (ℕ × ℕ) → List (ℕ × ℕ) → ℕ → List ℕ
offsets_text offsets order late = fields_text (pairs_data offsets ∷ pairs_data order ∷ whole late ∷ [])

abbrev pub assignment_text : Assignment → List ℕ
assignment_text a = fields_text (places_data a.active ∷ places_data a.standby ∷ places_data a.warmup ∷ [])

abbrev pub refusal_text : Refusal → List ℕ
refusal_text r = compact_text (list (refusal_items r))
