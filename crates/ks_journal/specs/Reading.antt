-- Reading a line back: the entry that a JSON array tells, where it tells one.
use Rattle.std.specs.Prelude.{ℕ, ◌+◌, ◌-◌, ◌*◌, ◌^◌, ◌==◌, nat_lt, nat_le, List, [], ◌∷◌, ◌++◌, codes, Bool, false, if◌then◌else◌, Option, Some, None, option_map, option_and_then}
use Rattle.std.specs.Cmp.Lexicographic.{pointwise}
use Rattle.serde_json.specs.Data.{Data, null, array, Items, no_items, item}
use Rattle.serde_json.specs.Read.{read}
use Rattle.serde_json.specs.Find.{as_u64, as_number, as_str, as_bool, as_array}
use Rattle.ks_row.specs.Reading.{◌>>=◌}
use Rattle.ks_record.specs.Records.{Record as Rec}
use Rattle.ks_record.specs.declared.record.PartId.{PartId}
use Rattle.ks_record.specs.declared.record.TaskId.{TaskId}
use Rattle.ks_record.specs.declared.assignment.Assignment.{Assignment}
use Rattle.ks_record.specs.declared.assignment.Refused.{Refused as Refusal}
use Rattle.ks_record.specs.declared.assignment.Refused.TheVariants.{OutOfSequence, Fenced, AlreadyDecided, NoTransaction, OldGeneration, NotAssigned, Unstable, MarkersWaiting, BadAssignment}
use Rattle.ks_history.specs.declared.journal.Request.{Request}
use Rattle.ks_history.specs.declared.journal.Request.TheVariants.{Produce, Init, Add, Append, SendOffsets, Decide, MarkNext, Join, Expire, Hold, Probe, Assign, Park, Unpark}
use Rattle.ks_history.specs.declared.journal.Reply.{Reply}
use Rattle.ks_history.specs.declared.journal.Reply.TheVariants.{Done, Number, Truth, Mark, Refused}
use Rattle.ks_history.specs.declared.journal.Entry.{Entry}
use Rattle.ks_journal.specs.Replies.{ReplyKind, number_reply, done_reply, truth_reply, mark_reply, kind_of, refusals_of, refusal_number, is_among}

-- ---- texts
-- the value of a digit of base 16, in lower case
abbrev pub nibble : ℕ → Option ℕ
nibble c =
    if nat_lt c 48 then None
    else if nat_lt c 58 then Some (c - 48)
    else if nat_lt c 97 then None
    else if nat_lt c 103 then Some (c - 87)
    else None

abbrev pub byte_from : ℕ → ℕ → Option ℕ
byte_from c d = do
  high ← nibble c
  low ← nibble d
  Some (high * 16 + low)

-- the bytes of two digits each, after those that were found
abbrev pub bytes_onto : List ℕ → List ℕ → Option (List ℕ)
bytes_onto found [] = Some found
bytes_onto found (c ∷ []) = None
bytes_onto found (c ∷ d ∷ rest) = byte_from c d >>= λ b. bytes_onto (found ++ b ∷ []) rest

abbrev pub bytes_from : List ℕ → Option (List ℕ)
bytes_from text = bytes_onto [] text

-- a decimal digit that goes on a number of at most two digits
abbrev pub continues : ℕ → ℕ → Bool
continues n c = if nat_le 48 c then (if nat_lt c 58 then nat_lt n 100 else false) else false

-- the decimal number of at most three digits at the front, after those that were found, and what follows it
abbrev pub decimal_at : ℕ → List ℕ → ℕ × List ℕ
decimal_at n [] = (n, [])
decimal_at n (c ∷ rest) = if continues n c then decimal_at (n * 10 + (c - 48)) rest else (n, c ∷ rest)

abbrev pub task_of : ℕ → ℕ → Option TaskId
task_of sub part = if nat_lt sub 256 then (if nat_lt part 256 then Some (record { sub = sub; part = part }) else None) else None

-- the partition, after the one byte between
abbrev pub part_after : ℕ → List ℕ → Option TaskId
part_after sub [] = None
part_after sub (c ∷ rest) = task_of sub (decimal_at 0 rest).0

abbrev pub task_from : List ℕ → Option TaskId
task_from text = part_after (decimal_at 0 text).0 (decimal_at 0 text).1

-- ---- one value
abbrev pub whole_in : Data → Option ℕ
whole_in d = option_and_then as_u64 (as_number d)

-- a whole number below a bound
abbrev pub below_in : ℕ → Data → Option ℕ
below_in bound d = whole_in d >>= λ n. if nat_lt n bound then Some n else None

abbrev pub task_in : Data → Option TaskId
task_in d = as_str d >>= task_from

abbrev pub bytes_in : Data → Option (Option (List ℕ))
bytes_in null = Some None
bytes_in d = option_map Some (as_str d >>= bytes_from)

abbrev pub owner_in : Data → Option (Option ℕ)
owner_in null = Some None
owner_in d = option_map Some (below_in 256 d)

-- ---- items of a list, from the front
-- what the first items tell, and the items after them
abbrev pub Reader : Type 0 → Type 0
Reader A = Items → Option (A × Items)

-- the first item, read so
abbrev pub first : {A : Type 0} → (Data → Option A) → Reader A
first f no_items = None
first f (item d ds) = f d >>= λ a. Some (a, ds)

-- all items, each read so, after those that were found
abbrev pub all_onto : {A : Type 0} → (Data → Option A) → List A → Items → Option (List A)
all_onto f found no_items = Some found
all_onto f found (item d ds) = f d >>= λ a. all_onto f (found ++ a ∷ []) ds

abbrev pub all_in : {A : Type 0} → (Data → Option A) → Items → Option (List A)
all_in f ds = all_onto f [] ds

-- what was read, where no item is left
abbrev pub if_none_left : {A : Type 0} → Items → Option A → Option A
if_none_left no_items o = o
if_none_left (item d ds) o = None

abbrev pub at_end : {A : Type 0} → A × Items → Option A
at_end x = if_none_left x.1 (Some x.0)

abbrev pub list_in : {A : Type 0} → (Data → Option A) → Data → Option (List A)
list_in f d = as_array d >>= all_in f

-- a list of these items and no other
abbrev pub only : {A : Type 0} → Reader A → Items → Option A
only reader ds = reader ds >>= at_end

abbrev pub worker_at : Reader ℕ
worker_at = first (below_in 256)

abbrev pub count_at : Reader ℕ
count_at = first whole_in

abbrev pub task_at : Reader TaskId
task_at = first task_in

abbrev pub truth_at : Reader Bool
truth_at = first as_bool

abbrev pub part_at : Reader PartId
part_at ds = do
  topic ← first (below_in 65536) ds
  part ← first (below_in 256) topic.1
  Some (record { topic = topic.0; part = part.0 }, part.1)

abbrev pub rec_in : Data → Option Rec
rec_in d = do
  ds ← as_array d
  key ← first bytes_in ds
  value ← first bytes_in key.1
  ts ← first whole_in value.1
  at_end (record { key = key.0; value = value.0; ts = ts.0 }, ts.1)

abbrev pub pair_at : Reader (ℕ × ℕ)
pair_at ds = do
  topic ← first (below_in 65536) ds
  n ← first whole_in topic.1
  Some ((topic.0, n.0), n.1)

-- a task and a number that is read so
abbrev pub place_at : (Data → Option ℕ) → Reader (TaskId × ℕ)
place_at f ds = do
  task ← first task_in ds
  n ← first f task.1
  Some ((task.0, n.0), n.1)

abbrev pub pair_in : Data → Option (ℕ × ℕ)
pair_in d = as_array d >>= only pair_at

abbrev pub place_in : (Data → Option ℕ) → Data → Option (TaskId × ℕ)
place_in f d = as_array d >>= only (place_at f)

-- ---- requests, each with the items after it
abbrev pub produce_at : Reader Request
produce_at ds = do
  part ← part_at ds
  rec ← first rec_in part.1
  Some (Produce part.0 rec.0, rec.1)

-- a request of a worker alone
abbrev pub of_worker_at : (ℕ → Request) → Reader Request
of_worker_at request ds = do
  w ← worker_at ds
  Some (request w.0, w.1)

abbrev pub add_at : Reader Request
add_at ds = do
  w ← worker_at ds
  e ← count_at w.1
  part ← part_at e.1
  Some (Add w.0 e.0 part.0, part.1)

-- a worker, an epoch, a number and a task
abbrev pub task_work_at : Reader (ℕ × ℕ × ℕ × TaskId)
task_work_at ds = do
  w ← worker_at ds
  e ← count_at w.1
  n ← count_at e.1
  t ← task_at n.1
  Some ((w.0, e.0, n.0, t.0), t.1)

abbrev pub append_at : Reader Request
append_at ds = do
  x ← task_work_at ds
  part ← part_at x.1
  recs ← first (list_in rec_in) part.1
  Some (Append x.0.0 x.0.1 x.0.2 x.0.3 part.0 recs.0, recs.1)

abbrev pub offsets_at : Reader Request
offsets_at ds = do
  x ← task_work_at ds
  offsets ← first (list_in pair_in) x.1
  order ← first (list_in pair_in) offsets.1
  late ← count_at order.1
  Some (SendOffsets x.0.0 x.0.1 x.0.2 x.0.3 offsets.0 order.0 late.0, late.1)

abbrev pub decide_at : Reader Request
decide_at ds = do
  w ← worker_at ds
  e ← count_at w.1
  commit ← truth_at e.1
  Some (Decide w.0 e.0 commit.0, commit.1)

abbrev pub hold_at : Reader Request
hold_at ds = do
  w ← worker_at ds
  held ← first (list_in (place_in whole_in)) w.1
  Some (Hold w.0 held.0, held.1)

abbrev pub probe_at : Reader Request
probe_at ds = do
  w ← worker_at ds
  g ← count_at w.1
  Some (Probe w.0 g.0, g.1)

abbrev pub assignment_at : Reader Assignment
assignment_at ds = do
  active ← first (list_in (place_in (below_in 256))) ds
  standby ← first (list_in (place_in (below_in 256))) active.1
  warmup ← first (list_in (place_in (below_in 256))) standby.1
  Some (record { active = active.0; standby = standby.0; warmup = warmup.0 }, warmup.1)

abbrev pub assign_at : Reader Request
assign_at ds = do
  w ← worker_at ds
  g ← count_at w.1
  a ← assignment_at g.1
  Some (Assign w.0 g.0 a.0, a.1)

-- a request of an instance and a task
abbrev pub of_instance_at : (ℕ → TaskId → Request) → Reader Request
of_instance_at request ds = do
  instance ← worker_at ds
  t ← task_at instance.1
  Some (request instance.0 t.0, t.1)

abbrev pub same_text : List ℕ → List ℕ → Bool
same_text a b = pointwise ◌==◌ a b

abbrev pub request_at : List ℕ → Reader Request
request_at name ds =
    if same_text name (codes "produce") then produce_at ds
    else if same_text name (codes "init") then of_worker_at Init ds
    else if same_text name (codes "add") then add_at ds
    else if same_text name (codes "append") then append_at ds
    else if same_text name (codes "offsets") then offsets_at ds
    else if same_text name (codes "decide") then decide_at ds
    else if same_text name (codes "mark") then of_worker_at MarkNext ds
    else if same_text name (codes "join") then of_worker_at Join ds
    else if same_text name (codes "expire") then of_worker_at Expire ds
    else if same_text name (codes "hold") then hold_at ds
    else if same_text name (codes "probe") then probe_at ds
    else if same_text name (codes "assign") then assign_at ds
    else if same_text name (codes "park") then of_instance_at Park ds
    else if same_text name (codes "unpark") then of_instance_at Unpark ds
    else None

-- ---- replies
-- the refusal of this number
abbrev pub refusal_at : ℕ → Reader Refusal
refusal_at n ds =
    if n == 1 then (count_at ds >>= λ x. Some (OutOfSequence x.0, x.1))
    else if n == 2 then (count_at ds >>= λ x. Some (Fenced x.0, x.1))
    else if n == 3 then (truth_at ds >>= λ b. Some (AlreadyDecided b.0, b.1))
    else if n == 4 then Some (NoTransaction, ds)
    else if n == 5 then (count_at ds >>= λ x. Some (OldGeneration x.0, x.1))
    else if n == 6 then (first owner_in ds >>= λ w. Some (NotAssigned w.0, w.1))
    else if n == 7 then (worker_at ds >>= λ w. Some (Unstable w.0, w.1))
    else if n == 8 then (first (below_in (2 ^ 32)) ds >>= λ x. Some (MarkersWaiting x.0, x.1))
    else if n == 9 then (task_at ds >>= λ t. Some (BadAssignment t.0, t.1))
    else None

abbrev pub refusal_in : Items → Option Refusal
refusal_in ds = do
  n ← worker_at ds
  r ← refusal_at n.0 n.1
  at_end r

abbrev pub mark_in : Data → Option (Option (PartId × Bool))
mark_in null = Some None
mark_in (array ds) = part_at ds >>= λ p. truth_at p.1 >>= λ b. at_end (Some (p.0, b.0), b.1)
mark_in d = None

abbrev pub done_in : Data → Option Reply
done_in d = as_bool d >>= λ b. if b then Some Done else None

-- a refusal of one of these numbers
abbrev pub if_among : List ℕ → Refusal → Option Reply
if_among numbers r = if is_among (refusal_number r) numbers then Some (Refused r) else None

abbrev pub refused_in : List ℕ → Items → Option Reply
refused_in numbers ds = refusal_in ds >>= if_among numbers

-- a list is a refusal
abbrev pub refused_or : List ℕ → Option Items → Option Reply → Option Reply
refused_or numbers None o = o
refused_or numbers (Some ds) o = refused_in numbers ds

abbrev pub reply_in : ReplyKind → List ℕ → Data → Option Reply
reply_in number_reply numbers d = refused_or numbers (as_array d) (option_map Number (whole_in d))
reply_in done_reply numbers d = refused_or numbers (as_array d) (done_in d)
reply_in truth_reply numbers d = refused_or numbers (as_array d) (option_map Truth (as_bool d))
reply_in mark_reply numbers d = option_map Mark (mark_in d)

-- a reply that the request can have
abbrev pub reply_to_in : Request → Data → Option Reply
reply_to_in r d = reply_in (kind_of r) (refusals_of r) d

-- ---- entries
-- the reply, and nothing after it
abbrev pub entry_after : Request → Items → Option Entry
entry_after r ds = do
  reply ← first (reply_to_in r) ds
  at_end (record { request = r; reply = reply.0 }, reply.1)

abbrev pub entry_at : Items → Option Entry
entry_at ds = do
  name ← first as_str ds
  r ← request_at name.0 name.1
  entry_after r.0 r.1

abbrev pub entry_in : Data → Option Entry
entry_in d = as_array d >>= entry_at

-- the entry that a line tells, without its LF
abbrev pub entry_from : List ℕ → Option Entry
entry_from line = option_and_then entry_in (read line)
