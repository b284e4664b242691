-- Laws over every run of the machine of every plan.
use Rattle.std.specs.Prelude.{◌≡◌, ℕ, ◌≤◌, length, List, [], Option, Some, None, true, false, nat_eq, slice_get, ◌∷◌, ◌<◌, ◌^◌, IfSome, Bool}
use Rattle.std.specs.List.{filter}
use Rattle.ks_record.specs.Bytes.{IsBytes}
use Rattle.ks_wire.specs.Spelling.{FitsKeys}
use Rattle.ks_wire.specs.Values.{IsPart}
use Rattle.ks_def_tasks.specs.Messages.Message.{Asked}
use Rattle.ks_record.specs.Records.{Record as Rec}
use Rattle.ks_record.specs.declared.record.PartId.{PartId}
use Rattle.ks_record.specs.Parts.{same_task}
use Rattle.ks_plan.specs.Infos.{input_numbers}
use Rattle.ks_def_tasks.specs.Bytes.{ByteStores, byte_step, is_own_number, has_number, reader_number, keep_all, records_at, message_in, stored_from, stored_bytes, store_from, table_from, hashes_from, counts_from, time_of, spelled, is_sent}
use Rattle.ks_record.specs.declared.record.TaskId.{TaskId}
use Rattle.ks_plan.specs.Plan.{Plan, Kind, Window, is_windowed}
use Rattle.ks_plan.specs.declared.node.Topic.{Topic}
use Rattle.ks_plan.specs.declared.node.Topic.TheVariants.{Changelog, HashChangelog}
use Rattle.ks_plan.specs.Layout.{sub_of, topic_at, reads, number_of}
use Rattle.ks_def_runs.specs.FinMap as fin
use Rattle.ks_query.specs.Streams.{Key, StreamItem}
use Rattle.ks_query.specs.Windows.{windows}
use Rattle.ks_record.specs.Texts.{IsKey}
use Rattle.ks_plan.specs.Drafts.{Name}
use Rattle.ks_plan.specs.Plan.Kind.{Windowed}
use Rattle.ks_def_tasks.specs.Windowed.{greater}
use Rattle.ks_def_tasks.specs.Step.{Arrival, step_key, item_into, items_from}
use Rattle.ks_def_runs.specs.Run.{Outcome, HasNames, Follows, run, local, sent_to}
use Rattle.ks_def_tasks.specs.Messages.{Place, Stored, Message, Item, Store, Rules}
use Rattle.ks_def_tasks.specs.Tasks.{arrival, machine, empty_store, step}
use Rattle.ks_def_tasks.specs.Collision.{past}

abbrev pub NamesAreDecided : Type 0
NamesAreDecided = (rules : Rules) (p : Plan) → HasNames (machine rules p)

-- each task's stores are what its own steps made of what it took; for each sender and place all that was sent is what was received,
-- then what waits; the late total is that of the steps
abbrev pub FollowsTaken : Type 0
FollowsTaken = (rules : Rules) (p : Plan) (inputs : Place → List Item) (schedule : List (Option TaskId × Place)) →
    Follows (machine rules p) inputs (run (machine rules p) inputs schedule)

-- a past is what its owner's own steps wrote
abbrev pub PastsAreWritten : Type 0
PastsAreWritten = (rules : Rules) (p : Plan) (inputs : Place → List Item) (schedule : List (Option TaskId × Place)) (n part : ℕ) →
    let m = machine rules p in
    let st = run m inputs schedule in
    past p st n part ≡ sent_to m (record { topic = Changelog n; part = part }) (local m (record { sub = sub_of p n; part = part }) empty_store st.taken).made

-- over bytes: each own changelog tells each change of its store, and no other store changes
pub record Tells (rules : Rules) (p : Plan) (t : TaskId) (stores : ByteStores) (q : PartId) (r : Rec) (n : ℕ) : Type 0 where
  pub own : is_own_number p t.sub n ≡ true →
      (byte_step rules p t stores q r).store n ≡ keep_all (stores n) (records_at (record { topic = n; part = t.part }) (byte_step rules p t stores q r).made)
  pub other : is_own_number p t.sub n ≡ false → (byte_step rules p t stores q r).store n ≡ stores n

abbrev pub ChangelogsTell : Type 0
ChangelogsTell = (rules : Rules) (p : Plan) (t : TaskId) (stores : ByteStores) (q : PartId) (r : Rec) (n : ℕ) → Tells rules p t stores q r n

-- the topics of a plan, by number: each is taken by one subtopology; a changelog is no topic of the job, is kept by one subtopology,
-- and is taken by none
pub record IsApart (p : Plan) : Type 0 where
  pub one_reader : (sub n : ℕ) → has_number n (input_numbers p sub) ≡ true → reader_number p n ≡ sub
  pub no_source : (sub n : ℕ) → is_own_number p sub n ≡ true → length p.counts ≤ n
  pub one_keeper : (sub other n : ℕ) → is_own_number p sub n ≡ true → is_own_number p other n ≡ true → sub ≡ other
  pub no_reader : (sub other n : ℕ) → is_own_number p sub n ≡ true → has_number n (input_numbers p other) ≡ false

abbrev pub TopicsAreApart : Type 0
TopicsAreApart = (p : Plan) → IsApart p

-- no task makes a record for another's changelog
abbrev pub NoneForOthers : Type 0
NoneForOthers = (rules : Rules) (p : Plan) (t u : TaskId) (stores : ByteStores) (q : PartId) (r : Rec) (n : ℕ) → same_task u t ≡ false →
    is_own_number p u.sub n ≡ true → records_at (record { topic = n; part = u.part }) (byte_step rules p t stores q r).made ≡ []

-- ---- over bytes and decoded, one step
-- the task reads the topic, and the record spells the message
pub record IsTakenBy (p : Plan) (t : TaskId) (q : PartId) (r : Rec) (topic : Topic) (message : Message) : Type 0 where
  pub topic_there : topic_at p q.topic ≡ Some topic
  pub reader : nat_eq (reads p topic) t.sub ≡ true
  pub spelled : message_in p topic r ≡ Some message

-- the decoded step for such a record: on the stores as they are read from their bytes, in the place and at the time of the record
abbrev pub decoded_step : Rules → Plan → TaskId → ByteStores → PartId → Rec → Topic → Message → Outcome Place Store Item
decoded_step rules p t stores q r topic message =
    step rules p t (store_from p t.sub stores) (record { topic = topic; part = q.part }) (record { message = message; time = r.ts })

-- a stored value is read again from its bytes
abbrev pub IsReadAgain : Kind → Option Stored → Type 0
IsReadAgain kind None = Unit {0}
IsReadAgain kind (Some x) = stored_from kind (stored_bytes x) ≡ Some x

-- a table that is read from the bytes after the step is the table after the decoded step; and the records are the decoded ones, spelled
abbrev pub TablesAgree : Type 0
TablesAgree = (rules : Rules) (p : Plan) (t : TaskId) (stores : ByteStores) (q : PartId) (r : Rec) (topic : Topic) (message : Message) → IsTakenBy p t q r topic message →
    (n : ℕ) (kind : Kind) → slice_get p.kinds n ≡ Some kind → is_windowed kind ≡ false → is_own_number p t.sub (number_of p (Changelog n)) ≡ true →
    let decoded = decoded_step rules p t stores q r topic message in
    ((k : Key) → step_key message ≡ Some k → IsReadAgain kind (fin.get (decoded.store.tables n) k)) →
    table_from p t.sub (byte_step rules p t stores q r).store n ≡ decoded.store.tables n

-- the keys of a store are bytes
abbrev pub AreBytes : List (List ℕ × List ℕ) → Type 0
AreBytes [] = Unit {0}
AreBytes (e ∷ es) = IsBytes e.0 × AreBytes es

-- keys, hash and partition of a subscription are within their bounds
abbrev pub FitsAsked : Message → Type 0
FitsAsked (Asked b p s) = FitsKeys (b, p) × IfSome s.hash (λ h. h < 2 ^ 128) × IsPart s.part
FitsAsked _ = Unit {0}

-- and so with subscription stores
abbrev pub HashesAgree : Type 0
HashesAgree = (rules : Rules) (p : Plan) (t : TaskId) (stores : ByteStores) (q : PartId) (r : Rec) (topic : Topic) (message : Message) → IsTakenBy p t q r topic message →
    (n : ℕ) (kind : Kind) → slice_get p.kinds n ≡ Some kind → is_own_number p t.sub (number_of p (HashChangelog n)) ≡ true →
    AreBytes (fin.entries (stores (number_of p (HashChangelog n)))) → FitsAsked message → (b : Key) →
    hashes_from p t.sub (byte_step rules p t stores q r).store n b
    ≡ (decoded_step rules p t stores q r topic message).store.hashes n b

-- each of these is a number of 64 bits
abbrev pub AllBelow : List ℕ → Type 0
AllBelow [] = Unit {0}
AllBelow (s ∷ ss) = (s < 2 ^ 64) × AllBelow ss

-- an item's key, its windows and the greatest time are within their bounds
pub record FitsCount (w : Window) (old : Option ℕ) (x : StreamItem) : Type 0 where
  pub key : (g : Key) → x.key ≡ Some g → IsKey g
  pub time : greater old x.time < 2 ^ 64
  pub starts : AllBelow (windows w x.time)

-- and so with windowed counts and their greatest times
pub record WindowsAgreeAt (rules : Rules) (p : Plan) (t : TaskId) (stores : ByteStores) (q : PartId) (r : Rec) (topic : Topic) (message : Message) (n : ℕ) : Type 0 where
  pub counts : counts_from p t.sub (byte_step rules p t stores q r).store n
      ≡ (decoded_step rules p t stores q r topic message).store.counts n
  pub times : time_of p t.sub (byte_step rules p t stores q r).store n
      ≡ (decoded_step rules p t stores q r topic message).store.times n

abbrev pub WindowsAgree : Type 0
WindowsAgree = (rules : Rules) (p : Plan) (t : TaskId) (stores : ByteStores) (q : PartId) (r : Rec) (topic : Topic) (message : Message) → IsTakenBy p t q r topic message →
    (n f : ℕ) (by : Option Name) (w : Window) (through : Bool) → slice_get p.kinds n ≡ Some (Windowed f by w through) → is_own_number p t.sub (number_of p (Changelog n)) ≡ true →
    AreBytes (fin.entries (stores (number_of p (Changelog n)))) →
    let a : Arrival = arrival p (record { topic = topic; part = q.part }) (record { message = message; time = r.ts }) in
    ((x : StreamItem) → item_into a (items_from a (λ m. None) 0 p.kinds) n f through ≡ Some x → FitsCount w (time_of p t.sub stores n) x) →
    WindowsAgreeAt rules p t stores q r topic message n

-- the records are the decoded ones, spelled, and as many pairs are late
pub record SameRecords (rules : Rules) (p : Plan) (t : TaskId) (stores : ByteStores) (q : PartId) (r : Rec) (topic : Topic) (message : Message) : Type 0 where
  pub made : (byte_step rules p t stores q r).made
      ≡ spelled p (filter (is_sent p t) (decoded_step rules p t stores q r topic message).made)
  pub late : (byte_step rules p t stores q r).late ≡ (decoded_step rules p t stores q r topic message).late

abbrev pub RecordsAgree : Type 0
RecordsAgree = (rules : Rules) (p : Plan) (t : TaskId) (stores : ByteStores) (q : PartId) (r : Rec) (topic : Topic) (message : Message) → IsTakenBy p t q r topic message →
    SameRecords rules p t stores q r topic message
