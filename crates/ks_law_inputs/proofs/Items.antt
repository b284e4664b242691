-- The items of a job: a topology whose topics have partitions, and records with keys and rows.
use Rattle.std.proofs.Common.{◌≡◌, ℕ, zero, suc, ◌+◌, ◌<◌, ◌≤◌, ◌^◌, Bool, true, false, cond, ◌==◌, nat_lt, nat_le, List, [], ◌∷◌, ◌++◌, length, take, Option, Some, None, option_map, option_and_then, Ordering, Less, Equal, Greater, refl, ap, ◌∙◌, subst, arith, negsuc}
use Rattle.std.specs.Prelude.{ℤ, pos, Result, Ok, Err, IfSome, codes, int_lt}
use Rattle.std.specs.Int.{w64}
use Rattle.std.specs.Int.RustNames.{FitsSigned}
use Rattle.std.specs.List.{AllByRecursion}
use Rattle.std.specs.Str.{IsUtf8, is_utf8}
use Rattle.std.specs.Str.Lossy.{utf8_valid_len, valid_len_up_to}
use Rattle.std.specs.Ordering.{nat_cmp, match_ordering}
use Rattle.std.specs.Cmp.Lexicographic.{slice_cmp}
use Rattle.std.proofs.Math.Seq.{take-length}
use Rattle.std.proofs.lemmas.Bool.{ltb-true, leb-true}
use Rattle.std.proofs.lemmas.Bool.Decides.{Decides-eqb}
use Rattle.std.proofs.lemmas.Str.{IsUtf8-nil, IsUtf8-from_is_utf8}
use Rattle.serde_json.specs.Data.{Num, unsigned, negative, float, Data, null, boolean, number, string, array, object, Members, no_members, member}
use Rattle.serde_json.specs.Find.{get, get_member, as_i64, as_object}
use Rattle.serde_json.specs.Read.{read}
use Rattle.ks_record.specs.Texts.{IsKey, IsName, IsText, key_of, name_of, text_of as text_within}
use Rattle.ks_row.specs.Rows.{Member, is_row, row_of}
use Rattle.ks_row.specs.Spelling.{spelling, FitsField, FitsMember, FitsRow}
use Rattle.ks_row.specs.declared.row.Field.{Field}
use Rattle.ks_row.specs.declared.row.Field.TheVariants.{Int, Text}
use Rattle.ks_record.specs.Records.{Record as Rec}
use Rattle.ks_plan.specs.declared.draft.TopicDraft.{TopicDraft}
use Rattle.ks_plan.specs.Drafts.{Topics, DraftView}
use Rattle.ks_plan.specs.Plan.{natural}
use Rattle.ks_job_record.specs.declared.fault.JobKind.{JobKind}
use Rattle.ks_job_record.specs.declared.fault.JobKind.TheVariants.{TooMany, BadShape, BadNumber, UnknownTopic, NotJson, LineTooLong}
use Rattle.ks_job_record.specs.declared.record.Input.{Input}
use Rattle.ks_job_record.specs.declared.members.Form.TheVariants as form
use Rattle.ks_job_record.specs.Gives.{◌>>=◌, some_or}
use Rattle.ks_job_record.specs.Members.{same, object_of, member_of, text_of, integer_from}
use Rattle.ks_job_record.specs.Record.{place_of, number_of, topic_from, key_from, field_from, member_from, with_member, and_member, fields_from, row_from, value_from, time_within, time_from, input_from}
use Rattle.ks_job_topology.specs.Stated.{parts_from, only_two_of, stated_in, stated_from, plain_from, by_form, spread_from}
use Rattle.ks_job_topology.specs.Topology.{label_from, app_from, topic_from as topic_spread_from, topics_from, topics_of, print_of, topology_from, names_of}
use Rattle.ks_job_topology.specs.Nodes.{nodes_of}
use Rattle.ks_job.specs.Items.{ItemView, TopologyAt, RecordTo}
use Rattle.ks_job.specs.Lines.{Spot, is_blank, parsed, passes, is_too_long, too_long, next_line, topology_line, record_line, value_line, data_line, judged}
use Rattle.ks_job.specs.Reader.{Reader, Reading, Faulty, Machine, start, with_item, after_line, is_line_end, longer, after_byte, after, closed_by, closed, at_end, end_of, so_far, whole}
use Rattle.ks_law_inputs.specs.Values.{FitsNum, FitsData, FitsMembers}
use Rattle.ks_law_inputs.specs.Records.{IsRowBytes, IsRecord, AreRecords, HavePartitions, IsJob, Told, IsWhole}
use Rattle.ks_law_inputs.proofs.Readings.{Holds, read_fits}

-- ---- UTF-8
valid_at : (b : Bool) (bs : List ℕ) (n : ℕ) → is_utf8 (take (suc n) bs) ≡ b → IsUtf8 (take (valid_len_up_to bs n) bs) → IsUtf8 (take (cond b (suc n) (valid_len_up_to bs n)) bs)
valid_at true bs n e u = IsUtf8-from_is_utf8 (take (suc n) bs) e
valid_at false bs n e u = u

valid_front : (bs : List ℕ) (n : ℕ) → IsUtf8 (take (valid_len_up_to bs n) bs)
valid_front bs zero = IsUtf8-nil
valid_front bs (suc n) = valid_at _ bs n refl (valid_front bs n)

valid_is : (bs : List ℕ) → utf8_valid_len bs ≡ length bs → IsUtf8 bs
unfolding utf8_valid_len
valid_is bs e = subst IsUtf8 (ap (λ n. take n bs) e ∙ take-length bs) (valid_front bs (length bs))

-- ---- steps of reading
bound : {A B : Type 0} (r : Result A JobKind) (f : A → Result B JobKind) (y : B) → (r >>= f) ≡ Ok y → (x : A) × (r ≡ Ok x) × (f x ≡ Ok y)
bound (Ok x) f y e = (x, refl, e)
bound (Err k) f y e = absurd (cc)

there : {A : Type 0} (k : JobKind) (o : Option A) (x : A) → some_or k o ≡ Ok x → o ≡ Some x
there k None x e = absurd (cc)
there k (Some y) x e = cc

tested : {A : Type 0} (b : Bool) (x : A) (k : JobKind) (y : A) → cond b (Ok x) (Err k) ≡ Ok y → (b ≡ true) × (x ≡ y)
tested true x k y e = (refl, cc)
tested false x k y e = absurd (cc)

of_some : {A : Type 0} (P : A → Type 0) (o : Option A) (x : A) → Holds P o → o ≡ Some x → P x
of_some P o x h e = subst (Holds P) e h

-- ---- members
found_at : (o : Ordering) (e : Data) (r : Option Data) → FitsData e → Holds FitsData r → Holds FitsData (match_ordering o r (Some e) r)
found_at Less e r f h = h
found_at Equal e r f h = f
found_at Greater e r f h = h

member_fits : (k : List ℕ) (ms : Members) → FitsMembers ms → Holds FitsData (get_member k ms)
member_fits k no_members h = tt
member_fits k (member l e ms) h = found_at (slice_cmp nat_cmp k l) e (get_member k ms) h.1 (member_fits k ms h.2)

get_fits : (k : List ℕ) (d : Data) → FitsData d → Holds FitsData (get k d)
get_fits k null h = tt
get_fits k (boolean b) h = tt
get_fits k (number n) h = tt
get_fits k (string s) h = tt
get_fits k (array ds) h = tt
get_fits k (object ms) h = member_fits k ms h

inner_fits : (k : List ℕ) (d e : Data) → FitsData d → member_of k d ≡ Ok e → FitsData e
unfolding member_of
inner_fits k d e h r = of_some FitsData (get k d) e (get_fits k d h) (there (BadShape k) (get k d) e r)

object_fits : (d : Data) (ms : Members) → FitsData d → as_object d ≡ Some ms → FitsMembers ms
object_fits null ms h e = absurd (cc)
object_fits (boolean b) ms h e = absurd (cc)
object_fits (number n) ms h e = absurd (cc)
object_fits (string s) ms h e = absurd (cc)
object_fits (array ds) ms h e = absurd (cc)
object_fits (object ns) ms h e = let k : ns ≡ ms = cc in subst FitsMembers k h

-- ---- topics
placed_at : (b : Bool) (i : ℕ) (o : Option ℕ) (n m : ℕ) → i < m → (o ≡ Some n → n < m) → cond b (Some i) o ≡ Some n → n < m
placed_at true i o n m l h e = let k : i ≡ n = cc in omega arith
placed_at false i o n m l h e = h e

place_below : (i : ℕ) (topic : List ℕ) (ts : List (List ℕ)) (n : ℕ) → place_of i topic ts ≡ Some n → n < i + length ts
place_below i topic [] n e = absurd (cc)
place_below i topic (t ∷ ts) n e =
    placed_at (same t topic) i (place_of (i + 1) topic ts) n (i + length (t ∷ ts)) (omega arith) (λ h. let k = place_below (i + 1) topic ts n h in omega arith) e

some_bound : {A B : Type 0} (o : Option A) (f : A → Option B) (y : B) → option_and_then f o ≡ Some y → (x : A) × (o ≡ Some x) × (f x ≡ Some y)
some_bound None f y e = absurd (cc)
some_bound (Some x) f y e = (x, refl, e)

kept_if : {A : Type 0} (b : Bool) (x y : A) → cond b (Some x) None ≡ Some y → (b ≡ true) × (x ≡ y)
kept_if true x y e = (refl, cc)
kept_if false x y e = absurd (cc)

kept_unless : {A : Type 0} (b : Bool) (o : Option A) (y : A) → cond b None o ≡ Some y → (b ≡ false) × (o ≡ Some y)
kept_unless true o y e = absurd (cc)
kept_unless false o y e = (refl, e)

number_below : (topic : List ℕ) (ts : List (List ℕ)) (n : ℕ) → number_of topic ts ≡ Some n → n < length ts
number_below topic ts n e =
    let p = some_bound (place_of 0 topic ts) (λ m. cond (nat_lt m 65536) (Some m) None) n e in
    let k = kept_if (nat_lt p.0 65536) p.0 n p.2 in
    let l = place_below 0 topic ts p.0 p.1 in
    omega arith

topic_below : (ts : List (List ℕ)) (d : Data) (n : ℕ) → topic_from ts d ≡ Ok n → n < length ts
unfolding topic_from
topic_below ts d n e =
    let p = bound (text_of (codes "topic") d) (λ t. some_or (UnknownTopic t) (number_of t ts)) n e in
    number_below p.0 ts n (there (UnknownTopic p.0) (number_of p.0 ts) n p.2)

-- ---- keys, names, texts
not_zero : (n : ℕ) → (n == 0) ≡ false → 0 < n
not_zero zero e = absurd (cc ((Decides-eqb 0 0).1 refl))
not_zero (suc n) e = omega arith

key_is : (s k : List ℕ) → IsUtf8 s → key_of s ≡ Some k → IsKey k
key_is s k u e =
    let a = kept_unless (length s == 0) (cond (nat_le (length s) 1024) (Some s) None) k e in
    let b = kept_if (nat_le (length s) 1024) s k a.1 in
    subst IsKey b.1 (record { some = not_zero (length s) a.0; most = leb-true (length s) 1024 b.0; utf8 = u })

name_is : (s k : List ℕ) → IsUtf8 s → name_of s ≡ Some k → IsName k
name_is s k u e =
    let a = kept_unless (length s == 0) (cond (nat_le (length s) 64) (Some s) None) k e in
    let b = kept_if (nat_le (length s) 64) s k a.1 in
    subst IsName b.1 (record { some = not_zero (length s) a.0; most = leb-true (length s) 64 b.0; utf8 = u })

text_is : (s k : List ℕ) → IsUtf8 s → text_within s ≡ Some k → IsText k
text_is s k u e =
    let b = kept_if (nat_le (length s) 65536) s k e in
    subst IsText b.1 (record { most = leb-true (length s) 65536 b.0; utf8 = u })

mapped : {A B : Type 0} (f : A → B) (o : Option A) (y : B) → option_map f o ≡ Some y → (x : A) × (o ≡ Some x) × (f x ≡ y)
mapped f None y e = absurd (cc)
mapped f (Some x) y e = (x, refl, cc)

key_fits : (o : Option Data) (k : Option (List ℕ)) → Holds FitsData o → key_from o ≡ Ok k → IfSome k IsKey
key_fits None k h e = let n : None ≡ k = cc in subst (λ x. IfSome x IsKey) n tt
key_fits (Some null) k h e = let n : None ≡ k = cc in subst (λ x. IfSome x IsKey) n tt
key_fits (Some (boolean b)) k h e = absurd (cc)
key_fits (Some (number n)) k h e = absurd (cc)
key_fits (Some (string s)) k h e =
    let m = mapped Some (key_of s) k (there (BadShape (codes "key")) (option_map Some (key_of s)) k e) in
    subst (λ x. IfSome x IsKey) m.2 (key_is s m.0 h m.1)
key_fits (Some (array ds)) k h e = absurd (cc)
key_fits (Some (object ms)) k h e = absurd (cc)

-- ---- rows
integer_is : (n : Num) (z : ℤ) → FitsNum n → as_i64 n ≡ Some z → FitsSigned w64 z
integer_is (unsigned n) z h e =
    let k = kept_if (nat_lt n (2 ^ 63)) (pos n) z e in
    let l = ltb-true n (2 ^ 63) k.0 in
    subst (FitsSigned w64) k.1 (omega arith)
integer_is (negative y) z h e = let k : y ≡ z = cc in subst (FitsSigned w64) k h
integer_is (float x) z h e = absurd (cc)

number_is : (name : List ℕ) (n : Num) (z : ℤ) → FitsNum n → integer_from name (number n) ≡ Ok z → FitsSigned w64 z
unfolding integer_from
number_is name n z h e = integer_is n z h (there (BadNumber name) (as_i64 n) z e)

field_fits : (name : List ℕ) (d : Data) (f : Field) → FitsData d → field_from name d ≡ Ok f → FitsField f
field_fits name null f h e = absurd (cc)
field_fits name (boolean b) f h e = absurd (cc)
field_fits name (number n) f h e =
    let p = bound (integer_from name (number n)) (λ z. Ok (Int z)) f e in
    let k : Int p.0 ≡ f = cc (p.2) in
    subst FitsField k (number_is name n p.0 h p.1)
field_fits name (string s) f h e =
    let m = mapped Text (text_within s) f (there (BadShape name) (option_map Text (text_within s)) f e) in
    subst FitsField m.2 (text_is s m.0 h m.1)
field_fits name (array ds) f h e = absurd (cc)
field_fits name (object ms) f h e = absurd (cc)

one_member_fits : (name : List ℕ) (d : Data) (m : Member) → IsUtf8 name → FitsData d → member_from name d ≡ Ok m → FitsMember m
unfolding member_from
one_member_fits name d m u h e =
    let p = bound (some_or (BadShape name) (name_of name)) (λ known. field_from name d >>= λ field. Ok (known, field)) m e in
    let q = bound (field_from name d) (λ field. Ok (p.0, field)) m p.2 in
    let k : (p.0, q.0) ≡ m = cc (q.2) in
    subst FitsMember k (record { name = name_is name p.0 u (there (BadShape name) (name_of name) p.0 p.1); field = field_fits name d q.0 h q.1 })

all_push : (ms : List Member) (m : Member) → AllByRecursion FitsMember ms → FitsMember m → AllByRecursion FitsMember (ms ++ m ∷ [])
all_push [] m h f = (f, tt)
all_push (n ∷ ms) m h f = (h.0, all_push ms m h.1 f)

with_fits_at : (b : Bool) (found more : List Member) (r : Result Member JobKind) (k : JobKind) → AllByRecursion FitsMember found → ((m : Member) → r ≡ Ok m → FitsMember m) →
    cond b (r >>= λ m. Ok (found ++ m ∷ [])) (Err k) ≡ Ok more → AllByRecursion FitsMember more
with_fits_at true found more r k h f e =
    let p = bound r (λ m. Ok (found ++ m ∷ [])) more e in
    let s : found ++ p.0 ∷ [] ≡ more = cc (p.2) in
    subst (AllByRecursion FitsMember) s (all_push found p.0 h (f p.0 p.1))
with_fits_at false found more r k h f e = absurd (cc)

with_fits : (found more : List Member) (name : List ℕ) (d : Data) → AllByRecursion FitsMember found → IsUtf8 name → FitsData d → with_member found name d ≡ Ok more → AllByRecursion FitsMember more
unfolding with_member
with_fits found more name d h u f e =
    with_fits_at (nat_lt (length found) 64) found more (member_from name d) (TooMany (codes "fields") 64) h (λ m r. one_member_fits name d m u f r) e

and_fits : (found more : List Member) (name : List ℕ) (d : Data) → AllByRecursion FitsMember found → IsUtf8 name → FitsData d → and_member found name d ≡ Ok more → AllByRecursion FitsMember more
and_fits found more name null h u f e = let s : found ≡ more = cc in subst (AllByRecursion FitsMember) s h
and_fits found more name (boolean b) h u f e = with_fits found more name (boolean b) h u f e
and_fits found more name (number n) h u f e = with_fits found more name (number n) h u f e
and_fits found more name (string s) h u f e = with_fits found more name (string s) h u f e
and_fits found more name (array ds) h u f e = with_fits found more name (array ds) h u f e
and_fits found more name (object ms) h u f e = with_fits found more name (object ms) h u f e

fields_fit : (found all : List Member) (ms : Members) → AllByRecursion FitsMember found → FitsMembers ms → fields_from found ms ≡ Ok all → AllByRecursion FitsMember all
fields_fit found all no_members h f e = let s : found ≡ all = cc in subst (AllByRecursion FitsMember) s h
fields_fit found all (member k d ms) h f e =
    let p = bound (and_member found k d) (λ more. fields_from more ms) all e in
    fields_fit p.0 all ms (and_fits found p.0 k d h f.0 f.1 p.1) f.2 p.2

row_fits : (ms : Members) (row : List Member) → FitsMembers ms → row_from ms ≡ Ok row → FitsRow row
unfolding row_from
row_fits ms row h e =
    let p = bound (fields_from [] ms) (λ found. some_or (BadShape (codes "value")) (row_of found)) row e in
    let k = kept_if (is_row p.0) p.0 row (there (BadShape (codes "value")) (row_of p.0) row p.2) in
    subst FitsRow k.1 (record { row = k.0; members = fields_fit [] p.0 ms tt h p.1 })

value_fits : (d : Data) (v : Option (List ℕ)) → FitsData d → value_from d ≡ Ok v → IfSome v IsRowBytes
value_fits null v h e = let n : None ≡ v = cc in subst (λ x. IfSome x IsRowBytes) n tt
value_fits (boolean b) v h e = absurd (cc)
value_fits (number n) v h e = absurd (cc)
value_fits (string s) v h e = absurd (cc)
value_fits (array ds) v h e = absurd (cc)
value_fits (object ms) v h e =
    let p = bound (row_from ms) (λ row. Ok (Some (spelling row))) v e in
    let k : Some (spelling p.0) ≡ v = cc (p.2) in
    subst (λ x. IfSome x IsRowBytes) k (p.0, row_fits ms p.0 h p.1, refl)

-- ---- times
time_is : (z : ℤ) (t : ℕ) → time_within z ≡ Ok t → t ≤ 2 ^ 53
time_is (pos n) t e =
    let k = tested (nat_le n 9007199254740992) n (BadNumber (codes "ts")) t e in
    let l = leb-true n 9007199254740992 k.0 in
    omega arith
time_is (negsuc n) t e = absurd (cc)

time_fits : (o : Option Data) (t : ℕ) → time_from o ≡ Ok t → t ≤ 2 ^ 53
time_fits None t e = let k : 0 ≡ t = cc in omega arith
time_fits (Some d) t e = let p = bound (integer_from (codes "ts") d) time_within t e in time_is p.0 t p.2

-- ---- a record's line
abbrev with_time : ℕ → Option (List ℕ) → Data → Option (List ℕ) → Result Input JobKind
with_time topic key d value = time_from (get (codes "ts") d) >>= λ ts. Ok record { topic = topic; rec = record { key = key; value = value; ts = ts } }

abbrev with_value : ℕ → Option (List ℕ) → Data → Data → Result Input JobKind
with_value topic key d inner = value_from inner >>= with_time topic key d

abbrev with_key : ℕ → Data → Option (List ℕ) → Result Input JobKind
with_key topic d key = member_of (codes "value") d >>= with_value topic key d

abbrev with_topic : Data → ℕ → Result Input JobKind
with_topic d topic = key_from (get (codes "key") d) >>= with_key topic d

input_fits : (ts : List (List ℕ)) (d : Data) (i : Input) → FitsData d → input_from ts d ≡ Ok i → IsRecord (length ts) i.topic i.rec
unfolding input_from
input_fits ts d i h e =
    let a = bound (object_of (codes "line") form.Record d) (λ known. topic_from ts d >>= with_topic d) i e in
    let b = bound (topic_from ts d) (with_topic d) i a.2 in
    let c = bound (key_from (get (codes "key") d)) (with_key b.0 d) i b.2 in
    let v = bound (member_of (codes "value") d) (with_value b.0 c.0 d) i c.2 in
    let w = bound (value_from v.0) (with_time b.0 c.0 d) i v.2 in
    let t = bound (time_from (get (codes "ts") d)) (λ ts. Ok record { topic = b.0; rec = record { key = c.0; value = w.0; ts = ts } }) i w.2 in
    let k : record { topic = b.0; rec = record { key = c.0; value = w.0; ts = t.0 } } ≡ i = cc (t.2) in
    subst (λ x. IsRecord (length ts) x.topic x.rec) k (record {
      topic = topic_below ts d b.0 b.1;
      key = key_fits (get (codes "key") d) c.0 (get_fits (codes "key") d h) c.1;
      value = value_fits v.0 w.0 (inner_fits (codes "value") d v.0 h v.1) w.1;
      time = let f = time_fits (get (codes "ts") d) t.0 t.1 in omega arith;
      range = time_fits (get (codes "ts") d) t.0 t.1;
    })

-- ---- the topology's line
not_below_one : (z : ℤ) → int_lt z (pos 1) ≡ false → 1 ≤ natural z
not_below_one (pos zero) e = absurd (cc)
not_below_one (pos (suc n)) e = omega arith
not_below_one (negsuc n) e = absurd (cc)

refused : {A : Type 0} (b : Bool) (x : A) (k : JobKind) (y : A) → cond b (Err k) (Ok x) ≡ Ok y → (b ≡ false) × (x ≡ y)
refused true x k y e = absurd (cc)
refused false x k y e = (refl, cc)

parts_fit : (name : List ℕ) (d : Data) (z : ℤ) → parts_from name d ≡ Ok z → 1 ≤ natural z
unfolding parts_from
parts_fit name d z e =
    let p = bound (integer_from name d) (λ n. cond (int_lt n (pos 1)) (Err (BadShape name)) (Ok n)) z e in
    let k = refused (int_lt p.0 (pos 1)) p.0 (BadShape name) z p.2 in
    subst (λ y. 1 ≤ natural y) k.1 (not_below_one p.0 k.0)

-- ---- how a topic's keys are spread: both forms have a number of partitions
plain_fits : (name : List ℕ) (d : Data) (t : TopicDraft) → plain_from name d ≡ Ok t → 1 ≤ natural t.parts
unfolding plain_from
plain_fits name d t e =
    let q = bound (parts_from name d) (λ parts. Ok (record { parts = parts; before = None })) t e in
    let k : record { parts = q.0; before = None } ≡ t = cc (q.2) in
    subst (λ (x : TopicDraft). 1 ≤ natural x.parts) k (parts_fit name d q.0 q.1)

stated_fits : (name : List ℕ) (d : Data) (t : TopicDraft) → stated_from name d ≡ Ok t → 1 ≤ natural t.parts
unfolding stated_from
stated_fits name d t e =
    let p = bound (some_or (BadShape name) (stated_in (only_two_of d))) (λ stated. parts_from name stated.1 >>= λ parts. Ok (record { parts = parts; before = Some stated.0 })) t e in
    let q = bound (parts_from name p.0.1) (λ parts. Ok (record { parts = parts; before = Some p.0.0 })) t p.2 in
    let k : record { parts = q.0; before = Some p.0.0 } ≡ t = cc (q.2) in
    subst (λ (x : TopicDraft). 1 ≤ natural x.parts) k (parts_fit name p.0.1 q.0 q.1)

spread_fits : (name : List ℕ) (d : Data) (t : TopicDraft) → spread_from name d ≡ Ok t → 1 ≤ natural t.parts
unfolding spread_from
spread_fits name d t e = by (as_object d) e
  where
    by : (o : Option Members) → by_form o name d ≡ Ok t → 1 ≤ natural t.parts
    by None e = plain_fits name d t e
    by (Some ms) e = stated_fits name d t e

topic_fits : (name : List ℕ) (d : Data) (t : List ℕ × TopicDraft) → topic_spread_from name d ≡ Ok t → 1 ≤ natural t.1.parts
unfolding topic_spread_from
topic_fits name d t e =
    let p = bound (label_from name name) (λ label. spread_from name d >>= λ spread. Ok (label, spread)) t e in
    let q = bound (spread_from name d) (λ spread. Ok (p.0, spread)) t p.2 in
    let k : (p.0, q.0) ≡ t = cc (q.2) in
    subst (λ (x : List ℕ × TopicDraft). 1 ≤ natural x.1.parts) k (spread_fits name d q.0 q.1)

have_push : (ts : Topics) (t : List ℕ × TopicDraft) → HavePartitions ts → 1 ≤ natural t.1.parts → HavePartitions (ts ++ t ∷ [])
have_push [] t h f = (f, tt)
have_push (s ∷ ts) t h f = (h.0, have_push ts t h.1 f)

topics_fit_from : (found all : Topics) (ms : Members) → HavePartitions found → topics_from found ms ≡ Ok all → HavePartitions all
topics_fit_from found all no_members h e = let k : found ≡ all = cc in subst HavePartitions k h
topics_fit_from found all (member n d ms) h e =
    let p = bound (topic_spread_from n d) (λ t. topics_from (found ++ t ∷ []) ms) all e in
    topics_fit_from (found ++ p.0 ∷ []) all ms (have_push found p.0 h (topic_fits n d p.0 p.1)) p.2

topics_fit : (d : Data) (ts : Topics) → topics_of d ≡ Ok ts → HavePartitions ts
unfolding topics_of
topics_fit d ts e =
    let p = bound (member_of (codes "topics") d) (λ inner. some_or (BadShape (codes "topics")) (as_object inner) >>= λ ms. topics_from [] ms) ts e in
    let q = bound (some_or (BadShape (codes "topics")) (as_object p.0)) (λ ms. topics_from [] ms) ts p.2 in
    topics_fit_from [] ts q.0 tt q.2

abbrev draft_with : List ℕ → Topics → Data → Result DraftView JobKind
draft_with app topics d = nodes_of d >>= λ nodes. print_of d >>= λ print. Ok record { app = app; topics = topics; nodes = nodes; print = print }

abbrev draft_of_app : Data → List ℕ → Result DraftView JobKind
draft_of_app d app = topics_of d >>= λ topics. draft_with app topics d

draft_fits : (d : Data) (draft : DraftView) → topology_from d ≡ Ok draft → HavePartitions draft.topics
unfolding topology_from
draft_fits d draft e =
    let a = bound (object_of (codes "line") form.Topology d) (λ known. app_from d >>= draft_of_app d) draft e in
    let b = bound (app_from d) (draft_of_app d) draft a.2 in
    let c = bound (topics_of d) (λ topics. draft_with b.0 topics d) draft b.2 in
    let n = bound (nodes_of d) (λ nodes. print_of d >>= λ print. Ok record { app = b.0; topics = c.0; nodes = nodes; print = print }) draft c.2 in
    let p = bound (print_of d) (λ print. Ok record { app = b.0; topics = c.0; nodes = n.0; print = print }) draft n.2 in
    let k : record { app = b.0; topics = c.0; nodes = n.0; print = p.0 } ≡ draft = cc (p.2) in
    subst (λ x. HavePartitions x.topics) k (topics_fit d c.0 c.1)

-- ---- lines
-- the topics are known exactly where the topology came
abbrev pub AtSpot : Option (List (List ℕ)) → List ItemView → Type 0
AtSpot None [] = Unit {0}
AtSpot None (i ∷ is) = ⊥
AtSpot (Some names) [] = ⊥
AtSpot (Some names) (TopologyAt line d ∷ is) = names ≡ names_of d.topics
AtSpot (Some names) (RecordTo t r ∷ is) = ⊥

abbrev pub Standing : Option (List (List ℕ)) → List ItemView → Type 0
Standing topics items = IsJob items × AtSpot topics items

abbrev pub AfterLine : List ItemView → Result (Spot × Option ItemView) JobKind → Type 0
AfterLine items (Ok x) = Standing x.0.topics (with_item items x.1)
AfterLine items (Err f) = Unit {0}

then_stands : {A : Type 0} (r : Result A JobKind) (f : A → Result (Spot × Option ItemView) JobKind) (items : List ItemView) → ((x : A) → r ≡ Ok x → AfterLine items (f x)) → AfterLine items (r >>= f)
then_stands (Ok x) f items h = h x refl
then_stands (Err k) f items h = tt

topology_stands : (s : Spot) (n : ℕ) (d : Data) (items : List ItemView) → AtSpot None items → AfterLine items (topology_line s n d)
unfolding topology_line
topology_stands s n d [] a =
    then_stands (topology_from d) (λ draft. Ok (record { line = s.line + 1; start = s.start + n; topics = Some (names_of draft.topics); records = s.records }, Some (TopologyAt s.line draft))) []
    (λ draft e. ((draft_fits d draft e, tt), refl))
topology_stands s n d (i ∷ is) a = absurd a

count_names : (ts : Topics) → length (names_of ts) ≡ length ts
count_names [] = refl
count_names (t ∷ ts) = ap suc (count_names ts)

records_push : (n : ℕ) (is : List ItemView) (t : ℕ) (r : Rec) → AreRecords n is → IsRecord n t r → AreRecords n (is ++ RecordTo t r ∷ [])
records_push n [] t r h f = (f, tt)
records_push n (TopologyAt line d ∷ is) t r h f = absurd h
records_push n (RecordTo u q ∷ is) t r h f = (h.0, records_push n is t r h.1 f)

record_at : (b : Bool) (s : Spot) (n : ℕ) (topics : List (List ℕ)) (i : Input) (items : List ItemView) → Standing (Some topics) items → IsRecord (length topics) i.topic i.rec →
    AfterLine items (cond b (Ok (record { line = s.line + 1; start = s.start + n; topics = Some topics; records = s.records + 1 }, Some (RecordTo i.topic i.rec))) (Err (TooMany (codes "records") 250000)))
record_at true s n topics i [] h f = absurd h.1
record_at true s n topics i (RecordTo t r ∷ is) h f = absurd h.1
record_at true s n topics i (TopologyAt line d ∷ is) h f =
    ((h.0.0, records_push (length d.topics) is i.topic i.rec h.0.1 (subst (λ m. IsRecord m i.topic i.rec) (ap length h.1 ∙ count_names d.topics) f)), h.1)
record_at false s n topics i items h f = tt

record_stands : (s : Spot) (n : ℕ) (topics : List (List ℕ)) (d : Data) (items : List ItemView) → FitsData d → Standing (Some topics) items → AfterLine items (record_line s n topics d)
unfolding record_line
record_stands s n topics d items f h =
    then_stands (input_from topics d)
    (λ i. cond (nat_lt s.records 250000) (Ok (record { line = s.line + 1; start = s.start + n; topics = Some topics; records = s.records + 1 }, Some (RecordTo i.topic i.rec))) (Err (TooMany (codes "records") 250000))) items
    (λ i e. record_at (nat_lt s.records 250000) s n topics i items h (input_fits topics d i f e))

value_stands : (o : Option (List (List ℕ))) (s : Spot) (n : ℕ) (d : Data) (items : List ItemView) → FitsData d → Standing o items → AfterLine items (value_line o s n d)
value_stands None s n d items f h = topology_stands s n d items h.1
value_stands (Some topics) s n d items f h = record_stands s n topics d items f h

parsed_at : (b : Bool) (line : List ℕ) (d : Data) → (utf8_valid_len line == length line) ≡ b → cond b (read line) None ≡ Some d → FitsData d
parsed_at true line d e r = read_fits line d (valid_is line ((Decides-eqb (utf8_valid_len line) (length line)).0 e)) r
parsed_at false line d e r = absurd (cc)

parsed_fits : (line : List ℕ) (d : Data) → parsed line ≡ Some d → FitsData d
unfolding parsed
parsed_fits line d r = parsed_at (utf8_valid_len line == length line) line d refl r

data_stands : (s : Spot) (n : ℕ) (line : List ℕ) (items : List ItemView) → Standing s.topics items → AfterLine items (data_line s n line)
unfolding data_line
data_stands s n line items h =
    then_stands (some_or NotJson (parsed line)) (λ d. value_line s.topics s n d) items (λ d e. value_stands s.topics s n d items (parsed_fits line d (there NotJson (parsed line) d e)) h)

line_at : (a b c : Bool) (s : Spot) (n : ℕ) (line : List ℕ) (items : List ItemView) → Standing s.topics items →
    AfterLine items (cond a (Err (TooMany (codes "bytes") 67108864)) (cond b (Err LineTooLong) (cond c (Ok (next_line s n, None)) (data_line s n line))))
line_at true b c s n line items h = tt
line_at false true c s n line items h = tt
line_at false false true s n line items h = h
line_at false false false s n line items h = data_stands s n line items h

judged_stands : (s : Spot) (e : ℕ) (line : List ℕ) (items : List ItemView) → Standing s.topics items → AfterLine items (judged s e line)
unfolding judged
judged_stands s e line items h = line_at (passes s.start (length line + e)) (is_too_long line) (is_blank line) s (length line + e) line items h

-- ---- the reader
abbrev pub StandsAt : Reader → List ItemView → Type 0
StandsAt (Reading s begun) items = Standing s.topics items
StandsAt (Faulty n k) items = IsJob items

line_stands : (n : ℕ) (items : List ItemView) (r : Result (Spot × Option ItemView) JobKind) → IsJob items → AfterLine items r → StandsAt (after_line n items r).reader (after_line n items r).items
line_stands n items (Ok x) h a = a
line_stands n items (Err f) h a = h

longer_at : (b : Bool) (s : Spot) (begun : List ℕ) (x : ℕ) (items : List ItemView) → Standing s.topics items → StandsAt (cond b (Faulty s.line (too_long s.start)) (Reading s (begun ++ x ∷ []))) items
longer_at true s begun x items h = h.0
longer_at false s begun x items h = h

byte_at : (b : Bool) (s : Spot) (begun : List ℕ) (items : List ItemView) (x : ℕ) → Standing s.topics items →
    StandsAt (cond b (after_line s.line items (judged s 1 begun)) (record { reader = longer s begun x; items = items })).reader (cond b (after_line s.line items (judged s 1 begun)) (record { reader = longer s begun x; items = items })).items
byte_at true s begun items x h = line_stands s.line items (judged s 1 begun) h.0 (judged_stands s 1 begun items h)
byte_at false s begun items x h = longer_at _ s begun x items h

byte_stands : (r : Reader) (items : List ItemView) (x : ℕ) → StandsAt r items → StandsAt (after_byte r items x).reader (after_byte r items x).items
byte_stands (Reading s begun) items x h = byte_at (is_line_end x) s begun items x h
byte_stands (Faulty n k) items x h = h

after_stands : (m : Machine) (xs : List ℕ) → StandsAt m.reader m.items → StandsAt (after m xs).reader (after m xs).items
after_stands m [] h = h
after_stands m (x ∷ xs) h = after_stands (after_byte m.reader m.items x) xs (byte_stands m.reader m.items x h)

-- ---- its end
closed_told : (o : Option (List (List ℕ))) (n : ℕ) (s : Spot) (items : List ItemView) → Standing o items → Told (closed_by o n s) items
closed_told None n s items h = tt
closed_told (Some topics) n s [] h = absurd h.1
closed_told (Some topics) n s (i ∷ is) h = tt

end_line : (n : ℕ) (items : List ItemView) (r : Result (Spot × Option ItemView) JobKind) → IsJob items → AfterLine items r → IsWhole (at_end n items r)
end_line n items (Ok x) h a = record { job = a.0; told = closed_told x.0.topics n x.0 (with_item items x.1) a }
end_line n items (Err f) h a = record { job = h; told = tt }

end_at : (b : Bool) (s : Spot) (begun : List ℕ) (items : List ItemView) → Standing s.topics items → IsWhole (cond b (record { reader = closed s.line s; items = items }) (at_end s.line items (judged s 0 begun)))
end_at true s begun items h = record { job = h.0; told = closed_told s.topics s.line s items h }
end_at false s begun items h = end_line s.line items (judged s 0 begun) h.0 (judged_stands s 0 begun items h)

end_stands : (r : Reader) (items : List ItemView) → StandsAt r items → IsWhole (end_of r items)
end_stands (Reading s begun) items h = end_at (length begun == 0) s begun items h
end_stands (Faulty n k) items h = record { job = h; told = tt }

pub job_items : (bytes : List ℕ) → IsWhole (whole bytes)
job_items bytes = end_stands (so_far bytes).reader (so_far bytes).items (after_stands (record { reader = start; items = [] }) bytes (tt, tt))
