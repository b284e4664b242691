-- An entry is read again from what its line tells.
use Rattle.std.proofs.Common.{◌≡◌, ℕ, suc, ◌+◌, ◌-◌, ◌*◌, ◌/◌, ◌%◌, ◌^◌, ◌<◌, ◌≤◌, nat_lt, Bool, true, false, cond, if◌then◌else◌, List, [], ◌∷◌, ◌++◌, map, Option, Some, None, option_map, decimal, refl, ap, ◌∙◌, sym, arith, append_assoc, append-nil}
use Rattle.std.specs.Char.{digit_char}
use Rattle.std.specs.List.{AllByRecursion}
use Rattle.std.proofs.lemmas.Bool.{true≢false, ltb-true, ltb-false, lt-ltb, le-leb, le-ltb}
use Rattle.std.proofs.lemmas.Fmt.{decimal_by_steps}
use Rattle.serde_json.specs.Data.{Data, Items, no_items, item}
use Rattle.serde_json.specs.View.{items_of}
use Rattle.ks_record.specs.Bytes.{IsBytes}
use Rattle.ks_row.specs.Reading.{◌>>=◌}
use Rattle.ks_record.specs.Records.{Record as Rec}
use Rattle.ks_record.specs.declared.record.PartId.{PartId}
use Rattle.ks_record.specs.declared.record.TaskId.{TaskId}
use Rattle.ks_record.specs.declared.assignment.Assignment.{Assignment}
use Rattle.ks_record.specs.declared.assignment.Refused.{Refused as Refusal}
use Rattle.ks_record.specs.declared.assignment.Refused.TheVariants.{OutOfSequence, Fenced, AlreadyDecided, NoTransaction, OldGeneration, NotAssigned, Unstable, MarkersWaiting, BadAssignment}
use Rattle.ks_history.specs.declared.journal.Request.{Request}
use Rattle.ks_history.specs.declared.journal.Request.TheVariants.{Produce, Init, Add, Append, SendOffsets, Decide, MarkNext, Join, Expire, Hold, Probe, Assign, Park, Unpark}
use Rattle.ks_history.specs.declared.journal.Reply.{Reply}
use Rattle.ks_history.specs.declared.journal.Reply.TheVariants.{Done, Number, Truth, Mark, Refused}
use Rattle.ks_history.specs.declared.journal.Entry.{Entry}
use Rattle.ks_journal.specs.Lines.{whole, list, hex, task_text, bytes_data, rec_data, task_data, pair_data, place_data, recs_data, pairs_data, places_data, call_of, owner_data, refusal_items, mark_data, reply_data, entry_data}
use Rattle.ks_journal.specs.Replies.{ReplyKind, number_reply, done_reply, truth_reply, mark_reply, kind_of, refusals_of, refusal_number, is_among, is_reply_of}
use Rattle.ks_journal.specs.Fits.{FitsTask, FitsPart, FitsBytes, FitsRec, FitsPair, FitsPlace, FitsRequest, FitsRefusal, FitsReply, FitsEntry}
use Rattle.ks_journal.specs.Reading.{nibble, byte_from, bytes_onto, continues, decimal_at, task_from, task_of, part_after, whole_in, below_in, task_in, bytes_in, owner_in, first, all_onto, list_in, part_at, rec_in, pair_at, place_at, pair_in, place_in, worker_at, task_at, task_work_at, assignment_at, request_at, refusal_in, if_among, mark_in, reply_in, reply_to_in, at_end, entry_in}

-- ---- one step
step : {A B : Type 0} (o : Option A) (a : A) (k : A → Option B) → o ≡ Some a → (o >>= k) ≡ k a
step o a k h = ap (λ x. x >>= k) h

first_is : {A : Type 0} (f : Data → Option A) (d : Data) (a : A) (ds : Items) → f d ≡ Some a → first f (item d ds) ≡ Some (a, ds)
first_is f d a ds h = ap (λ x. x >>= λ y. Some (y, ds)) h

-- ---- numbers
pub number_is : (bound n : ℕ) → n < bound → below_in bound (whole n) ≡ Some n
number_is bound n h = ap (λ b. if b then Some n else None) (lt-ltb n bound h)

worker_is : (w : ℕ) (ds : Items) → w < 256 → worker_at (item (whole w) ds) ≡ Some (w, ds)
worker_is w ds h = first_is (below_in 256) (whole w) w ds (number_is 256 w h)

topic_is : (n : ℕ) (ds : Items) → n < 65536 → first (below_in 65536) (item (whole n) ds) ≡ Some (n, ds)
topic_is n ds h = first_is (below_in 65536) (whole n) n ds (number_is 65536 n h)

part_is : (p : PartId) (ds : Items) → FitsPart p → part_at (item (whole p.topic) (item (whole p.part) ds)) ≡ Some (p, ds)
part_is p ds h = step _ _ _ (topic_is p.topic _ h.0) ∙ step _ _ _ (worker_is p.part ds h.1)

-- ---- bytes
nibble_is : (d : ℕ) → d < 16 → nibble (digit_char d) ≡ Some d
nibble_is d small = by (nat_lt d 10) refl
  where
    low : (c : ℕ) → 48 ≤ c → c < 58 → nibble c ≡ Some (c - 48)
    low c a b = ap (λ t. if t then None else (if nat_lt c 58 then Some (c - 48) else (if nat_lt c 97 then None else (if nat_lt c 103 then Some (c - 87) else None)))) (le-ltb c 48 a)
        ∙ ap (λ t. if t then Some (c - 48) else (if nat_lt c 97 then None else (if nat_lt c 103 then Some (c - 87) else None))) (lt-ltb c 58 b)

    high : (c : ℕ) → 97 ≤ c → c < 103 → nibble c ≡ Some (c - 87)
    high c a b = ap (λ t. if t then None else (if nat_lt c 58 then Some (c - 48) else (if nat_lt c 97 then None else (if nat_lt c 103 then Some (c - 87) else None)))) (le-ltb c 48 (omega arith))
        ∙ ap (λ t. if t then Some (c - 48) else (if nat_lt c 97 then None else (if nat_lt c 103 then Some (c - 87) else None))) (le-ltb c 58 (omega arith))
        ∙ ap (λ t. if t then None else (if nat_lt c 103 then Some (c - 87) else None)) (le-ltb c 97 a)
        ∙ ap (λ t. if t then Some (c - 87) else None) (lt-ltb c 103 b)

    by : (b : Bool) → nat_lt d 10 ≡ b → nibble (cond b (48 + d) (87 + d)) ≡ Some d
    by true e = low (48 + d) (omega arith) (omega (arith, ltb-true d 10 e)) ∙ ap (λ (n : ℕ). Some n) (omega arith)
    by false e = high (87 + d) (omega (arith, ltb-false d 10 e)) (omega arith) ∙ ap (λ (n : ℕ). Some n) (omega arith)

byte_is : (b : ℕ) → b < 256 → byte_from (digit_char (b / 16 % 16)) (digit_char (b % 16)) ≡ Some b
byte_is b h =
    let same : b / 16 % 16 * 16 + b % 16 ≡ b = omega (arith, h) in
    step _ _ _ (nibble_is (b / 16 % 16) (omega arith)) ∙ step _ _ _ (nibble_is (b % 16) (omega arith)) ∙ ap (λ (x : ℕ). Some x) same

bytes_again : (found bytes : List ℕ) → IsBytes bytes → bytes_onto found (hex bytes) ≡ Some (found ++ bytes)
bytes_again found [] h = ap (λ (xs : List ℕ). Some xs) (sym (append-nil found))
bytes_again found (b ∷ bytes) h =
    ap (λ o. o >>= λ x. bytes_onto (found ++ x ∷ []) (hex bytes)) (byte_is b (h 0)) ∙ bytes_again (found ++ b ∷ []) bytes (λ i. h (suc i))
    ∙ ap (λ (xs : List ℕ). Some xs) (append_assoc found (b ∷ []) bytes)

bytes_is : (o : Option (List ℕ)) → FitsBytes o → bytes_in (bytes_data o) ≡ Some o
bytes_is None h = refl
bytes_is (Some bytes) h = ap (option_map Some) (bytes_again [] bytes h)

-- ---- tasks
goes_on_is : (n m : ℕ) → m < 10 → n < 100 → continues n (48 + m) ≡ true
goes_on_is n m small few =
    ap (λ b. if b then (if nat_lt (48 + m) 58 then nat_lt n 100 else false) else false) (le-leb 48 (48 + m) (omega arith))
    ∙ ap (λ b. if b then nat_lt n 100 else false) (lt-ltb (48 + m) 58 (omega arith)) ∙ lt-ltb n 100 few

digit_is : (n m : ℕ) (rest : List ℕ) → m < 10 → n < 100 → decimal_at n ((48 + m) ∷ rest) ≡ decimal_at (n * 10 + m) rest
digit_is n m rest small few =
    ap (λ b. if b then decimal_at (n * 10 + (48 + m - 48)) rest else (n, (48 + m) ∷ rest)) (goes_on_is n m small few)
    ∙ ap (λ (k : ℕ). decimal_at (n * 10 + k) rest) (omega arith)

small_is : (n : ℕ) → n < 256 → (rest : List ℕ) → decimal_at 0 (decimal n ++ rest) ≡ decimal_at n rest
small_is n small = decimal_by_steps (λ m ds. m < 256 → (rest : List ℕ) → decimal_at 0 (ds ++ rest) ≡ decimal_at m rest)
    (λ m l a rest. digit_is 0 m rest l (omega arith) ∙ ap (λ (k : ℕ). decimal_at k rest) (omega arith))
    (λ m ds l h a rest. ap (decimal_at 0) (append_assoc ds ((48 + m % 10) ∷ []) rest) ∙ h (omega arith) ((48 + m % 10) ∷ rest)
    ∙ digit_is (m / 10) (m % 10) rest (omega arith) (omega arith) ∙ ap (λ (k : ℕ). decimal_at k rest) (omega arith))
    n (omega arith) small

task_of_is : (t : TaskId) → FitsTask t → task_of t.sub t.part ≡ Some t
task_of_is t h = ap (λ b. if b then (if nat_lt t.part 256 then Some (record { sub = t.sub; part = t.part }) else None) else None) (lt-ltb t.sub 256 h.0)
    ∙ ap (λ b. if b then Some (record { sub = t.sub; part = t.part }) else None) (lt-ltb t.part 256 h.1)

pub task_again : (t : TaskId) → FitsTask t → task_from (task_text t) ≡ Some t
task_again t h =
    ap (λ (x : ℕ × List ℕ). part_after x.0 x.1) (small_is t.sub h.0 (95 ∷ decimal t.part))
    ∙ ap (λ (x : ℕ × List ℕ). task_of t.sub x.0) (ap (decimal_at 0) (sym (append-nil (decimal t.part))) ∙ small_is t.part h.1 []) ∙ task_of_is t h

task_is : (t : TaskId) (ds : Items) → FitsTask t → task_at (item (task_data t) ds) ≡ Some (t, ds)
task_is t ds h = first_is task_in (task_data t) t ds (task_again t h)

-- ---- lists
all_is : {A : Type 0} (f : Data → Option A) (g : A → Data) (Fits : A → Type 0) → ((a : A) → Fits a → f (g a) ≡ Some a)
    → (found xs : List A) → AllByRecursion Fits xs → all_onto f found (items_of (map g xs)) ≡ Some (found ++ xs)
all_is f g Fits one found [] h = ap (λ l. Some l) (sym (append-nil found))
all_is f g Fits one found (x ∷ xs) h =
    ap (λ o. o >>= λ a. all_onto f (found ++ a ∷ []) (items_of (map g xs))) (one x h.0) ∙ all_is f g Fits one (found ++ x ∷ []) xs h.1 ∙ ap (λ l. Some l) (append_assoc found (x ∷ []) xs)

lists_is : {A : Type 0} (f : Data → Option A) (g : A → Data) (Fits : A → Type 0) → ((a : A) → Fits a → f (g a) ≡ Some a)
    → (xs : List A) (ds : Items) → AllByRecursion Fits xs → first (list_in f) (item (list (map g xs)) ds) ≡ Some (xs, ds)
lists_is f g Fits one xs ds h = first_is (list_in f) (list (map g xs)) xs ds (all_is f g Fits one [] xs h)

rec_again : (r : Rec) → FitsRec r → rec_in (rec_data r) ≡ Some r
rec_again r h =
    step _ _ _ (first_is bytes_in (bytes_data r.key) r.key _ (bytes_is r.key h.0)) ∙ step _ _ _ (first_is bytes_in (bytes_data r.value) r.value _ (bytes_is r.value h.1))

pair_again : (p : ℕ × ℕ) → FitsPair p → pair_in (pair_data p) ≡ Some p
pair_again p h = step (pair_at (item (whole p.0) (item (whole p.1) no_items))) (p, no_items) at_end (step _ _ _ (topic_is p.0 _ h.0))

place_again : (p : TaskId × ℕ) → FitsPlace 256 p → place_in (below_in 256) (place_data p) ≡ Some p
place_again p h = step (place_at (below_in 256) (item (task_data p.0) (item (whole p.1) no_items))) (p, no_items) at_end (step _ _ _ (task_is p.0 _ h.0) ∙ step _ _ _ (worker_is p.1 no_items h.1))

held_again : (p : TaskId × ℕ) → FitsPlace (2 ^ 64) p → place_in whole_in (place_data p) ≡ Some p
held_again p h = step (place_at whole_in (item (task_data p.0) (item (whole p.1) no_items))) (p, no_items) at_end (step _ _ _ (task_is p.0 _ h.0))

recs_is : (rs : List Rec) (ds : Items) → AllByRecursion FitsRec rs → first (list_in rec_in) (item (recs_data rs) ds) ≡ Some (rs, ds)
recs_is = lists_is rec_in rec_data FitsRec rec_again

pairs_is : (ps : List (ℕ × ℕ)) (ds : Items) → AllByRecursion FitsPair ps → first (list_in pair_in) (item (pairs_data ps) ds) ≡ Some (ps, ds)
pairs_is = lists_is pair_in pair_data FitsPair pair_again

places_is : (ps : List (TaskId × ℕ)) (ds : Items) → AllByRecursion (FitsPlace 256) ps → first (list_in (place_in (below_in 256))) (item (places_data ps) ds) ≡ Some (ps, ds)
places_is = lists_is (place_in (below_in 256)) place_data (FitsPlace 256) place_again

held_is : (ps : List (TaskId × ℕ)) (ds : Items) → AllByRecursion (FitsPlace (2 ^ 64)) ps → first (list_in (place_in whole_in)) (item (places_data ps) ds) ≡ Some (ps, ds)
held_is = lists_is (place_in whole_in) place_data (FitsPlace (2 ^ 64)) held_again

-- ---- requests
work_is : (w e n : ℕ) (t : TaskId) (ds : Items) → w < 256 → FitsTask t → task_work_at (item (whole w) (item (whole e) (item (whole n) (item (task_data t) ds)))) ≡ Some ((w, e, n, t), ds)
work_is w e n t ds few fits = step _ _ _ (worker_is w _ few) ∙ step _ _ _ (task_is t ds fits)

assignment_is : (a : Assignment) (ds : Items) → AllByRecursion (FitsPlace 256) a.active → AllByRecursion (FitsPlace 256) a.standby → AllByRecursion (FitsPlace 256) a.warmup
    → assignment_at (item (places_data a.active) (item (places_data a.standby) (item (places_data a.warmup) ds))) ≡ Some (a, ds)
assignment_is a ds x y z = step _ _ _ (places_is a.active _ x) ∙ step _ _ _ (places_is a.standby _ y) ∙ step _ _ _ (places_is a.warmup _ z)

pub request_again : (r : Request) (d : Data) → FitsRequest r → request_at (call_of r).0 (items_of ((call_of r).1 ++ d ∷ [])) ≡ Some (r, item d no_items)
request_again (Produce p rec) d h = step _ _ _ (part_is p _ h.0) ∙ step _ _ _ (first_is rec_in (rec_data rec) rec _ (rec_again rec h.1))
request_again (Init w) d h = step _ _ _ (worker_is w _ h)
request_again (Add w e p) d h = step _ _ _ (worker_is w _ h.0) ∙ step _ _ _ (part_is p _ h.2)
request_again (Append w e n t p recs) d h =
    step _ _ _ (work_is w e n t _ h.0 h.3) ∙ step _ _ _ (part_is p _ h.4) ∙ step _ _ _ (recs_is recs _ h.5)
request_again (SendOffsets w e g t offsets order late) d h =
    step _ _ _ (work_is w e g t _ h.0 h.3) ∙ step _ _ _ (pairs_is offsets _ h.4) ∙ step _ _ _ (pairs_is order _ h.5)
request_again (Decide w e commit) d h = step _ _ _ (worker_is w _ h.0)
request_again (MarkNext w) d h = step _ _ _ (worker_is w _ h)
request_again (Join w) d h = step _ _ _ (worker_is w _ h)
request_again (Expire w) d h = step _ _ _ (worker_is w _ h)
request_again (Hold w held) d h = step _ _ _ (worker_is w _ h.0) ∙ step _ _ _ (held_is held _ h.1)
request_again (Probe w g) d h = step _ _ _ (worker_is w _ h.0)
request_again (Assign w g a) d h = step _ _ _ (worker_is w _ h.0) ∙ step _ _ _ (assignment_is a _ h.2 h.3 h.4)
request_again (Park i t) d h = step _ _ _ (worker_is i _ h.0) ∙ step _ _ _ (task_is t _ h.1)
request_again (Unpark i t) d h = step _ _ _ (worker_is i _ h.0) ∙ step _ _ _ (task_is t _ h.1)

-- ---- replies
owner_is : (o : Option ℕ) (ds : Items) → FitsRefusal (NotAssigned o) → first owner_in (item (owner_data o) ds) ≡ Some (o, ds)
owner_is None ds h = refl
owner_is (Some w) ds h = first_is owner_in (whole w) (Some w) ds (ap (option_map Some) (number_is 256 w h))

-- what follows a refusal's number
refusal_part : (r : Refusal) → FitsRefusal r → refusal_in (items_of (refusal_items r)) ≡ Some r
refusal_part (OutOfSequence expected) h = refl
refusal_part (Fenced held) h = refl
refusal_part (AlreadyDecided commit) h = refl
refusal_part NoTransaction h = refl
refusal_part (OldGeneration now) h = refl
refusal_part (NotAssigned owner) h = ap (λ o. (o >>= λ x. Some (NotAssigned x.0, x.1)) >>= at_end) (owner_is owner no_items h)
refusal_part (Unstable producer) h = ap (λ o. (o >>= λ x. Some (Unstable x.0, x.1)) >>= at_end) (worker_is producer no_items h)
refusal_part (MarkersWaiting left) h = ap (λ o. (o >>= λ x. Some (MarkersWaiting x.0, x.1)) >>= at_end) (first_is (below_in (2 ^ 32)) (whole left) left no_items (number_is (2 ^ 32) left h))
refusal_part (BadAssignment t) h = ap (λ o. (o >>= λ x. Some (BadAssignment x.0, x.1)) >>= at_end) (task_is t no_items h)

refusal_again : (names : List ℕ) (r : Refusal) → is_among (refusal_number r) names ≡ true → FitsRefusal r → (refusal_in (items_of (refusal_items r)) >>= if_among names) ≡ Some (Refused r)
refusal_again names r k h = ap (λ o. o >>= if_among names) (refusal_part r h) ∙ ap (λ b. if b then Some (Refused r) else None) k

mark_again : (m : Option (PartId × Bool)) → FitsReply (Mark m) → mark_in (mark_data m) ≡ Some m
mark_again None h = refl
mark_again (Some m) h = step _ _ _ (part_is m.0 _ h)

pub reply_again : (a : ReplyKind) (names : List ℕ) (reply : Reply) → is_reply_of a names reply ≡ true → FitsReply reply → reply_in a names (reply_data reply) ≡ Some reply
reply_again number_reply names (Number n) k h = refl
reply_again number_reply names Done k h = absurd (true≢false (sym k))
reply_again number_reply names (Truth b) k h = absurd (true≢false (sym k))
reply_again number_reply names (Mark m) k h = absurd (true≢false (sym k))
reply_again number_reply names (Refused r) k h = refusal_again names r k h
reply_again done_reply names (Number n) k h = absurd (true≢false (sym k))
reply_again done_reply names Done k h = refl
reply_again done_reply names (Truth b) k h = absurd (true≢false (sym k))
reply_again done_reply names (Mark m) k h = absurd (true≢false (sym k))
reply_again done_reply names (Refused r) k h = refusal_again names r k h
reply_again truth_reply names (Number n) k h = absurd (true≢false (sym k))
reply_again truth_reply names Done k h = absurd (true≢false (sym k))
reply_again truth_reply names (Truth b) k h = refl
reply_again truth_reply names (Mark m) k h = absurd (true≢false (sym k))
reply_again truth_reply names (Refused r) k h = refusal_again names r k h
reply_again mark_reply names (Number n) k h = absurd (true≢false (sym k))
reply_again mark_reply names Done k h = absurd (true≢false (sym k))
reply_again mark_reply names (Truth b) k h = absurd (true≢false (sym k))
reply_again mark_reply names (Mark m) k h = ap (option_map Mark) (mark_again m h)
reply_again mark_reply names (Refused r) k h = absurd (true≢false (sym k))

-- ---- entries
pub entry_again : (e : Entry) → FitsEntry e → entry_in (entry_data e) ≡ Some e
entry_again e h =
    step _ _ _ (request_again e.request (reply_data e.reply) h.request)
    ∙ step _ _ _ (first_is (reply_to_in e.request) (reply_data e.reply) e.reply no_items (reply_again (kind_of e.request) (refusals_of e.request) e.reply h.kind h.reply))
