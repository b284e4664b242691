-- A line says its entry.
use Rattle.std.proofs.Common.{◌≡◌, ℕ, ◌^◌, ◌≤◌, List, [], ◌∷◌, ◌++◌, map, Bool, Option, Some, None, option_and_then, refl, ap, ◌∙◌, sym, arith}
use Rattle.std.specs.List.{AllByRecursion}
use Rattle.std.specs.Str.{IsUtf8}
use Rattle.serde_json.specs.Data.{Data, depth, items_depth}
use Rattle.serde_json.specs.Read.{read}
use Rattle.serde_json.specs.View.{items_of}
use Rattle.ks_record.specs.Records.{Record as Rec}
use Rattle.ks_record.specs.declared.record.PartId.{PartId}
use Rattle.ks_record.specs.declared.record.TaskId.{TaskId}
use Rattle.ks_record.specs.declared.assignment.Refused.{Refused as Refusal}
use Rattle.ks_record.specs.declared.assignment.Refused.TheVariants.{OutOfSequence, Fenced, AlreadyDecided, NoTransaction, OldGeneration, NotAssigned, Unstable, MarkersWaiting, BadAssignment}
use Rattle.ks_history.specs.declared.journal.Request.{Request}
use Rattle.ks_history.specs.declared.journal.Request.TheVariants.{Produce, Init, Add, Append, SendOffsets, Decide, MarkNext, Join, Expire, Hold, Probe, Assign, Park, Unpark}
use Rattle.ks_history.specs.declared.journal.Reply.{Reply}
use Rattle.ks_history.specs.declared.journal.Reply.TheVariants.{Done, Number, Truth, Mark, Refused}
use Rattle.ks_history.specs.declared.journal.Entry.{Entry}
use Rattle.ks_journal.specs.Lines.{bytes_data, rec_data, pair_data, place_data, call_of, owner_data, refusal_items, mark_data, reply_data, entry_data, entry_text}
use Rattle.ks_journal.specs.Fits.{FitsRec, FitsPair, FitsPlace, FitsRequest, FitsRefusal, FitsReply, FitsEntry}
use Rattle.ks_journal.specs.Reading.{entry_in}
use Rattle.ks_journal.proofs.DataAgain.{IsSimple, AreSimple, read_again, text_utf8}
use Rattle.ks_journal.proofs.Utf8.{hex_utf8, task_utf8, word_utf8}
use Rattle.ks_journal.proofs.EntryAgain.{entry_again}

-- ---- what a line tells is_among whole numbers at_end
bytes_simple : (o : Option (List ℕ)) → IsSimple (bytes_data o)
bytes_simple None = tt
bytes_simple (Some bytes) = hex_utf8 bytes

all_simple : {A : Type 0} (g : A → Data) (Fits : A → Type 0) → ((a : A) → Fits a → IsSimple (g a)) → (xs : List A) → AllByRecursion Fits xs → AreSimple (items_of (map g xs))
all_simple g Fits one [] h = tt
all_simple g Fits one (x ∷ xs) h = (one x h.0, all_simple g Fits one xs h.1)

rec_simple : (r : Rec) → FitsRec r → IsSimple (rec_data r)
rec_simple r h = (bytes_simple r.key, (bytes_simple r.value, (h.2, tt)))

pair_simple : (p : ℕ × ℕ) → FitsPair p → IsSimple (pair_data p)
pair_simple p h = (omega (arith, h.0), (h.1, tt))

place_simple : (bound : ℕ) → bound ≤ 2 ^ 64 → (p : TaskId × ℕ) → FitsPlace bound p → IsSimple (place_data p)
place_simple bound few p h = (task_utf8 p.0 h.0, (omega (arith, h.1), tt))

request_simple : (r : Request) (d : Data) → FitsRequest r → IsSimple d → AreSimple (items_of ((call_of r).1 ++ d ∷ []))
request_simple (Produce p rec) d h s = (omega (arith, h.0.0), (omega (arith, h.0.1), (rec_simple rec h.1, (s, tt))))
request_simple (Init w) d h s = (omega arith, (s, tt))
request_simple (Add w e p) d h s = (omega (arith, h.0), (h.1, (omega (arith, h.2.0), (omega (arith, h.2.1), (s, tt)))))
request_simple (Append w e n t p recs) d h s =
    (omega (arith, h.0), (h.1, (h.2, (task_utf8 t h.3, (omega (arith, h.4.0), (omega (arith, h.4.1), (all_simple rec_data FitsRec rec_simple recs h.5, (s, tt))))))))
request_simple (SendOffsets w e g t offsets order late) d h s =
    (omega (arith, h.0), (h.1, (h.2, (task_utf8 t h.3, (all_simple pair_data FitsPair pair_simple offsets h.4, (all_simple pair_data FitsPair pair_simple order h.5, (h.6, (s, tt))))))))
request_simple (Decide w e commit) d h s = (omega (arith, h.0), (h.1, (tt, (s, tt))))
request_simple (MarkNext w) d h s = (omega arith, (s, tt))
request_simple (Join w) d h s = (omega arith, (s, tt))
request_simple (Expire w) d h s = (omega arith, (s, tt))
request_simple (Hold w held) d h s = (omega (arith, h.0), (all_simple place_data (FitsPlace (2 ^ 64)) (place_simple (2 ^ 64) (omega arith)) held h.1, (s, tt)))
request_simple (Probe w g) d h s = (omega (arith, h.0), (h.1, (s, tt)))
request_simple (Assign w g a) d h s = (
  omega (arith, h.0),
  (
    h.1,
    (
      all_simple place_data (FitsPlace 256) (place_simple 256 (omega arith)) a.active h.2,
      (
        all_simple place_data (FitsPlace 256) (place_simple 256 (omega arith)) a.standby h.3,
        (all_simple place_data (FitsPlace 256) (place_simple 256 (omega arith)) a.warmup h.4, (s, tt)),
      ),
    ),
  ),
)
request_simple (Park i t) d h s = (omega (arith, h.0), (task_utf8 t h.1, (s, tt)))
request_simple (Unpark i t) d h s = (omega (arith, h.0), (task_utf8 t h.1, (s, tt)))

owner_simple : (o : Option ℕ) → FitsRefusal (NotAssigned o) → IsSimple (owner_data o)
owner_simple None h = tt
owner_simple (Some w) h = omega (arith, h)

refusal_simple : (r : Refusal) → FitsRefusal r → AreSimple (items_of (refusal_items r))
refusal_simple (OutOfSequence expected) h = (omega arith, (h, tt))
refusal_simple (Fenced held) h = (omega arith, (h, tt))
refusal_simple (AlreadyDecided commit) h = (omega arith, (tt, tt))
refusal_simple NoTransaction h = (omega arith, tt)
refusal_simple (OldGeneration now) h = (omega arith, (h, tt))
refusal_simple (NotAssigned owner) h = (omega arith, (owner_simple owner h, tt))
refusal_simple (Unstable producer) h = (omega arith, (omega (arith, h), tt))
refusal_simple (MarkersWaiting left) h = (omega arith, (omega (arith, h), tt))
refusal_simple (BadAssignment t) h = (omega arith, (task_utf8 t h, tt))

mark_simple : (m : Option (PartId × Bool)) → FitsReply (Mark m) → IsSimple (mark_data m)
mark_simple None h = tt
mark_simple (Some m) h = (omega (arith, h.0), (omega (arith, h.1), (tt, tt)))

reply_simple : (reply : Reply) → FitsReply reply → IsSimple (reply_data reply)
reply_simple Done h = tt
reply_simple (Number n) h = h
reply_simple (Truth b) h = tt
reply_simple (Mark m) h = mark_simple m h
reply_simple (Refused r) h = refusal_simple r h

-- ---- lists nest at most three deep
bytes_depth : (o : Option (List ℕ)) → depth (bytes_data o) ≡ 0
bytes_depth None = refl
bytes_depth (Some bytes) = refl

all_depth : {A : Type 0} (g : A → Data) → ((a : A) → depth (g a) ≤ 1) → (xs : List A) → items_depth (items_of (map g xs)) ≤ 1
all_depth g one [] = omega arith
all_depth g one (x ∷ xs) = omega (arith, one x, all_depth g one xs)

rec_depth : (r : Rec) → depth (rec_data r) ≤ 1
rec_depth r = omega (arith, bytes_depth r.key, bytes_depth r.value)

request_depth : (r : Request) (d : Data) → depth d ≤ 2 → items_depth (items_of ((call_of r).1 ++ d ∷ [])) ≤ 2
request_depth (Produce p rec) d s = omega (arith, rec_depth rec)
request_depth (Init w) d s = omega arith
request_depth (Add w e p) d s = omega arith
request_depth (Append w e n t p recs) d s = omega (arith, all_depth rec_data rec_depth recs)
request_depth (SendOffsets w e g t offsets order late) d s = omega (arith, all_depth pair_data (λ p. omega arith) offsets, all_depth pair_data (λ p. omega arith) order)
request_depth (Decide w e commit) d s = omega arith
request_depth (MarkNext w) d s = omega arith
request_depth (Join w) d s = omega arith
request_depth (Expire w) d s = omega arith
request_depth (Hold w held) d s = omega (arith, all_depth place_data (λ p. omega arith) held)
request_depth (Probe w g) d s = omega arith
request_depth (Assign w g a) d s =
    omega (arith, all_depth place_data (λ p. omega arith) a.active, all_depth place_data (λ p. omega arith) a.standby, all_depth place_data (λ p. omega arith) a.warmup)
request_depth (Park i t) d s = omega arith
request_depth (Unpark i t) d s = omega arith

owner_depth : (o : Option ℕ) → depth (owner_data o) ≡ 0
owner_depth None = refl
owner_depth (Some w) = refl

refusal_depth : (r : Refusal) → items_depth (items_of (refusal_items r)) ≤ 1
refusal_depth (OutOfSequence expected) = omega arith
refusal_depth (Fenced held) = omega arith
refusal_depth (AlreadyDecided commit) = omega arith
refusal_depth NoTransaction = omega arith
refusal_depth (OldGeneration now) = omega arith
refusal_depth (NotAssigned owner) = omega (arith, owner_depth owner)
refusal_depth (Unstable producer) = omega arith
refusal_depth (MarkersWaiting left) = omega arith
refusal_depth (BadAssignment t) = omega arith

reply_depth : (reply : Reply) → depth (reply_data reply) ≤ 2
reply_depth Done = omega arith
reply_depth (Number n) = omega arith
reply_depth (Truth b) = omega arith
reply_depth (Mark None) = omega arith
reply_depth (Mark (Some m)) = omega arith
reply_depth (Refused r) = omega (arith, refusal_depth r)

-- ---- the line
pub entry_simple : (e : Entry) → FitsEntry e → IsSimple (entry_data e)
entry_simple e h = (word_utf8 e.request, request_simple e.request (reply_data e.reply) h.request (reply_simple e.reply h.reply))

pub line_utf8 : (e : Entry) → FitsEntry e → IsUtf8 (entry_text e)
line_utf8 e h = text_utf8 (entry_data e) (entry_simple e h)

pub line_read : (e : Entry) → FitsEntry e → read (entry_text e) ≡ Some (entry_data e)
line_read e h = read_again (entry_data e) (entry_simple e h) (omega (arith, request_depth e.request (reply_data e.reply) (reply_depth e.reply)))

pub line_again : (e : Entry) → FitsEntry e → option_and_then entry_in (read (entry_text e)) ≡ Some e
line_again e h = ap (option_and_then entry_in) (line_read e h) ∙ entry_again e h

pub one_line : (a b : Entry) → FitsEntry a → FitsEntry b → entry_text a ≡ entry_text b → a ≡ b
one_line a b fa fb same = ap told (sym (line_again a fa) ∙ ap (λ text. option_and_then entry_in (read text)) same ∙ line_again b fb)
  where
    told : Option Entry → Entry
    told None = a
    told (Some e) = e
