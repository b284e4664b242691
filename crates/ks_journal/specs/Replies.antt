-- Which replies a request can have.
use Rattle.std.specs.Prelude.{◌≡◌, ℕ, ◌==◌, ◌||◌, Bool, true, false, List, [], ◌∷◌}
use Rattle.ks_record.specs.declared.assignment.Refused.{Refused as Refusal}
use Rattle.ks_record.specs.declared.assignment.Refused.TheVariants.{OutOfSequence, Fenced, AlreadyDecided, NoTransaction, OldGeneration, NotAssigned, Unstable, MarkersWaiting, BadAssignment}
use Rattle.ks_history.specs.declared.journal.Request.{Request}
use Rattle.ks_history.specs.declared.journal.Request.TheVariants.{Produce, Init, Add, Append, SendOffsets, Decide, MarkNext, Join, Expire, Hold, Probe, Assign, Park, Unpark}
use Rattle.ks_history.specs.declared.journal.Reply.{Reply}
use Rattle.ks_history.specs.declared.journal.Reply.TheVariants.{Done, Number, Truth, Mark, Refused}
use Rattle.ks_history.specs.declared.journal.Entry.{Entry}

pub data ReplyKind : Type 0 where
  number_reply : ReplyKind
  done_reply : ReplyKind
  truth_reply : ReplyKind
  mark_reply : ReplyKind

-- what a request answers where it isn't refused
abbrev pub kind_of : Request → ReplyKind
kind_of (Produce p rec) = number_reply
kind_of (Init w) = number_reply
kind_of (Add w e p) = done_reply
kind_of (Append w e n t p recs) = number_reply
kind_of (SendOffsets w e g t offsets order late) = done_reply
kind_of (Decide w e commit) = done_reply
kind_of (MarkNext w) = mark_reply
kind_of (Join w) = number_reply
kind_of (Expire w) = truth_reply
kind_of (Hold w held) = done_reply
kind_of (Probe w g) = number_reply
kind_of (Assign w g a) = truth_reply
kind_of (Park instance t) = done_reply
kind_of (Unpark instance t) = truth_reply

-- the refusals of a request, by their numbers
abbrev pub refusals_of : Request → List ℕ
refusals_of (Produce p rec) = []
refusals_of (Init w) = []
refusals_of (Add w e p) = 2 ∷ 8 ∷ []
refusals_of (Append w e n t p recs) = 2 ∷ 4 ∷ 1 ∷ []
refusals_of (SendOffsets w e g t offsets order late) = 2 ∷ 5 ∷ 6 ∷ 8 ∷ 7 ∷ []
refusals_of (Decide w e commit) = 2 ∷ 3 ∷ 4 ∷ []
refusals_of (MarkNext w) = []
refusals_of (Join w) = []
refusals_of (Expire w) = []
refusals_of (Hold w held) = []
refusals_of (Probe w g) = 5 ∷ []
refusals_of (Assign w g a) = 5 ∷ 9 ∷ []
refusals_of (Park instance t) = []
refusals_of (Unpark instance t) = []

abbrev pub refusal_number : Refusal → ℕ
refusal_number (OutOfSequence expected) = 1
refusal_number (Fenced held) = 2
refusal_number (AlreadyDecided commit) = 3
refusal_number NoTransaction = 4
refusal_number (OldGeneration now) = 5
refusal_number (NotAssigned owner) = 6
refusal_number (Unstable producer) = 7
refusal_number (MarkersWaiting left) = 8
refusal_number (BadAssignment task) = 9

abbrev pub is_among : ℕ → List ℕ → Bool
is_among n [] = false
is_among n (m ∷ ms) = (n == m) || is_among n ms

-- a reply of this kind, or one of these refusals; writing a marker is never refused
abbrev pub is_reply_of : ReplyKind → List ℕ → Reply → Bool
is_reply_of number_reply numbers (Number n) = true
is_reply_of done_reply numbers Done = true
is_reply_of truth_reply numbers (Truth b) = true
is_reply_of mark_reply numbers (Mark m) = true
is_reply_of mark_reply numbers (Refused r) = false
is_reply_of kind numbers (Refused r) = is_among (refusal_number r) numbers
is_reply_of kind numbers reply = false

-- the reply is one that the request can have
abbrev pub HasReply : Entry → Type 0
HasReply e = is_reply_of (kind_of e.request) (refusals_of e.request) e.reply ≡ true
