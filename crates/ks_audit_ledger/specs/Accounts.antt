-- What entries make of a producer's account (KIP-98, KIP-447): accepted requests alone count.
use Rattle.std.specs.Prelude.{◌≡◌, ℕ, ◌+◌, ◌==◌, ◌&&◌, Bool, true, false, if◌then◌else◌, List, [], ◌∷◌, ◌++◌, Option, Some, None}
use Rattle.ks_record.specs.Records.{Record as Rec}
use Rattle.ks_record.specs.declared.record.PartId.{PartId}
use Rattle.ks_record.specs.declared.record.TaskId.{TaskId}
use Rattle.ks_record.specs.Parts.{same_part, same_task}
use Rattle.ks_history.specs.declared.journal.Request.{Request}
use Rattle.ks_history.specs.declared.journal.Request.TheVariants.{Init, Add, Append, SendOffsets, Decide, Expire}
use Rattle.ks_history.specs.declared.journal.Reply.{Reply}
use Rattle.ks_history.specs.declared.journal.Reply.TheVariants.{Done, Number, Truth}
use Rattle.ks_history.specs.declared.journal.Entry.{Entry}
use Rattle.ks_history.specs.declared.transaction.Pending.{Pending}
use Rattle.ks_history.specs.declared.transaction.Transaction.{Transaction}
use Rattle.ks_history.specs.State.{Setup, pending_of}
use Rattle.ks_history.specs.History.{at}
use Rattle.ks_law_exactly_once.specs.Appended.{appended}
use Rattle.ks_audit_ledger.specs.declared.account.Account.{Account}
use Rattle.ks_audit_ledger.specs.declared.account.Open.{Open}
use Rattle.ks_audit_ledger.specs.declared.account.Sent.{Sent}

-- ---- an account, entry by entry
abbrev pub blank : Account
blank = record { epoch = 0; undecided = None }

abbrev pub no_open : Open
no_open = record { tasks = []; pending = []; sent = [] }

abbrev pub opened : Option Open → Open
opened None = no_open
opened (Some o) = o

-- after an entry of this account's producer
abbrev pub noted_by : Account → Request → Reply → Account
noted_by a (Init w) (Number n) = record { epoch = n; undecided = None }
noted_by a (Add w e p) Done = record a { undecided = Some (opened a.undecided) }
noted_by a (Append w e number t p recs) (Number first) =
    let o = opened a.undecided in
    record a { undecided = Some (record o { tasks = o.tasks ++ t ∷ []; sent = o.sent ++ record { task = t; part = p; first = first; recs = recs } ∷ [] }) }
noted_by a (SendOffsets w e g t offsets order late) Done =
    let o = opened a.undecided in
    record a { undecided = Some (record o { pending = o.pending ++ record { task = t; offsets = offsets; order = order; late = late } ∷ [] }) }
noted_by a (Decide w e commit) Done = record a { undecided = None }
noted_by a (Expire w) (Truth true) = record { epoch = a.epoch + 1; undecided = None }
noted_by a request reply = a

abbrev pub noted : Account → Entry → Account
noted a entry = noted_by a entry.request entry.reply

-- whose account an entry may change
abbrev pub owner_of : Request → Option ℕ
owner_of (Init w) = Some w
owner_of (Add w e p) = Some w
owner_of (Append w e number t p recs) = Some w
owner_of (SendOffsets w e g t offsets order late) = Some w
owner_of (Decide w e commit) = Some w
owner_of (Expire w) = Some w
owner_of request = None

abbrev pub is_owner : ℕ → Option ℕ → Bool
is_owner w None = false
is_owner w (Some v) = w == v

-- ---- what an account tells
-- the offsets that were sent last for a task
abbrev pub last_from : TaskId → Option Pending → List Pending → Option Pending
last_from t found [] = found
last_from t found (p ∷ ps) = last_from t (if same_task t p.task then Some p else found) ps

abbrev pub last_of : TaskId → List Pending → Option Pending
last_of t ps = last_from t None ps

-- the records for a task in a partition
abbrev pub sent_in : TaskId → PartId → List Sent → List Rec
sent_in t q [] = []
sent_in t q (x ∷ xs) = if same_task t x.task && same_part q x.part then x.recs ++ sent_in t q xs else sent_in t q xs

-- the account's transaction is the producer's
abbrev pub IsOpen : Option Open → Option Transaction → Type 0
IsOpen None None = Unit {0}
IsOpen (Some o) (Some tx) = (o.tasks ≡ tx.tasks) × ((t : TaskId) → last_of t o.pending ≡ pending_of t tx.pending)
IsOpen o u = ⊥

pub record IsAccount (setup : Setup) (journal : List Entry) (w : ℕ) (a : Account) : Type 0 where
  pub epoch : a.epoch ≡ ((at setup journal).producer w).epoch
  pub undecided : IsOpen a.undecided ((at setup journal).producer w).undecided
  pub sent : (t : TaskId) (q : PartId) → sent_in t q (opened a.undecided).sent ≡ appended setup journal w t q
