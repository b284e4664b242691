-- An account tells the journal, entry by entry.
use Rattle.std.proofs.Common.{◌≡◌, ℕ, ◌+◌, Bool, true, false, cond, ◌&&◌, List, [], ◌∷◌, ◌++◌, length, Option, Some, None, refl, sym, ap, subst, ◌∙◌, append_assoc, append-nil}
use Rattle.std.specs.Prelude.{◌==◌, ◌↔◌, is_some}
use Rattle.std.proofs.lemmas.Bool.{true≢false, eqb-true}
use Rattle.ks_record.specs.Records.{Record as Rec}
use Rattle.ks_record.specs.declared.record.PartId.{PartId}
use Rattle.ks_record.specs.declared.record.TaskId.{TaskId}
use Rattle.ks_record.specs.declared.assignment.Refused.{Refused}
use Rattle.ks_record.specs.declared.assignment.Refused.TheVariants.{Fenced, NoTransaction, AlreadyDecided}
use Rattle.ks_record.specs.declared.assignment.Marker.{Marker}
use Rattle.ks_record.specs.declared.assignment.Assignment.{Assignment}
use Rattle.ks_record.specs.Parts.{same_part, same_task, task_lt}
use Rattle.ks_history.specs.declared.partition.Slot.TheVariants.{Mark}
use Rattle.ks_history.specs.declared.journal.Request.{Request}
use Rattle.ks_history.specs.declared.journal.Request.TheVariants.{Produce, Init, Add, Append, SendOffsets, Decide, MarkNext, Join, Expire, Hold, Probe, Assign, Park, Unpark}
use Rattle.ks_history.specs.declared.journal.Reply.TheVariants.{Truth, Refused as Refuse}
use Rattle.ks_history.specs.declared.journal.Entry.{Entry}
use Rattle.ks_history.specs.declared.transaction.Pending.{Pending}
use Rattle.ks_history.specs.declared.transaction.Transaction.{Transaction}
use Rattle.ks_history.specs.declared.transaction.Producer.{Producer}
use Rattle.ks_history.specs.State.{State, Setup, start, pending_of, with_pending, insert_part, with_number, grown, without_number}
use Rattle.ks_history.specs.Step.{refusal, reply_by, state_by, after, closed, renewed, tx_of, no_tx, markers_for, can_expire, or_else}
use Rattle.ks_history.specs.History.{at, state_after}
use Rattle.ks_history.proofs.Histories.{at-more}
use Rattle.ks_history.proofs.Names.{same_task-is}
use Rattle.ks_law_exactly_once.specs.Appended.{appended_by, appended_from, appended}
use Rattle.ks_law_exactly_once.proofs.Refusals.{closed_undecided}
use Rattle.ks_audit_ledger.specs.declared.account.Account.{Account}
use Rattle.ks_audit_ledger.specs.declared.account.Open.{Open}
use Rattle.ks_audit_ledger.specs.declared.account.Sent.{Sent}
use Rattle.ks_audit_ledger.specs.Accounts.{opened, noted_by, noted, owner_of, is_owner, last_from, last_of, sent_in, IsOpen}
use Rattle.ks_audit_ledger.specs.Ledgers.{AccountStays, DecisionIsTold}

-- ---- what was appended, with one entry more
appended_from-more : (setup : Setup) (s : State) (xs : List Entry) (entry : Entry) (w : ℕ) (t : TaskId) (q : PartId) (before : List Rec) →
    appended_from setup s (xs ++ entry ∷ []) w t q before
    ≡ appended_by (state_after setup s xs) entry.request (refusal setup (state_after setup s xs) entry.request) w t q (appended_from setup s xs w t q before)
appended_from-more setup s [] entry w t q before = refl
appended_from-more setup s (x ∷ xs) entry w t q before = appended_from-more setup (after setup s x.request) xs entry w t q (appended_by s x.request (refusal setup s x.request) w t q before)

-- ---- lists
last_from-more : (t : TaskId) (found : Option Pending) (ps : List Pending) (new : Pending) → last_from t found (ps ++ new ∷ []) ≡ cond (same_task t new.task) (Some new) (last_from t found ps)
last_from-more t found [] new = refl
last_from-more t found (p ∷ ps) new = last_from-more t (cond (same_task t p.task) (Some p) found) ps new

sent_in-more : (t : TaskId) (q : PartId) (xs : List Sent) (x : Sent) → sent_in t q (xs ++ x ∷ []) ≡ cond (same_task t x.task && same_part q x.part) (sent_in t q xs ++ x.recs) (sent_in t q xs)
sent_in-more t q [] x = by (same_task t x.task && same_part q x.part)
  where
    by : (b : Bool) → cond b (x.recs ++ []) [] ≡ cond b x.recs []
    by true = append-nil x.recs
    by false = refl
sent_in-more t q (y ∷ ys) x = by (same_task t y.task && same_part q y.part) (same_task t x.task && same_part q x.part) (sent_in-more t q ys x)
  where
    by : (a b : Bool) → sent_in t q (ys ++ x ∷ []) ≡ cond b (sent_in t q ys ++ x.recs) (sent_in t q ys) →
        cond a (y.recs ++ sent_in t q (ys ++ x ∷ [])) (sent_in t q (ys ++ x ∷ []))
        ≡ cond b (cond a (y.recs ++ sent_in t q ys) (sent_in t q ys) ++ x.recs) (cond a (y.recs ++ sent_in t q ys) (sent_in t q ys))
    by true true e = ap (λ l. y.recs ++ l) e ∙ sym (append_assoc y.recs (sent_in t q ys) x.recs)
    by true false e = ap (λ l. y.recs ++ l) e
    by false b e = e

pending_of-with : (t : TaskId) (new : Pending) (ps : List Pending) → pending_of t (with_pending new ps) ≡ cond (same_task t new.task) (Some new) (pending_of t ps)
pending_of-with t new [] = refl
pending_of-with t new (p ∷ ps) = by (same_task new.task p.task) (task_lt new.task p.task) refl (pending_of-with t new ps)
  where
    hidden : (b : Bool) (x y : Pending) (o : Option Pending) → cond b (Some x) o ≡ cond b (Some x) (cond b (Some y) o)
    hidden true x y o = refl
    hidden false x y o = refl

    swapped : (a b : Bool) (x y : Pending) (o : Option Pending) → (a ≡ true → b ≡ true → ⊥) → cond a (Some x) (cond b (Some y) o) ≡ cond b (Some y) (cond a (Some x) o)
    swapped true true x y o h = absurd (h refl refl)
    swapped true false x y o h = refl
    swapped false b x y o h = refl

    apart : same_task new.task p.task ≡ false → same_task t p.task ≡ true → same_task t new.task ≡ true → ⊥
    apart is f g = true≢false (sym (subst (λ u. same_task u p.task ≡ true) (same_task-is t new.task g) f) ∙ is)

    by : (a b : Bool) → same_task new.task p.task ≡ a → pending_of t (with_pending new ps) ≡ cond (same_task t new.task) (Some new) (pending_of t ps) →
        pending_of t (cond a (new ∷ ps) (cond b (new ∷ p ∷ ps) (p ∷ with_pending new ps))) ≡ cond (same_task t new.task) (Some new) (cond (same_task t p.task) (Some p) (pending_of t ps))
    by true b is e = subst (λ u. cond (same_task t new.task) (Some new) (pending_of t ps) ≡ cond (same_task t new.task) (Some new) (cond (same_task t u) (Some p) (pending_of t ps))) (same_task-is new.task p.task is)
        (hidden (same_task t new.task) new p (pending_of t ps))
    by false true is e = refl
    by false false is e = ap (λ o. cond (same_task t p.task) (Some p) o) e ∙ swapped (same_task t p.task) (same_task t new.task) p new (pending_of t ps) (apart is)

-- ---- an account beside a producer and what it appended
record Told (p : Producer) (before : TaskId → PartId → List Rec) (a : Account) : Type 0 where
  epoch : a.epoch ≡ p.epoch
  undecided : IsOpen a.undecided p.undecided
  sent : (t : TaskId) (q : PartId) → sent_in t q (opened a.undecided).sent ≡ before t q

abbrev tx_in : Option Transaction → Transaction
tx_in u = elim u [ None ↦ no_tx | Some tx ↦ tx ]

opened_is : (o : Option Open) (u : Option Transaction) → IsOpen o u → ((opened o).tasks ≡ (tx_in u).tasks) × ((t : TaskId) → last_of t (opened o).pending ≡ pending_of t (tx_in u).pending)
opened_is None None h = (refl, λ t. refl)
opened_is (Some o) (Some tx) h = h
opened_is None (Some tx) h = absurd h
opened_is (Some o) None h = absurd h

add_told : (p : Producer) (before : TaskId → PartId → List Rec) (a : Account) (parts : List PartId) → Told p before a →
    Told (record p { undecided = Some (record (tx_of p) { parts = parts }) }) before (record a { undecided = Some (opened a.undecided) })
add_told p before a parts h = record { epoch = h.epoch; undecided = opened_is a.undecided p.undecided h.undecided; sent = h.sent }

append_told : (p : Producer) (before : TaskId → PartId → List Rec) (a : Account) (u : TaskId) (part : PartId) (first : ℕ) (rs : List Rec) → Told p before a →
    Told (record p { undecided = Some (record (tx_of p) { tasks = (tx_of p).tasks ++ u ∷ [] }) })
    (λ t q. cond (same_task t u && same_part q part) (before t q ++ rs) (before t q))
    (record a { undecided = Some (record (opened a.undecided) { tasks = (opened a.undecided).tasks ++ u ∷ []; sent = (opened a.undecided).sent ++ record { task = u; part = part; first = first; recs = rs } ∷ [] }) })
append_told p before a u part first rs h =
    let is = opened_is a.undecided p.undecided h.undecided in
    record {
      epoch = h.epoch;
      undecided = (ap (λ l. l ++ u ∷ []) is.0, is.1);
      sent = λ t q.
          sent_in-more t q (opened a.undecided).sent (record { task = u; part = part; first = first; recs = rs })
          ∙ ap (λ l. cond (same_task t u && same_part q part) (l ++ rs) l) (h.sent t q);
    }

offsets_told : (p : Producer) (before : TaskId → PartId → List Rec) (a : Account) (new : Pending) → Told p before a →
    Told (record p { undecided = Some (record (tx_of p) { pending = with_pending new (tx_of p).pending }) }) before (record a { undecided = Some (record (opened a.undecided) { pending = (opened a.undecided).pending ++ new ∷ [] }) })
offsets_told p before a new h =
    let is = opened_is a.undecided p.undecided h.undecided in
    record {
      epoch = h.epoch;
      undecided = (is.0, λ t. last_from-more t None (opened a.undecided).pending new ∙ ap (λ o. cond (same_task t new.task) (Some new) o) (is.1 t) ∙ sym (pending_of-with t new (tx_of p).pending));
      sent = h.sent;
    }

closed_epoch : (p : Producer) (commit : Bool) → (closed p commit).epoch ≡ p.epoch
closed_epoch p commit = by p.undecided
  where
    by : (u : Option Transaction) → (elim u as (λ _. Producer) [ None ↦ p | Some tx ↦ record p { undecided = None; waiting = p.waiting ++ markers_for p.epoch commit tx.parts; last = Some commit } ]).epoch ≡ p.epoch
    by None = refl
    by (Some tx) = refl

none_open : (u : Option Transaction) → u ≡ None → IsOpen None u
none_open u h = subst (IsOpen None) (sym h) tt

decided_told : (p : Producer) (before : TaskId → PartId → List Rec) (a : Account) (commit : Bool) → Told p before a → Told (closed p commit) (λ t q. []) (record a { undecided = None })
decided_told p before a commit h = record { epoch = h.epoch ∙ sym (closed_epoch p commit); undecided = none_open _ (closed_undecided p commit); sent = λ t q. refl }

renewed_told : (p : Producer) (epoch : ℕ) → epoch ≡ p.epoch + 1 → Told (renewed p) (λ t q. []) (record { epoch = epoch; undecided = None })
renewed_told p epoch h = record { epoch = h; undecided = none_open _ (closed_undecided p false); sent = λ t q. refl }

-- ---- an entry
pub refused_by : (a : Account) (request : Request) (refused : Refused) → noted_by a request (Refuse refused) ≡ a
refused_by a (Produce p rec) refused = refl
refused_by a (Init w) refused = refl
refused_by a (Add w e p) refused = refl
refused_by a (Append w e number t p recs) refused = refl
refused_by a (SendOffsets w e g t offsets order late) refused = refl
refused_by a (Decide w e commit) refused = refl
refused_by a (MarkNext w) refused = refl
refused_by a (Join w) refused = refl
refused_by a (Expire w) refused = refl
refused_by a (Hold w held) refused = refl
refused_by a (Probe w g) refused = refl
refused_by a (Assign w g b) refused = refl
refused_by a (Park instance t) refused = refl
refused_by a (Unpark instance t) refused = refl

pub either : {A : Type 0} (b : Bool) (x : A) → x ≡ cond b x x
either true x = refl
either false x = refl

module _ (s : State) (w : ℕ) (before : TaskId → PartId → List Rec) (a : Account) (told : Told (s.producer w) before a) where
  at_worker : (v : ℕ) → (w == v) ≡ true → Told (s.producer v) before a
  at_worker v is = subst (λ k. Told (s.producer k) before a) (eqb-true w v is) told

  by_request : (request : Request) (r : Option Refused) →
      Told ((state_by s request r).producer w) (λ t q. appended_by s request r w t q (before t q)) (cond (is_owner w (owner_of request)) (noted_by a request (reply_by s request r)) a)
  by_request request (Some refused) =
      subst (Told (s.producer w) before) (either (is_owner w (owner_of request)) a ∙ ap (λ x. cond (is_owner w (owner_of request)) x a) (sym (refused_by a request refused))) told
  by_request (Produce p rec) None = told
  by_request (Init v) None = by (w == v) refl
    where
      by : (b : Bool) → (w == v) ≡ b → Told (cond b (renewed (s.producer v)) (s.producer w)) (λ t q. cond b [] (before t q)) (cond b (record { epoch = (s.producer v).epoch + 1; undecided = None }) a)
      by true is = renewed_told (s.producer v) ((s.producer v).epoch + 1) refl
      by false is = told
  by_request (Add v e p) None = by (w == v) refl
    where
      by : (b : Bool) → (w == v) ≡ b → Told (cond b (record (s.producer v) { undecided = Some (record (tx_of (s.producer v)) { parts = insert_part p (tx_of (s.producer v)).parts }) }) (s.producer w)) before (cond b (record a { undecided = Some (opened a.undecided) }) a)
      by true is = add_told (s.producer v) before a (insert_part p (tx_of (s.producer v)).parts) (at_worker v is)
      by false is = told
  by_request (Append v e number u p recs) None = by (w == v) refl
    where
      by : (b : Bool) → (w == v) ≡ b → Told (cond b (record (s.producer v) { undecided = Some (record (tx_of (s.producer v)) { tasks = (tx_of (s.producer v)).tasks ++ u ∷ [] }) }) (s.producer w))
          (λ t q. cond ((b && same_task t u) && same_part q p) (before t q ++ recs) (before t q))
          (cond b (record a { undecided = Some (record (opened a.undecided) { tasks = (opened a.undecided).tasks ++ u ∷ []; sent = (opened a.undecided).sent ++ record { task = u; part = p; first = length (s.partition p); recs = recs } ∷ [] }) }) a)
      by true is = append_told (s.producer v) before a u p (length (s.partition p)) recs (at_worker v is)
      by false is = told
  by_request (SendOffsets v e g t offsets order late) None = by (w == v) refl
    where
      by : (b : Bool) → (w == v) ≡ b →
          Told (cond b (record (s.producer v) { undecided = Some (record (tx_of (s.producer v)) { pending = with_pending (record { task = t; offsets = offsets; order = order; late = late }) (tx_of (s.producer v)).pending }) }) (s.producer w)) before
          (cond b (record a { undecided = Some (record (opened a.undecided) { pending = (opened a.undecided).pending ++ record { task = t; offsets = offsets; order = order; late = late } ∷ [] }) }) a)
      by true is = offsets_told (s.producer v) before a (record { task = t; offsets = offsets; order = order; late = late }) (at_worker v is)
      by false is = told
  by_request (Decide v e commit) None = by (w == v) refl
    where
      by : (b : Bool) → (w == v) ≡ b → Told (cond b (closed (s.producer v) commit) (s.producer w)) (λ t q. cond b [] (before t q)) (cond b (record a { undecided = None }) a)
      by true is = decided_told (s.producer v) before a commit (at_worker v is)
      by false is = told
  by_request (MarkNext v) None = by (s.producer v).waiting refl
    where
      kept : (ms : List Marker) (b : Bool) → (w == v) ≡ b → Told (cond b (record (s.producer v) { waiting = ms }) (s.producer w)) before a
      kept ms true is = let h = at_worker v is in record { epoch = h.epoch; undecided = h.undecided; sent = h.sent }
      kept ms false is = told

      by : (ms : List Marker) → (s.producer v).waiting ≡ ms → Told ((elim ms as (λ _. State) [
        | [] ↦ s
        | m ∷ ms ↦ record s {
          partition = grown s.partition m.part (Mark v m.epoch m.commit ∷ []);
          producer = with_number s.producer v (record (s.producer v) { waiting = ms });
        }
      ]).producer w) before a
      by [] is = told
      by (m ∷ ms) is = kept ms (w == v) refl
  by_request (Join v) None = told
  by_request (Expire v) None = by (can_expire s v)
    where
      here : (b : Bool) → (w == v) ≡ b → Told (cond b (renewed (s.producer v)) (s.producer w)) (λ t q. cond (b && true) [] (before t q)) (cond b (record { epoch = a.epoch + 1; undecided = None }) a)
      here true is = renewed_told (s.producer v) (a.epoch + 1) (ap (λ n. n + 1) (at_worker v is).epoch)
      here false is = told

      none : (b c : Bool) → b ≡ c → Told (s.producer w) (λ t q. cond (b && false) [] (before t q)) (cond b a a)
      none true c is = told
      none false c is = told

      by : (c : Bool) → Told ((cond c (record s {
        producer = with_number s.producer v (renewed (s.producer v));
        members = without_number v s.members;
        held = with_number s.held v [];
        generation = s.generation + 1;
        assignment = None;
      }) s).producer w) (λ t q. cond ((w == v) && c) [] (before t q)) (cond (w == v) (noted_by a (Expire v) (Truth c)) a)
      by true = here (w == v) refl
      by false = none (w == v) (w == v) refl
  by_request (Hold v held) None = told
  by_request (Probe v g) None = told
  by_request (Assign v g b) None = by s.assignment
    where
      by : (o : Option Assignment) → Told ((elim o as (λ _. State) [ None ↦ record s { assignment = Some b } | Some c ↦ s ]).producer w) before a
      by None = told
      by (Some c) = told
  by_request (Park instance t) None = told
  by_request (Unpark instance t) None = told

-- ---- the law
pub account_stays : AccountStays
account_stays setup journal entry w a step is =
    let s : State = at setup journal in
    let r : Option Refused = refusal setup (at setup journal) entry.request in
    let h = by_request s w (appended setup journal w) a (record { epoch = is.epoch; undecided = is.undecided; sent = is.sent }) entry.request r in
    let there : at setup (journal ++ entry ∷ []) ≡ after setup (at setup journal) entry.request = at-more setup journal entry in
    let now : Told ((after setup (at setup journal) entry.request).producer w) (λ t q. appended_by s entry.request r w t q (appended setup journal w t q)) (cond (is_owner w (owner_of entry.request)) (noted a entry) a)
    = subst (λ reply. Told ((after setup (at setup journal) entry.request).producer w) (λ t q. appended_by s entry.request r w t q (appended setup journal w t q)) (cond (is_owner w (owner_of entry.request)) (noted_by a entry.request reply) a)) (sym step.reply) h in
    record {
      epoch = now.epoch ∙ ap (λ (k : State). (k.producer w).epoch) (sym there);
      undecided = subst (λ (k : State). IsOpen (cond (is_owner w (owner_of entry.request)) (noted a entry) a).undecided (k.producer w).undecided) (sym there) now.undecided;
      sent = λ t q. now.sent t q ∙ sym (appended_from-more setup start journal entry w t q []);
    }

-- ---- decisions
abbrev undecided_fault : Producer → Option Transaction → Option Refused
undecided_fault p u = elim u [ Some tx ↦ None | None ↦ elim p.last [ None ↦ Some NoTransaction | Some commit ↦ Some (AlreadyDecided commit) ] ]

never : (o : Option Bool) → elim o as (λ _. Option Refused) [ None ↦ Some NoTransaction | Some commit ↦ Some (AlreadyDecided commit) ] ≡ None → ⊥
never None h = absurd cc
never (Some commit) h = absurd cc

by_both : (p : Producer) (b : Bool) (o : Option Open) (u : Option Transaction) → IsOpen o u → (b && is_some o ≡ true) ↔ (or_else (cond b None (Some (Fenced p.epoch))) (undecided_fault p u) ≡ None)
by_both p true (Some o) (Some tx) h = (λ _. refl, λ _. refl)
by_both p false (Some o) (Some tx) h = (λ e. absurd cc, λ e. absurd cc)
by_both p true None None h = (λ e. absurd cc, λ e. absurd (never p.last e))
by_both p false None None h = (λ e. absurd cc, λ e. absurd cc)
by_both p b None (Some tx) h = absurd h
by_both p b (Some o) None h = absurd h

pub decision_is_told : DecisionIsTold
decision_is_told setup journal w e commit a is =
    let p : Producer = (at setup journal).producer w in
    subst (λ n. (((e == n) && is_some a.undecided) ≡ true) ↔ (refusal setup (at setup journal) (Decide w e commit) ≡ None)) (sym is.epoch)
    (by_both p (e == p.epoch) a.undecided p.undecided is.undecided)
