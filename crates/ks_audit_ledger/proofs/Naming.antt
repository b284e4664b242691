-- An account names tasks of the cluster alone, entry by entry.
use Rattle.std.proofs.Common.{◌≡◌, ℕ, ◌+◌, Bool, true, false, cond, ◌||◌, length, List, [], ◌∷◌, ◌++◌, Option, Some, None, refl, sym, ap, subst, ◌∙◌, inl, inr, ⊎_elim}
use Rattle.std.specs.Prelude.{◌==◌, ◌⊎◌}
use Rattle.ks_record.specs.declared.record.TaskId.{TaskId}
use Rattle.ks_record.specs.declared.assignment.Refused.{Refused}
use Rattle.ks_record.specs.Parts.{same_task}
use Rattle.ks_history.specs.declared.journal.Request.{Request}
use Rattle.ks_history.specs.declared.journal.Request.TheVariants.{Produce, Init, Add, Append, SendOffsets, Decide, MarkNext, Join, Expire, Hold, Probe, Assign, Park, Unpark}
use Rattle.ks_history.specs.declared.journal.Reply.TheVariants.{Truth}
use Rattle.ks_history.specs.declared.transaction.Pending.{Pending}
use Rattle.ks_history.specs.State.{State, Setup, has_task}
use Rattle.ks_history.specs.Step.{refusal, reply_by, can_expire}
use Rattle.ks_history.specs.History.{at, Meets}
use Rattle.ks_history.proofs.Names.{same_task-is}
use Rattle.ks_audit_ledger.specs.declared.account.Account.{Account}
use Rattle.ks_audit_ledger.specs.declared.account.Sent.{Sent}
use Rattle.ks_audit_ledger.specs.Accounts.{blank, opened, last_from, last_of, noted_by, owner_of, is_owner}
use Rattle.ks_audit_ledger.specs.Kept.{KnowsTasks, TasksStay}
use Rattle.ks_audit_ledger.proofs.Noting.{refused_by, either}

closed_knows : (setup : Setup) (a : Account) → a.undecided ≡ None → KnowsTasks setup a
closed_knows setup a none = record {
  tasks = λ t h. absurd (let g : false ≡ true = ap (λ o. has_task t (opened o).tasks) (sym none) ∙ h in cc);
  pending = λ t p h. absurd (let g : None ≡ Some p = ap (λ o. last_of t (opened o).pending) (sym none) ∙ h in cc);
  own = λ t p h. absurd (let g : None ≡ Some p = ap (λ o. last_of t (opened o).pending) (sym none) ∙ h in cc);
}

pub blank_knows : (setup : Setup) → KnowsTasks setup blank
blank_knows setup = closed_knows setup blank refl

named_or_last : (t u : TaskId) (ts : List TaskId) → has_task t (ts ++ u ∷ []) ≡ true → (has_task t ts ≡ true) ⊎ (t ≡ u)
named_or_last t u [] h = by (same_task t u) refl h
  where
    by : (b : Bool) → same_task t u ≡ b → (b || false) ≡ true → (false ≡ true) ⊎ (t ≡ u)
    by true is g = inr (same_task-is t u is)
    by false is g = inl g
named_or_last t u (x ∷ xs) h = by (same_task t x) h (λ g. named_or_last t u xs g)
  where
    by : (b : Bool) → (b || has_task t (xs ++ u ∷ [])) ≡ true → (has_task t (xs ++ u ∷ []) ≡ true → (has_task t xs ≡ true) ⊎ (t ≡ u)) → ((b || has_task t xs) ≡ true) ⊎ (t ≡ u)
    by true g f = inl refl
    by false g f = f g

last_more : (t : TaskId) (found : Option Pending) (ps : List Pending) (p : Pending) → last_from t found (ps ++ p ∷ []) ≡ cond (same_task t p.task) (Some p) (last_from t found ps)
last_more t found [] p = refl
last_more t found (x ∷ ps) p = last_more t (cond (same_task t x.task) (Some x) found) ps p

module _ (setup : Setup) (s : State) (w : ℕ) (a : Account) (known : KnowsTasks setup a) where
  with_task : (epoch : ℕ) (u : TaskId) (sent : List Sent) → has_task u setup.tasks ≡ true →
      KnowsTasks setup (record { epoch = epoch; undecided = Some (record { tasks = (opened a.undecided).tasks ++ u ∷ []; pending = (opened a.undecided).pending; sent = sent }) })
  with_task epoch u sent there = record {
    tasks = λ t h. ⊎_elim (λ old. known.tasks t old) (λ (is : t ≡ u). ap (λ (k : TaskId). has_task k setup.tasks) is ∙ there) (named_or_last t u (opened a.undecided).tasks h);
    pending = known.pending;
    own = known.own;
  }

  with_offsets : (epoch : ℕ) (new : Pending) (sent : List Sent) → has_task new.task setup.tasks ≡ true →
      KnowsTasks setup (record { epoch = epoch; undecided = Some (record { tasks = (opened a.undecided).tasks; pending = (opened a.undecided).pending ++ new ∷ []; sent = sent }) })
  with_offsets epoch new sent there = record {
    tasks = known.tasks;
    pending = λ t p h. pending t p (same_task t new.task) refl (sym (last_more t None (opened a.undecided).pending new) ∙ h);
    own = λ t p h. own t p (same_task t new.task) refl (sym (last_more t None (opened a.undecided).pending new) ∙ h);
  }
    where
      pending : (t : TaskId) (p : Pending) (b : Bool) → same_task t new.task ≡ b → cond b (Some new) (last_of t (opened a.undecided).pending) ≡ Some p → has_task t setup.tasks ≡ true
      pending t p true is h = ap (λ (k : TaskId). has_task k setup.tasks) (same_task-is t new.task is) ∙ there
      pending t p false is h = known.pending t p h

      own : (t : TaskId) (p : Pending) (b : Bool) → same_task t new.task ≡ b → cond b (Some new) (last_of t (opened a.undecided).pending) ≡ Some p → p.task ≡ t
      own t p true is h = let it : new ≡ p = cc in ap (λ (k : Pending). k.task) (sym it) ∙ sym (same_task-is t new.task is)
      own t p false is h = known.own t p h

  by_request : (request : Request) (r : Option Refused) → Meets setup s request → KnowsTasks setup (cond (is_owner w (owner_of request)) (noted_by a request (reply_by s request r)) a)
  by_request request (Some refused) m =
      subst (KnowsTasks setup) (either (is_owner w (owner_of request)) a ∙ ap (λ x. cond (is_owner w (owner_of request)) x a) (sym (refused_by a request refused))) known
  by_request (Produce p rec) None m = known
  by_request (Init v) None m = by (w == v)
    where
      by : (b : Bool) → KnowsTasks setup (cond b (record { epoch = (s.producer v).epoch + 1; undecided = None }) a)
      by true = closed_knows setup (record { epoch = (s.producer v).epoch + 1; undecided = None }) refl
      by false = known
  by_request (Add v e p) None m = by (w == v)
    where
      by : (b : Bool) → KnowsTasks setup (cond b (record a { undecided = Some (opened a.undecided) }) a)
      by true = record { tasks = known.tasks; pending = known.pending; own = known.own }
      by false = known
  by_request (Append v e number u p recs) None m = by (w == v)
    where
      by : (b : Bool) → KnowsTasks setup (cond b (noted_by a (Append v e number u p recs) (reply_by s (Append v e number u p recs) None)) a)
      by true = with_task a.epoch u ((opened a.undecided).sent ++ record { task = u; part = p; first = length (s.partition p); recs = recs } ∷ []) m.2
      by false = known
  by_request (SendOffsets v e g u offsets order late) None m = by (w == v)
    where
      by : (b : Bool) → KnowsTasks setup (cond b (noted_by a (SendOffsets v e g u offsets order late) (reply_by s (SendOffsets v e g u offsets order late) None)) a)
      by true = with_offsets a.epoch (record { task = u; offsets = offsets; order = order; late = late }) (opened a.undecided).sent m.1
      by false = known
  by_request (Decide v e commit) None m = by (w == v)
    where
      by : (b : Bool) → KnowsTasks setup (cond b (record a { undecided = None }) a)
      by true = closed_knows setup (record a { undecided = None }) refl
      by false = known
  by_request (MarkNext v) None m = known
  by_request (Join v) None m = known
  by_request (Expire v) None m = by (w == v) (can_expire s v)
    where
      by : (b c : Bool) → KnowsTasks setup (cond b (noted_by a (Expire v) (Truth c)) a)
      by true true = closed_knows setup (record { epoch = a.epoch + 1; undecided = None }) refl
      by true false = known
      by false c = known
  by_request (Hold v held) None m = known
  by_request (Probe v g) None m = known
  by_request (Assign v g b) None m = known
  by_request (Park instance u) None m = known
  by_request (Unpark instance u) None m = known

pub tasks_stay : TasksStay
tasks_stay setup journal entry w a step known =
    let now = by_request setup (at setup journal) w a known entry.request (refusal setup (at setup journal) entry.request) step.meets in
    subst (λ reply. KnowsTasks setup (cond (is_owner w (owner_of entry.request)) (noted_by a entry.request reply) a)) (sym step.reply) now
