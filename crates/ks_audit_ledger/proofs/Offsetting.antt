-- An account tells where a transaction's records stand, entry by entry.
use Rattle.std.proofs.Common.{◌≡◌, ℕ, ◌+◌, Bool, true, false, cond, ◌&&◌, List, [], ◌∷◌, ◌++◌, length, Option, Some, None, refl, sym, ap, subst, ◌∙◌, append_assoc, append-nil}
use Rattle.std.specs.Prelude.{◌==◌}
use Rattle.std.proofs.lemmas.Bool.{and_parts}
use Rattle.ks_record.specs.declared.record.PartId.{PartId}
use Rattle.ks_record.specs.declared.record.TaskId.{TaskId}
use Rattle.ks_record.specs.declared.assignment.Refused.{Refused}
use Rattle.ks_record.specs.Parts.{same_part, same_task}
use Rattle.ks_history.specs.declared.journal.Request.{Request}
use Rattle.ks_history.specs.declared.journal.Request.TheVariants.{Produce, Init, Add, Append, SendOffsets, Decide, MarkNext, Join, Expire, Hold, Probe, Assign, Park, Unpark}
use Rattle.ks_history.specs.declared.journal.Reply.TheVariants.{Truth}
use Rattle.ks_history.specs.declared.journal.Entry.{Entry}
use Rattle.ks_history.specs.Partition.{Logged}
use Rattle.ks_history.specs.State.{State, Setup, start}
use Rattle.ks_history.specs.Step.{refusal, reply_by, after, can_expire}
use Rattle.ks_history.specs.History.{at, state_after}
use Rattle.ks_history.proofs.Names.{same_part-is}
use Rattle.ks_law_audit.specs.Logged.{logged_at, logged_by, logged_from, logged}
use Rattle.ks_audit_ledger.specs.declared.account.Account.{Account}
use Rattle.ks_audit_ledger.specs.declared.account.Sent.{Sent}
use Rattle.ks_audit_ledger.specs.Accounts.{opened, noted_by, owner_of, is_owner}
use Rattle.ks_audit_ledger.specs.Offsets.{logged_in, OffsetsStay}
use Rattle.ks_audit_ledger.proofs.Noting.{refused_by, either}

logged_from-more : (setup : Setup) (s : State) (xs : List Entry) (entry : Entry) (w : ℕ) (t : TaskId) (q : PartId) (before : List Logged) →
    logged_from setup s (xs ++ entry ∷ []) w t q before
    ≡ logged_by (state_after setup s xs) entry.request (refusal setup (state_after setup s xs) entry.request) w t q (logged_from setup s xs w t q before)
logged_from-more setup s [] entry w t q before = refl
logged_from-more setup s (x ∷ xs) entry w t q before = logged_from-more setup (after setup s x.request) xs entry w t q (logged_by s x.request (refusal setup s x.request) w t q before)

logged_in-more : (t : TaskId) (q : PartId) (xs : List Sent) (x : Sent) → logged_in t q (xs ++ x ∷ []) ≡ cond (same_task t x.task && same_part q x.part) (logged_in t q xs ++ logged_at x.first x.task x.recs) (logged_in t q xs)
logged_in-more t q [] x = by (same_task t x.task && same_part q x.part)
  where
    by : (b : Bool) → cond b (logged_at x.first x.task x.recs ++ []) [] ≡ cond b (logged_at x.first x.task x.recs) []
    by true = append-nil (logged_at x.first x.task x.recs)
    by false = refl
logged_in-more t q (y ∷ ys) x = by (same_task t y.task && same_part q y.part) (same_task t x.task && same_part q x.part) (logged_in-more t q ys x)
  where
    by : (a b : Bool) → logged_in t q (ys ++ x ∷ []) ≡ cond b (logged_in t q ys ++ logged_at x.first x.task x.recs) (logged_in t q ys) →
        cond a (logged_at y.first y.task y.recs ++ logged_in t q (ys ++ x ∷ [])) (logged_in t q (ys ++ x ∷ []))
        ≡ cond b (cond a (logged_at y.first y.task y.recs ++ logged_in t q ys) (logged_in t q ys) ++ logged_at x.first x.task x.recs) (cond a (logged_at y.first y.task y.recs ++ logged_in t q ys) (logged_in t q ys))
    by true true e = ap (λ l. logged_at y.first y.task y.recs ++ l) e ∙ sym (append_assoc (logged_at y.first y.task y.recs) (logged_in t q ys) (logged_at x.first x.task x.recs))
    by true false e = ap (λ l. logged_at y.first y.task y.recs ++ l) e
    by false b e = e

module _ (s : State) (w : ℕ) (a : Account) (t : TaskId) (q : PartId) (log : List Logged) (h : logged_in t q (opened a.undecided).sent ≡ log) where
  by_request : (request : Request) (r : Option Refused) →
      logged_in t q (opened (cond (is_owner w (owner_of request)) (noted_by a request (reply_by s request r)) a).undecided).sent ≡ logged_by s request r w t q log
  by_request request (Some refused) =
      subst (λ (x : Account). logged_in t q (opened x.undecided).sent ≡ log) (either (is_owner w (owner_of request)) a ∙ ap (λ x. cond (is_owner w (owner_of request)) x a) (sym (refused_by a request refused))) h
  by_request (Produce p rec) None = h
  by_request (Init v) None = by (w == v)
    where
      by : (b : Bool) → logged_in t q (opened (cond b (record { epoch = (s.producer v).epoch + 1; undecided = None }) a).undecided).sent ≡ cond b [] log
      by true = refl
      by false = h
  by_request (Add v e p) None = by (w == v)
    where
      by : (b : Bool) → logged_in t q (opened (cond b (record a { undecided = Some (opened a.undecided) }) a).undecided).sent ≡ log
      by true = h
      by false = h
  by_request (Append v e number u p recs) None = by (w == v)
    where
      moved : (c : Bool) → (same_task t u && same_part q p) ≡ c → cond c (log ++ logged_at (length (s.partition p)) u recs) log ≡ cond c (log ++ logged_at (length (s.partition q)) u recs) log
      moved true g = ap (λ k. log ++ logged_at (length (s.partition k)) u recs) (sym (same_part-is q p (and_parts (same_task t u) (same_part q p) g).1))
      moved false g = refl

      by : (b : Bool) → logged_in t q (opened (cond b (record a { undecided = Some (record (opened a.undecided) { tasks = (opened a.undecided).tasks ++ u ∷ []; sent = (opened a.undecided).sent ++ record { task = u; part = p; first = length (s.partition p); recs = recs } ∷ [] }) }) a).undecided).sent
          ≡ cond ((b && same_task t u) && same_part q p) (log ++ logged_at (length (s.partition q)) u recs) log
      by true =
          logged_in-more t q (opened a.undecided).sent (record { task = u; part = p; first = length (s.partition p); recs = recs })
          ∙ ap (λ l. cond (same_task t u && same_part q p) (l ++ logged_at (length (s.partition p)) u recs) l) h
          ∙ moved (same_task t u && same_part q p) refl
      by false = h
  by_request (SendOffsets v e g u offsets order late) None = by (w == v)
    where
      by : (b : Bool) → logged_in t q (opened (cond b (record a { undecided = Some (record (opened a.undecided) { pending = (opened a.undecided).pending ++ record { task = u; offsets = offsets; order = order; late = late } ∷ [] }) }) a).undecided).sent ≡ log
      by true = h
      by false = h
  by_request (Decide v e commit) None = by (w == v)
    where
      by : (b : Bool) → logged_in t q (opened (cond b (record a { undecided = None }) a).undecided).sent ≡ cond b [] log
      by true = refl
      by false = h
  by_request (MarkNext v) None = h
  by_request (Join v) None = h
  by_request (Expire v) None = by (w == v) (can_expire s v)
    where
      by : (b c : Bool) → logged_in t q (opened (cond b (noted_by a (Expire v) (Truth c)) a).undecided).sent ≡ cond (b && c) [] log
      by true true = refl
      by true false = h
      by false c = h
  by_request (Hold v held) None = h
  by_request (Probe v g) None = h
  by_request (Assign v g b) None = h
  by_request (Park instance u) None = h
  by_request (Unpark instance u) None = h

pub offsets_stay : OffsetsStay
offsets_stay setup journal entry w a step is t q =
    let s : State = at setup journal in
    let r : Option Refused = refusal setup (at setup journal) entry.request in
    let now = by_request s w a t q (logged setup journal w t q) (is t q) entry.request r in
    subst (λ reply. logged_in t q (opened (cond (is_owner w (owner_of entry.request)) (noted_by a entry.request reply) a).undecided).sent ≡ logged_by s entry.request r w t q (logged setup journal w t q)) (sym step.reply) now
    ∙ sym (logged_from-more setup start journal entry w t q [])
