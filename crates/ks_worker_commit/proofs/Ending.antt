-- From the requests of a commit to its end.
use Rattle.std.proofs.Common.{◌≡◌, ◌≢◌, ◌⊎◌, inl, inr, ℕ, suc, ◌+◌, ◌≤◌, ◌||◌, Bool, true, false, cond, List, [], ◌∷◌, ◌++◌, length, Option, Some, None, refl, sym, ap, subst, ◌∙◌, append_assoc, arith}
use Rattle.std.specs.Prelude.{◌==◌}
use Rattle.std.proofs.lemmas.Bool.{eqb-true, eq-eqb, true≢false}
use Rattle.ks_record.specs.declared.record.PartId.{PartId}
use Rattle.ks_record.specs.declared.record.TaskId.{TaskId}
use Rattle.ks_record.specs.declared.assignment.Refused.{Refused}
use Rattle.ks_record.specs.Parts.{same_task}
use Rattle.ks_history.specs.declared.journal.Entry.{Entry}
use Rattle.ks_history.specs.declared.journal.Reply.TheVariants.{Refused as Refuse}
use Rattle.ks_history.specs.declared.transaction.Pending.{Pending}
use Rattle.ks_history.specs.Machine.{TaskPlan}
use Rattle.ks_history.specs.State.{Setup, has_task, pending_of}
use Rattle.ks_history.specs.Step.{pending_at}
use Rattle.ks_history.specs.History.{at}
use Rattle.ks_history.specs.Touched.{touched}
use Rattle.ks_law_restore.specs.Views.{WorkView, pending_work}
use Rattle.ks_law_sharing.specs.Refusals.{IsFencing, IsMarkersWaiting}
use Rattle.ks_law_commit.specs.Building.{Contents, no_contents}
use Rattle.ks_law_commit.specs.Accounts.{accepted_of}
use Rattle.ks_law_commit.specs.Committing.{commit_entry}
use Rattle.ks_law_commit.proofs.Counted.{accepted-append}
use Rattle.ks_law_commit.specs.Cases.{IsTurnedDown, HasCommitted, CommitCases}
use Rattle.ks_commit.specs.Sending.{pendings_of}
use Rattle.ks_commit.specs.Committed.{tasks_in, AreApart}
use Rattle.ks_growing.specs.Passes.{PassView}
use Rattle.ks_shared.specs.declared.state.Frame.{Frame}
use Rattle.ks_shared.specs.declared.barred.Barred.{Barred}
use Rattle.ks_shared.specs.declared.barred.Barred.TheVariants.{Refused as Refusal, Touched as IsTouched}
use Rattle.ks_shared.specs.Calls.{setup_in}
use Rattle.ks_worker_commit.specs.Outcomes.{Requests, UndecidedRequests, holds_fence, WhyBarred}
use Rattle.ks_worker_commit.specs.Outputs.{parts_in, add_all, put_all, send_all, contents_of}
use Rattle.ks_worker_commit.specs.declared.outcome.Outcome.{Outcome}
use Rattle.ks_worker_commit.specs.declared.outcome.Outcome.TheVariants.{Committed, Aborted, Fenced, Touched, Cut}
use Rattle.ks_worker_commit.specs.Underway.{Memory, IsHalted, WasNotAsked}
use Rattle.ks_worker_commit.specs.Ends.{CameToDecision, IsCommitted, IsEnded, WasUsed, is_fenced, HasCase, AbortsSo, FinishesSo}
use Rattle.ks_worker_commit.proofs.Requesting.{requests_both, undecided_both, accepted_most}
use Rattle.ks_worker_commit.proofs.Filling.{IsFirst, first_of, first_pending, send_pending, put_pending}

-- ---- what is pending is the works' offsets
added_pending : (ps : List PartId) (c : Contents) (t : TaskId) → (add_all ps c).pending t ≡ c.pending t
added_pending [] c t = refl
added_pending (p ∷ ps) c t = added_pending ps _ t

first_of_pendings : (fs : List WorkView) (t : TaskId) (f : WorkView) → IsFirst t fs f → pending_of t (pendings_of fs) ≡ Some (pending_work f)
first_of_pendings [] t f h = absurd h
first_of_pendings (g ∷ gs) t f h = by (same_task t g.task) h (λ k. first_of_pendings gs t f k)
  where
    by : (b : Bool) → cond b (f ≡ g) (IsFirst t gs f) → (IsFirst t gs f → pending_of t (pendings_of gs) ≡ Some (pending_work f)) → cond b (Some (pending_work g)) (pending_of t (pendings_of gs)) ≡ Some (pending_work f)
    by true k on = ap (λ (x : WorkView). Some (pending_work x)) (sym k)
    by false k on = on k

none_of_pendings : (fs : List WorkView) (t : TaskId) → has_task t (tasks_in fs) ≡ false → pending_of t (pendings_of fs) ≡ None
none_of_pendings [] t h = refl
none_of_pendings (g ∷ gs) t h = by (same_task t g.task) h (λ k. none_of_pendings gs t k)
  where
    by : (b : Bool) → b || has_task t (tasks_in gs) ≡ false → (has_task t (tasks_in gs) ≡ false → pending_of t (pendings_of gs) ≡ None) → cond b (Some (pending_work g)) (pending_of t (pendings_of gs)) ≡ None
    by true k on = absurd (true≢false k)
    by false k on = on k

pub pending_is : (fs : List WorkView) (t : TaskId) → AreApart fs → (contents_of fs).pending t ≡ pending_of t (pendings_of fs)
pending_is fs t apart = by (has_task t (tasks_in fs)) refl
  where
    by : (b : Bool) → has_task t (tasks_in fs) ≡ b → (contents_of fs).pending t ≡ pending_of t (pendings_of fs)
    by true has = let f = first_of t fs has in first_pending fs _ t f.0 apart f.1 ∙ sym (first_of_pendings fs t f.0 f.1)
    by false has = send_pending fs _ t has ∙ put_pending (parts_in [] fs) fs (add_all (parts_in [] fs) no_contents) t ∙ added_pending (parts_in [] fs) no_contents t ∙ sym (none_of_pendings fs t has)

-- ---- the cases
module _ {W : Type 0} (plan : W → TaskPlan) (old mid new : PassView Entry (Frame W)) (w e g last : ℕ) (pending : TaskId → Option Pending) where
  turned_more : (more others : List Entry) (Why : Refused → Type 0) → IsTurnedDown more w e g Why → IsTurnedDown (more ++ others) w e g Why
  turned_more more others Why t = record {
    before = t.before;
    request = t.request;
    refused = t.refused;
    rest = t.rest ++ others;
    is = ap (λ l. l ++ others) t.is ∙ append_assoc t.before (record { request = t.request; reply = Refuse t.refused } ∷ t.rest) others;
    carried = t.carried;
    why = t.why;
  }

  mine_or : (P : Type 0) → (touched w old.seen ≡ last → P) → (touched w old.seen ≢ last → P) → P
  mine_or P yes_then no_then = by (touched w old.seen == last) refl
    where
      by : (b : Bool) → (touched w old.seen == last) ≡ b → P
      by true is = yes_then (eqb-true (touched w old.seen) last is)
      by false is = no_then (λ e. true≢false (sym (eq-eqb (touched w old.seen) last e) ∙ is))

  -- refused, and what came then
  pub refused_then : {fenced : Bool} (mem : Memory) (r : Refused) (o : Outcome) (h : IsHalted plan old mid w e g last mem (Refusal r)) (more : UndecidedRequests plan mid new w fenced) →
      holds_fence (h.requests.own ++ more.requests.own) ≡ is_fenced o → (o ≡ Touched → WasUsed old.seen (h.requests.more ++ more.requests.more) (h.requests.own ++ more.requests.own) w last) → IsEnded plan old new w e g last pending o
  refused_then mem r o h more fence used =
      let all : Requests plan old new w = requests_both plan old mid new w h.requests more.requests in
      record {
        requests = all;
        own = undecided_both h.requests.own more.requests.own h.undecided more.undecided;
        fence = fence;
        used = used;
        cases = mine_or (CommitCases (setup_in plan old.frame) old.seen all.more w e g (length all.own) last pending) (λ is. by (h.why is)) (λ ne. inr (inr (inr (inr ne))));
      }
    where
      by : (IsFencing r × IsTurnedDown h.requests.more w e g IsFencing)
          ⊎ (IsMarkersWaiting r × IsTurnedDown h.requests.more w e g IsMarkersWaiting × ((at (setup_in plan old.frame) old.seen).producer w).waiting ≢ [])
          → CommitCases (setup_in plan old.frame) old.seen (h.requests.more ++ more.requests.more) w e g (length (h.requests.own ++ more.requests.own)) last pending
      by (inl f) = inr (inl (turned_more h.requests.more more.requests.more IsFencing f.1))
      by (inr m) = inr (inr (inl (turned_more h.requests.more more.requests.more IsMarkersWaiting m.1, m.2)))

  -- the abort wasn't requested, since somebody else had used the number
  pub used_then : {fenced : Bool} (mem : Memory) (r : Refused) (h : IsHalted plan old mid w e g last mem (Refusal r)) (more : UndecidedRequests plan mid new w fenced) → WasNotAsked mid new w mem →
      WasUsed old.seen (h.requests.more ++ more.requests.more) (h.requests.own ++ more.requests.own) w last
  used_then mem r h more n = mine_or (WasUsed old.seen (h.requests.more ++ more.requests.more) (h.requests.own ++ more.requests.own) w last)
      (λ mine.
      let other : touched w (mid.seen ++ more.requests.more) ≢ mem.last = λ same. n.place (ap (touched w) more.requests.seen ∙ same) in
      let counted : suc (accepted_of w h.requests.own) ≤ accepted_of w (h.requests.more ++ more.requests.more) = h.used more.requests.more mine other in
      let none : new.made ≡ mid.made + length more.requests.own = ap (λ (k : PassView Entry (Frame W)). k.made) more.requests.same in
      inl (omega (arith, counted, none, n.made, accepted-append w h.requests.own more.requests.own, accepted_most w more.requests.own)))
      (λ ne. inr ne)

  pub touched_ends : (mem : Memory) (place : ℕ) → IsHalted plan old new w e g last mem (IsTouched place) → IsEnded plan old new w e g last pending Touched
  touched_ends mem place h = record {
    requests = h.requests;
    own = h.undecided;
    fence = h.fence;
    used = λ is. mine_or (WasUsed old.seen h.requests.more h.requests.own w last) (λ mine. inl (omega (arith, h.why mine, accepted_most w h.requests.own))) (λ ne. inr ne);
    cases = mine_or (CommitCases (setup_in plan old.frame) old.seen h.requests.more w e g (length h.requests.own) last pending) (λ is. inr (inr (inr (inl (h.why is))))) (λ ne. inr (inr (inr (inr ne))));
  }

  -- decided, and the markers written
  pub committed_then : (next : Memory) (fs : List WorkView) (c : Contents) → ((t : TaskId) → c.pending t ≡ pending t) → CameToDecision plan old mid w e g last next fs c → Requests plan mid new w →
      ((at (setup_in plan old.frame) new.seen).producer w).waiting ≡ [] → IsCommitted plan old new w e pending
  committed_then next fs c same d more none =
      let all : Requests plan old new w = requests_both plan old mid new w d.decided.requests more in
      record {
        requests = all;
        committed = record {
          before = d.decided.under.requests.more ++ d.decided.others;
          rest = more.more;
          is = ap (λ l. l ++ more.more) d.decided.is ∙ append_assoc (d.decided.under.requests.more ++ d.decided.others) (commit_entry w e ∷ []) more.more;
          offsets = λ t. d.decided.pending d.mine t ∙ same t;
          marked = subst (λ l. ((at (setup_in plan old.frame) l).producer w).waiting ≡ []) all.seen none;
        };
      }

  -- ---- the outcomes
  pub aborted_case : (mem next : Memory) (o : Outcome) → AbortsSo plan mid new w e mem next o → IsEnded plan old new w e g last pending o → HasCase plan old new w e g last pending o
  aborted_case mem next Committed so ends = absurd so
  aborted_case mem next Aborted so ends = ends
  aborted_case mem next Fenced so ends = ends
  aborted_case mem next Touched so ends = ends
  aborted_case mem next Cut so ends = tt

  pub finished_case : (o : Outcome) → FinishesSo ((at (setup_in plan old.frame) new.seen).producer w).waiting o → (((at (setup_in plan old.frame) new.seen).producer w).waiting ≡ [] → IsCommitted plan old new w e pending) →
      HasCase plan old new w e g last pending o
  finished_case Committed so then = then so
  finished_case Cut so then = tt
  finished_case Aborted so then = absurd so
  finished_case Fenced so then = absurd so
  finished_case Touched so then = absurd so
