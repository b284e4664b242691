-- While the generation stays, only the worker at which a task is active commits for it.
use Rattle.std.proofs.Common.{◌≡◌, ◌≢◌, ℕ, ◌+◌, ◌≤◌, Bool, true, false, not, cond, List, [], ◌∷◌, ◌++◌, Option, Some, None, refl, sym, ap, ◌∙◌, arith, ⊎_elim}
use Rattle.std.specs.Prelude.{◌==◌}
use Rattle.std.proofs.lemmas.Bool.{eqb-true, true≢false, cases_eq}
use Rattle.ks_record.specs.declared.record.TaskId.{TaskId}
use Rattle.ks_record.specs.declared.assignment.Refused.{Refused}
use Rattle.ks_record.specs.declared.assignment.Refused.TheVariants.{NotAssigned}
use Rattle.ks_record.specs.declared.assignment.Assignment.{Assignment}
use Rattle.ks_record.specs.declared.assignment.Marker.{Marker}
use Rattle.ks_record.specs.Parts.{same_task, task_lt}
use Rattle.ks_history.specs.declared.partition.Slot.TheVariants.{Mark}
use Rattle.ks_history.specs.declared.journal.Request.{Request}
use Rattle.ks_history.specs.declared.journal.Request.TheVariants.{Produce, Init, Add, Append, SendOffsets, Decide, MarkNext, Join, Expire, Hold, Probe, Assign, Park, Unpark}
use Rattle.ks_history.specs.declared.journal.Entry.{Entry}
use Rattle.ks_history.specs.declared.transaction.Pending.{Pending}
use Rattle.ks_history.specs.declared.transaction.Transaction.{Transaction}
use Rattle.ks_history.specs.declared.transaction.Producer.{Producer}
use Rattle.ks_history.specs.Partition.{is_none}
use Rattle.ks_history.specs.State.{State, Setup, start, with_number, grown, pending_of, with_pending, without_number}
use Rattle.ks_history.specs.Step.{refusal, state_by, pending_at, owner, place_in, has_pending, not_assigned, fenced, old_generation, or_else, markers_waiting, unstable_beside, renewed, closed, can_expire, tx_of}
use Rattle.ks_history.specs.History.{state_after, at}
use Rattle.ks_history.proofs.Histories.{state_after-append}
use Rattle.ks_history.proofs.Names.{same_task-is}
use Rattle.ks_law_exactly_once.proofs.Quiet.{tx_pending}
use Rattle.ks_law_exactly_once.proofs.Refusals.{both_none, closed_undecided}
use Rattle.ks_law_restore.specs.Commits.{commit_by, commits_by, commits_for, AllBy}
use Rattle.ks_law_restore.specs.Laws.{OwnerCommits}

-- ---- the generation never falls
rises : (setup : Setup) (s : State) (request : Request) (r : Option Refused) → s.generation ≤ (state_by s request r).generation
rises setup s request (Some refused) = omega arith
rises setup s (Produce p rec) None = omega arith
rises setup s (Init w) None = omega arith
rises setup s (Add w e p) None = omega arith
rises setup s (Append w e number t p rs) None = omega arith
rises setup s (SendOffsets w e g t offsets order late) None = omega arith
rises setup s (Decide w e commit) None = omega arith
rises setup s (MarkNext w) None = by (s.producer w).waiting
  where
    by : (ms : List Marker) → s.generation ≤ (elim ms as (λ _. State) [
      | [] ↦ s
      | m ∷ ms ↦ record s {
        partition = grown s.partition m.part (Mark w m.epoch m.commit ∷ []);
        producer = with_number s.producer w (record (s.producer w) { waiting = ms });
      }
    ]).generation
    by [] = omega arith
    by (m ∷ ms) = omega arith
rises setup s (Join w) None = omega arith
rises setup s (Expire w) None = by (can_expire s w)
  where
    by : (b : Bool) → s.generation ≤ (cond b (record s {
      producer = with_number s.producer w (renewed (s.producer w));
      members = without_number w s.members;
      held = with_number s.held w [];
      generation = s.generation + 1;
      assignment = None;
    }) s).generation
    by true = omega arith
    by false = omega arith
rises setup s (Hold w held) None = omega arith
rises setup s (Probe w g) None = omega arith
rises setup s (Assign w g a) None = by s.assignment
  where
    by : (o : Option Assignment) → s.generation ≤ (elim o as (λ _. State) [ None ↦ record s { assignment = Some a } | Some b ↦ s ]).generation
    by None = omega arith
    by (Some b) = omega arith
rises setup s (Park instance t) None = omega arith
rises setup s (Unpark instance t) None = omega arith

rises_after : (setup : Setup) (entries : List Entry) (s : State) → s.generation ≤ (state_after setup s entries).generation
rises_after setup [] s = omega arith
rises_after setup (entry ∷ entries) s = omega (arith, rises setup s entry.request (refusal setup s entry.request), rises_after setup entries (state_by s entry.request (refusal setup s entry.request)))

-- ---- what is pending at a producer
pub pending_is : (p : Producer) (t : TaskId) → has_pending p t ≡ not (is_none (pending_of t (pending_at p)))
pending_is p t = by p.undecided
  where
    by : (u : Option Transaction) → (elim u as (λ _. Bool) [ None ↦ false | Some tx ↦ not (is_none (pending_of t tx.pending)) ]) ≡ not (is_none (pending_of t (elim u as (λ _. List Pending) [ None ↦ [] | Some tx ↦ tx.pending ])))
    by None = refl
    by (Some tx) = refl

pub pending_tx : (p : Producer) (t : TaskId) → has_pending p t ≡ not (is_none (pending_of t (tx_of p).pending))
pending_tx p t = pending_is p t ∙ ap (λ l. not (is_none (pending_of t l))) (tx_pending p)

pub none_left : (p : Producer) (t : TaskId) → p.undecided ≡ None → has_pending p t ≡ false
none_left p t h = ap (λ (u : Option Transaction). elim u as (λ _. Bool) [ None ↦ false | Some tx ↦ not (is_none (pending_of t tx.pending)) ]) h

-- offsets of another task
other_pending : (t : TaskId) (new : Pending) (ps : List Pending) → same_task t new.task ≡ false → pending_of t (with_pending new ps) ≡ pending_of t ps
other_pending t new [] ne = ap (λ b. cond b (Some new) None) ne
other_pending t new (p ∷ ps) ne = by (same_task new.task p.task) (task_lt new.task p.task) refl (other_pending t new ps ne)
  where
    here : (rest : List Pending) → pending_of t (new ∷ rest) ≡ pending_of t rest
    here rest = ap (λ b. cond b (Some new) (pending_of t rest)) ne

    by : (a b : Bool) → same_task new.task p.task ≡ a → pending_of t (with_pending new ps) ≡ pending_of t ps → pending_of t (cond a (new ∷ ps) (cond b (new ∷ p ∷ ps) (p ∷ with_pending new ps))) ≡ pending_of t (p ∷ ps)
    by true b is e = here ps ∙ ap (λ c. cond c (Some p) (pending_of t ps)) (sym (ap (same_task t) (sym (same_task-is new.task p.task is)) ∙ ne))
    by false true is e = here (p ∷ ps)
    by false false is e = ap (λ o. cond (same_task t p.task) (Some p) o) e

-- an assigned worker is the owner
pub is_owner : (s : State) (v : ℕ) (t : TaskId) → not_assigned s v t ≡ None → owner s t ≡ Some v
is_owner s v t h = by (owner s t) refl h
  where
    by : (o : Option ℕ) → owner s t ≡ o → (elim o as (λ _. Option Refused) [ None ↦ Some (NotAssigned None) | Some k ↦ cond (k == v) None (Some (NotAssigned (Some k))) ]) ≡ None → owner s t ≡ Some v
    by None e g = absurd cc
    by (Some k) e g = same (k == v) refl g
      where
        same : (b : Bool) → (k == v) ≡ b → cond b None (Some (NotAssigned (Some k))) ≡ None → owner s t ≡ Some v
        same true is l = e ∙ ap (λ n. Some n) (eqb-true k v is)
        same false is l = absurd cc

-- ---- the worker at which the task is active is the only one with pending offsets of it
module _ (setup : Setup) (t : TaskId) (w : ℕ) where
  record Owns (s : State) : Type 0 where
    own : owner s t ≡ Some w
    none : (v : ℕ) → v ≢ w → has_pending (s.producer v) t ≡ false

  -- one producer in place of another
  placed : (s : State) (v : ℕ) (p : Producer) → Owns s → (v ≢ w → has_pending p t ≡ false) → (k : ℕ) → k ≢ w → has_pending (with_number s.producer v p k) t ≡ false
  placed s v p owns f k ne = by (k == v) refl
    where
      by : (b : Bool) → (k == v) ≡ b → has_pending (cond b p (s.producer k)) t ≡ false
      by true is = f (λ e. ne (eqb-true k v is ∙ e))
      by false is = owns.none k ne

  abbrev Next : State → Request → Option Refused → Type 0
  Next s request r = Owns (state_by s request r) × AllBy w (commits_by s request r t)

  same_pending : (s : State) (v : ℕ) → Owns s → v ≢ w → not (is_none (pending_of t (tx_of (s.producer v)).pending)) ≡ false
  same_pending s v owns ne = sym (pending_tx (s.producer v) t) ∙ owns.none v ne

  offsets_step : (s : State) (v : ℕ) (new : Pending) → Owns s → not_assigned s v new.task ≡ None → v ≢ w → not (is_none (pending_of t (with_pending new (tx_of (s.producer v)).pending))) ≡ false
  offsets_step s v new owns assigned ne = by (same_task t new.task) refl
    where
      by : (b : Bool) → same_task t new.task ≡ b → not (is_none (pending_of t (with_pending new (tx_of (s.producer v)).pending))) ≡ false
      by true is =
          let e : Some v ≡ Some w = sym (is_owner s v new.task assigned) ∙ ap (owner s) (sym (same_task-is t new.task is)) ∙ owns.own in
          let f : v ≡ w = cc in
          absurd (ne f)
      by false is = ap (λ o. not (is_none o)) (other_pending t new (tx_of (s.producer v)).pending is) ∙ same_pending s v owns ne

  by_owner : (s : State) (v : ℕ) → Owns s → AllBy w (commit_by v (pending_of t (pending_at (s.producer v))))
  by_owner s v owns = by (pending_of t (pending_at (s.producer v))) refl
    where
      by : (o : Option Pending) → pending_of t (pending_at (s.producer v)) ≡ o → AllBy w (commit_by v o)
      by None h = tt
      by (Some p) h = (
        ⊎_elim
            (λ (e : v ≡ w). e)
            (λ (ne : v ≡ w → ⊥). absurd (true≢false (ap (λ o. not (is_none o)) (sym h) ∙ sym (pending_is (s.producer v) t) ∙ owns.none v ne)))
            (cases_eq v w),
        tt,
      )

  step : (s : State) (request : Request) (r : Option Refused) → refusal setup s request ≡ r → (state_by s request r).generation ≡ s.generation → Owns s → Next s request r
  step s (Produce p rec) (Some refused) is same owns = (owns, tt)
  step s (Produce p rec) None is same owns = (record { own = owns.own; none = owns.none }, tt)
  step s (Init v) (Some refused) is same owns = (owns, tt)
  step s (Init v) None is same owns = (record { own = owns.own; none = placed s v _ owns (λ ne. none_left (renewed (s.producer v)) t (closed_undecided (s.producer v) false)) }, tt)
  step s (Add v e p) (Some refused) is same owns = (owns, tt)
  step s (Add v e p) None is same owns = (record { own = owns.own; none = placed s v _ owns (same_pending s v owns) }, tt)
  step s (Append v e number u p rs) (Some refused) is same owns = (owns, tt)
  step s (Append v e number u p rs) None is same owns = (record { own = owns.own; none = placed s v _ owns (same_pending s v owns) }, tt)
  step s (SendOffsets v e g u offsets order late) (Some refused) is same owns = (owns, tt)
  step s (SendOffsets v e g u offsets order late) None is same owns =
      let last : Option Refused = or_else (markers_waiting (s.producer v)) (unstable_beside s v u) in
      let a = both_none (fenced (s.producer v) e) (or_else (old_generation s g) (or_else (not_assigned s v u) last)) is in
      let b = both_none (old_generation s g) (or_else (not_assigned s v u) last) a.1 in
      let c = both_none (not_assigned s v u) last b.1 in
      (record { own = owns.own; none = placed s v _ owns (offsets_step s v (record { task = u; offsets = offsets; order = order; late = late }) owns c.0) }, tt)
  step s (Decide v e true) (Some refused) is same owns = (owns, tt)
  step s (Decide v e true) None is same owns = (record { own = owns.own; none = placed s v _ owns (λ ne. none_left (closed (s.producer v) true) t (closed_undecided (s.producer v) true)) }, by_owner s v owns)
  step s (Decide v e false) (Some refused) is same owns = (owns, tt)
  step s (Decide v e false) None is same owns = (record { own = owns.own; none = placed s v _ owns (λ ne. none_left (closed (s.producer v) false) t (closed_undecided (s.producer v) false)) }, tt)
  step s (MarkNext v) (Some refused) is same owns = (owns, tt)
  step s (MarkNext v) None is same owns = (by (s.producer v).waiting, tt)
    where
      by : (ms : List Marker) → Owns (elim ms as (λ _. State) [
        | [] ↦ s
        | m ∷ ms ↦ record s {
          partition = grown s.partition m.part (Mark v m.epoch m.commit ∷ []);
          producer = with_number s.producer v (record (s.producer v) { waiting = ms });
        }
      ])
      by [] = owns
      by (m ∷ ms) = record { own = owns.own; none = placed s v _ owns (owns.none v) }
  step s (Join v) (Some refused) is same owns = (owns, tt)
  step s (Join v) None is same owns = absurd (omega (arith, same))
  step s (Expire v) (Some refused) is same owns = (owns, tt)
  step s (Expire v) None is same owns = (by (can_expire s v) same, tt)
    where
      by : (b : Bool) → (cond b (record s {
        producer = with_number s.producer v (renewed (s.producer v));
        members = without_number v s.members;
        held = with_number s.held v [];
        generation = s.generation + 1;
        assignment = None;
      }) s).generation ≡ s.generation → Owns (cond b (record s {
        producer = with_number s.producer v (renewed (s.producer v));
        members = without_number v s.members;
        held = with_number s.held v [];
        generation = s.generation + 1;
        assignment = None;
      }) s)
      by true e = absurd (omega (arith, e))
      by false e = owns
  step s (Hold v held) (Some refused) is same owns = (owns, tt)
  step s (Hold v held) None is same owns = (record { own = owns.own; none = owns.none }, tt)
  step s (Probe v g) (Some refused) is same owns = (owns, tt)
  step s (Probe v g) None is same owns = absurd (omega (arith, same))
  step s (Assign v g a) (Some refused) is same owns = (owns, tt)
  step s (Assign v g a) None is same owns = (by s.assignment refl, tt)
    where
      by : (o : Option Assignment) → s.assignment ≡ o → Owns (elim o as (λ _. State) [ None ↦ record s { assignment = Some a } | Some b ↦ s ])
      by None h =
          let e : None ≡ Some w = sym (ap (λ (o : Option Assignment). elim o as (λ _. Option ℕ) [ None ↦ None | Some b ↦ place_in t s.members b.active ]) h) ∙ owns.own in
          absurd cc
      by (Some b) h = owns
  step s (Park instance u) (Some refused) is same owns = (owns, tt)
  step s (Park instance u) None is same owns = (record { own = owns.own; none = owns.none }, tt)
  step s (Unpark instance u) (Some refused) is same owns = (owns, tt)
  step s (Unpark instance u) None is same owns = (record { own = owns.own; none = owns.none }, tt)

  both_by : (xs ys : List (ℕ × Pending)) → AllBy w xs → AllBy w ys → AllBy w (xs ++ ys)
  both_by [] ys a b = b
  both_by (x ∷ xs) ys a b = (a.0, both_by xs ys a.1 b)

  all_by : (entries : List Entry) (s : State) → (state_after setup s entries).generation ≡ s.generation → Owns s → AllBy w (commits_for setup s entries t)
  all_by [] s same owns = tt
  all_by (entry ∷ entries) s same owns =
      let r : Option Refused = refusal setup s entry.request in
      let first : s.generation ≤ (state_by s entry.request r).generation = rises setup s entry.request r in
      let rest : (state_by s entry.request r).generation ≤ (state_after setup (state_by s entry.request r) entries).generation = rises_after setup entries (state_by s entry.request r) in
      let one : Next s entry.request r = step s entry.request r refl (omega (arith, first, rest, same)) owns in
      both_by (commits_by s entry.request r t) (commits_for setup (state_by s entry.request r) entries t) one.1
      (all_by entries (state_by s entry.request r) (omega (arith, first, rest, same)) one.0)

pub owner_commits : OwnerCommits
owner_commits setup journal more t w same own none =
    all_by setup t w more (at setup journal) (ap (λ (s : State). s.generation) (sym (state_after-append setup start journal more)) ∙ same)
    (record { own = own; none = λ v ne. none v })
