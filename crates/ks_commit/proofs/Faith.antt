-- A transaction with the works of some tasks, begun between two transactions, is faithful.
use Rattle.std.proofs.Common.{◌≡◌, ℕ, ◌+◌, ◌≤◌, Bool, true, false, cond, ◌&&◌, ◌||◌, List, [], ◌∷◌, ◌++◌, length, Option, Some, None, refl, sym, ap, ap₂, subst, ◌∙◌, arith, append-nil}
use Rattle.std.specs.Prelude.{◌==◌}
use Rattle.std.proofs.lemmas.Bool.{eqb-true, true≢false}
use Rattle.ks_record.specs.Records.{Record as Rec}
use Rattle.ks_record.specs.declared.record.PartId.{PartId}
use Rattle.ks_record.specs.declared.record.TaskId.{TaskId}
use Rattle.ks_record.specs.Parts.{same_part, same_task}
use Rattle.ks_def_runs.specs.Bytes.{empty_store}
use Rattle.ks_def_runs.specs.Run.{Outcome, sent_to}
use Rattle.ks_history.specs.declared.transaction.Pending.{Pending}
use Rattle.ks_history.specs.declared.transaction.Transaction.{Transaction}
use Rattle.ks_history.specs.declared.transaction.Producer.{Producer}
use Rattle.ks_history.specs.Partition.{Logged, stable, readable, decided_from, decision, next_mark, open_from, is_behind, recs, past_from, below}
use Rattle.ks_history.specs.Machine.{Stores, latest, network, machine, part_of, has_topic}
use Rattle.ks_history.specs.State.{State, Setup, has_task, are_once, pending_of, offset_in}
use Rattle.ks_history.specs.Step.{tx_of, no_tx, pending_at}
use Rattle.ks_history.specs.Faithful.{decided, waiting_at, markers_of, marker_among, folds, taken, outcome, capped, pending_offsets, IsFaithfulTask, IsFaithful}
use Rattle.ks_history.proofs.Names.{same_task-is, same_task-refl}
use Rattle.ks_law_exactly_once.proofs.Slots.{Waiting, decided-append, recs-append, stable-append, readable_decided, open_none}
use Rattle.ks_law_exactly_once.proofs.Sound.{Sound}
use Rattle.ks_law_exactly_once.proofs.Commits.{pending_is}
use Rattle.ks_law_exactly_once.proofs.Quiet.{tx_is}
use Rattle.ks_law_restore.specs.Views.{WorkView, pending_work, recs_at}
use Rattle.ks_commit.specs.Alone.{IsIdle}
use Rattle.ks_commit.specs.Sending.{put_for, puts_task, last_pending, Gains, adds_of, puts_in, puts_of, pendings_of}
use Rattle.ks_commit.specs.Committed.{MayCommit, EachMay, tasks_in, AreApart}
use Rattle.ks_commit.proofs.Slots.{sent_next, sent_decided, sent_behind, open_append, complete_behind, idle_complete}
use Rattle.ks_commit.proofs.Gaining.{put_for-append, puts_task-append}

-- ---- works of different tasks
pub once_parts : (t : TaskId) (ts : List TaskId) → are_once (t ∷ ts) ≡ true → (has_task t ts ≡ false) × (are_once ts ≡ true)
once_parts t ts h = by (has_task t ts) refl h
  where
    by : (b : Bool) → has_task t ts ≡ b → cond b false (are_once ts) ≡ true → (has_task t ts ≡ false) × (are_once ts ≡ true)
    by true is h = absurd (true≢false (sym h))
    by false is h = (is, h)

pub or_false : (a b : Bool) → a || b ≡ false → (a ≡ false) × (b ≡ false)
or_false true b h = absurd (true≢false h)
or_false false b h = (refl, h)

-- what a task has of its own outputs, and of another's
own_puts : (t u : TaskId) (q : PartId) (outs : List (PartId × List Rec)) → put_for t q (puts_in u outs) ≡ cond (same_task t u) (recs_at q outs) []
own_puts t u q [] = nothing (same_task t u)
  where
    nothing : (b : Bool) → [] ≡ cond {A = List Rec} b [] []
    nothing true = refl
    nothing false = refl
own_puts t u q (out ∷ outs) = by (same_task t u) (same_part q out.0) (own_puts t u q outs)
  where
    by : (a b : Bool) → put_for t q (puts_in u outs) ≡ cond a (recs_at q outs) [] →
        cond (a && b) (out.1 ++ put_for t q (puts_in u outs)) (put_for t q (puts_in u outs)) ≡ cond a (cond b (out.1 ++ recs_at q outs) (recs_at q outs)) []
    by true true h = ap (λ l. out.1 ++ l) h
    by true false h = h
    by false b h = h

no_puts : (t : TaskId) (q : PartId) (fs : List WorkView) → has_task t (tasks_in fs) ≡ false → put_for t q (puts_of fs) ≡ []
no_puts t q [] h = refl
no_puts t q (f ∷ fs) h =
    let g : (same_task t f.task ≡ false) × (has_task t (tasks_in fs) ≡ false) = or_false (same_task t f.task) (has_task t (tasks_in fs)) h in
    put_for-append t q (puts_in f.task f.outputs) (puts_of fs)
    ∙ ap₂ (λ x y. x ++ y) (own_puts t f.task q f.outputs ∙ ap (λ b. cond b (recs_at q f.outputs) []) g.0) (no_puts t q fs g.1)

pub last_other : (t : TaskId) (fs : List WorkView) (old : Option Pending) → has_task t (tasks_in fs) ≡ false → last_pending t (pendings_of fs) old ≡ old
last_other t [] old h = refl
last_other t (f ∷ fs) old h =
    let g : (same_task t f.task ≡ false) × (has_task t (tasks_in fs) ≡ false) = or_false (same_task t f.task) (has_task t (tasks_in fs)) h in
    ap (λ b. last_pending t (pendings_of fs) (cond b (Some (pending_work f)) old)) g.0 ∙ last_other t fs old g.1

pub last_is : (t : TaskId) (fs : List WorkView) → AreApart fs → last_pending t (pendings_of fs) None ≡ pending_of t (pendings_of fs)
last_is t [] apart = refl
last_is t (f ∷ fs) apart = by (same_task t f.task) refl (last_is t fs parts.1)
  where
    parts : (has_task f.task (tasks_in fs) ≡ false) × (are_once (tasks_in fs) ≡ true)
    parts = once_parts f.task (tasks_in fs) apart

    by : (b : Bool) → same_task t f.task ≡ b → last_pending t (pendings_of fs) None ≡ pending_of t (pendings_of fs) →
        last_pending t (pendings_of fs) (cond b (Some (pending_work f)) None) ≡ cond b (Some (pending_work f)) (pending_of t (pendings_of fs))
    by true is h = last_other t fs (Some (pending_work f)) (subst (λ u. has_task u (tasks_in fs) ≡ false) (sym (same_task-is t f.task is)) parts.0)
    by false is h = h

-- the work whose offsets are pending for a task
pub record Found (setup : Setup) (s : State) (fs : List WorkView) (t : TaskId) (p : Pending) : Type 0 where
  pub work : WorkView
  pub is : p ≡ pending_work work
  pub may : MayCommit setup s work
  pub task : t ≡ work.task
  pub puts : (q : PartId) → put_for work.task q (puts_of fs) ≡ recs_at q work.outputs

pub found : (setup : Setup) (s : State) (fs : List WorkView) → AreApart fs → EachMay setup s fs → (t : TaskId) (p : Pending) → pending_of t (pendings_of fs) ≡ Some p → Found setup s fs t p
found setup s [] apart may t p h = absurd cc
found setup s (f ∷ fs) apart may t p h = by (same_task t f.task) refl h (λ e. found setup s fs (once_parts f.task (tasks_in fs) apart).1 may.1 t p e)
  where
    parts : (has_task f.task (tasks_in fs) ≡ false) × (are_once (tasks_in fs) ≡ true)
    parts = once_parts f.task (tasks_in fs) apart

    here : (q : PartId) → put_for f.task q (puts_of (f ∷ fs)) ≡ recs_at q f.outputs
    here q =
        put_for-append f.task q (puts_in f.task f.outputs) (puts_of fs)
        ∙ ap₂ (λ x y. x ++ y) (own_puts f.task f.task q f.outputs ∙ ap (λ b. cond b (recs_at q f.outputs) []) (same_task-refl f.task)) (no_puts f.task q fs parts.0)
        ∙ append-nil (recs_at q f.outputs)

    by : (b : Bool) → same_task t f.task ≡ b → cond b (Some (pending_work f)) (pending_of t (pendings_of fs)) ≡ Some p → (pending_of t (pendings_of fs) ≡ Some p → Found setup s fs t p) → Found setup s (f ∷ fs) t p
    by true is e more = record { work = f; is = cc; may = may.0; task = same_task-is t f.task is; puts = here }
    by false is e more =
        let g : Found setup s fs t p = more e in
        record {
          work = g.work;
          is = g.is;
          may = g.may;
          task = g.task;
          puts = λ q. put_for-append g.work.task q (puts_in f.task f.outputs) (puts_of fs)
              ∙ ap₂ (λ x y. x ++ y) (own_puts g.work.task f.task q f.outputs ∙ ap (λ b. cond b (recs_at q f.outputs) []) (subst (λ k. same_task k f.task ≡ false) g.task is)) (g.puts q);
        }

others_puts : (t u : TaskId) (outs : List (PartId × List Rec)) → same_task t u ≡ false → puts_task t (puts_in u outs) ≡ false
others_puts t u [] h = refl
others_puts t u (out ∷ outs) h = ap (λ b. b || puts_task t (puts_in u outs)) h ∙ others_puts t u outs h

pub puts_named : (t : TaskId) (fs : List WorkView) → puts_task t (puts_of fs) ≡ true → (p : Pending) × (pending_of t (pendings_of fs) ≡ Some p)
puts_named t [] h = absurd (true≢false (sym h))
puts_named t (f ∷ fs) h = by (same_task t f.task) refl (λ g. puts_named t fs g)
  where
    by : (b : Bool) → same_task t f.task ≡ b → (puts_task t (puts_of fs) ≡ true → (p : Pending) × (pending_of t (pendings_of fs) ≡ Some p)) → (p : Pending) × (cond b (Some (pending_work f)) (pending_of t (pendings_of fs)) ≡ Some p)
    by true is more = (pending_work f, refl)
    by false is more = more (sym (puts_task-append t (puts_in f.task f.outputs) (puts_of fs) ∙ ap (λ b. b || puts_task t (puts_of fs)) (others_puts t f.task f.outputs is)) ∙ h)

-- ---- the state in which the works are sent
module _ (setup : Setup) (s new : State) (w : ℕ) (fs : List WorkView) (sound : Sound setup s) (idle : IsIdle s) (gains : Gains s new w (adds_of fs) (puts_of fs) (pendings_of fs)) where
  pub no_wait : (v : ℕ) → (new.producer v).waiting ≡ []
  no_wait v = by (v == w) refl
    where
      by : (b : Bool) → (v == w) ≡ b → (new.producer v).waiting ≡ []
      by true is = ap (λ k. (new.producer k).waiting) (eqb-true v w is) ∙ gains.waiting ∙ (idle w).1
      by false is = ap (λ (p : Producer). p.waiting) (gains.others v is) ∙ (idle v).1

  abbrev waits : PartId → Waiting
  waits q = waiting_at (markers_of new) q

  none_waits : (q : PartId) (v d : ℕ) → waiting_at (markers_of new) q v d ≡ None
  none_waits q v d = ap (marker_among q d) (no_wait v)

  unmarked : (q : PartId) (v d : ℕ) → next_mark v d (gains.slots q) ≡ None
  unmarked q = sent_next w (s.producer w).epoch (gains.slots q) (gains.sent q)

  pub decided_same : (q : PartId) → decided new q ≡ decided s q
  decided_same q =
      ap (decided_from (waiting_at (markers_of new) q) 0) (gains.partition q)
      ∙ decided-append (waiting_at (markers_of new) q) 0 (length (s.partition q)) (s.partition q) (gains.slots q) (omega arith)
      ∙ ap₂ (λ x y. x ++ y)
      (ap (λ (m : Waiting). decided_from m 0 (s.partition q)) (λ i v d. same v d i))
      (sent_decided w (s.producer w).epoch (gains.slots q) (gains.sent q) (waiting_at (markers_of new) q) (none_waits q) (length (s.partition q)))
      ∙ append-nil (decided s q)
    where
      same : (v d : ℕ) → decision (next_mark v d (gains.slots q)) (waiting_at (markers_of new) q v d) ≡ waiting_at (markers_of s) q v d
      same v d = ap₂ decision (unmarked q v d) (none_waits q v d) ∙ sym (ap (marker_among q d) (idle v).1)

  stable_grows : (q : PartId) → stable (s.partition q) ≤ stable (new.partition q)
  stable_grows q = subst (λ l. stable (s.partition q) ≤ stable l) (sym (gains.partition q)) (stable-append (s.partition q) (gains.slots q))

  readable_same : (q : PartId) (high : ℕ) → high ≤ stable (s.partition q) → below high (readable (new.partition q)) ≡ below high (readable (s.partition q))
  readable_same q high h =
      readable_decided (waiting_at (markers_of new) q) high 0 (new.partition q) (omega (arith, h, stable_grows q))
      ∙ ap (below high) (decided_same q)
      ∙ sym (readable_decided (waiting_at (markers_of s) q) high 0 (s.partition q) (omega (arith, h)))

  folds_same : (t : TaskId) → folds setup new t ≡ folds setup s t
  folds_same t i topic = cond (has_topic topic (setup.plan.changelogs t.sub)) (latest (recs (decided_same (part_of topic t) i))) empty_store

  taken_same : (t : TaskId) (upto : ℕ → ℕ) → ((topic : ℕ) → has_topic topic (setup.plan.inputs t.sub) ≡ true → upto topic ≤ stable (s.partition (part_of topic t))) → taken setup new t upto ≡ taken setup s t upto
  taken_same t upto h i topic = by (has_topic topic (setup.plan.inputs t.sub)) refl i
    where
      by : (b : Bool) → has_topic topic (setup.plan.inputs t.sub) ≡ b →
          cond b (past_from (new.committed t topic) (below (upto topic) (readable (new.partition (part_of topic t))))) [] ≡ cond b (past_from (s.committed t topic) (below (upto topic) (readable (s.partition (part_of topic t))))) []
      by true is = ap₂ past_from (ap (λ (c : TaskId → ℕ → ℕ). c t topic) gains.committed) (readable_same (part_of topic t) (upto topic) (h topic is))
      by false is = refl

  upto_same : (p : Pending) → pending_offsets new p ≡ pending_offsets s p
  upto_same p = ap {B = ℕ → ℕ} (λ (c : TaskId → ℕ → ℕ) topic. offset_in (c p.task topic) topic p.offsets) gains.committed

  module _ (f : WorkView) (may : MayCommit setup s f) (puts : (q : PartId) → put_for f.task q (puts_of fs) ≡ recs_at q f.outputs) where
    reads_same : taken setup new f.task (pending_offsets new (pending_work f)) ≡ taken setup s f.task (pending_offsets s (pending_work f))
    reads_same = ap (taken setup new f.task) (upto_same (pending_work f)) ∙ taken_same f.task (pending_offsets s (pending_work f)) may.work.stable

    makes_same : outcome setup new f.task (pending_offsets new (pending_work f)) f.order ≡ outcome setup s f.task (pending_offsets s (pending_work f)) f.order
    makes_same = ap₂ (λ (stores : Stores) (inputs : ℕ → List Logged). machine setup.plan f.task stores inputs f.order) (folds_same f.task) reads_same

    opened : (q : PartId) → recs (open_from w (new.producer w).epoch f.task 0 (new.partition q)) ≡ recs_at q f.outputs
    opened q =
        let e = (s.producer w).epoch in
        ap₂ (λ d l. recs (open_from w d f.task 0 l)) gains.epoch (gains.partition q)
        ∙ ap recs (open_append w e f.task 0 (s.partition q) (gains.slots q) (unmarked q w e))
        ∙ recs-append (open_from w e f.task 0 (s.partition q)) (open_from w e f.task (0 + length (s.partition q)) (gains.slots q))
        ∙ ap₂ (λ x y. x ++ y)
        (ap recs (open_none (λ w e t. ⊥) w e f.task (λ task g. same_task-is f.task task g) (λ no. no) 0 (s.partition q) (idle_complete setup s sound idle q)))
        (gains.records f.task q (0 + length (s.partition q)))
        ∙ puts q

    pub task_faithful : IsFaithfulTask setup new w (pending_work f)
    task_faithful = record {
      inputs = may.work.inputs;
      committed = λ topic. subst (λ (c : TaskId → ℕ → ℕ). c f.task topic ≤ offset_in (c f.task topic) topic f.offsets) (sym gains.committed) (may.work.committed topic);
      stable = λ topic h. omega (arith, ap (λ (u : ℕ → ℕ). u topic) (upto_same (pending_work f)), may.work.stable topic h, stable_grows (part_of topic f.task));
      order = λ topic. may.work.order topic ∙ ap (λ (l : ℕ → List Logged). length (l topic)) (sym reads_same);
      made = λ q. ap (λ (o : Outcome PartId Stores Rec). sent_to (network setup.plan) q o.made) makes_same ∙ may.work.made q ∙ sym (opened q);
      late = ap (λ (o : Outcome PartId Stores Rec). capped o.late) makes_same ∙ may.work.late;
      behind = λ q. subst (λ l. is_behind (waiting_at (markers_of new) q) w (new.producer w).epoch f.task l ≡ true) (sym (gains.partition q))
          (complete_behind (s.partition q) (gains.slots q) (idle_complete setup s sound idle q) (waiting_at (markers_of new) q) w (new.producer w).epoch f.task
          (sent_behind w (s.producer w).epoch (gains.slots q) (gains.sent q) (waiting_at (markers_of new) q) (none_waits q) w (new.producer w).epoch f.task));
    }

  none_before : (t : TaskId) → pending_of t (pending_at (s.producer w)) ≡ None
  none_before t = ap (λ (u : Option Transaction). pending_of t (elim u as (λ _. List Pending) [ None ↦ [] | Some tx ↦ tx.pending ])) (idle w).0

  -- what is pending of each task
  pub pending_now : AreApart fs → (t : TaskId) → pending_of t (pending_at (new.producer w)) ≡ pending_of t (pendings_of fs)
  pending_now apart t = gains.pending t ∙ ap (last_pending t (pendings_of fs)) (none_before t) ∙ last_is t fs apart

  pub is_faithful : AreApart fs → EachMay setup s fs → (tx : Transaction) → (new.producer w).undecided ≡ Some tx → IsFaithful setup new w tx
  is_faithful apart may tx is = record {
    named = λ t h.
        let n = puts_named t fs (puts t h) in
        (n.0, pending t ∙ n.1);
    each = λ t p h.
        let g : Found setup s fs t p = found setup s fs apart may t p (sym (pending t) ∙ h) in
        subst (IsFaithfulTask setup new w) (sym g.is) (task_faithful g.work g.may g.puts);
  }
    where
      pending : (t : TaskId) → pending_of t tx.pending ≡ pending_of t (pendings_of fs)
      pending t = ap (pending_of t) (sym (pending_is (new.producer w) tx is)) ∙ pending_now apart t

      none_named : (t : TaskId) → has_task t (tx_of (s.producer w)).tasks ≡ false
      none_named t = ap (λ (u : Option Transaction). has_task t (elim u as (λ _. Transaction) [ None ↦ no_tx | Some tx ↦ tx ]).tasks) (idle w).0

      puts : (t : TaskId) → has_task t tx.tasks ≡ true → puts_task t (puts_of fs) ≡ true
      puts t h = sym (gains.tasks t ∙ ap (λ b. b || puts_task t (puts_of fs)) (none_named t)) ∙ ap (λ (x : Transaction). has_task t x.tasks) (tx_is (new.producer w) tx is) ∙ h
