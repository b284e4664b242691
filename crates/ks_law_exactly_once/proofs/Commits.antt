-- A faithful commit is some steps of the run.
use Rattle.std.proofs.Common.{◌≡◌, ◌≢◌, ℕ, ◌+◌, ◌≤◌, Bool, true, false, cond, ◌&&◌, ◌||◌, ◌⊎◌, inl, inr, List, [], ◌∷◌, ◌++◌, take, fold, map, Option, Some, None, refl, sym, ap, ap₂, subst, ◌∙◌, arith, append-nil, ⊎_elim}
use Rattle.std.specs.Prelude.{◌==◌, min, ◌^◌, ◌-◌}
use Rattle.std.proofs.lemmas.Bool.{and_parts, and_from, eqb-true, eq-eqb, ne_eqb, true≢false, cases_eq, or_parts}
use Rattle.std.proofs.lemmas.List.Sums.{sum_by-cons}
use Rattle.std.proofs.lemmas.List.Sorted.{sum_by-IsPermutation}
use Rattle.std.specs.List.{sum_by}
use Rattle.std.specs.List.Sorted.{IsPermutation}
use Rattle.ks_record.specs.Records.{Record as Rec}
use Rattle.ks_record.specs.declared.record.PartId.{PartId}
use Rattle.ks_record.specs.declared.record.TaskId.{TaskId}
use Rattle.ks_def_runs.specs.Bytes.{empty_store}
use Rattle.ks_record.specs.Parts.{same_part, same_task}
use Rattle.ks_history.specs.declared.transaction.Pending.{Pending}
use Rattle.ks_history.specs.declared.transaction.Transaction.{Transaction}
use Rattle.ks_history.specs.declared.transaction.Producer.{Producer}
use Rattle.ks_history.specs.declared.journal.Request.TheVariants.{Decide}
use Rattle.ks_def_runs.specs.Run.{Outcome, RunState, sent_to, received, local, sent_by, late_all, advance, channel}
use Rattle.ks_def_runs.proofs.Readers.{NoneReads, AllRead, NoneReads-append, other_reads, local_skip, local_only, received_none, with_store, late_one}
use Rattle.ks_def_runs.proofs.Runs.{received-append}
use Rattle.ks_def_runs.proofs.Takes.{Took, take_all}
use Rattle.ks_history.specs.Faithful.{pending_offsets, decided, fold as fold_of, folds, taken, marker_among, waiting_at, markers_of, count_in, IsFaithful, IsFaithfulTask}
use Rattle.ks_history.specs.Machine.{TaskPlan, Stores, network, reader_of, part_of, latest, latest_from, has_topic, IsNetwork}
use Rattle.ks_history.specs.Partition.{Logged, stable, recs, by_sender, past_from, below, decided_from, readable_from, open_from, is_behind}
use Rattle.ks_history.specs.Replay.{takes, takes_of}
use Rattle.ks_history.specs.State.{State, Setup, has_part, has_task, pending_of, offset_in, late_in}
use Rattle.ks_history.specs.Step.{markers_for, effect, closed, pending_at}
use Rattle.ks_history.proofs.Names.{same_task-is, same_task-refl, has_names}
use Rattle.ks_law_exactly_once.proofs.Batches.{take_whole, received-batch, batch-read}
use Rattle.ks_law_exactly_once.proofs.Order.{none_above}
use Rattle.ks_law_exactly_once.proofs.Slots.{task_grows, plain_same, by_sender-append, recs-append, past_from-append, by_sender-past_from, past_split, decided_rises, readable_decided, open_past, open_none, behind_none, nothing_between, Open-map}
use Rattle.ks_law_exactly_once.proofs.Sound.{Shows, IsOfTx, Owned, Distinct, Sound}
use Rattle.ks_law_exactly_once.proofs.Stores.{latest_from-append, only_sender, recs_nothing, local-told, local-other, local-own}

pub eqb_sym : (a b : ℕ) → (a == b) ≡ (b == a)
eqb_sym a b = ⊎_elim
    (λ (e : a ≡ b). eq-eqb a b e ∙ sym (eq-eqb b a (sym e)))
    (λ (ne : a ≡ b → ⊥). ne_eqb a b ne ∙ sym (ne_eqb b a (λ e. ne (sym e))))
    (cases_eq a b)

-- ---- the markers of a decision
markers_step : (here there epoch : Bool) (commit : Bool) (more : Option Bool) → more ≡ cond (there && epoch) (Some commit) None → cond (here && epoch) (Some commit) more ≡ cond ((here || there) && epoch) (Some commit) None
markers_step true there true commit more e = refl
markers_step true true false commit more e = e
markers_step true false false commit more e = e
markers_step false there epoch commit more e = e

pub marker_among-markers_for : (q : PartId) (d e : ℕ) (commit : Bool) (parts : List PartId) → marker_among q d (markers_for e commit parts) ≡ cond (has_part q parts && (d == e)) (Some commit) None
marker_among-markers_for q d e commit [] = refl
marker_among-markers_for q d e commit (p ∷ ps) = markers_step (same_part q p) (has_part q ps) (d == e) commit _ (marker_among-markers_for q d e commit ps)

pub closed_waiting : (p : Producer) (commit : Bool) (tx : Transaction) → p.undecided ≡ Some tx → (closed p commit).waiting ≡ p.waiting ++ markers_for p.epoch commit tx.parts
closed_waiting p commit tx is =
    ap (λ (u : Option Transaction). (elim u as (λ _. Producer) [ None ↦ p | Some tx ↦ record p { undecided = None; waiting = p.waiting ++ markers_for p.epoch commit tx.parts; last = Some commit } ]).waiting) is

pub pending_is : (p : Producer) (tx : Transaction) → p.undecided ≡ Some tx → pending_at p ≡ tx.pending
pending_is p tx is = ap (λ (u : Option Transaction). elim u as (λ _. List Pending) [ None ↦ [] | Some tx ↦ tx.pending ]) is

-- ---- the pending ones, one by one
abbrev pub EachPending : (Pending → Type 0) → List Pending → Type 0
EachPending P [] = Unit {0}
EachPending P (p ∷ ps) = P p × EachPending P ps

pub each_pending : (F : Pending → Type 0) (ps : List Pending) → Distinct ps → ((t : TaskId) (p : Pending) → pending_of t ps ≡ Some p → F p) → EachPending F ps
each_pending F [] distinct f = tt
each_pending F (p ∷ ps) distinct f = (
  f p.task p (ap (λ b. cond b (Some p) (pending_of p.task ps)) (same_task-refl p.task)),
  each_pending F ps distinct.1 (λ t x is. f t x (by t x is (same_task t p.task) refl)),
)
  where
    by : (t : TaskId) (x : Pending) → pending_of t ps ≡ Some x → (b : Bool) → same_task t p.task ≡ b → cond b (Some p) (pending_of t ps) ≡ Some x
    by t x is true e =
        let other : pending_of t ps ≡ None = ap (λ u. pending_of u ps) (same_task-is t p.task e) ∙ none_above p.task ps distinct.0 in
        absurd cc
    by t x is false e = is

-- offsets that name inputs alone
no_topic : (topic : ℕ) (xs : List ℕ) → has_topic topic xs ≡ false → sum_by (λ n. cond (topic == n) 1 0) xs ≡ 0
no_topic topic [] h = refl
no_topic topic (x ∷ xs) h =
    let parts = or_parts (topic == x) (has_topic topic xs) h in
    sum_by-cons (λ n. cond (topic == n) 1 0) x xs ∙ ap (λ b. cond {A = ℕ} b 1 0 + sum_by (λ n. cond (topic == n) 1 0) xs) parts.0 ∙ omega (arith, no_topic topic xs parts.1)

not_named : (old topic : ℕ) (offsets : List (ℕ × ℕ)) → sum_by (λ n. cond (topic == n) 1 0) (map (λ (o : ℕ × ℕ). o.0) offsets) ≡ 0 → offset_in old topic offsets ≡ old
not_named old topic [] h = refl
not_named old topic (o ∷ os) h = by (topic == o.0) (sym (sum_by-cons (λ n. cond (topic == n) 1 0) o.0 (map (λ (o : ℕ × ℕ). o.0) os)) ∙ h) (λ g. not_named old topic os g)
  where
    by : (b : Bool) → cond b 1 0 + sum_by (λ n. cond (topic == n) 1 0) (map (λ (o : ℕ × ℕ). o.0) os) ≡ 0
        → (sum_by (λ n. cond (topic == n) 1 0) (map (λ (o : ℕ × ℕ). o.0) os) ≡ 0 → offset_in old topic os ≡ old) → cond b o.1 (offset_in old topic os) ≡ old
    by true e f = absurd (omega (arith, e))
    by false e f = f (omega (arith, e))

pub only_inputs : (inputs : List ℕ) (old topic : ℕ) (offsets : List (ℕ × ℕ)) → IsPermutation inputs (map (λ (o : ℕ × ℕ). o.0) offsets) → has_topic topic inputs ≡ false → offset_in old topic offsets ≡ old
only_inputs inputs old topic offsets perm h = not_named old topic offsets (sum_by-IsPermutation (λ n. cond (topic == n) 1 0) inputs _ perm ∙ no_topic topic inputs h)

module _ (setup : Setup) (net : IsNetwork setup.plan) (s : State) (w : ℕ) where
  abbrev plan : TaskPlan
  plan = setup.plan

  reads_own : (t : TaskId) (topic : ℕ) → has_topic topic (setup.plan.inputs t.sub) ≡ true → reader_of setup.plan (part_of topic t) ≡ t
  reads_own t topic h = λ i. record { sub = net.one_reader t.sub topic h i; part = t.part }

  takes-read : (p : Pending) → AllRead (network setup.plan) p.task (takes setup s p)
  takes-read p = batch-read setup.plan p.task (taken setup s p.task (pending_offsets s p))
      (λ topic. by topic (has_topic topic (setup.plan.inputs p.task.sub)) refl)
      p.order
    where
      by : (topic : ℕ) (b : Bool) → has_topic topic (setup.plan.inputs p.task.sub) ≡ b →
          (cond b (past_from (s.committed p.task topic) (below (offset_in (s.committed p.task topic) topic p.offsets) (readable_from 0 (s.partition (part_of topic p.task))))) [] ≡ [])
          ⊎ (reader_of setup.plan (part_of topic p.task) ≡ p.task)
      by topic true h = inr (reads_own p.task topic h)
      by topic false h = inl refl

  none_reads : (u : TaskId) (ps : List Pending) → pending_of u ps ≡ None → NoneReads (network setup.plan) u (takes_of setup s ps)
  none_reads u [] none = tt
  none_reads u (p ∷ ps) none =
      by (same_task u p.task) refl none (λ e. none_reads u ps e)
    where
      by : (b : Bool) → same_task u p.task ≡ b → cond b (Some p) (pending_of u ps) ≡ None → (pending_of u ps ≡ None → NoneReads (network setup.plan) u (takes_of setup s ps))
          → NoneReads (network setup.plan) u (takes setup s p ++ takes_of setup s ps)
      by true is e f = absurd cc
      by false is e f = NoneReads-append (network setup.plan) u (takes setup s p) _ (other_reads (network setup.plan) u p.task (takes setup s p) is (takes-read p)) (f e)

  -- what a task reads is decided up to its pending offset
  abbrev decided_part : TaskId → ℕ → List (ℕ × ℕ) → List Logged
  decided_part t topic offsets = past_from (s.committed t topic) (below (offset_in (s.committed t topic) topic offsets) (decided s (part_of topic t)))

  taken_is : (p : Pending) → IsFaithfulTask setup s w p → (topic : ℕ) → taken setup s p.task (pending_offsets s p) topic ≡ decided_part p.task topic p.offsets
  taken_is p f topic = by (has_topic topic (setup.plan.inputs p.task.sub)) refl
    where
      by : (b : Bool) → has_topic topic (setup.plan.inputs p.task.sub) ≡ b →
          cond b (past_from (s.committed p.task topic) (below (pending_offsets s p topic) (readable_from 0 (s.partition (part_of topic p.task))))) []
          ≡ past_from (s.committed p.task topic) (below (pending_offsets s p topic) (decided s (part_of topic p.task)))
      by true h = ap (past_from (s.committed p.task topic)) (readable_decided (waiting_at (markers_of s) (part_of topic p.task)) (pending_offsets s p topic) 0 (s.partition (part_of topic p.task)) (omega (arith, f.stable topic h)))
      by false h = sym (nothing_between (s.committed p.task topic) (pending_offsets s p topic) (decided s (part_of topic p.task)) (only_inputs (setup.plan.inputs p.task.sub) (s.committed p.task topic) topic p.offsets f.inputs h))

  -- what one task takes of a list
  received_own : (r : Option TaskId) (q : PartId) (p : Pending) → IsFaithfulTask setup s w p → reader_of setup.plan q ≡ p.task →
      received (network setup.plan) r q (takes setup s p) ≡ recs (by_sender r (decided_part (reader_of setup.plan q) q.topic p.offsets))
  received_own r q p f is =
      let mine : List Logged = taken setup s p.task (pending_offsets s p) q.topic in
      received-batch setup.plan r q p.task (taken setup s p.task (pending_offsets s p)) p.order
      ∙ ap (λ b. cond b (recs (by_sender r (take (count_in q.topic p.order) mine))) []) (eq-eqb q.part p.task.part (ap (λ u. u.part) is))
      ∙ ap (λ n. recs (by_sender r (take n mine))) (f.order q.topic)
      ∙ ap (λ l. recs (by_sender r l)) (take_whole mine)
      ∙ ap (λ l. recs (by_sender r l)) (taken_is p f q.topic)
      ∙ ap (λ u. recs (by_sender r (decided_part u q.topic p.offsets))) (sym is)

  abbrev taken_of : Option TaskId → PartId → Option Pending → List Rec
  taken_of r q None = []
  taken_of r q (Some p) = recs (by_sender r (decided_part (reader_of setup.plan q) q.topic p.offsets))

  received_all : (r : Option TaskId) (q : PartId) (ps : List Pending) → Distinct ps → EachPending (IsFaithfulTask setup s w) ps →
      received (network setup.plan) r q (takes_of setup s ps) ≡ taken_of r q (pending_of (reader_of setup.plan q) ps)
  received_all r q [] distinct each = refl
  received_all r q (p ∷ ps) distinct each =
      received-append (network setup.plan) r q (takes setup s p) (takes_of setup s ps)
      ∙ by (same_task (reader_of setup.plan q) p.task) refl (received_all r q ps distinct.1 each.1)
    where
      by : (b : Bool) → same_task (reader_of setup.plan q) p.task ≡ b → received (network setup.plan) r q (takes_of setup s ps) ≡ taken_of r q (pending_of (reader_of setup.plan q) ps)
          → received (network setup.plan) r q (takes setup s p) ++ received (network setup.plan) r q (takes_of setup s ps) ≡ taken_of r q (cond b (Some p) (pending_of (reader_of setup.plan q) ps))
      by true is more =
          let same : reader_of setup.plan q ≡ p.task = same_task-is (reader_of setup.plan q) p.task is in
          let none : pending_of (reader_of setup.plan q) ps ≡ None = ap (λ u. pending_of u ps) same ∙ none_above p.task ps distinct.0 in
          ap₂ (λ a b. a ++ b) (received_own r q p each.0 same) (received_none (network setup.plan) (has_names setup.plan) r q (takes_of setup s ps) (none_reads (reader_of setup.plan q) ps none))
          ∙ append-nil _
      by false is more =
          ap (λ l. l ++ received (network setup.plan) r q (takes_of setup s ps))
          (received_none (network setup.plan) (has_names setup.plan) r q (takes setup s p) (other_reads (network setup.plan) (reader_of setup.plan q) p.task (takes setup s p) is (takes-read p)))
          ∙ more

  -- what one task makes in a commit
  abbrev local_of : TaskId → Stores → Option Pending → Outcome PartId Stores Rec
  local_of u stores None = record { store = stores; made = []; late = 0 }
  local_of u stores (Some p) = local (network setup.plan) u stores (takes setup s p)

  local_all : (u : TaskId) (stores : Stores) (ps : List Pending) → Distinct ps → local (network setup.plan) u stores (takes_of setup s ps) ≡ local_of u stores (pending_of u ps)
  local_all u stores [] distinct = refl
  local_all u stores (p ∷ ps) distinct = by (same_task u p.task) refl (local_all u stores ps distinct.1)
    where
      by : (b : Bool) → same_task u p.task ≡ b → local (network setup.plan) u stores (takes_of setup s ps) ≡ local_of u stores (pending_of u ps)
          → local (network setup.plan) u stores (takes setup s p ++ takes_of setup s ps) ≡ local_of u stores (cond b (Some p) (pending_of u ps))
      by true is more =
          let none : pending_of u ps ≡ None = ap (λ v. pending_of v ps) (same_task-is u p.task is) ∙ none_above p.task ps distinct.0 in
          local_only (network setup.plan) u stores (takes setup s p) (takes_of setup s ps) (none_reads u ps none)
      by false is more = local_skip (network setup.plan) u stores (takes setup s p) (takes_of setup s ps) (other_reads (network setup.plan) u p.task (takes setup s p) is (takes-read p)) ∙ more

pending_task : (u : TaskId) (ps : List Pending) (p : Pending) → pending_of u ps ≡ Some p → u ≡ p.task
pending_task u [] p e = absurd cc
pending_task u (x ∷ xs) p e = by (same_task u x.task) refl e (λ g. pending_task u xs p g)
  where
    by : (b : Bool) → same_task u x.task ≡ b → cond b (Some x) (pending_of u xs) ≡ Some p → (pending_of u xs ≡ Some p → u ≡ p.task) → u ≡ p.task
    by true is e f =
        let g : x ≡ p = cc in
        same_task-is u x.task is ∙ ap (λ (y : Pending). y.task) g
    by false is e f = f e

-- ---- the late total
abbrev pub lates : Setup → State → (TaskId → Stores) → List Pending → ℕ
lates setup s stores [] = 0
lates setup s stores (p ∷ ps) = (local (network setup.plan) p.task (stores p.task) (takes setup s p)).late + lates setup s stores ps

lates_same : (setup : Setup) (s : State) (stores : TaskId → Stores) (t : TaskId) (store : Stores) (ps : List Pending) → pending_of t ps ≡ None → lates setup s (with_store (network setup.plan) (has_names setup.plan) stores t store) ps ≡ lates setup s stores ps
lates_same setup s stores t store [] none = refl
lates_same setup s stores t store (p ∷ ps) none = by (same_task t p.task) refl none (λ g. lates_same setup s stores t store ps g)
  where
    apart : same_task t p.task ≡ false → same_task p.task t ≡ false
    apart h = elim (same_task p.task t) as (λ b. same_task p.task t ≡ b → b ≡ false) [
      | true ↦ λ is. absurd (true≢false (sym (same_task-refl t) ∙ ap (same_task t) (sym (same_task-is p.task t is)) ∙ h))
      | false ↦ λ is. refl
    ] refl

    by : (b : Bool) → same_task t p.task ≡ b → cond b (Some p) (pending_of t ps) ≡ None → (pending_of t ps ≡ None → lates setup s (with_store (network setup.plan) (has_names setup.plan) stores t store) ps ≡ lates setup s stores ps)
        → lates setup s (with_store (network setup.plan) (has_names setup.plan) stores t store) (p ∷ ps) ≡ lates setup s stores (p ∷ ps)
    by true is e f = absurd cc
    by false is e f = ap₂ (λ (m : Stores) n. (local (network setup.plan) p.task m (takes setup s p)).late + n) (ap (λ b. cond b store (stores p.task)) (apart is)) (f e)

late_takes : (setup : Setup) (net : IsNetwork setup.plan) (s : State) (w : ℕ) (stores : TaskId → Stores) (ps : List Pending) → Distinct ps → late_all (network setup.plan) stores (takes_of setup s ps) ≡ lates setup s stores ps
late_takes setup net s w stores [] d = refl
late_takes setup net s w stores (p ∷ ps) d =
    late_one (network setup.plan) (has_names setup.plan) p.task stores (takes setup s p) (takes_of setup s ps) (takes-read setup net s w p)
    ∙ ap (λ n. (local (network setup.plan) p.task (stores p.task) (takes setup s p)).late + n)
    (late_takes setup net s w (with_store (network setup.plan) (has_names setup.plan) stores p.task (local (network setup.plan) p.task (stores p.task) (takes setup s p)).store) ps d.1
    ∙ lates_same setup s stores p.task (local (network setup.plan) p.task (stores p.task) (takes setup s p)).store ps (none_above p.task ps d.0))

min_within : (a l more cap : ℕ) → min (a + (min l cap + more)) cap ≡ min (a + (l + more)) cap
min_within a l more cap = omega arith

min_first : (l more cap : ℕ) → min (min l cap + more) cap ≡ min (l + more) cap
min_first l more cap = omega arith

late_sum : (setup : Setup) (s : State) (w a : ℕ) (stores : TaskId → Stores) → ((t : TaskId) → stores t ≡ folds setup s t) → (ps : List Pending) → EachPending (IsFaithfulTask setup s w) ps →
    min (a + late_in ps) (2 ^ 64 - 1) ≡ min (a + lates setup s stores ps) (2 ^ 64 - 1)
late_sum setup s w a stores same [] each = refl
late_sum setup s w a stores same (p ∷ ps) each =
    let l : ℕ = (local (network setup.plan) p.task (stores p.task) (takes setup s p)).late in
    let told : p.late ≡ min l (2 ^ 64 - 1) = sym each.0.late ∙ ap (λ (m : Stores). min (local (network setup.plan) p.task m (takes setup s p)).late (2 ^ 64 - 1)) (sym (same p.task)) in
    let apart : a + (l + late_in ps) ≡ (a + l) + late_in ps = omega arith in
    let joined : (a + l) + lates setup s stores ps ≡ a + (l + lates setup s stores ps) = omega arith in
    ap (λ n. min (a + (n + late_in ps)) (2 ^ 64 - 1)) told
    ∙ min_within a l (late_in ps) (2 ^ 64 - 1)
    ∙ ap (λ n. min n (2 ^ 64 - 1)) apart
    ∙ late_sum setup s w (a + l) stores same ps each.1
    ∙ ap (λ n. min n (2 ^ 64 - 1)) joined

-- ---- the commit itself
module _ (setup : Setup) (net : IsNetwork setup.plan) (s : State) (w e : ℕ) (tx : Transaction) (is : (s.producer w).undecided ≡ Some tx) (sound : Sound setup s) (f : IsFaithful setup s w tx) where
  abbrev new : State
  new = effect s (Decide w e true)

  abbrev epoch : ℕ
  epoch = (s.producer w).epoch

  abbrev ps : List Pending
  ps = pending_at (s.producer w)

  empty : (s.producer w).waiting ≡ []
  empty = sound.markers w tx is

  marks_here : (q : PartId) (d : ℕ) → marker_among q d (closed (s.producer w) true).waiting ≡ cond (has_part q tx.parts && (d == (s.producer w).epoch)) (Some true) None
  marks_here q d =
      ap (marker_among q d) (closed_waiting (s.producer w) true tx is ∙ ap (λ l. l ++ markers_for (s.producer w).epoch true tx.parts) empty)
      ∙ marker_among-markers_for q d (s.producer w).epoch true tx.parts

  turned : (a b c : Bool) → b ≡ c → cond (a && b) (Some true) None ≡ cond c (cond a (Some true) None) None
  turned true true c e = ap (λ x. cond x (Some true) None) e
  turned true false c e = ap (λ x. cond x (Some true) None) e
  turned false b true e = refl
  turned false b false e = refl

  after_marks : (q : PartId) (v d : ℕ) → waiting_at (markers_of (effect s (Decide w e true))) q v d
      ≡ cond ((w == v) && ((s.producer w).epoch == d)) (cond (has_part q tx.parts) (Some true) None) (waiting_at (markers_of s) q v d)
  after_marks q v d = by (v == w) refl
    where
      by : (b : Bool) → (v == w) ≡ b → marker_among q d (cond b (closed (s.producer w) true) (s.producer v)).waiting
          ≡ cond ((w == v) && ((s.producer w).epoch == d)) (cond (has_part q tx.parts) (Some true) None) (marker_among q d (s.producer v).waiting)
      by true h =
          let here : (w == v) ≡ true = eqb_sym w v ∙ h in
          let none : marker_among q d (s.producer v).waiting ≡ None = ap (λ k. marker_among q d (s.producer k).waiting) (eqb-true v w h) ∙ ap (marker_among q d) empty in
          marks_here q d
          ∙ turned (has_part q tx.parts) (d == (s.producer w).epoch) ((s.producer w).epoch == d) (eqb_sym d (s.producer w).epoch)
          ∙ ap₂ (λ b o. cond (b && ((s.producer w).epoch == d)) (cond (has_part q tx.parts) (Some true) None) o) (sym here) (sym none)
      by false h =
          let apart : (w == v) ≡ false = eqb_sym w v ∙ h in
          ap (λ b. cond (b && ((s.producer w).epoch == d)) (cond (has_part q tx.parts) (Some true) None) (marker_among q d (s.producer v).waiting)) (sym apart)

  undecided_before : (q : PartId) (v d : ℕ) → ((w == v) && ((s.producer w).epoch == d)) ≡ true → waiting_at (markers_of s) q v d ≡ None
  undecided_before q v d h = ap (λ k. marker_among q d (s.producer k).waiting) (sym (eqb-true w v (and_parts _ _ h).0)) ∙ ap (marker_among q d) empty

  same_tx : (p : Producer) → (tx' : Transaction) → p.undecided ≡ Some tx → p.undecided ≡ Some tx' → tx' ≡ tx
  same_tx p tx' a b = cc

  not_of_part : (q : PartId) (u : TaskId) → has_part q tx.parts ≡ false → Owned s.producer q w (s.producer w).epoch u → ⊥
  not_of_part q u h (inl ne) = ne (ap (marker_among q (s.producer w).epoch) empty)
  not_of_part q u h (inr o) = true≢false (sym o.part ∙ ap (λ (t : Transaction). has_part q t.parts) (same_tx (s.producer w) o.tx is o.undecided) ∙ h)

  not_of_task : (q : PartId) (u : TaskId) → pending_of u tx.pending ≡ None → Owned s.producer q w (s.producer w).epoch u → ⊥
  not_of_task q u h (inl ne) = ne (ap (marker_among q (s.producer w).epoch) empty)
  not_of_task q u h (inr o) =
      let named = f.named u (ap (λ (t : Transaction). has_task u t.tasks) (sym (same_tx (s.producer w) o.tx is o.undecided)) ∙ o.task) in
      let there : pending_of u tx.pending ≡ Some named.0 = named.1 in
      absurd cc

  behind : (q : PartId) (u : TaskId) → is_behind (waiting_at (markers_of s) q) w (s.producer w).epoch u (s.partition q) ≡ true
  behind q u = by (pending_of u tx.pending) refl
    where
      by : (o : Option Pending) → pending_of u tx.pending ≡ o → is_behind (waiting_at (markers_of s) q) w (s.producer w).epoch u (s.partition q) ≡ true
      by None h = behind_none (Owned s.producer q) w (s.producer w).epoch u (λ task g. same_task-is u task g) (not_of_task q u h) (waiting_at (markers_of s) q) (s.partition q) (sound.owned q)
      by (Some p) h =
          let same : u ≡ p.task = pending_task u tx.pending p h in
          subst (λ v. is_behind (waiting_at (markers_of s) q) w (s.producer w).epoch v (s.partition q) ≡ true) (sym same) ((f.each u p h).behind q)

  -- the decided records of each task grow by its own, at the end
  pub grows : (q : PartId) (u : TaskId) → by_sender (Some u) (decided (effect s (Decide w e true)) q) ≡ by_sender (Some u) (decided s q) ++ open_from w (s.producer w).epoch u 0 (s.partition q)
  grows q u = by (has_part q tx.parts) refl
    where
      unchanged : (x : Bool) (old : Option Bool) → (x ≡ true → old ≡ None) → cond x None old ≡ old
      unchanged true old h = sym (h refl)
      unchanged false old h = refl

      by : (b : Bool) → has_part q tx.parts ≡ b → by_sender (Some u) (decided (effect s (Decide w e true)) q) ≡ by_sender (Some u) (decided s q) ++ open_from w (s.producer w).epoch u 0 (s.partition q)
      by true h = task_grows w (s.producer w).epoch (waiting_at (markers_of s) q) (waiting_at (markers_of (effect s (Decide w e true))) q)
          (λ v d. after_marks q v d ∙ ap (λ b. cond ((w == v) && ((s.producer w).epoch == d)) (cond b (Some true) None) (waiting_at (markers_of s) q v d)) h)
          (undecided_before q) u 0 (s.partition q) (behind q u)
      by false h =
          let same : decided (effect s (Decide w e true)) q ≡ decided s q = ap (λ (m : ℕ → ℕ → Option Bool). decided_from m 0 (s.partition q))
          (λ i v d. (after_marks q v d ∙ ap (λ b. cond ((w == v) && ((s.producer w).epoch == d)) (cond b (Some true) None) (waiting_at (markers_of s) q v d)) h
          ∙ unchanged ((w == v) && ((s.producer w).epoch == d)) (waiting_at (markers_of s) q v d) (undecided_before q v d)) i) in
          ap (by_sender (Some u)) same
          ∙ sym (append-nil (by_sender (Some u) (decided s q)))
          ∙ ap (λ l. by_sender (Some u) (decided s q) ++ l) (sym (open_none (Owned s.producer q) w (s.producer w).epoch u (λ task g. same_task-is u task g) (not_of_part q u h) 0 (s.partition q) (sound.owned q)))

  pub plain_stays : (q : PartId) → by_sender None (decided (effect s (Decide w e true)) q) ≡ by_sender None (decided s q)
  plain_stays q = plain_same _ _ 0 (s.partition q)

  ps_is : pending_at (s.producer w) ≡ tx.pending
  ps_is = pending_is (s.producer w) tx is

  task_of : (u : TaskId) (p : Pending) → pending_of u (pending_at (s.producer w)) ≡ Some p → IsFaithfulTask setup s w p
  task_of u p h = f.each u p (ap (pending_of u) (sym ps_is) ∙ h)

  each : EachPending (IsFaithfulTask setup s w) (pending_at (s.producer w))
  each = each_pending (IsFaithfulTask setup s w) (pending_at (s.producer w)) (sound.distinct w) task_of

  -- what is committed stays below what is stable
  pub committed_stable : (t : TaskId) (topic : ℕ) → (effect s (Decide w e true)).committed t topic ≤ stable (s.partition (part_of topic t))
  committed_stable t topic = by (pending_of t (pending_at (s.producer w))) refl
    where
      within : (p : Pending) → IsFaithfulTask setup s w p → (b : Bool) → has_topic topic (setup.plan.inputs p.task.sub) ≡ b → pending_offsets s p topic ≤ stable (s.partition (part_of topic p.task))
      within p g true h = g.stable topic h
      within p g false h = omega (arith, only_inputs (setup.plan.inputs p.task.sub) (s.committed p.task topic) topic p.offsets g.inputs h, sound.committed p.task topic)

      by : (o : Option Pending) → pending_of t (pending_at (s.producer w)) ≡ o → (elim o as (λ _. ℕ) [ None ↦ s.committed t topic | Some p ↦ offset_in (s.committed t topic) topic p.offsets ]) ≤ stable (s.partition (part_of topic t))
      by None h = sound.committed t topic
      by (Some p) h =
          subst (λ u. offset_in (s.committed u topic) topic p.offsets ≤ stable (s.partition (part_of topic u))) (sym (pending_task t (pending_at (s.producer w)) p h))
          (within p (task_of t p h) (has_topic topic (setup.plan.inputs p.task.sub)) refl)

  module _ (st : RunState TaskId PartId Stores Rec) (shows : Shows setup s st) where
    abbrev rest : Option TaskId → PartId → List Rec
    rest r q = recs (by_sender r (past_from ((effect s (Decide w e true)).committed (reader_of setup.plan q) q.topic) (decided s q)))

    stands_first : (r : Option TaskId) (q : PartId) → st.waiting r q ≡ received (network setup.plan) r q (takes_of setup s (pending_at (s.producer w))) ++ rest r q
    stands_first r q =
        shows.lists r q ∙ by (pending_of (reader_of setup.plan q) (pending_at (s.producer w))) refl
        ∙ ap (λ l. l ++ rest r q) (sym (received_all setup net s w r q (pending_at (s.producer w)) (sound.distinct w) each))
      where
        by : (o : Option Pending) → pending_of (reader_of setup.plan q) (pending_at (s.producer w)) ≡ o →
            recs (by_sender r (past_from (s.committed (reader_of setup.plan q) q.topic) (decided s q)))
            ≡ taken_of setup net s w r q o ++ recs (by_sender r (past_from (elim o as (λ _. ℕ) [ None ↦ s.committed (reader_of setup.plan q) q.topic | Some p ↦ offset_in (s.committed (reader_of setup.plan q) q.topic) q.topic p.offsets ]) (decided s q)))
        by None h = refl
        by (Some p) h =
            let low = s.committed (reader_of setup.plan q) q.topic in
            let high = offset_in (s.committed (reader_of setup.plan q) q.topic) q.topic p.offsets in
            let reached : low ≤ high =
            subst (λ u. s.committed u q.topic ≤ offset_in (s.committed u q.topic) q.topic p.offsets) (sym (pending_task (reader_of setup.plan q) (pending_at (s.producer w)) p h)) ((task_of (reader_of setup.plan q) p h).committed q.topic) in
            ap (λ l. recs (by_sender r l)) (past_split low high 0 (decided s q) reached (decided_rises _ 0 (s.partition q)))
            ∙ ap recs (by_sender-append r (past_from low (below high (decided s q))) (past_from high (decided s q)))
            ∙ recs-append (by_sender r (past_from low (below high (decided s q)))) _

    pub took : Took (network setup.plan) st (takes_of setup s (pending_at (s.producer w))) rest (fold (advance (network setup.plan)) st (map (channel (network setup.plan)) (takes_of setup s (pending_at (s.producer w)))))
    took = take_all (network setup.plan) (has_names setup.plan) (takes_of setup s (pending_at (s.producer w))) st rest stands_first

    -- what the run's task sends is what the transaction appended
    sends : (u : TaskId) (q : PartId) → sent_to (network setup.plan) q (local (network setup.plan) u (st.stores u) (takes_of setup s (pending_at (s.producer w)))).made ≡ recs (open_from w (s.producer w).epoch u 0 (s.partition q))
    sends u q =
        ap (λ (o : Outcome PartId Stores Rec). sent_to (network setup.plan) q o.made) (local_all setup net s w u (st.stores u) (pending_at (s.producer w)) (sound.distinct w))
        ∙ by (pending_of u (pending_at (s.producer w))) refl
      where
        by : (o : Option Pending) → pending_of u (pending_at (s.producer w)) ≡ o → sent_to (network setup.plan) q (local_of setup net s w u (st.stores u) o).made ≡ recs (open_from w (s.producer w).epoch u 0 (s.partition q))
        by None h = sym (ap recs (open_none (Owned s.producer q) w (s.producer w).epoch u (λ task g. same_task-is u task g) (not_of_task q u (ap (pending_of u) (sym ps_is) ∙ h)) 0 (s.partition q) (sound.owned q)))
        by (Some p) h =
            let same : u ≡ p.task = pending_task u (pending_at (s.producer w)) p h in
            ap (λ (m : Stores). sent_to (network setup.plan) q (local (network setup.plan) u m (takes setup s p)).made) (shows.stores u)
            ∙ ap (λ v. sent_to (network setup.plan) q (local (network setup.plan) v (folds setup s v) (takes setup s p)).made) same
            ∙ (task_of u p h).made q
            ∙ ap (λ v. recs (open_from w (s.producer w).epoch v 0 (s.partition q))) (sym same)

    pub lists_after : (r : Option TaskId) (q : PartId) →
        rest r q ++ sent_by (network setup.plan) st.stores (takes_of setup s (pending_at (s.producer w))) r q
        ≡ recs (by_sender r (past_from ((effect s (Decide w e true)).committed (reader_of setup.plan q) q.topic) (decided (effect s (Decide w e true)) q)))
    lists_after None q =
        let low = (effect s (Decide w e true)).committed (reader_of setup.plan q) q.topic in
        append-nil _
        ∙ ap recs (by_sender-past_from None low (decided s q) ∙ ap (past_from low) (sym (plain_stays q)) ∙ sym (by_sender-past_from None low (decided (effect s (Decide w e true)) q)))
    lists_after (Some u) q =
        let low = (effect s (Decide w e true)).committed (reader_of setup.plan q) q.topic in
        let mine = open_from w (s.producer w).epoch u 0 (s.partition q) in
        ap (λ l. rest (Some u) q ++ l) (sends u q)
        ∙ sym (recs-append (by_sender (Some u) (past_from low (decided s q))) mine)
        ∙ ap recs (
        ap (λ l. l ++ mine) (by_sender-past_from (Some u) low (decided s q))
        ∙ ap (λ l. past_from low (by_sender (Some u) (decided s q)) ++ l) (sym (open_past w (s.producer w).epoch u low 0 (s.partition q) (omega (arith, committed_stable (reader_of setup.plan q) q.topic))))
        ∙ sym (past_from-append low (by_sender (Some u) (decided s q)) mine)
        ∙ ap (past_from low) (sym (grows q u))
        ∙ sym (by_sender-past_from (Some u) low (decided (effect s (Decide w e true)) q)))

    differ : (u v : TaskId) → Some v ≢ Some u → same_task u v ≡ false
    differ u v ne = elim (same_task u v) as (λ b. same_task u v ≡ b → b ≡ false) [
      | true ↦ λ is. absurd (ne (ap (λ (t : TaskId). Some t) (sym (same_task-is u v is))))
      | false ↦ λ is. refl
    ] refl

    pub alone_after : (u : TaskId) (topic : ℕ) (r : Option TaskId) → has_topic topic (setup.plan.changelogs u.sub) ≡ true → r ≢ Some u → by_sender r (decided (effect s (Decide w e true)) (part_of topic u)) ≡ []
    alone_after u topic None h ne = plain_stays (part_of topic u) ∙ sound.alone u topic None h ne
    alone_after u topic (Some v) h ne =
        grows (part_of topic u) v
        ∙ ap₂ (λ a b. a ++ b) (sound.alone u topic (Some v) h ne)
        (recs_nothing _ (sym (sends v (part_of topic u)) ∙ local-own setup.plan net u topic h v (differ u v ne) (st.stores v) (takes_of setup s (pending_at (s.producer w)))))

    whole_after : (u : TaskId) (topic : ℕ) → has_topic topic (setup.plan.changelogs u.sub) ≡ true →
        decided s (part_of topic u) ++ open_from w (s.producer w).epoch u 0 (s.partition (part_of topic u)) ≡ decided (effect s (Decide w e true)) (part_of topic u)
    whole_after u topic h =
        ap (λ l. l ++ open_from w (s.producer w).epoch u 0 (s.partition (part_of topic u))) (sym (only_sender u (decided s (part_of topic u)) (λ r ne. sound.alone u topic r h ne)))
        ∙ sym (grows (part_of topic u) u)
        ∙ only_sender u (decided (effect s (Decide w e true)) (part_of topic u)) (λ r ne. alone_after u topic r h ne)

    pub stores_after : (u : TaskId) → (local (network setup.plan) u (st.stores u) (takes_of setup s (pending_at (s.producer w)))).store ≡ folds setup (effect s (Decide w e true)) u
    stores_after u = λ i topic. by topic (has_topic topic (setup.plan.changelogs u.sub)) refl i
      where
        by : (topic : ℕ) (b : Bool) → has_topic topic (setup.plan.changelogs u.sub) ≡ b →
            (local (network setup.plan) u (st.stores u) (takes_of setup s (pending_at (s.producer w)))).store topic ≡ cond b (fold_of (effect s (Decide w e true)) (part_of topic u)) empty_store
        by topic true h =
            let before = recs (decided s (part_of topic u)) in
            let mine = open_from w (s.producer w).epoch u 0 (s.partition (part_of topic u)) in
            local-told setup.plan net u topic h (st.stores u) (takes_of setup s (pending_at (s.producer w)))
            ∙ ap₂ latest_from
            (ap (λ (m : Stores). m topic) (shows.stores u) ∙ ap (λ b. cond b (fold_of s (part_of topic u)) empty_store) h)
            (sends u (part_of topic u))
            ∙ sym (latest_from-append empty_store before (recs mine))
            ∙ ap latest (sym (recs-append (decided s (part_of topic u)) mine) ∙ ap recs (whole_after u topic h))
        by topic false h =
            local-other setup.plan net u topic h (st.stores u) (takes_of setup s (pending_at (s.producer w)))
            ∙ ap (λ (m : Stores). m topic) (shows.stores u) ∙ ap (λ b. cond b (fold_of s (part_of topic u)) empty_store) h

    closed_undecided : (p : Producer) → p.undecided ≡ Some tx → (closed p true).undecided ≡ None
    closed_undecided p h =
        ap (λ (u : Option Transaction). (elim u as (λ _. Producer) [ None ↦ p | Some tx ↦ record p { undecided = None; waiting = p.waiting ++ markers_for p.epoch true tx.parts; last = Some true } ]).undecided) h

    markers_after : (v : ℕ) (tx' : Transaction) → ((effect s (Decide w e true)).producer v).undecided ≡ Some tx' → ((effect s (Decide w e true)).producer v).waiting ≡ []
    markers_after v tx' = by (v == w)
      where
        by : (b : Bool) → (cond b (closed (s.producer w) true) (s.producer v)).undecided ≡ Some tx' → (cond b (closed (s.producer w) true) (s.producer v)).waiting ≡ []
        by true h =
            let none : (closed (s.producer w) true).undecided ≡ None = closed_undecided (s.producer w) is in
            absurd cc
        by false h = sound.markers v tx' h

    owned_after : (q : PartId) (v d : ℕ) (t : TaskId) → Owned s.producer q v d t → Owned (effect s (Decide w e true)).producer q v d t
    owned_after q v d t = by (v == w) refl
      where
        decided_now : IsOfTx (s.producer w) q d t → marker_among q d (closed (s.producer w) true).waiting ≢ None
        decided_now o h =
            let there : has_part q tx.parts ≡ true = ap (λ (t : Transaction). has_part q t.parts) (sym (same_tx (s.producer w) o.tx is o.undecided)) ∙ o.part in
            let commits : Some true ≡ None = sym (marks_here q d ∙ ap (λ b. cond b (Some true) None) (and_from (has_part q tx.parts) (d == (s.producer w).epoch) there (eq-eqb d (s.producer w).epoch o.epoch))) ∙ h in
            absurd cc

        by : (b : Bool) → (v == w) ≡ b → Owned s.producer q v d t → Owned (λ k. cond (k == w) (closed (s.producer w) true) (s.producer k)) q v d t
        by true h own =
            let same : v ≡ w = eqb-true v w h in
            let own_w : Owned s.producer q w d t = subst (λ k. Owned s.producer q k d t) same own in
            inl (subst (λ (p : Producer). marker_among q d p.waiting ≢ None) (sym (ap (λ b. cond b (closed (s.producer w) true) (s.producer v)) h))
            (⊎_elim (λ (ne : marker_among q d (s.producer w).waiting ≢ None). λ (g : marker_among q d (closed (s.producer w) true).waiting ≡ None). ne (ap (marker_among q d) empty)) decided_now own_w))
        by false h own = subst (λ (p : Producer). (marker_among q d p.waiting ≢ None) ⊎ IsOfTx p q d t) (sym (ap (λ b. cond b (closed (s.producer w) true) (s.producer v)) h)) own

    distinct_after : (v : ℕ) → Distinct (pending_at ((effect s (Decide w e true)).producer v))
    distinct_after v = by (v == w)
      where
        by : (b : Bool) → Distinct (pending_at (cond b (closed (s.producer w) true) (s.producer v)))
        by true = subst Distinct (sym (ap (λ (u : Option Transaction). elim u as (λ _. List Pending) [ None ↦ [] | Some tx ↦ tx.pending ]) (closed_undecided (s.producer w) is))) tt
        by false = sound.distinct v

    pub sound_after : Sound setup (effect s (Decide w e true))
    sound_after = record {
      markers = markers_after;
      owned = λ q. Open-map (Owned s.producer q) (Owned (effect s (Decide w e true)).producer q) (s.partition q) (owned_after q) (sound.owned q);
      committed = committed_stable;
      distinct = distinct_after;
      alone = alone_after;
    }

    given_after : (r : Option TaskId) (q : PartId) → (fold (advance (network setup.plan)) st (map (channel (network setup.plan)) (takes_of setup s (pending_at (s.producer w))))).given r q ≡ recs (by_sender r (decided (effect s (Decide w e true)) q))
    given_after None q = took.given None q ∙ append-nil _ ∙ shows.given None q ∙ ap recs (sym (plain_stays q))
    given_after (Some u) q =
        took.given (Some u) q ∙ ap₂ (λ a b. a ++ b) (shows.given (Some u) q) (sends u q)
        ∙ sym (recs-append (by_sender (Some u) (decided s q)) _) ∙ ap recs (sym (grows q u))

    pub shows_after : Shows setup (effect s (Decide w e true)) (fold (advance (network setup.plan)) st (map (channel (network setup.plan)) (takes_of setup s (pending_at (s.producer w)))))
    shows_after = record {
      lists = λ r q. took.waiting r q ∙ lists_after r q;
      stores = λ u. took.stores u ∙ stores_after u;
      given = given_after;
      late =
          ap (λ n. min (n + late_in (pending_at (s.producer w))) (2 ^ 64 - 1)) shows.late
          ∙ min_first st.late (late_in (pending_at (s.producer w))) (2 ^ 64 - 1)
          ∙ late_sum setup s w st.late st.stores shows.stores (pending_at (s.producer w)) each
          ∙ ap (λ n. min n (2 ^ 64 - 1)) (ap (λ n. st.late + n) (sym (late_takes setup net s w st.stores (pending_at (s.producer w)) (sound.distinct w))) ∙ sym took.late);
    }
