-- The committed offsets that are kept are those of the state.
use Rattle.std.proofs.Common.{◌≡◌, ℕ, Bool, true, false, cond, List, [], ◌∷◌, Option, Some, None, refl, sym, ap, ◌∙◌}
use Rattle.std.specs.Prelude.{map, ◌==◌, ◌||◌}
use Rattle.std.proofs.lemmas.Bool.{eqb-true}
use Rattle.ks_record.specs.declared.record.TaskId.{TaskId}
use Rattle.ks_record.specs.Parts.{same_task}
use Rattle.ks_history.specs.declared.transaction.Pending.{Pending}
use Rattle.ks_history.specs.Machine.{has_topic}
use Rattle.ks_history.specs.State.{State, Setup, has_task, pending_of, offset_in, committed_with}
use Rattle.ks_history.specs.Reads.{committed_offsets}
use Rattle.ks_history.proofs.Names.{same_task-is}
use Rattle.ks_group.specs.Committed.{offsets_of, offsets_with, row_with}
use Rattle.ks_cluster.specs.Moves.{rows_at}

-- ---- one task's offsets
abbrev rows_for : Setup → State → List TaskId → List (TaskId × List (ℕ × ℕ))
rows_for setup s ts = map (λ t. (t, committed_offsets setup s t)) ts

here : (setup : Setup) (s : State) (t : TaskId) (ts : List TaskId) → has_task t ts ≡ true → offsets_of t (rows_for setup s ts) ≡ committed_offsets setup s t
here setup s t [] h = absurd (cc)
here setup s t (u ∷ us) h = by (same_task t u) refl h (here setup s t us)
  where
    by : (b : Bool) → same_task t u ≡ b → (b || has_task t us) ≡ true → (has_task t us ≡ true → offsets_of t (rows_for setup s us) ≡ committed_offsets setup s t)
        → cond b (committed_offsets setup s u) (offsets_of t (rows_for setup s us)) ≡ committed_offsets setup s t
    by true is is_there more = ap (committed_offsets setup s) (sym (same_task-is t u is))
    by false is is_there more = more is_there

pub offsets_are : (setup : Setup) (s : State) (t : TaskId) (rows : List (TaskId × List (ℕ × ℕ))) → has_task t setup.tasks ≡ true → rows ≡ rows_at setup s → offsets_of t rows ≡ committed_offsets setup s t
offsets_are setup s t rows there is = ap (offsets_of t) is ∙ here setup s t setup.tasks there

-- ---- one input's offset
named : (f : ℕ → ℕ) (topic : ℕ) (inputs : List ℕ) → has_topic topic inputs ≡ true → offset_in 0 topic (map (λ n. (n, f n)) inputs) ≡ f topic
named f topic [] h = absurd (cc)
named f topic (n ∷ ns) h = by (topic == n) refl h (named f topic ns)
  where
    by : (b : Bool) → (topic == n) ≡ b → (b || has_topic topic ns) ≡ true → (has_topic topic ns ≡ true → offset_in 0 topic (map (λ m. (m, f m)) ns) ≡ f topic)
        → cond b (f n) (offset_in 0 topic (map (λ m. (m, f m)) ns)) ≡ f topic
    by true is is_there more = ap f (sym (eqb-true topic n is))
    by false is is_there more = more is_there

pub offset_is : (setup : Setup) (s : State) (t : TaskId) (topic : ℕ) (rows : List (TaskId × List (ℕ × ℕ))) → has_task t setup.tasks ≡ true → has_topic topic (setup.plan.inputs t.sub) ≡ true
    → rows ≡ rows_at setup s → offset_in 0 topic (offsets_of t rows) ≡ s.committed t topic
offset_is setup s t topic rows there input is = ap (offset_in 0 topic) (offsets_are setup s t rows there is) ∙ named (s.committed t) topic (setup.plan.inputs t.sub) input

-- ---- a commit
abbrev committed_state : State → List Pending → State
committed_state s pending = record s { committed = committed_with s.committed pending }

each_with : (f : ℕ → ℕ) (offsets : List (ℕ × ℕ)) (inputs : List ℕ) → offsets_with offsets (map (λ n. (n, f n)) inputs) ≡ map (λ n. (n, offset_in (f n) n offsets)) inputs
each_with f offsets [] = refl
each_with f offsets (n ∷ ns) = ap (λ l. (n, offset_in (f n) n offsets) ∷ l) (each_with f offsets ns)

one_row : (setup : Setup) (s : State) (pending : List Pending) (t : TaskId) → row_with pending (t, committed_offsets setup s t) ≡ (t, committed_offsets setup (committed_state s pending) t)
one_row setup s pending t = by (pending_of t pending)
  where
    by : (p : Option Pending) → ◌≡◌ {A = TaskId × List (ℕ × ℕ)} (t, elim p as (λ _. List (ℕ × ℕ)) [ None ↦ committed_offsets setup s t | Some q ↦ offsets_with q.offsets (committed_offsets setup s t) ])
        (t, map (λ topic. (topic, elim p as (λ _. ℕ) [ None ↦ s.committed t topic | Some q ↦ offset_in (s.committed t topic) topic q.offsets ])) (setup.plan.inputs t.sub))
    by None = refl
    by (Some q) = ap (λ l. (t, l)) (each_with (s.committed t) q.offsets (setup.plan.inputs t.sub))

each_row : (setup : Setup) (s : State) (pending : List Pending) (ts : List TaskId) → map (row_with pending) (rows_for setup s ts) ≡ rows_for setup (committed_state s pending) ts
each_row setup s pending [] = refl
each_row setup s pending (t ∷ ts) =
    ap (λ r. r ∷ map (row_with pending) (rows_for setup s ts)) (one_row setup s pending t) ∙ ap (λ l. (t, committed_offsets setup (committed_state s pending) t) ∷ l) (each_row setup s pending ts)

pub rows_with : (setup : Setup) (s : State) (pending : List Pending) (rows : List (TaskId × List (ℕ × ℕ))) → rows ≡ rows_at setup s → map (row_with pending) rows ≡ rows_at setup (committed_state s pending)
rows_with setup s pending rows is = ap (map (row_with pending)) is ∙ each_row setup s pending setup.tasks
