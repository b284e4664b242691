-- A task between two of its commits, as the cluster's state tells it; and one that has taken what a pending commit names (KIP-447: offsets are
-- committed with what was made of the records before them).
use Rattle.std.specs.Prelude.{◌≡◌, ℕ, zero, suc, true, List, [], ◌∷◌}
use Rattle.ks_record.specs.declared.record.PartId.{PartId}
use Rattle.ks_def_runs.specs.Run.{sent_to}
use Rattle.ks_history.specs.declared.transaction.Pending.{Pending}
use Rattle.ks_history.specs.Partition.{past_last, with_offsets}
use Rattle.ks_history.specs.Machine.{network, part_of, has_topic}
use Rattle.ks_history.specs.State.{State, Setup}
use Rattle.ks_history.specs.Faithful.{decided, folds, outcome, capped, pending_offsets}
use Rattle.ks_history.specs.Follows.{TaskView}
use Rattle.ks_law_restore.specs.Views.{with_taken}

-- its stores are the folds of its changelogs, its offsets the committed ones, and it has taken nothing
pub record IsRested (setup : Setup) (s : State) (v : TaskView) : Type 0 where
  pub kept : (topic : ℕ) → has_topic topic (setup.plan.inputs v.task.sub) ≡ true → v.kept topic ≡ s.committed v.task topic
  pub inputs : (topic : ℕ) → has_topic topic (setup.plan.inputs v.task.sub) ≡ true → v.inputs topic ≡ s.committed v.task topic
  pub order : v.order ≡ []
  pub stores : v.stores ≡ folds setup s v.task
  pub made : (q : PartId) → v.made q ≡ []
  pub late : v.late ≡ 0

-- it stands where the pending offsets are, and has made what the task makes up to them, in the pending order
pub record HasTaken (setup : Setup) (s : State) (p : Pending) (v : TaskView) : Type 0 where
  pub task : v.task ≡ p.task
  pub inputs : (topic : ℕ) → has_topic topic (setup.plan.inputs p.task.sub) ≡ true → v.inputs topic ≡ pending_offsets s p topic
  pub stores : v.stores ≡ (outcome setup s p.task (pending_offsets s p) p.order).store
  pub made : (q : PartId) → v.made q ≡ sent_to (network setup.plan) q (outcome setup s p.task (pending_offsets s p) p.order).made
  pub late : v.late ≡ capped (outcome setup s p.task (pending_offsets s p) p.order).late

-- the same, with positions in its changelogs past all that is decided there
abbrev pub placed : State → TaskView → TaskView
placed s v = record v { position = λ topic. past_last (with_offsets (decided s (part_of topic v.task))) }

-- ---- an order, taken record by record: runs of one topic beside one another are one, and there are no empty ones
abbrev pub run_onto : ℕ → ℕ → List (ℕ × ℕ) → List (ℕ × ℕ)
run_onto topic zero order = order
run_onto topic (suc n) order = run_onto topic n (with_taken topic order)

abbrev pub merged_onto : List (ℕ × ℕ) → List (ℕ × ℕ) → List (ℕ × ℕ)
merged_onto done [] = done
merged_onto done (run ∷ runs) = merged_onto (run_onto run.0 run.1 done) runs

abbrev pub merged : List (ℕ × ℕ) → List (ℕ × ℕ)
merged order = merged_onto [] order
