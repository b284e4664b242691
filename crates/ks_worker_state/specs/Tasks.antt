-- A worker's tasks (KIP-441: active tasks).
use Rattle.std.specs.Prelude.{◌≡◌, ◌≢◌, ◌==◌, ◌≤◌, ◌<◌, ℕ, Bool, true, false, List, []}
use Rattle.ks_record.specs.declared.record.PartId.{PartId}
use Rattle.ks_plan.specs.Drafts.{DraftView}
use Rattle.ks_history.specs.declared.journal.Entry.{Entry}
use Rattle.ks_history.specs.Machine.{part_of}
use Rattle.ks_history.specs.State.{Setup, IsPart}
use Rattle.ks_history.specs.Follows.{TaskView}
use Rattle.ks_history.specs.History.{at}
use Rattle.ks_law_restore.specs.Views.{SendsInside}
use Rattle.ks_law_commit.specs.Bounds.{stable_of}
use Rattle.ks_law_commit.specs.Held.{IsHeld}
use Rattle.ks_law_commit.specs.Moves.{HasRead}
use Rattle.ks_task.specs.declared.task.Task.{Task}
use Rattle.ks_task.specs.Tasks.{task_view, IsTaskOf}
use Rattle.ks_task.specs.Views.{are_committed}
use Rattle.ks_worker_client.specs.declared.member.Member.{Member}

-- it took nothing since its last commit: each of its input positions is the committed offset
abbrev pub is_clean_task : Task → Bool
is_clean_task t = are_committed t.inputs.items t.inputs.items

-- all that a task made since its last commit goes to partitions of the cluster
abbrev pub MakesInside : Setup → TaskView → Type 0
MakesInside setup v = (q : PartId) → v.made q ≢ [] → IsPart setup q

-- a task of this topology that the member holds, whose producer remembers the place `last`
pub record IsHeldTask (d : DraftView) (setup : Setup) (journal : List Entry) (m : Member) (last : ℕ) (t : Task) : Type 0 where
  pub of : IsTaskOf d t
  pub held : IsHeld setup journal m.number m.generation last (task_view t)
  pub inside : SendsInside setup → MakesInside setup (task_view t)
  -- its stores hold back what the member's option says
  pub cache : t.cache ≡ m.cache

-- one fetch of an input since the journal was `h`: it moved the task there and in no other input, or did nothing and nothing stable was
-- left there
pub record IsReadOnce (setup : Setup) (h : List Entry) (topic : ℕ) (moved : Bool) (old new : Task) : Type 0 where
  pub read : HasRead topic (task_view old) (task_view new)
  pub others : (u : ℕ) → (u == topic) ≡ false → (task_view new).inputs u ≡ (task_view old).inputs u
  pub moves : moved ≡ true → (task_view old).inputs topic < (task_view new).inputs topic
  pub stops : moved ≡ false → stable_of (at setup h) (part_of topic (task_view old).task) ≤ (task_view new).inputs topic
