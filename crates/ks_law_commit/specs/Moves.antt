-- How a worker's replicas and tasks move: which positions rose since a moment, and that none fell.
use Rattle.std.specs.Prelude.{◌≡◌, ◌⊎◌, ◌≤◌, ◌<◌, ℕ, true, List, [], ◌∷◌, ◌++◌}
use Rattle.ks_history.specs.declared.journal.Entry.{Entry}
use Rattle.ks_history.specs.Machine.{IsNetwork, part_of, has_topic}
use Rattle.ks_history.specs.State.{Setup}
use Rattle.ks_history.specs.Reads.{end_of, fetched}
use Rattle.ks_history.specs.Follows.{TaskView, ReplicaView}
use Rattle.ks_history.specs.History.{at, IsHistory}
use Rattle.ks_law_restore.specs.Replicas.{fed_replica}
use Rattle.ks_law_restore.specs.Views.{take_all, skip_view}
use Rattle.ks_law_commit.specs.Bounds.{stable_of}

-- a position rose, or is at least the last stable offset
abbrev pub IsMoved : ℕ → ℕ → ℕ → Type 0
IsMoved stable old new = (old < new) ⊎ (stable ≤ new)

-- the replica was fed from these changelogs since the journal was `h`: no position fell, and each of these rose, or had nothing stable
-- left in `h`
pub record IsFed (setup : Setup) (h : List Entry) (topics : List ℕ) (old new : ReplicaView) : Type 0 where
  pub task : new.task ≡ old.task
  pub later : (topic : ℕ) → old.position topic ≤ new.position topic
  pub moved : (topic : ℕ) → has_topic topic topics ≡ true →
      IsMoved (stable_of (at setup h) (part_of topic old.task)) (old.position topic) (new.position topic)

-- the task read in this input alone: its name, its committed offsets and its changelog positions are the same, and no position fell
pub record HasRead (topic : ℕ) (old new : TaskView) : Type 0 where
  pub task : new.task ≡ old.task
  pub kept : (u : ℕ) → new.kept u ≡ old.kept u
  pub position : (u : ℕ) → new.position u ≡ old.position u
  pub later : (u : ℕ) → old.inputs u ≤ new.inputs u

-- ---- the laws
abbrev pub FeedingMoves : Type 0
FeedingMoves = (setup : Setup) (journal : List Entry) (r : ReplicaView) (topic limit : ℕ) →
    r.position topic ≤ end_of (at setup journal) (part_of topic r.task) → 1 ≤ limit →
    let got = fetched (at setup journal) (part_of topic r.task) (r.position topic) limit in
    IsFed setup journal (topic ∷ []) r (fed_replica r topic got.0 got.1)

abbrev pub FedTwice : Type 0
FedTwice = (setup : Setup) (h more : List Entry) (first then_fed : List ℕ) (a b c : ReplicaView) →
    IsNetwork setup.plan → IsHistory setup (h ++ more) →
    IsFed setup h first a b → IsFed setup (h ++ more) then_fed b c → IsFed setup h (first ++ then_fed) a c

-- a fetch that moves the position
abbrev pub ReadingMoves : Type 0
ReadingMoves = (setup : Setup) (journal : List Entry) (v : TaskView) (topic limit : ℕ) →
    let got = fetched (at setup journal) (part_of topic v.task) (v.inputs topic) limit in
    v.inputs topic < got.1 → let now = skip_view (take_all setup.plan v topic got.0) topic got.1 in
    HasRead topic v now × (v.inputs topic < now.inputs topic)
