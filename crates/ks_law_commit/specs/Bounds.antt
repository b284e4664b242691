-- How far a fetch moves a position, and how far one may stand (KIP-98: the last stable offset).
use Rattle.std.specs.Prelude.{◌≡◌, ◌≤◌, ℕ, true, List, ◌++◌}
use Rattle.ks_record.specs.declared.record.PartId.{PartId}
use Rattle.ks_history.specs.declared.journal.Entry.{Entry}
use Rattle.ks_history.specs.Partition.{stable}
use Rattle.ks_history.specs.Machine.{IsNetwork, has_topic, part_of}
use Rattle.ks_history.specs.State.{State, Setup}
use Rattle.ks_history.specs.Reads.{end_of, fetched}
use Rattle.ks_history.specs.Follows.{ReplicaView, ReplicaFollows}
use Rattle.ks_history.specs.History.{at, IsHistory}

-- the last stable offset of a partition
abbrev pub stable_of : State → PartId → ℕ
stable_of s p = stable (s.partition p)

-- the next fetch goes on at `next`
pub record FetchGoesOn (s : State) (p : PartId) (from next : ℕ) : Type 0 where
  pub later : from ≤ next
  pub within : next ≤ end_of s p
  -- where it doesn't move, nothing stable is left
  pub stops : next ≡ from → stable_of s p ≤ from

-- ---- the laws
abbrev pub FetchesGoOn : Type 0
FetchesGoOn = (s : State) (p : PartId) (from limit : ℕ) → from ≤ end_of s p → 1 ≤ limit →
    FetchGoesOn s p from (fetched s p from limit).1

abbrev pub StableRises : Type 0
StableRises = (setup : Setup) (journal more : List Entry) (p : PartId) → IsNetwork setup.plan → IsHistory setup (journal ++ more) →
    stable_of (at setup journal) p ≤ stable_of (at setup (journal ++ more)) p

abbrev pub ReplicaIsWithin : Type 0
ReplicaIsWithin = (setup : Setup) (journal : List Entry) (r : ReplicaView) (topic : ℕ) →
    has_topic topic (setup.plan.changelogs r.task.sub) ≡ true → ReplicaFollows setup journal r →
    r.position topic ≤ end_of (at setup journal) (part_of topic r.task)
