-- The requests that read: they aren't kept, and change nothing.
use Rattle.std.specs.Prelude.{ℕ, zero, suc, ◌+◌, ◌≤◌, ◌||◌, Bool, true, false, if◌then◌else◌, Option, List, [], ◌∷◌, ◌++◌, length, map}
use Rattle.ks_record.specs.Records.{Record as Rec}
use Rattle.ks_record.specs.declared.record.PartId.{PartId}
use Rattle.ks_record.specs.declared.record.TaskId.{TaskId}
use Rattle.ks_record.specs.declared.assignment.Refused.{Refused}
use Rattle.ks_history.specs.declared.journal.Status.{Status}
use Rattle.ks_history.specs.Partition.{read, read_next, with_offsets}
use Rattle.ks_history.specs.Machine.{has_topic}
use Rattle.ks_history.specs.State.{State, Setup, IsPart}
use Rattle.ks_history.specs.Step.{or_else, old_generation, not_assigned, unstable, is_undecided}
use Rattle.ks_history.specs.Faithful.{decided}

-- ---- fetch: committed records of a partition, and where the next fetch goes on
pub record MayFetch (setup : Setup) (s : State) (p : PartId) (from limit : ℕ) : Type 0 where
  pub part : IsPart setup p
  pub within : from ≤ length (s.partition p)
  pub some : 1 ≤ limit

abbrev pub fetched : State → PartId → ℕ → ℕ → List (ℕ × Rec) × ℕ
fetched s p from limit = (read from limit (s.partition p), read_next from limit (s.partition p))

-- ---- committed: the committed offset of each input of a task, in the order of its inputs
abbrev pub committed_refusal : State → ℕ → ℕ → TaskId → Option Refused
committed_refusal s w g t = or_else (old_generation s g) (or_else (not_assigned s w t) (unstable s t))

abbrev pub committed_offsets : Setup → State → TaskId → List (ℕ × ℕ)
committed_offsets setup s t = map (λ topic. (topic, s.committed t topic)) (setup.plan.inputs t.sub)

-- ---- ends
abbrev pub end_of : State → PartId → ℕ
end_of s p = length (s.partition p)

abbrev pub ends_of : State → List PartId → List ℕ
ends_of s parts = map (end_of s) parts

-- ---- status
-- the topic is a changelog of some task
abbrev pub is_changelog : Setup → List TaskId → ℕ → Bool
is_changelog setup [] topic = false
is_changelog setup (t ∷ ts) topic = has_topic topic (setup.plan.changelogs t.sub) || is_changelog setup ts topic

-- the ends of the partitions of a topic, from the first of the last `left` ones
abbrev pub topic_ends : State → ℕ → ℕ → ℕ → List (PartId × ℕ)
topic_ends s topic part zero = []
topic_ends s topic part (suc left) =
    let p : PartId = record { topic = topic; part = part } in
    (p, end_of s p) ∷ topic_ends s topic (part + 1) left

-- the ends of every changelog partition, by topic and partition, of topics with these counts from `topic` on
abbrev pub changelog_ends : Setup → State → ℕ → List ℕ → List (PartId × ℕ)
changelog_ends setup s topic [] = []
changelog_ends setup s topic (count ∷ counts) =
    if is_changelog setup setup.tasks topic
    then topic_ends s topic 0 count ++ changelog_ends setup s (topic + 1) counts
    else changelog_ends setup s (topic + 1) counts

-- the held positions of workers from `w` on, the last `left` ones
abbrev pub held_from : State → ℕ → ℕ → List (ℕ × TaskId × ℕ)
held_from s w zero = []
held_from s w (suc left) = map (λ h. (w, h.0, h.1)) (s.held w) ++ held_from s (w + 1) left

abbrev pub waiting_from : State → ℕ → ℕ → ℕ
waiting_from s w zero = 0
waiting_from s w (suc left) = length (s.producer w).waiting + waiting_from s (w + 1) left

abbrev pub status : Setup → State → Status
status setup s = record {
  generation = s.generation;
  members = s.members;
  assignment = s.assignment;
  held = held_from s 0 17;
  waiting = waiting_from s 0 17;
  ends = changelog_ends setup s 0 setup.counts;
}

-- ---- what else a cluster tells of itself
-- the decided records of a partition, with their offsets
abbrev pub decided_records : State → PartId → List (ℕ × Rec)
decided_records s p = with_offsets (decided s p)

abbrev pub is_some_waiting : {A : Type 0} → List A → Bool
is_some_waiting [] = false
is_some_waiting (m ∷ ms) = true

-- how many producers, from the first of the last `left` ones, have an undecided transaction or a waiting marker
abbrev pub pending_from : State → ℕ → ℕ → ℕ
pending_from s w zero = 0
pending_from s w (suc left) =
    if is_undecided (s.producer w) || is_some_waiting (s.producer w).waiting
    then suc (pending_from s (w + 1) left)
    else pending_from s (w + 1) left

abbrev pub pending_producers : State → ℕ
pending_producers s = pending_from s 0 17
