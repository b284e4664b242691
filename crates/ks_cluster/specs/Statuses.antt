-- The parts of a status over the lists of a broker.
use Rattle.std.specs.Prelude.{ℕ, zero, suc, ◌+◌, Bool, false, nat_eq, if◌then◌else◌, Option, None, Some, List, [], ◌∷◌, ◌++◌, length}
use Rattle.ks_record.specs.declared.record.PartId.{PartId}
use Rattle.ks_record.specs.declared.record.TaskId.{TaskId}
use Rattle.ks_history.specs.declared.transaction.Producer.{Producer}
use Rattle.ks_history.specs.State.{State, Setup, start}
use Rattle.ks_history.specs.Reads.{is_changelog}
use Rattle.ks_log.specs.declared.log.Written.{Written}
use Rattle.ks_txn.specs.Outcomes.{producer_at}
use Rattle.ks_log.specs.Reading.{end_at}

-- a state of which only the producers matter
abbrev pub with_producers : List Producer → State
with_producers producers = record start { producer = producer_at producers }

-- the ends of the partitions of a topic, from `part` on, the last `left` ones
abbrev pub ends_on : List Written → ℕ → ℕ → ℕ → List (PartId × ℕ)
ends_on log topic part zero = []
ends_on log topic part (suc left) =
    let p : PartId = record { topic = topic; part = part } in
    (p, end_at log p) ∷ ends_on log topic (part + 1) left

-- the same, and none where the topic is no changelog
abbrev pub ends_if : Setup → List Written → ℕ → ℕ → List (PartId × ℕ)
ends_if setup log topic count = if is_changelog setup setup.tasks topic then ends_on log topic 0 count else []

-- the ends of every changelog partition, of topics with these counts from `topic` on
abbrev pub changelogs_on : Setup → List Written → ℕ → List ℕ → List (PartId × ℕ)
changelogs_on setup log topic [] = []
changelogs_on setup log topic (count ∷ counts) = ends_if setup log topic count ++ changelogs_on setup log (topic + 1) counts

abbrev pub is_same_sub : Option ℕ → ℕ → Bool
is_same_sub None sub = false
is_same_sub (Some other) sub = nat_eq other sub

-- of tasks of one subtopology that stand together the first, behind one of the subtopology `last`
abbrev pub firsts_from : Option ℕ → List TaskId → List TaskId
firsts_from last [] = []
firsts_from last (t ∷ ts) = if is_same_sub last t.sub then firsts_from (Some t.sub) ts else t ∷ firsts_from (Some t.sub) ts
