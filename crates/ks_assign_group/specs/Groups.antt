-- What a cluster tells of its group, as the assignor takes it: the clients that its members form, and how far each is behind with each
-- task (KIP-441).
use Rattle.std.specs.Prelude.{◌≡◌, ℕ, zero, suc, ◌/◌, ◌==◌, ◌&&◌, Bool, true, if◌then◌else◌, nat_le, List, [], ◌∷◌, ◌++◌, map}
use Rattle.ks_record.specs.declared.record.PartId.{PartId}
use Rattle.ks_record.specs.declared.record.TaskId.{TaskId}
use Rattle.ks_record.specs.declared.assignment.Assignment.{Assignment}
use Rattle.ks_record.specs.Parts.{same_part, same_task}
use Rattle.ks_history.specs.declared.journal.Status.{Status}
use Rattle.ks_history.specs.Machine.{part_of}
use Rattle.ks_assign.specs.declared.clients.Client.{Client}
use Rattle.ks_assign.specs.declared.clients.Held.{Held}
use Rattle.ks_assign.specs.declared.clients.Placing.{Placing}
use Rattle.ks_assign.specs.Lag.{lag}
use Rattle.ks_assign.specs.Placement.{has_worker, is_good}

-- ---- clients
-- worker w, 0 to 16, is one of instance w / threads
abbrev pub is_at : ℕ → ℕ → ℕ → Bool
is_at threads instance w = nat_le w 16 && ((w / threads) == instance)

-- the members that are workers of an instance
abbrev pub workers_at : ℕ → ℕ → List ℕ → List ℕ
workers_at threads instance [] = []
workers_at threads instance (w ∷ members) =
    if is_at threads instance w then w ∷ workers_at threads instance members else workers_at threads instance members

-- an instance that has workers is a client
abbrev pub client_of : ℕ → List ℕ → List Client
client_of instance [] = []
client_of instance (w ∷ workers) = record { instance = instance; workers = w ∷ workers } ∷ []

-- the clients of the instances below a number
abbrev pub clients_below : ℕ → ℕ → List ℕ → List Client
clients_below zero threads members = []
clients_below (suc n) threads members = clients_below n threads members ++ client_of n (workers_at threads n members)

abbrev pub clients_of : ℕ → List ℕ → List Client
clients_of threads members = clients_below 17 threads members

-- ---- lags
-- the end that is told of a partition; 0 where none is
abbrev pub end_in : PartId → List (PartId × ℕ) → ℕ
end_in p [] = 0
end_in p (e ∷ ends) = if same_part p e.0 then e.1 else end_in p ends

-- the ends of a task's partitions of these changelogs
abbrev pub ends_at : TaskId → List ℕ → List (PartId × ℕ) → List ℕ
ends_at t changelogs ends = map (λ topic. end_in (part_of topic t) ends) changelogs

-- the positions that these workers hold of a task
abbrev pub positions_in : List ℕ → TaskId → List (ℕ × TaskId × ℕ) → List ℕ
positions_in workers t [] = []
positions_in workers t (h ∷ held) =
    if has_worker h.0 workers && same_task t h.1 then h.2 ∷ positions_in workers t held else positions_in workers t held

-- the lag of a client for a task whose subtopology has these changelogs
abbrev pub lag_of : Client → TaskId → List ℕ → List (ℕ × TaskId × ℕ) → List (PartId × ℕ) → Held
lag_of c t changelogs held ends = record {
  instance = c.instance;
  task = t;
  lag = lag (ends_at t changelogs ends) (positions_in c.workers t held);
}

-- the lags of a client for each of these tasks
abbrev pub lags_at : (ℕ → List ℕ) → Client → List TaskId → List (ℕ × TaskId × ℕ) → List (PartId × ℕ) → List Held
lags_at changelogs c tasks held ends = map (λ t. lag_of c t (changelogs t.sub) held ends) tasks

-- the lags of each client for each task
abbrev pub lags_in : (ℕ → List ℕ) → List Client → List TaskId → List (ℕ × TaskId × ℕ) → List (PartId × ℕ) → List Held
lags_in changelogs [] tasks held ends = []
lags_in changelogs (c ∷ clients) tasks held ends = lags_at changelogs c tasks held ends ++ lags_in changelogs clients tasks held ends

-- ---- the assignment
-- whether an assignment is good for a group with these members, held positions and ends of changelogs, of which each instance has so many
-- workers, by what is wanted
abbrev pub good_by : (ℕ → List ℕ) → List TaskId → Placing → List ℕ → List (ℕ × TaskId × ℕ) → List (PartId × ℕ) → Assignment → Bool
good_by changelogs tasks placing members held ends a =
    let clients = clients_of placing.threads members in
    is_good tasks clients (lags_in changelogs clients tasks held ends) placing.wants a

-- it is good
abbrev pub IsGoodFor : (ℕ → List ℕ) → List TaskId → Placing → List ℕ → List (ℕ × TaskId × ℕ) → List (PartId × ℕ) → Assignment → Type 0
IsGoodFor changelogs tasks placing members held ends a = good_by changelogs tasks placing members held ends a ≡ true

-- the same, by what a cluster tells of its group
abbrev pub IsGoodBy : (ℕ → List ℕ) → List TaskId → Placing → Status → Assignment → Type 0
IsGoodBy changelogs tasks placing status a = IsGoodFor changelogs tasks placing status.members status.held status.ends a
