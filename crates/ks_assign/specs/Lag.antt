-- How far a client is behind with a task (KIP-441: the lag of the task's state).
use Rattle.std.specs.Prelude.{ℕ, ◌-◌, ◌^◌, ◌==◌, ◌&&◌, min, max, sum, Bool, List, [], ◌∷◌, if◌then◌else◌, nat_le}
use Rattle.std.specs.List.{list_any}
use Rattle.ks_record.specs.Parts.{same_task}
use Rattle.ks_record.specs.declared.record.TaskId.{TaskId}
use Rattle.ks_assign.specs.declared.clients.Client.{Client}
use Rattle.ks_assign.specs.declared.clients.Held.{Held}

-- the sum of offsets; 2^64 - 1 where it would be more
abbrev pub offset_sum : List ℕ → ℕ
offset_sum offsets = min (sum offsets) (2 ^ 64 - 1)

-- the greatest of the positions, 0 where there is none
abbrev pub greatest : List ℕ → ℕ
greatest [] = 0
greatest (position ∷ positions) = max position (greatest positions)

-- the lag of a client for a task: the sum of the ends of the task's changelogs minus the greatest position sum that one of
-- the client's workers holds, and never below 0
abbrev pub lag : List ℕ → List ℕ → ℕ
lag ends positions = offset_sum ends - greatest positions

-- the lags that are told of a client for a task
abbrev pub lags_of : ℕ → TaskId → List Held → List ℕ
lags_of i t [] = []
lags_of i t (h ∷ held) = if (h.instance == i) && same_task h.task t then h.lag ∷ lags_of i t held else lags_of i t held

-- a client is warm for a task (KIP-441: caught up) where its lag is at most the acceptable one
abbrev pub warm : List Held → ℕ → ℕ → TaskId → Bool
warm held most i t = list_any (λ h. (h.instance == i) && (same_task h.task t && nat_le h.lag most)) held

-- some client is warm for the task
abbrev pub some_warm : List Client → List Held → ℕ → TaskId → Bool
some_warm clients held most t = list_any (λ c. warm held most c.instance t) clients
