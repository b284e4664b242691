-- What the steps of making an assignment keep. No promise rests on these words.
use Rattle.std.specs.Prelude.{◌≡◌, ℕ, ◌+◌, ◌==◌, ◌&&◌, ◌||◌, not, Bool, true, if◌then◌else◌, nat_le, nat_lt, ◌<◌, take, length, List, [], ◌∷◌, ◌++◌, slice_index_or as get_or}
use Rattle.std.specs.List.{list_all}
use Rattle.ks_record.specs.Parts.{same_task}
use Rattle.ks_record.specs.declared.record.TaskId.{TaskId}
use Rattle.ks_assign.specs.Placement.{Places, has_worker, home, by_client, load, copies, may_run, outweighs, runs_warm}
use Rattle.ks_assign.specs.declared.clients.Client.{Client}
use Rattle.ks_assign.specs.declared.clients.Held.{Held}

-- what is told of one task
abbrev pub held_of : TaskId → List Held → List Held
held_of t [] = []
held_of t (h ∷ held) = if same_task h.task t then h ∷ held_of t held else held_of t held

abbrev pub tasks_of : Places → List TaskId
tasks_of [] = []
tasks_of (p ∷ places) = p.0 ∷ tasks_of places

abbrev pub all_home : List Client → Places → Bool
all_home clients places = list_all (λ p. nat_lt (home clients p.1) 256) places

-- each task has a place where it may run
pub record IsPlan (tasks : List TaskId) (clients : List Client) (held : List Held) (most : ℕ) (places : Places) : Type 0 where
  pub tasks_are : tasks_of places ≡ tasks
  pub homes : all_home clients places ≡ true
  pub runs : runs_warm clients held most (by_client clients places) ≡ true

-- pairs of tasks at one client, of which each move leaves fewer
abbrev pub pairs : Places → ℕ
pairs [] = 0
pairs (p ∷ places) = load p.1 places + pairs places

-- the worker's client has two tasks less than client i, and may run the task
pub record IsBetter (clients : List Client) (held : List Held) (most : ℕ) (active : Places) (t : TaskId) (i w : ℕ) : Type 0 where
  pub less : outweighs i (home clients w) active ≡ true
  pub runs : may_run clients held most (home clients w) t ≡ true
  pub homes : nat_lt (home clients w) 256 ≡ true

-- the task at position k has a better place at worker w
pub record IsMove (clients : List Client) (held : List Held) (most : ℕ) (active : Places) (k w : ℕ) : Type 0 where
  pub within : k < length active
  pub better : (d : TaskId × ℕ) → IsBetter clients held most (by_client clients active) (get_or active k d).0 (home clients (get_or active k d).1) w

-- no worker of its client has fewer tasks
abbrev pub all_least : List Client → ℕ → Places → Bool
all_least clients r places =
    list_all (λ c. not (has_worker r c.workers) || list_all (λ v. nat_le (load r places) (load v places)) c.workers) clients

-- a task at each client but its own
abbrev pub others : List Client → ℕ → TaskId → Places
others [] h t = []
others (c ∷ clients) h t = if c.instance == h then others clients h t else (t, c.instance) ∷ others clients h t

-- each task at its first n other clients
abbrev pub all_others : List Client → ℕ → Places → Places
all_others clients n [] = []
all_others clients n (p ∷ places) = take n (others clients p.1 p.0) ++ all_others clients n places

-- a task at each client that has at least two less than its own, and no standby of it
abbrev pub wanted : List Client → Places → Places → TaskId × ℕ → Places
wanted [] active standby p = []
wanted (c ∷ clients) active standby p =
    if outweighs p.1 c.instance active && (copies p.0 c.instance standby == 0)
    then (p.0, c.instance) ∷ wanted clients active standby p
    else wanted clients active standby p

abbrev pub all_wanted : List Client → Places → Places → Places → Places
all_wanted clients active standby [] = []
all_wanted clients active standby (p ∷ places) = wanted clients active standby p ++ all_wanted clients active standby places

-- how many places there are at each client, by instance
abbrev pub Counts : List ℕ → Places → Type 0
Counts counts places = (i : ℕ) → i < 257 → get_or counts i 0 ≡ load i places
