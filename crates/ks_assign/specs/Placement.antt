-- Good assignments of tasks to a group's workers, after KIP-441 (Smooth Scaling Out for Kafka Streams): a task is active
-- where its state is caught up, in balance as far as that goes, and is warmed up where balance would have it.
use Rattle.std.specs.Prelude.{◌≡◌, ℕ, suc, ◌+◌, ◌-◌, ◌==◌, ◌&&◌, ◌||◌, not, Bool, true, if◌then◌else◌, nat_le, nat_lt, ◌<◌, min, length, List, [], ◌∷◌}
use Rattle.std.specs.List.{list_all, list_any}
use Rattle.ks_record.specs.Parts.{same_task}
use Rattle.ks_record.specs.declared.record.TaskId.{TaskId}
use Rattle.ks_record.specs.declared.assignment.Assignment.{Assignment}
use Rattle.ks_assign.specs.Lag.{warm, some_warm}
use Rattle.ks_assign.specs.declared.clients.Client.{Client}
use Rattle.ks_assign.specs.declared.clients.Held.{Held}
use Rattle.ks_assign.specs.declared.clients.Wants.{Wants}

-- tasks, each with a worker; or each with a client, named by its instance
abbrev pub Places : Type 0
Places = List (TaskId × ℕ)

abbrev pub has_task : TaskId → List TaskId → Bool
has_task t tasks = list_any (λ u. same_task u t) tasks

abbrev pub has_worker : ℕ → List ℕ → Bool
has_worker w workers = list_any (λ v. v == w) workers

-- the client that has the worker; 256, which is no instance, where none has
abbrev pub home : List Client → ℕ → ℕ
home [] w = 256
home (c ∷ clients) w = if has_worker w c.workers then c.instance else home clients w

-- the same places, with clients for workers
abbrev pub by_client : List Client → Places → Places
by_client clients [] = []
by_client clients (p ∷ places) = (p.0, home clients p.1) ∷ by_client clients places

-- how many tasks stand at a worker, or at a client
abbrev pub load : ℕ → Places → ℕ
load i [] = 0
load i (p ∷ places) = if p.1 == i then suc (load i places) else load i places

-- how often a task stands in a list
abbrev pub times : TaskId → Places → ℕ
times t [] = 0
times t (p ∷ places) = if same_task p.0 t then suc (times t places) else times t places

-- how often a task stands at a client
abbrev pub copies : TaskId → ℕ → Places → ℕ
copies t i [] = 0
copies t i (p ∷ places) = if same_task p.0 t && (p.1 == i) then suc (copies t i places) else copies t i places

-- a client may run the task: it is warm for it, or no client is
abbrev pub may_run : List Client → List Held → ℕ → ℕ → TaskId → Bool
may_run clients held most i t = warm held most i t || not (some_warm clients held most t)

-- client a has at least two more active tasks than client b
abbrev pub outweighs : ℕ → ℕ → Places → Bool
outweighs a b active = nat_le (load b active + 2) (load a active)

-- each task is active exactly once
abbrev pub each_once : List TaskId → Places → Bool
each_once tasks active = list_all (λ t. times t active == 1) tasks

-- only these tasks are named, each at a worker of some client
abbrev pub all_known : List TaskId → Places → Bool
all_known tasks places = list_all (λ p. has_task p.0 tasks && nat_lt p.1 256) places

-- 1. each task is active exactly once, and no place names another task or a worker of no client
abbrev pub places_tasks : List TaskId → Places → Places → Places → Bool
places_tasks tasks active standby warmup =
    each_once tasks active && (all_known tasks active && (all_known tasks standby && all_known tasks warmup))

-- 2. where some client is warm for a task, its active client is
abbrev pub runs_warm : List Client → List Held → ℕ → Places → Bool
runs_warm clients held most active = list_all (λ p. may_run clients held most p.1 p.0) active

-- no client with two active tasks less could run the task: some client is warm for it and that one isn't
abbrev pub stays : List Client → List Held → ℕ → Places → TaskId × ℕ → Bool
stays clients held most active p =
    list_all (λ b. not (outweighs p.1 b.instance active) || not (may_run clients held most b.instance p.0)) clients

-- 3. where client a has at least two more active tasks than client b, for each active task of a some client is warm and b isn't
abbrev pub is_balanced : List Client → List Held → ℕ → Places → Bool
is_balanced clients held most active = list_all (λ p. stays clients held most active p) active

-- no client has the task twice, as its active one or as a standby
abbrev pub is_spread : List Client → TaskId → Places → Places → Bool
is_spread clients t active standby =
    list_all (λ c. nat_le (copies t c.instance active + copies t c.instance standby) 1) clients

-- 4. each task has exactly min(wanted, clients - 1) standbys, at distinct clients other than the active one's
abbrev pub has_standbys : List TaskId → List Client → ℕ → Places → Places → Bool
has_standbys tasks clients wanted active standby =
    list_all (λ t. (times t standby == min wanted (length clients - 1)) && is_spread clients t active standby) tasks

-- each warmup is at a client that isn't warm for the task and has nothing else of it
abbrev pub all_cold : List Held → ℕ → Places → Places → Places → Bool
all_cold held most active standby warmup =
    list_all (λ p. not (warm held most p.1 p.0)
    && ((copies p.0 p.1 active + copies p.0 p.1 standby + copies p.0 p.1 warmup) == 1)) warmup

-- 5. there are at most so many warmups, each at a client that isn't warm for the task and has neither its active place, a
-- standby nor another warmup of it
abbrev pub warms_up : List Held → ℕ → ℕ → Places → Places → Places → Bool
warms_up held most wanted active standby warmup =
    nat_le (length warmup) wanted && all_cold held most active standby warmup

-- each client with two active tasks less has a standby or a warmup of the task
abbrev pub is_prepared : List Client → Places → Places → Places → TaskId × ℕ → Bool
is_prepared clients active standby warmup p =
    list_all (λ b. not (outweighs p.1 b.instance active)
    || nat_le 1 (copies p.0 b.instance standby + copies p.0 b.instance warmup)) clients

abbrev pub all_prepared : List Client → Places → Places → Places → Bool
all_prepared clients active standby warmup = list_all (λ p. is_prepared clients active standby warmup p) active

-- 6. where client a has at least two more active tasks than client b and there are fewer warmups than wanted, each active
-- task of a has a standby or a warmup at b
abbrev pub prepares : List Client → ℕ → Places → Places → Places → Bool
prepares clients wanted active standby warmup =
    nat_le wanted (length warmup) || all_prepared clients active standby warmup

-- the active counts of two of these workers differ by at most 1
abbrev pub is_even : Places → List ℕ → Bool
is_even active workers = list_all (λ w. list_all (λ v. nat_le (load w active) (load v active + 1)) workers) workers

-- 7. the active counts of two workers of one client differ by at most 1
abbrev pub all_even : List Client → Places → Bool
all_even clients active = list_all (λ c. is_even active c.workers) clients

-- a good assignment of the tasks to the clients, whose lags are told, by what is wanted; the first six points speak of
-- clients, the last of workers
pub record IsGood (tasks : List TaskId) (clients : List Client) (held : List Held) (wants : Wants) (a : Assignment) : Type 0 where
  pub once : places_tasks tasks (by_client clients a.active) (by_client clients a.standby)
      (by_client clients a.warmup) ≡ true
  pub caught_up : runs_warm clients held wants.lag (by_client clients a.active) ≡ true
  pub balanced : is_balanced clients held wants.lag (by_client clients a.active) ≡ true
  pub standbys : has_standbys tasks clients wants.standbys (by_client clients a.active)
      (by_client clients a.standby) ≡ true
  pub warmups : warms_up held wants.lag wants.warmups (by_client clients a.active)
      (by_client clients a.standby) (by_client clients a.warmup) ≡ true
  pub prepared : prepares clients wants.warmups (by_client clients a.active)
      (by_client clients a.standby) (by_client clients a.warmup) ≡ true
  pub even : all_even clients a.active ≡ true

-- the seven points as one test: true exactly where the assignment is good
abbrev pub is_good : List TaskId → List Client → List Held → Wants → Assignment → Bool
is_good tasks clients held wants a =
    let active = by_client clients a.active in
    let standby = by_client clients a.standby in
    let warmup = by_client clients a.warmup in
    places_tasks tasks active standby warmup
    && (runs_warm clients held wants.lag active
    && (is_balanced clients held wants.lag active
    && (has_standbys tasks clients wants.standbys active standby
    && (warms_up held wants.lag wants.warmups active standby warmup
    && (prepares clients wants.warmups active standby warmup && all_even clients a.active)))))

-- a client has the worker
abbrev pub employs : ℕ → List Client → Bool
employs w clients = list_any (λ c. has_worker w c.workers) clients

-- no two clients have a worker in common
abbrev pub workers_apart : List Client → Bool
workers_apart [] = true
workers_apart (c ∷ clients) = list_all (λ w. not (employs w clients)) c.workers && workers_apart clients

abbrev pub has_instance : ℕ → List Client → Bool
has_instance i clients = list_any (λ c. c.instance == i) clients

abbrev pub instances_apart : List Client → Bool
instances_apart [] = true
instances_apart (c ∷ clients) = not (has_instance c.instance clients) && instances_apart clients

-- no task stands there twice
abbrev pub tasks_apart : List TaskId → Bool
tasks_apart [] = true
tasks_apart (t ∷ tasks) = not (has_task t tasks) && tasks_apart tasks

-- there is a client, each has a worker, no two have a worker in common, and no two are of one instance
pub record AreClients (clients : List Client) : Type 0 where
  pub some : 0 < length clients
  pub manned : list_all (λ c. nat_lt 0 (length c.workers)) clients ≡ true
  pub workers : workers_apart clients ≡ true
  pub instances : instances_apart clients ≡ true
