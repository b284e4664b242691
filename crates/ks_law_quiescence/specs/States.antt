-- The states of the uncrashed runs of a topology, and the rows in them.
use Rattle.std.specs.Prelude.{List, Option, option_map, ℕ}
use Rattle.ks_record.specs.declared.record.TaskId.{TaskId}
use Rattle.ks_expr.specs.Eval.{Row}
use Rattle.ks_plan.specs.Plan.{Plan}
use Rattle.ks_plan.specs.Layout.{sub_of}
use Rattle.ks_def_runs.specs.FinMap as map
use Rattle.ks_def_runs.specs.Run.{RunState, run}
use Rattle.ks_query.specs.Streams.{Key, Input}
use Rattle.ks_def_tasks.specs.Messages.{Place, shown, Item, Store, Rules}
use Rattle.ks_def_tasks.specs.Tasks.{machine, inputs_of}
use Rattle.ks_def_tasks.specs.Rest.{home}

abbrev pub State : Type 0
State = RunState TaskId Place Store Item

-- after the choices of a schedule: each names a sender and a partition, whose first record is taken
abbrev pub state_of : Rules → Plan → List Input → List (Option TaskId × Place) → State
state_of rules p records schedule = run (machine rules p) (inputs_of rules p records) schedule

-- the row that a task shows of a node at a key
abbrev pub row_at : State → TaskId → ℕ → Key → Option Row
row_at st u n k = option_map shown (map.get ((st.stores u).tables n) k)

-- the task that keeps a node's key
abbrev pub home_task : Rules → Plan → ℕ → Key → TaskId
home_task rules p n k = record { sub = sub_of p n; part = home rules p n k }
