-- What a worker's gate is shown before its next act.
use Rattle.std.specs.Prelude.{◌≡◌, ◌+◌, ◌-◌, ◌^◌, ℕ, Bool, List, [], ◌∷◌, length, min}
use Rattle.ks_edge.specs.declared.gate.TurnView.{TurnView}
use Rattle.ks_task.specs.declared.task.Task.{Task}
use Rattle.ks_task.specs.Tasks.{uncommitted}
use Rattle.ks_worker.specs.declared.worker.Worker.{Worker}

-- the sum of position minus committed offset over all inputs of these tasks
abbrev pub uncommitted_by : List Task → ℕ
uncommitted_by [] = 0
uncommitted_by (t ∷ ts) = uncommitted t + uncommitted_by ts

pub record IsShown {W G : Type 0} (worker : Worker W G) (fed : Bool) (view : TurnView) : Type 0 where
  pub number : view.worker ≡ worker.state.member.number
  pub turn : view.turn ≡ worker.turn
  pub tasks : view.tasks ≡ min (length worker.state.tasks.items) (2 ^ 32 - 1)
  pub dirty : view.dirty ≡ min (uncommitted_by worker.state.tasks.items) (2 ^ 64 - 1)
  pub dry : view.dry ≡ worker.dry
  pub waiting : view.waiting ≡ worker.waiting
  pub feeding : view.feeding ≡ fed
