-- Which input a worker's tasks read.
use Rattle.std.specs.Prelude.{ℕ}
use Rattle.ks_history.specs.Machine.{TaskPlan}
use Rattle.ks_shared.specs.Calls.{setup_in}
use Rattle.ks_worker_state.specs.declared.state.WorkerState.{WorkerState}
use Rattle.ks_worker_acts.specs.Inputs.{places_from, from_pick, MovesFirst}

-- of its tasks' inputs, from the one that the pick names on and round once, the first that could be was moved
abbrev pub HasPicked : {W G : Type 0} → (W → TaskPlan) → ℕ → WorkerState W G → WorkerState W G → Type 0
HasPicked plan pick old new =
    let setup = setup_in plan old.session.client.pass.frame in
    MovesFirst setup old.session.client.pass.seen (from_pick pick (places_from setup.plan.inputs 0 old.tasks.items)) old.tasks.items new.tasks.items
