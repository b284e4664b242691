-- What a worker leaves follows.
use Rattle.std.proofs.Common.{◌≡◌, List, ◌++◌, Result, Ok, sym, ap, subst, ◌∙◌}
use Rattle.std.specs.Prelude.{if◌then◌else◌, is_ok}
use Rattle.std.specs.List.{All}
use Rattle.std.proofs.lemmas.List.Elements.{All-append, All-weaker}
use Rattle.ks_history.specs.Machine.{TaskPlan}
use Rattle.ks_shared.specs.Calls.{setup_in}
use Rattle.ks_standby.specs.declared.replica.Replica.{Replica}
use Rattle.ks_worker_state.specs.declared.state.WorkerState.{WorkerState}
use Rattle.ks_worker_state.specs.Standbys.{IsStandby}
use Rattle.ks_worker_acts.specs.Telling.{RestsOnto}
use Rattle.ks_worker.specs.Left.{LeavesStandbys, PutsBehind}

-- its replicas and its rested tasks, put behind others
pub leaves : {W G : Type 0} (plan : W → TaskPlan) (s : WorkerState W G) (rested old new : List Replica) → RestsOnto s.tasks.items s.replicas.items rested → new ≡ old ++ rested → LeavesStandbys plan s old new
leaves plan s rested old new rests is hash d setup journal may all =
    let own = IsStandby (setup_in plan s.session.client.pass.frame) s.session.client.pass.seen in
    let here : All own rested = rests.standbys hash d (setup_in plan s.session.client.pass.frame) s.session.client.pass.seen s.member s.session.last may.topology may.worker.tasks_are may.worker.replicas_are in
    subst (All (IsStandby setup journal)) (sym is) (All-append (IsStandby setup journal) old rested all (All-weaker own (IsStandby setup journal) may.on rested here))

-- the same list, by its names
pub puts_behind : {W G : Type 0} (s : WorkerState W G) (rested old new : List Replica) → RestsOnto s.tasks.items s.replicas.items rested → new ≡ old ++ rested → PutsBehind s old new
puts_behind s rested old new rests is = record { left = rested; behind = is; names = rests.names }

-- a list that was appended
pub appended : {A E X : Type 0} (r : Result A E) (v : A) (old more new : List X) → new ≡ (if is_ok r then old ++ more else old) → r ≡ Ok v → new ≡ old ++ more
appended r v old more new e is = e ∙ ap (λ x. if is_ok x then old ++ more else old) is
