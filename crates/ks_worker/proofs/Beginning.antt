-- A new worker may act.
use Rattle.std.proofs.Common.{◌≡◌, ◌≤◌, ℕ, false, List, [], refl, sym, subst, arith}
use Rattle.atomic_table.specs.Seated.{TableId}
use Rattle.ks_plan.specs.Drafts.{DraftView}
use Rattle.ks_history.specs.Machine.{TaskPlan}
use Rattle.ks_history.specs.History.{IsHistory}
use Rattle.ks_shared.specs.Calls.{setup_in}
use Rattle.ks_worker_client.specs.declared.member.Member.{Member}
use Rattle.ks_worker_client.specs.Calls.{MayCall}
use Rattle.ks_worker_state.specs.declared.state.WorkerState.{WorkerState}
use Rattle.ks_worker_state.specs.Topology.{RunsTopology}
use Rattle.ks_worker_state.specs.Worker.{IsWorker}
use Rattle.ks_worker_state.specs.State.{IsWorkerState, MayAct}
use Rattle.ks_worker_state.proofs.Workers.{crashed}
use Rattle.ks_worker.specs.Beginning.{IsNew}

module _ {W G : Type 0} (plan : W → TaskPlan) (d : DraftView) (number instance : ℕ) (s : WorkerState W G) (few : number ≤ 15) (small : instance ≤ 3) (new : IsNew number instance s) where
  new_is_worker : IsHistory (setup_in plan s.session.client.pass.frame) s.session.client.pass.seen → IsWorkerState plan d s
  new_is_worker history =
      let m : Member = record { number = number; instance = instance; epoch = 0; generation = 0; is_member = false; cache = s.member.cache } in
      let here : IsWorker plan d s.session.client.pass m 0 [] [] [] = crashed plan d s.session.client.pass m few small history in
      subst (λ (x : Member). IsWorker plan d s.session.client.pass x s.session.last s.session.numbers.items s.tasks.items s.replicas.items) (sym new.member)
      (subst (λ n. IsWorker plan d s.session.client.pass m n s.session.numbers.items s.tasks.items s.replicas.items) (sym new.last)
      (subst (λ ns. IsWorker plan d s.session.client.pass m 0 ns s.tasks.items s.replicas.items) (sym new.numbers)
      (subst (λ ts. IsWorker plan d s.session.client.pass m 0 [] ts s.replicas.items) (sym new.tasks)
      (subst (λ rs. IsWorker plan d s.session.client.pass m 0 [] [] rs) (sym new.replicas) here))))

  -- as soon as its pass may
  pub new_may_act : (hash : List ℕ → ℕ) (lock : TableId) → MayCall plan lock s.session.client.pass s.session.client.gate → RunsTopology hash d (setup_in plan s.session.client.pass.frame) → MayAct plan hash lock d s
  new_may_act hash lock may runs = record { call = may; topology = runs; worker = new_is_worker may.history }
