-- A worker's state before and after a commit of its tasks.
use Rattle.std.proofs.Common.{◌≡◌, ◌≢◌, inl, inr, ℕ, List, [], ◌∷◌, refl, sym, ap, subst, ◌∙◌, Result, Ok, Err}
use Rattle.std.specs.Prelude.{IfOk, OnOk}
use Rattle.std.specs.List.{All}
use Rattle.atomic_table.specs.Seated.{TableId}
use Rattle.ks_record.specs.declared.record.PartId.{PartId}
use Rattle.ks_plan.specs.Drafts.{DraftView}
use Rattle.ks_plan.specs.Plan.{plan_of}
use Rattle.ks_history.specs.Machine.{TaskPlan}
use Rattle.ks_history.specs.State.{Setup, pending_of}
use Rattle.ks_history.specs.History.{at}
use Rattle.ks_law_restore.specs.Views.{WorkView}
use Rattle.ks_law_topology.specs.Work.{work_of}
use Rattle.ks_commit.specs.declared.work.Frozen.{Frozen}
use Rattle.ks_commit.specs.Committed.{works_of, EachOf, AreApart}
use Rattle.ks_commit.specs.Sending.{pendings_of}
use Rattle.ks_def_tasks.specs.Rules.{rules_of}
use Rattle.ks_shared.specs.Calls.{setup_in}
use Rattle.ks_standby.specs.declared.replica.Replica.{Replica}
use Rattle.ks_task.specs.declared.task.Task.{Task}
use Rattle.ks_task.specs.Tasks.{IsTaskOf}
use Rattle.ks_worker_client.specs.declared.client.ClusterClient.{ClusterClient}
use Rattle.ks_worker_client.specs.declared.halt.Halt.{Halt}
use Rattle.ks_worker_client.specs.declared.member.Member.{Member}
use Rattle.ks_worker_client.specs.declared.session.Session.{Session}
use Rattle.ks_worker_client.specs.Calls.{Later}
use Rattle.ks_worker_client.specs.Turns.{with_halt}
use Rattle.ks_worker_client.proofs.Halting.{was_ok_with}
use Rattle.ks_worker_commit.specs.declared.outcome.Outcome.{Outcome}
use Rattle.ks_worker_commit.specs.declared.outcome.Outcome.TheVariants.{Committed, Aborted, Fenced, Touched}
use Rattle.ks_worker_commit.specs.Underway.{AreActiveWorks}
use Rattle.ks_worker_commit.specs.Ends.{HasCase, IsEnded}
use Rattle.ks_worker_commit.specs.Leaves.{LeavesTasks, LeavesProducer, HasNoMarker, LeavesNoMarker}
use Rattle.ks_worker_state.specs.declared.state.WorkerState.{WorkerState}
use Rattle.ks_worker_state.specs.State.{MayAct, IsWorkerState}
use Rattle.ks_worker_state.specs.Worker.{IsWorker, lost}
use Rattle.ks_worker_acts.specs.Works.{AreWorksOf, AreCleanOf}
use Rattle.ks_worker_acts.specs.Told.{AreTold}
use Rattle.ks_worker_acts.specs.Ends.{WasClean, AreWorks, StaysMember, HasCommittedTasks, HasOneEnd, HasDroppedDirty, HasLostAll, HasCrashed}
use Rattle.ks_worker_acts.proofs.Works.{active_works, each_of, works_well, apart, no_works, runs_inside, runs_once}
use Rattle.ks_worker_acts.proofs.Told.{told_clean_all}
use Rattle.ks_worker_acts.proofs.Worker.{worker_aborted, worker_committed, worker_lost, runs_logs}

-- ---- what an answer says
pub on_ok : {A E : Type 0} (r : Result A E) (P Q : Type 0) → (P → Q) → OnOk r P → OnOk r Q
on_ok (Ok x) P Q f h = f h
on_ok (Err e) P Q f h = tt

pub if_ok : {A E : Type 0} (r : Result A E) (x : A) (P : Type 0) (Q : A → Type 0) → (P → Q x) → IfOk r (λ y. y ≡ x) → OnOk r P → IfOk r Q
if_ok (Ok y) x P Q f is h = subst Q (sym is) (f h)
if_ok (Err e) x P Q f is h = tt

module _ {W G : Type 0} (plan : W → TaskPlan) (hash : List ℕ → ℕ) (lock : TableId) (d : DraftView) (s : WorkerState W G) (may : MayAct plan hash lock d s) where
  -- ---- before the commit
  pub works_from : {A E : Type 0} (answer : Result A E) (halted : Result A Halt) (made : A) (items : A → List Frozen) (sliced : List Task) (given : List Frozen) → sliced ≡ s.tasks.items → halted ≡ with_halt answer → halted ≡ Ok made →
      ((e : DraftView) (h : List ℕ → ℕ) → All (IsTaskOf e) sliced → IfOk answer (λ w. AreWorksOf (work_of (rules_of h) (plan_of e)) sliced (works_of (items w)))) → given ≡ items made →
      AreWorksOf (setup_in plan s.session.client.pass.frame).plan s.tasks.items (works_of given)
  works_from answer halted made items sliced given same is was each giving =
      let tasks : All (IsTaskOf d) sliced = subst (All (IsTaskOf d)) (sym same) (λ k t lt. (may.worker.tasks_are k t lt).of) in
      let found : AreWorksOf (work_of (rules_of hash) (plan_of d)) sliced (works_of (items made)) =
      was_ok_with answer (λ w. AreWorksOf (work_of (rules_of hash) (plan_of d)) sliced (works_of (items w))) made (sym is ∙ was) (each d hash tasks) in
      subst (λ (fs : List WorkView). AreWorksOf (setup_in plan s.session.client.pass.frame).plan s.tasks.items fs) (sym (ap works_of giving))
      (subst (λ (ts : List Task). AreWorksOf (setup_in plan s.session.client.pass.frame).plan ts (works_of (items made))) same
      (subst (λ (u : Setup). AreWorksOf u.plan sliced (works_of (items made))) (sym may.topology.setup_is) found))

  pub nothing_dirty : (made : List Frozen) → made ≡ [] → AreWorksOf (setup_in plan s.session.client.pass.frame).plan s.tasks.items (works_of made) → WasClean s s
  nothing_dirty made none are = record {
    clean = no_works (setup_in plan s.session.client.pass.frame).plan s.tasks.items (subst (λ (ws : List Frozen). AreWorksOf (setup_in plan s.session.client.pass.frame).plan s.tasks.items (works_of ws)) none are);
    same = refl;
  }

  some_works : (made : List Frozen) → made ≢ [] → works_of made ≢ []
  some_works [] some = λ e. some refl
  some_works (f ∷ fs) some = λ e. absurd cc

  module _ (fs : List WorkView) (are : AreWorksOf (setup_in plan s.session.client.pass.frame).plan s.tasks.items fs) where
    pub may_active : AreActiveWorks (setup_in plan s.session.client.pass.frame) s.session.client.pass.seen s.member.number s.member.generation s.session.last fs
    may_active = active_works (setup_in plan s.session.client.pass.frame) s.session.client.pass.seen d s.member s.session.last (runs_once hash d (setup_in plan s.session.client.pass.frame) may.topology) s.tasks.items fs may.worker.tasks_are are

    pub may_apart : AreApart fs
    may_apart = apart (setup_in plan s.session.client.pass.frame).plan s.tasks.items fs may.worker.names are

    pub may_each : fs ≢ [] → EachOf (setup_in plan s.session.client.pass.frame) (at (setup_in plan s.session.client.pass.frame) s.session.client.pass.seen) fs
    may_each some =
        let setup : Setup = setup_in plan s.session.client.pass.frame in
        let once = runs_once hash d setup may.topology in
        each_of setup s.session.client.pass.seen d s.member s.session.last once
        (runs_inside hash d setup may.topology (works_well setup s.session.client.pass.seen d s.member s.session.last once s.tasks.items fs some may.worker.tasks_are are)) s.tasks.items fs may.worker.tasks_are are

  pub may_each_of : (made : List Frozen) → made ≢ [] → AreWorksOf (setup_in plan s.session.client.pass.frame).plan s.tasks.items (works_of made) →
      EachOf (setup_in plan s.session.client.pass.frame) (at (setup_in plan s.session.client.pass.frame) s.session.client.pass.seen) (works_of made)
  may_each_of made some are = may_each (works_of made) are (some_works made some)

  -- ---- after it
  module _ (made : List Frozen) (some : made ≢ []) (are : AreWorksOf (setup_in plan s.session.client.pass.frame).plan s.tasks.items (works_of made)) (sess : Session W G) (l : Later plan s.session.client.pass sess.client.pass) (o : Outcome)
      (knows : LeavesProducer (setup_in plan s.session.client.pass.frame) sess.client.pass.seen s.member sess.last sess.numbers.items o)
      (leaves : LeavesTasks (setup_in plan s.session.client.pass.frame) s.session.client.pass.seen sess.client.pass.seen s.member s.session.last sess.last (works_of made) sess.ends.items o)
      (case : HasCase plan s.session.client.pass sess.client.pass s.member.number s.member.epoch s.member.generation s.session.last (λ t. pending_of t (pendings_of (works_of made))) o) (new : WorkerState W G) where
    works_are : AreWorks plan s (works_of made)
    works_are = record { of_tasks = are; some = some_works made some }

    one_end : (x : Outcome) → new.session.client ≡ sess.client →
        IsEnded plan s.session.client.pass sess.client.pass s.member.number s.member.epoch s.member.generation s.session.last (λ t. pending_of t (pendings_of (works_of made))) x → HasOneEnd plan s new x
    one_end x same ended = record {
      works = works_of made;
      are = works_are;
      case = subst (λ (c : ClusterClient W G). IsEnded plan s.session.client.pass c.pass s.member.number s.member.epoch s.member.generation s.session.last (λ t. pending_of t (pendings_of (works_of made))) x) (sym same) ended;
    }

    module _ (session : new.session ≡ sess) (member : new.member ≡ s.member) (replicas : new.replicas ≡ s.replicas) where
      stays : StaysMember s new
      stays = record { member = member; replicas = replicas }

      back : IsWorker plan d sess.client.pass s.member sess.last sess.numbers.items new.tasks.items s.replicas.items → IsWorkerState plan d new
      back w = subst (λ (x : Session W G). IsWorker plan d x.client.pass new.member x.last x.numbers.items new.tasks.items new.replicas.items) (sym session)
          (subst (λ (m : Member). IsWorker plan d sess.client.pass m sess.last sess.numbers.items new.tasks.items new.replicas.items) (sym member)
          (subst (λ (rs : List Replica). IsWorker plan d sess.client.pass s.member sess.last sess.numbers.items new.tasks.items rs) (sym (ap (λ r. r.items) replicas)) w))

      pub committed_worker : o ≡ Committed → AreTold d sess.ends.items s.tasks.items new.tasks.items → IsWorkerState plan d new
      committed_worker is told =
          let held = subst (LeavesTasks (setup_in plan s.session.client.pass.frame) s.session.client.pass.seen sess.client.pass.seen s.member s.session.last sess.last (works_of made) sess.ends.items) is leaves in
          back (worker_committed plan s.session.client.pass sess.client.pass l may.call.network d s.member s.session.last sess.last s.session.numbers.items sess.numbers.items s.tasks.items s.replicas.items may.worker
          (subst (LeavesProducer (setup_in plan s.session.client.pass.frame) sess.client.pass.seen s.member sess.last sess.numbers.items) is knows)
          (works_of made) held.1 are sess.ends.items held.0 (runs_logs hash d (setup_in plan s.session.client.pass.frame) may.topology) new.tasks.items told)

      pub committed_ended : o ≡ Committed → AreTold d sess.ends.items s.tasks.items new.tasks.items → HasCommittedTasks plan d s new
      committed_ended is told =
          let committed = subst (HasCase plan s.session.client.pass sess.client.pass s.member.number s.member.epoch s.member.generation s.session.last (λ t. pending_of t (pendings_of (works_of made)))) is case in
          record {
            works = works_of made;
            are = works_are;
            committed = subst (λ (x : Session W G). HasCase plan s.session.client.pass x.client.pass s.member.number s.member.epoch s.member.generation s.session.last (λ t. pending_of t (pendings_of (works_of made))) Committed) (sym session) committed;
            told = subst (λ (x : Session W G). AreTold d x.ends.items s.tasks.items new.tasks.items) (sym session) told;
            clean = told_clean_all d sess.ends.items s.tasks.items new.tasks.items told;
            stays = stays;
          }

      pub aborted_worker : o ≡ Aborted → AreCleanOf s.tasks.items new.tasks.items → IsWorkerState plan d new
      aborted_worker is kept =
          back (worker_aborted plan s.session.client.pass sess.client.pass l may.call.network d s.member s.session.last sess.last s.session.numbers.items sess.numbers.items s.tasks.items s.replicas.items may.worker
          (subst (LeavesProducer (setup_in plan s.session.client.pass.frame) sess.client.pass.seen s.member sess.last sess.numbers.items) is knows)
          (works_of made)
          (subst (LeavesTasks (setup_in plan s.session.client.pass.frame) s.session.client.pass.seen sess.client.pass.seen s.member s.session.last sess.last (works_of made) sess.ends.items) is leaves)
          are new.tasks.items kept)

      pub aborted_ended : o ≡ Aborted → LeavesNoMarker (setup_in plan s.session.client.pass.frame) sess.client.pass.seen s.member.number o → AreCleanOf s.tasks.items new.tasks.items → HasDroppedDirty plan s new
      aborted_ended is none kept = record {
        end = one_end Aborted (ap (λ (x : Session W G). x.client) session)
            (subst (HasCase plan s.session.client.pass sess.client.pass s.member.number s.member.epoch s.member.generation s.session.last (λ t. pending_of t (pendings_of (works_of made)))) is case);
        kept = kept;
        marked = subst (λ (x : Session W G). HasNoMarker (setup_in plan s.session.client.pass.frame) x.client.pass.seen s.member.number) (sym session)
            (subst (LeavesNoMarker (setup_in plan s.session.client.pass.frame) sess.client.pass.seen s.member.number) is none);
        stays = stays;
      }

    pub fenced_ended : o ≡ Fenced → new.session.client ≡ sess.client → HasLostAll s.member new → HasCrashed plan s new
    fenced_ended is same all = record {
      end = inl (one_end Fenced same (subst (HasCase plan s.session.client.pass sess.client.pass s.member.number s.member.epoch s.member.generation s.session.last (λ t. pending_of t (pendings_of (works_of made)))) is case));
      all = all;
    }

    pub touched_ended : o ≡ Touched → new.session.client ≡ sess.client → HasLostAll s.member new → HasCrashed plan s new
    touched_ended is same all = record {
      end = inr (one_end Touched same (subst (HasCase plan s.session.client.pass sess.client.pass s.member.number s.member.epoch s.member.generation s.session.last (λ t. pending_of t (pendings_of (works_of made)))) is case));
      all = all;
    }

  -- a worker that lost all is one still
  pub lost_worker : (client : ClusterClient W G) (new : WorkerState W G) → new.session.client ≡ client → Later plan s.session.client.pass client.pass → HasLostAll s.member new → IsWorkerState plan d new
  lost_worker client new same l all =
      subst (λ (c : ClusterClient W G). IsWorker plan d c.pass new.member new.session.last new.session.numbers.items new.tasks.items new.replicas.items) (sym same)
      (subst (λ (m : Member). IsWorker plan d client.pass m new.session.last new.session.numbers.items new.tasks.items new.replicas.items) (sym all.member)
      (subst (λ (n : ℕ). IsWorker plan d client.pass (lost s.member) n new.session.numbers.items new.tasks.items new.replicas.items) (sym all.last)
      (subst (λ (ns : List (PartId × ℕ)). IsWorker plan d client.pass (lost s.member) 0 ns new.tasks.items new.replicas.items) (sym all.numbers)
      (subst (λ (ts : List Task). IsWorker plan d client.pass (lost s.member) 0 [] ts new.replicas.items) (sym all.tasks)
      (subst (λ (rs : List Replica). IsWorker plan d client.pass (lost s.member) 0 [] [] rs) (sym all.replicas)
      (worker_lost plan s.session.client.pass client.pass d s.member s.session.last s.session.numbers.items s.tasks.items s.replicas.items l may.worker))))))
