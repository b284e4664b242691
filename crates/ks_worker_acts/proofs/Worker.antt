-- A worker after a commit of its tasks.
use Rattle.std.proofs.Common.{◌≡◌, ◌≤◌, ℕ, List, [], refl, sym, ap, subst, arith, append-nil}
use Rattle.std.specs.List.{All}
use Rattle.ks_record.specs.declared.record.PartId.{PartId}
use Rattle.ks_plan.specs.Drafts.{DraftView}
use Rattle.ks_plan.specs.Plan.{plan_of}
use Rattle.ks_plan.specs.Infos.{changelog_numbers}
use Rattle.ks_history.specs.declared.journal.Entry.{Entry}
use Rattle.ks_history.specs.Machine.{TaskPlan, IsNetwork}
use Rattle.ks_history.specs.State.{Setup}
use Rattle.ks_history.specs.History.{IsHistory}
use Rattle.ks_law_restore.specs.Views.{WorkView}
use Rattle.ks_growing.specs.Passes.{PassView}
use Rattle.ks_shared.specs.declared.state.Frame.{Frame}
use Rattle.ks_shared.specs.Calls.{setup_in}
use Rattle.ks_standby.specs.declared.replica.Replica.{Replica}
use Rattle.ks_task.specs.declared.task.Task.{Task}
use Rattle.ks_worker_client.specs.declared.member.Member.{Member}
use Rattle.ks_worker_client.specs.Calls.{Later}
use Rattle.ks_worker_client.specs.Members.{MemberHasSeen, IsProducer}
use Rattle.ks_worker_client.proofs.Moments.{same_frame}
use Rattle.ks_worker_commit.specs.Outcomes.{Requests}
use Rattle.ks_worker_commit.specs.Leaves.{KnowsProducer, RestsAreHeld, WorkedAreHeld}
use Rattle.ks_worker_state.specs.Standbys.{IsStandby}
use Rattle.ks_worker_state.specs.Tasks.{IsHeldTask}
use Rattle.ks_worker_state.specs.Topology.{RunsTopology}
use Rattle.ks_worker_state.specs.Worker.{HaveOwnNames, IsWorker, lost}
use Rattle.ks_worker_state.proofs.Workers.{standbys_later, crashed}
use Rattle.ks_record.specs.declared.record.TaskId.{TaskId}
use Rattle.ks_worker_acts.specs.Works.{AreWorksOf, AreCleanOf}
use Rattle.ks_worker_acts.specs.Told.{AreTold}
use Rattle.ks_worker_acts.proofs.Lists.{names_stay, no_more}
use Rattle.ks_worker_state.specs.Names.{task_names, times}
use Rattle.ks_worker_acts.proofs.Told.{kept_names, kept_none, kept_times}
use Rattle.ks_worker_acts.proofs.Held.{kept_held, told_held}

module _ {W : Type 0} (plan : W → TaskPlan) (old new : PassView Entry (Frame W)) where
  -- requests of a commit lead to a later moment
  pub requests_later : (w : ℕ) → IsHistory (setup_in plan old.frame) old.seen → Requests plan old new w → Later plan old new
  requests_later w history r = record {
    more = r.more;
    seen = r.seen;
    same = subst (λ (n : ℕ). new ≡ record old { seen = new.seen; made = n }) (sym (ap (λ (p : PassView Entry (Frame W)). p.made) r.same)) r.same;
    history = subst (IsHistory (setup_in plan old.frame)) r.seen (r.history history);
  }

  pub no_requests : (w : ℕ) → new ≡ old → Requests plan old new w
  no_requests w same = subst (λ (p : PassView Entry (Frame W)). Requests plan old p w) (sym same) (record {
    more = [];
    own = [];
    seen = sym (append-nil old.seen);
    same = ap (λ (n : ℕ). record old { made = n }) (omega arith);
    among = refl;
    of_commit = refl;
    history = λ h. h;
  })

  module _ (l : Later plan old new) (net : IsNetwork (setup_in plan old.frame).plan) (d : DraftView) (m : Member) (last next : ℕ) (numbers sent : List (PartId × ℕ)) (ts : List Task) (rs : List Replica)
      (w : IsWorker plan d old m last numbers ts rs) (knows : KnowsProducer (setup_in plan old.frame) new.seen m next sent) where
    goes_on : (xs : List Task) → All (IsHeldTask d (setup_in plan old.frame) new.seen m next) xs → HaveOwnNames xs → ((u : TaskId) → times u (task_names xs) ≤ times u (task_names ts)) → (ts ≡ [] → xs ≡ []) → IsWorker plan d new m next sent xs rs
    goes_on xs held names fewer none = record {
      number = w.number;
      instance = w.instance;
      seen = subst (λ f. MemberHasSeen (setup_in plan f) new.seen m next) (sym (same_frame plan old new l)) knows.0;
      producer = subst (λ f. IsProducer (setup_in plan f) new.seen m next sent) (sym (same_frame plan old new l)) knows.1;
      alone = λ e. none (w.alone e);
      names = names;
      once = λ u. omega (arith, w.once u, fewer u);
      tasks_are = subst (λ f. All (IsHeldTask d (setup_in plan f) new.seen m next) xs) (sym (same_frame plan old new l)) held;
      replicas_are = subst (λ f. All (IsStandby (setup_in plan f) new.seen) rs) (sym (same_frame plan old new l)) (standbys_later plan old new l net rs w.replicas_are);
    }

    module _ (fs : List WorkView) (rests : RestsAreHeld (setup_in plan old.frame) old.seen new.seen m last next fs) (are : AreWorksOf (setup_in plan old.frame).plan ts fs) where
      pub worker_aborted : (xs : List Task) → AreCleanOf ts xs → IsWorker plan d new m next sent xs rs
      worker_aborted xs kept = goes_on xs (kept_held (setup_in plan old.frame) old.seen new.seen d m last next fs rests ts w.names w.tasks_are are xs kept) (kept_names ts xs kept w.names) (λ u. kept_times u ts xs kept) (kept_none ts xs kept)

      pub worker_committed : (ends : List (TaskId × PartId × ℕ)) → WorkedAreHeld (setup_in plan old.frame) old.seen new.seen m last next fs ends →
          ((sub : ℕ) → (setup_in plan old.frame).plan.changelogs sub ≡ changelog_numbers (plan_of d) sub) → (xs : List Task) → AreTold d ends ts xs → IsWorker plan d new m next sent xs rs
      worker_committed ends worked logs xs told =
          goes_on xs (told_held (setup_in plan old.frame) old.seen new.seen d m last next fs rests ts w.names w.tasks_are are ends worked logs xs told)
          (names_stay ts xs (sym told.names) w.names) (λ u. omega (arith, ap (times u) told.names)) (no_more ts xs told.count)

  pub worker_lost : (d : DraftView) (m : Member) (last : ℕ) (numbers : List (PartId × ℕ)) (ts : List Task) (rs : List Replica) → Later plan old new → IsWorker plan d old m last numbers ts rs → IsWorker plan d new (lost m) 0 [] [] []
  worker_lost d m last numbers ts rs l w = crashed plan d new m w.number w.instance
      (subst (λ f. IsHistory (setup_in plan f) new.seen) (sym (same_frame plan old new l)) (subst (IsHistory (setup_in plan old.frame)) (sym l.seen) l.history))

pub runs_logs : (hash : List ℕ → ℕ) (d : DraftView) (setup : Setup) → RunsTopology hash d setup → (sub : ℕ) → setup.plan.changelogs sub ≡ changelog_numbers (plan_of d) sub
runs_logs hash d setup runs sub = ap (λ (s : Setup). s.plan.changelogs sub) runs.setup_is
