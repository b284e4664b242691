-- What a worker keeps stays while others write.
use Rattle.std.proofs.Common.{◌≡◌, ◌≤◌, ℕ, List, [], refl, sym, subst, arith}
use Rattle.std.specs.List.{All}
use Rattle.std.proofs.lemmas.List.Elements.{All-weaker, All-nil}
use Rattle.ks_record.specs.declared.record.PartId.{PartId}
use Rattle.ks_plan.specs.Drafts.{DraftView}
use Rattle.ks_history.specs.declared.journal.Entry.{Entry}
use Rattle.ks_history.specs.Machine.{TaskPlan, IsNetwork}
use Rattle.ks_history.specs.History.{IsHistory}
use Rattle.ks_growing.specs.Passes.{PassView}
use Rattle.ks_shared.specs.declared.state.Frame.{Frame}
use Rattle.ks_shared.specs.Calls.{setup_in}
use Rattle.ks_standby.specs.declared.replica.Replica.{Replica}
use Rattle.ks_task.specs.declared.task.Task.{Task}
use Rattle.ks_law_sharing.proofs.Touching.{seen_stays}
use Rattle.ks_worker_client.specs.Calls.{Later}
use Rattle.ks_worker_client.proofs.Moments.{same_frame}
use Rattle.ks_worker_client.specs.declared.member.Member.{Member}
use Rattle.ks_worker_client.specs.Members.{MemberHasSeen, IsProducer}
use Rattle.ks_worker_state.specs.Standbys.{IsStandby}
use Rattle.ks_worker_state.specs.Tasks.{IsHeldTask}
use Rattle.ks_worker_state.specs.Worker.{IsWorker, lost, WorkerStays, CrashLeaves}
use Rattle.ks_worker_state.proofs.Fed.{standby_later}
use Rattle.ks_worker_state.proofs.Producers.{producer_stays, nothing_known}
use Rattle.ks_worker_state.proofs.ReadOn.{held_later}

module _ {W : Type 0} (plan : W → TaskPlan) (old new : PassView Entry (Frame W)) (l : Later plan old new) where
  pub seen_later : (m : Member) (last : ℕ) → MemberHasSeen (setup_in plan old.frame) old.seen m last → MemberHasSeen (setup_in plan old.frame) new.seen m last
  seen_later m last s = subst (λ j. MemberHasSeen (setup_in plan old.frame) j m last) (sym l.seen) (seen_stays (setup_in plan old.frame) old.seen l.more m.number m.generation last s)

  pub producer_later : (m : Member) (last : ℕ) (numbers : List (PartId × ℕ)) → MemberHasSeen (setup_in plan old.frame) old.seen m last → IsProducer (setup_in plan old.frame) old.seen m last numbers → IsProducer (setup_in plan old.frame) new.seen m last numbers
  producer_later m last numbers s p = subst (λ j. IsProducer (setup_in plan old.frame) j m last numbers) (sym l.seen) (producer_stays (setup_in plan old.frame) old.seen l.more m last s numbers l.history p)

  module _ (net : IsNetwork (setup_in plan old.frame).plan) where
    pub standbys_later : (rs : List Replica) → All (IsStandby (setup_in plan old.frame) old.seen) rs → All (IsStandby (setup_in plan old.frame) new.seen) rs
    standbys_later rs all = All-weaker (IsStandby (setup_in plan old.frame) old.seen) (IsStandby (setup_in plan old.frame) new.seen) (λ r s. standby_later plan old new new l r net s) rs all

    pub tasks_later : (d : DraftView) (m : Member) (last : ℕ) (ts : List Task) → MemberHasSeen (setup_in plan old.frame) old.seen m last → All (IsHeldTask d (setup_in plan old.frame) old.seen m last) ts →
        All (IsHeldTask d (setup_in plan old.frame) new.seen m last) ts
    tasks_later d m last ts past all = All-weaker (IsHeldTask d (setup_in plan old.frame) old.seen m last) (IsHeldTask d (setup_in plan old.frame) new.seen m last) (λ t h. held_later plan old new l d m last 0 t net past h) ts all

    pub worker_later : (d : DraftView) (m : Member) (last : ℕ) (numbers : List (PartId × ℕ)) (ts : List Task) (rs : List Replica) → IsWorker plan d old m last numbers ts rs → IsWorker plan d new m last numbers ts rs
    worker_later d m last numbers ts rs w = record {
      number = w.number;
      instance = w.instance;
      seen = subst (λ f. MemberHasSeen (setup_in plan f) new.seen m last) (sym (same_frame plan old new l)) (seen_later m last w.seen);
      producer = subst (λ f. IsProducer (setup_in plan f) new.seen m last numbers) (sym (same_frame plan old new l)) (producer_later m last numbers w.seen w.producer);
      alone = w.alone;
      names = w.names;
      once = w.once;
      tasks_are = subst (λ f. All (IsHeldTask d (setup_in plan f) new.seen m last) ts) (sym (same_frame plan old new l)) (tasks_later d m last ts w.seen w.tasks_are);
      replicas_are = subst (λ f. All (IsStandby (setup_in plan f) new.seen) rs) (sym (same_frame plan old new l)) (standbys_later rs w.replicas_are);
    }

pub worker_stays : {W : Type 0} (plan : W → TaskPlan) → WorkerStays plan
worker_stays plan d old new m last numbers ts rs net l w = worker_later plan old new l net d m last numbers ts rs w

-- after a crash nothing is kept
pub crashed : {W : Type 0} (plan : W → TaskPlan) → CrashLeaves plan
crashed plan d pass m few small history = record {
  number = few;
  instance = small;
  seen = record { generation = omega arith; place = omega arith };
  producer = nothing_known (setup_in plan pass.frame) pass.seen (lost m) refl history;
  alone = λ e. refl;
  names = tt;
  once = λ t. omega arith;
  tasks_are = All-nil (IsHeldTask d (setup_in plan pass.frame) pass.seen (lost m) 0);
  replicas_are = All-nil (IsStandby (setup_in plan pass.frame) pass.seen);
}
