-- A worker that gives up what its dirty tasks took.
use Rattle.std.proofs.Common.{◌≡◌, ℕ, Bool, true, false, cond, List, [], ◌∷◌, sym, ap, subst, arith}
use Rattle.std.specs.List.{filter}
use Rattle.std.proofs.lemmas.List.Elements.{All-filter}
use Rattle.ks_record.specs.declared.record.PartId.{PartId}
use Rattle.ks_record.specs.declared.record.TaskId.{TaskId}
use Rattle.ks_record.specs.Parts.{same_task}
use Rattle.ks_plan.specs.Drafts.{DraftView}
use Rattle.ks_history.specs.declared.journal.Entry.{Entry}
use Rattle.ks_history.specs.Machine.{TaskPlan}
use Rattle.ks_growing.specs.Passes.{PassView}
use Rattle.ks_shared.specs.declared.state.Frame.{Frame}
use Rattle.ks_shared.specs.Calls.{setup_in}
use Rattle.ks_standby.specs.declared.replica.Replica.{Replica}
use Rattle.ks_task.specs.declared.task.Task.{Task}
use Rattle.ks_task.specs.Tasks.{task_view}
use Rattle.ks_worker_client.specs.declared.member.Member.{Member}
use Rattle.ks_worker_state.specs.Tasks.{IsHeldTask}
use Rattle.ks_worker_state.proofs.Names.{times-filter}
use Rattle.ks_worker_state.specs.Worker.{IsWorker, IsNoneOf, HaveOwnNames}

module _ (p : Task → Bool) where
  none_of : (t : TaskId) (ts : List Task) → IsNoneOf t ts → IsNoneOf t (filter p ts)
  none_of t ts h = All-filter p (λ (o : Task). same_task t (task_view o).task ≡ false) ts h

  own_names : (ts : List Task) → HaveOwnNames ts → HaveOwnNames (filter p ts)
  own_names [] h = tt
  own_names (t ∷ ts) h = by (p t) (none_of (task_view t).task ts h.0) (own_names ts h.1)
    where
      by : (b : Bool) → IsNoneOf (task_view t).task (filter p ts) → HaveOwnNames (filter p ts) → HaveOwnNames (cond b (t ∷ filter p ts) (filter p ts))
      by true none more = (none, more)
      by false none more = more

  none_is_left : (ts : List Task) → ts ≡ [] → filter p ts ≡ []
  none_is_left ts is = ap (filter p) is

  pub filtered_worker : {W : Type 0} (plan : W → TaskPlan) (d : DraftView) (pass : PassView Entry (Frame W)) (m : Member) (last : ℕ) (numbers : List (PartId × ℕ)) (ts now : List Task) (rs : List Replica) → now ≡ filter p ts →
      IsWorker plan d pass m last numbers ts rs → IsWorker plan d pass m last numbers now rs
  filtered_worker plan d pass m last numbers ts now rs is w = subst (λ l. IsWorker plan d pass m last numbers l rs) (sym is) (record {
    number = w.number;
    instance = w.instance;
    seen = w.seen;
    producer = w.producer;
    alone = λ e. none_is_left ts (w.alone e);
    names = own_names ts w.names;
    once = λ t. omega (arith, w.once t, times-filter p t ts);
    tasks_are = All-filter p (IsHeldTask d (setup_in plan pass.frame) pass.seen m last) ts w.tasks_are;
    replicas_are = w.replicas_are;
  })
