-- One entry more.
use Rattle.std.proofs.Common.{◌≡◌, ℕ, ◌≤◌, List, [], ◌∷◌, ◌++◌, refl, sym, ap, ◌∙◌, subst, arith}
use Rattle.ks_record.specs.declared.record.TaskId.{TaskId}
use Rattle.ks_history.specs.declared.journal.Entry.{Entry}
use Rattle.ks_history.specs.declared.journal.Request.{Request}
use Rattle.ks_history.specs.declared.journal.Reply.{Reply}
use Rattle.ks_history.specs.Machine.{TaskPlan}
use Rattle.ks_history.specs.State.{State, Setup}
use Rattle.ks_history.specs.Step.{reply_to, after}
use Rattle.ks_history.specs.History.{at, Meets, CommitsFaithfully, IsHistory}
use Rattle.ks_history.proofs.Histories.{at-more, history_more, records_in-more}
use Rattle.ks_cluster.specs.declared.broker.Broker.{Broker}
use Rattle.ks_history.specs.Count.{records_in}
use Rattle.ks_log.specs.Written.{total}
use Rattle.ks_cluster.specs.Moves.{IsAt, Moves, IsNew}
use Rattle.ks_cluster.specs.View.{ClusterView, setup_of, state_of, setup_at, AddsEntry, BrokerFollows}
use Rattle.ks_group.specs.Group.{GroupView}
use Rattle.ks_cluster.proofs.Groups.{new_at}

-- a broker that moved has the tasks that it had
pub moved_tasks : (setup : Setup) (s : State) (old new : Broker) (request : Request) (reply : Reply) → setup.tasks ≡ old.group.tasks → IsAt setup s old → Moves old new request reply
    → old.group.tasks ≡ new.group.tasks
moved_tasks setup s old new request reply same k m = sym same ∙ sym (m.step setup s k).1.group_is.tasks_is

pub moved_kept : (plan : TaskPlan) (counts : List ℕ) (journal : List Entry) (old new : Broker) (request : Request) (reply : Reply)
    → BrokerFollows plan counts journal old
    → Meets (setup_at plan counts old) (at (setup_at plan counts old) journal) request
    → CommitsFaithfully (setup_at plan counts old) (at (setup_at plan counts old) journal) request
    → Moves old new request reply
    → BrokerFollows plan counts (journal ++ record { request = request; reply = reply } ∷ []) new
moved_kept plan counts journal old new request reply k meets faithful m =
    let setup : Setup = setup_at plan counts old in
    let entry : Entry = record { request = request; reply = reply } in
    let whole : List Entry = journal ++ entry ∷ [] in
    let step : (reply ≡ reply_to setup (at setup journal) request) × IsAt setup (after setup (at setup journal) request) new = m.step setup (at setup journal) k.stands in
    let history : IsHistory setup whole = history_more setup journal entry k.history (record { meets = meets; reply = step.0 }) faithful in
    let stands : IsAt setup (at setup whole) new = subst (λ (s : State). IsAt setup s new) (sym (at-more setup journal entry)) step.1 in
    let both : IsHistory (setup_at plan counts new) whole × IsAt (setup_at plan counts new) (at (setup_at plan counts new) whole) new =
    subst (λ (ts : List TaskId). IsHistory (record { plan = plan; counts = counts; tasks = ts }) whole × IsAt (record { plan = plan; counts = counts; tasks = ts }) (at (record { plan = plan; counts = counts; tasks = ts }) whole) new)
    (moved_tasks setup (at setup journal) old new request reply refl k.stands m) (history, stands) in
    record {
      history = both.0;
      stands = both.1;
      wrote = subst (λ (ts : List TaskId). records_in (record { plan = plan; counts = counts; tasks = ts }) whole ≤ total new.log) (moved_tasks setup (at setup journal) old new request reply refl k.stands m)
          (omega (arith, records_in-more setup journal entry, k.wrote, m.wrote setup (at setup journal) k.stands));
    }

pub answered : {W : Type 0} (plan : W → TaskPlan) (work : W) (counts : List ℕ) (journal journal' : List Entry) (old new : Broker) (value : ClusterView W) (request : Request) (reply : Reply)
    → record { work = work; counts = counts; tasks = old.group.tasks; journal = journal } ≡ value
    → journal' ≡ journal ++ record { request = request; reply = reply } ∷ []
    → BrokerFollows (plan work) counts journal old → Moves old new request reply
    → AddsEntry plan value (record { work = work; counts = counts; tasks = new.group.tasks; journal = journal' }) request reply
answered {W} plan work counts journal journal' old new value request reply view is k m =
    let setup : Setup = setup_at (plan work) counts old in
    subst (λ (v : ClusterView W). AddsEntry plan v (record { work = work; counts = counts; tasks = new.group.tasks; journal = journal' }) request reply) view (record {
      step = (m.step setup (at setup journal) k.stands).0;
      journal = ap (λ (ts : List TaskId). record { work = work; counts = counts; tasks = ts; journal = journal' }) (sym (moved_tasks setup (at setup journal) old new request reply refl k.stands m))
          ∙ ap (λ (j : List Entry). record { work = work; counts = counts; tasks = old.group.tasks; journal = j }) is;
    })

pub new_kept : (plan : TaskPlan) (counts : List ℕ) (tasks : List TaskId) (b : Broker) → IsNew plan tasks b → BrokerFollows plan counts [] b
new_kept plan counts tasks b new = record {
  history = record { legal = tt; faithful = tt };
  stands = new_at (setup_at plan counts b) b (subst (λ (ts : List TaskId). IsNew plan ts b) (ap (λ (g : GroupView). g.tasks) (sym new.group)) new);
  wrote = omega arith;
}

-- what a caller learns of the state and the setup
pub answered_state : {W : Type 0} (plan : W → TaskPlan) (old new : ClusterView W) (request : Request) (reply : Reply) → AddsEntry plan old new request reply → state_of plan new ≡ after (setup_of plan old) (state_of plan old) request
answered_state plan old new request reply a =
    ap (state_of plan) a.journal ∙ at-more (setup_of plan old) old.journal (record { request = request; reply = reply })

pub answered_setup : {W : Type 0} (plan : W → TaskPlan) (old new : ClusterView W) (request : Request) (reply : Reply) → AddsEntry plan old new request reply → setup_of plan new ≡ setup_of plan old
answered_setup plan old new request reply a = ap (setup_of plan) a.journal
