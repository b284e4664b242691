use Rattle.std.proofs.Common.{rules, ◌≡◌, ◌<◌, ℕ, true, false, List, [], length, refl, subst, sym, ap, ◌∙◌, arith}
use Rattle.ks_history.specs.State.{are_once}
use Rattle.ks_plan.specs.Infos.{changelog_numbers}
use Rattle.ks_plan.specs.Plan.{plan_of}
use Rattle.ks_plan.specs.Layout.{tasks}
use Rattle.ks_topo.specs.Topologies.{draft_of, plan_in}
use Rattle.ks_law_topology.specs.Work.{setup_of}
use Rattle.ks_law_topology.proofs.Setups.{setups_are_made}
use Rattle.ks_assign.specs.declared.clients.Client.{Client}
use Rattle.ks_assign.specs.Placement.{AreClients, IsGood, tasks_apart}
use Rattle.ks_assign_group.specs.Groups.{clients_below, clients_of, lags_in}
use Rattle.ks_assign_group.proofs.Grouping.{are_clients}
use Rattle.ks_assign_group.proofs.Places.{apart_once, same_good}
use Rattle.ks_assign_group.proofs.assigning.assign_group.Goals as goal

-- the clients are the group's
got : (c : goal.After-as_slice-4) → c.as_slice-3.result.now ≡ clients_of c.args.placing.now.threads c.args.status.now.members
got c = c.as_slice-3.ensures.value ∙ c.in_ok-clients.ensures ∙ ap (clients_of c.args.placing.now.threads) c.as_slice.ensures

some : (c : goal.After-as_slice-4) → 0 < length c.as_slice-3.result.now
some c = search rules

pub assign-requires-clause-clients : goal.assign-requires-clause-clients
assign-requires-clause-clients c =
    subst AreClients (sym (got c)) (are_clients c.args.placing.now.threads c.args.status.now.members (subst (λ xs. 0 < length xs) (got c) (some c)))

pub assign-requires-clause-tasks : goal.assign-requires-clause-tasks
assign-requires-clause-tasks c =
    subst (λ ts. tasks_apart ts ≡ true) (sym c.tasks-tasks.ensures)
    (apart_once (tasks (plan_in c.args.topology.now)) (setups_are_made (record { part = λ k n. 0; hash = λ row. 0 }) (draft_of c.args.topology.now) c.nodes-nodes.ensures.well_formed).once)

pub returns-clause-good : goal.returns-clause-good
returns-clause-good c =
    same_good (changelog_numbers (plan_in c.args.topology.now)) (tasks (plan_in c.args.topology.now)) c.tasks-tasks.result.now c.as_slice-3.result.now (clients_of c.args.placing.now.threads c.args.status.now.members) c.as_slice-2.result.now
    c.as_slice-4.result.now c.args.status.now.held c.args.status.now.ends c.args.placing.now.wants c.in_ok-assignment.assignment
    c.tasks-tasks.ensures (c.as_slice-2.ensures.value ∙ sym c.as_slice-3.ensures.value)
    (c.as_slice-3.ensures.value ∙ c.in_ok-clients.ensures ∙ ap (clients_of c.args.placing.now.threads) c.as_slice.ensures)
    (c.as_slice-4.ensures.value ∙ c.in_ok-lags.ensures) c.in_ok-assignment.ensures
