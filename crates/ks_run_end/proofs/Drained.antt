-- What the drain and the verdict want of a topology's cluster.
use Rattle.std.proofs.Common.{◌≡◌, ◌≤◌, List, [], ◌∷◌, get_or, ℕ, refl, sym, ap, subst, ◌∙◌, arith}
use Rattle.std.specs.Prelude.{None, Some}
use Rattle.ks_record.specs.declared.record.TaskId.{TaskId}
use Rattle.ks_plan.specs.Drafts.{DraftView}
use Rattle.ks_plan.specs.Plan.{plan_of}
use Rattle.ks_plan.specs.Layout.{tasks}
use Rattle.ks_plan.specs.Infos.{inputs_by_sub, changelog_numbers}
use Rattle.ks_plan.specs.Faults.{fault_of}
use Rattle.ks_topo.specs.declared.built.Topology.{Topology}
use Rattle.ks_topo.specs.Topologies.{draft_of}
use Rattle.ks_history.specs.Machine.{TaskPlan}
use Rattle.ks_history.specs.State.{Setup}
use Rattle.ks_cluster.specs.View.{ClusterView}
use Rattle.ks_cluster.specs.View as kept
use Rattle.ks_cluster.specs.Placed.{PlacementTest}
use Rattle.ks_assign.specs.declared.clients.Placing.{Placing}
use Rattle.ks_assign_group.specs.Groups.{good_by}
use Rattle.ks_commit.specs.Everything.{everything, IsGoodForAll}
use Rattle.ks_task.specs.Placing.{placed_by}
use Rattle.ks_task.proofs.Alone.{everything_is_good}
use Rattle.ks_task.proofs.Subs.{inputs_there}
use Rattle.ks_law_topology.specs.Work.{setup_of}
use Rattle.ks_law_topology.proofs.Setups.{setups_are_made}
use Rattle.ks_def_tasks.specs.Rules.{HaveParts, rules_of}
use Rattle.ks_law_settled.proofs.Parts.{have_parts as nodes_have_parts}
use Rattle.ks_law_inputs.specs.Records.{HavePartitions}
use Rattle.ks_job_source.proofs.Counts.{counts_length, plan_count}
use Rattle.ks_settle.specs.Drained.{Extends, drain_worker}
use Rattle.ks_settle_report.specs.Report.{IsOf}

pub nodes_ready : (d : DraftView) → fault_of d ≡ None → HavePartitions d.topics → HaveParts (plan_of d)
nodes_ready d fine have = nodes_have_parts d (λ t lt. (plan_count d t fine have (omega (arith, lt, counts_length d))).some) fine

pub drained_setup : {W : Type 0} (plan : W → TaskPlan) (old new : ClusterView W) → Extends old new → kept.setup_of plan new ≡ kept.setup_of plan old
drained_setup plan old new h = rw (ap (λ c. c.work) h.same, ap (λ c. c.counts) h.same, ap (λ c. c.tasks) h.same) refl

-- the report and the tables are those of the topology
pub is_of : (hash : List ℕ → ℕ) (d : DraftView) (t : Topology) (setup : Setup) → draft_of t ≡ d → fault_of d ≡ None → setup ≡ setup_of (rules_of hash) (plan_of d) → IsOf t setup
is_of hash d t setup same fine e = subst (IsOf t) (sym e) (record {
  made = setups_are_made (rules_of hash) d fine;
  tasks = sym (ap (λ x. tasks (plan_of x)) same);
  inputs = λ sub. ap (λ x. get_or (inputs_by_sub (plan_of x)) sub []) same ∙ inputs_there d fine sub;
})

-- the drain's own assignment, of every task at the one member, is good
pub alone_ready : (test : PlacementTest) (placing : Placing) (d : DraftView) (ts : List TaskId) → test ≡ good_by (changelog_numbers (plan_of d)) (tasks (plan_of d)) placing → ts ≡ tasks (plan_of d) → fault_of d ≡ None → 1 ≤ placing.threads →
    IsGoodForAll test (drain_worker ∷ []) (everything drain_worker ts)
alone_ready test placing d ts wanted named fine threads =
    subst (λ t. IsGoodForAll t (drain_worker ∷ []) (everything drain_worker ts)) (sym wanted)
    (subst (λ us. IsGoodForAll (placed_by (plan_of d) (Some placing)) (drain_worker ∷ []) (everything drain_worker us)) (sym named) (everything_is_good d (Some placing) drain_worker fine threads (omega arith)))
