use Rattle.std.proofs.Common.{◌≡◌, ℕ, List, [], arith, ap, sym, subst, ◌∙◌}
use Rattle.ks_record.specs.declared.record.TaskId.{TaskId}
use Rattle.ks_plan.specs.Layout.{tasks}
use Rattle.ks_topo.specs.Topologies.{draft_of, plan_in}
use Rattle.ks_history.specs.State.{has_task}
use Rattle.ks_law_topology.specs.Work.{setup_of as topology_setup}
use Rattle.ks_def_tasks.specs.Rules.{rules_of}
use Rattle.ks_audit.specs.Playing.{AreAudited, names_in}
use Rattle.ks_audit.proofs.Beginning.{has_at, tasks_more, audited_more}
use Rattle.ks_audit.proofs.audit.first_tasks.Goals as goal

pub new-requires-clause-there : goal.new-requires-clause-there
new-requires-clause-there c =
    sym (ap (has_task _) c.tasks-names.ensures) ∙
    has_at c.tasks-names.result.now c.loop-i.i (record { sub = 0; part = 0 }) (omega (arith, c.loop-i-test.true))

pub loop-i-preserved : goal.loop-i-preserved
loop-i-preserved c = (
  ap names_in c.in_ok-push.ensures.items
      ∙ tasks_more c.loop-i.all.items c.in_ok-new.field-0 c.tasks-names.result.now (tasks (plan_in c.args.topology.now)) c.loop-i.i (record { sub = 0; part = 0 }) c.tasks-names.ensures (omega (arith, c.loop-i-test.true))
      c.loop-i.invariant.0 c.in_ok-new.ensures.name,
  λ hash.
      subst (AreAudited (draft_of c.args.topology.now) (topology_setup (rules_of hash) (plan_in c.args.topology.now)) []) (sym c.in_ok-push.ensures.items)
      (audited_more (draft_of c.args.topology.now) (topology_setup (rules_of hash) (plan_in c.args.topology.now)) [] c.loop-i.all.items c.in_ok-new.field-0 (c.loop-i.invariant.1 hash) (c.in_ok-new.ensures.audited hash)),
)
