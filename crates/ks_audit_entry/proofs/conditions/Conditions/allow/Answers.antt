use Rattle.std.proofs.Common.{◌≡◌, ℕ, Bool, List, ◌&&◌, nat_lt, ap, ap₂, sym, ◌∙◌}
use Rattle.ks_record.specs.declared.record.PartId.{PartId}
use Rattle.ks_record.specs.declared.record.TaskId.{TaskId}
use Rattle.ks_history.specs.Machine.{TaskPlan}
use Rattle.ks_history.specs.State.{Setup, has_task}
use Rattle.ks_cluster.specs.View.{setup_of, setup_from, state_of}
use Rattle.ks_audit_entry.specs.Conditions.{is_part, meets}
use Rattle.ks_audit_entry.proofs.conditions.Conditions.allow.Goals as goal

-- a partition of what the cluster was made with is one of the cluster
part_told : (setup : Setup) (plan : TaskPlan) (counts slice : List ℕ) (tasks : List TaskId) (p : PartId) (told : Bool) → setup ≡ setup_from plan counts tasks → slice ≡ counts →
    ((plan : TaskPlan) (tasks : List TaskId) → told ≡ is_part (setup_from plan slice tasks) p) → told ≡ is_part setup p
part_told setup plan counts slice tasks p told same is test = test plan tasks ∙ ap (λ l. is_part (setup_from plan l tasks) p) is ∙ ap (λ s. is_part s p) (sym same)

pub returns-in-Produce : goal.returns-in-Produce
returns-in-Produce g c =
    let setup = setup_of g.W.Work.plan c.args.cluster.now in
    let own = c.args.self.now in
    let told = part_told setup (g.W.Work.plan own.work) own.counts.items c.as_slice-counts.result.now own.tasks.items c.in-Produce.part c.is_part-is_part.result c.requires.same c.as_slice-counts.ensures.value c.is_part-is_part.ensures in
    c.both.ensures
    ∙ ap₂ (λ a b. a && b) (ap (nat_lt c.in-Produce.part.topic) (c.sources.ensures ∙ ap (λ (s : Setup). s.plan.sources) (sym c.requires.same))) told
    ∙ ap (meets setup (state_of g.W.Work.plan c.args.cluster.now)) (sym c.in-Produce.is)

pub returns-in-Add : goal.returns-in-Add
returns-in-Add g c =
    let setup = setup_of g.W.Work.plan c.args.cluster.now in
    let own = c.args.self.now in
    let told = part_told setup (g.W.Work.plan own.work) own.counts.items c.as_slice-counts.result.now own.tasks.items c.in-Add.part c.is_part-is_part-in-Add.result c.requires.same c.as_slice-counts.ensures.value c.is_part-is_part-in-Add.ensures in
    c.both-in-Add.ensures ∙ ap₂ (λ a b. a && b) c.is_worker-is_worker.ensures told ∙ ap (meets setup (state_of g.W.Work.plan c.args.cluster.now)) (sym c.in-Add.is)

pub returns-in-Append : goal.returns-in-Append
returns-in-Append g c =
    let setup = setup_of g.W.Work.plan c.args.cluster.now in
    let own = c.args.self.now in
    let told = part_told setup (g.W.Work.plan own.work) own.counts.items c.as_slice-counts.result.now own.tasks.items c.in-Append.part c.is_part-is_part-in-Append.result c.requires.same c.as_slice-counts.ensures.value c.is_part-is_part-in-Append.ensures in
    let task = c.has_task-has_task.ensures ∙ ap (has_task c.in-Append.task) (c.as_slice-tasks.ensures.value ∙ ap (λ (s : Setup). s.tasks) (sym c.requires.same)) in
    c.both-in-Append-2.ensures ∙ ap₂ (λ a b. a && b) c.is_worker-is_worker-in-Append.ensures (c.both-in-Append.ensures ∙ ap₂ (λ a b. a && b) told task)
    ∙ ap (meets setup (state_of g.W.Work.plan c.args.cluster.now)) (sym c.in-Append.is)
