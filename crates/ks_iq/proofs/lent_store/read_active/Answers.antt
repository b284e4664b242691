use Rattle.std.proofs.Common.{sym, ap, ◌∙◌, arith}
use Rattle.ks_record.specs.Parts.{same_task}
use Rattle.ks_record.specs.declared.record.TaskId.{TaskId}
use Rattle.ks_topo.specs.Topologies.{draft_of}
use Rattle.ks_task.specs.Tasks.{task_view}
use Rattle.ks_task.specs.Views.{are_committed}
use Rattle.ks_iq.proofs.Clean.{clean_told}
use Rattle.ks_iq.proofs.Lending.{active_bad, active_other, active_taken, active_behind, active_value}
use Rattle.ks_iq.proofs.lent_store.read_active.Goals as goal

pub returns-in-Err : goal.returns-in-Err
returns-in-Err c =
    let inputs = c.args.task.now.inputs.items in
    active_bad (draft_of c.args.topology.now) (task_view c.args.task.now) (are_committed inputs inputs) c.args.ask.now c.args.at_least c.in-Err.fault c.in-Err.ensures

pub returns-then-not-is : goal.returns-then-not-is
returns-then-not-is c =
    let inputs = c.args.task.now.inputs.items in
    active_other (draft_of c.args.topology.now) (task_view c.args.task.now) (are_committed inputs inputs) c.args.ask.now c.args.at_least c.in-Ok.place c.in-Ok.ensures
    (ap (λ (t : TaskId). same_task t c.in-Ok.place.task) (sym c.id.ensures) ∙ (sym c.is.ensures ∙ c.if-not-is.true))

pub returns-then-not-is_clean : goal.returns-then-not-is_clean
returns-then-not-is_clean c =
    let inputs = c.args.task.now.inputs.items in
    active_taken (draft_of c.args.topology.now) (task_view c.args.task.now) (are_committed inputs inputs) c.args.ask.now c.args.at_least c.in-Ok.place c.in-Ok.ensures
    (ap (λ (t : TaskId). same_task t c.in-Ok.place.task) (sym c.id.ensures) ∙ (sym c.is.ensures ∙ c.if-not-is.false))
    (sym (clean_told inputs c.is_clean.result c.is_clean.ensures.yes c.is_clean.ensures.no) ∙ c.if-not-is_clean.true)

pub returns-then-position-at_least : goal.returns-then-position-at_least
returns-then-position-at_least c =
    let inputs = c.args.task.now.inputs.items in
    active_behind (draft_of c.args.topology.now) (task_view c.args.task.now) (are_committed inputs inputs) c.args.ask.now c.args.at_least c.in-Ok.place c.in-Ok.ensures
    (ap (λ (t : TaskId). same_task t c.in-Ok.place.task) (sym c.id.ensures) ∙ (sym c.is.ensures ∙ c.if-not-is.false))
    (sym (clean_told inputs c.is_clean.result c.is_clean.ensures.yes c.is_clean.ensures.no) ∙ c.if-not-is_clean.false)
    c.position-position.result c.position-position.ensures (omega (arith, c.if-position-at_least.true))

pub returns : goal.returns
returns c =
    let inputs = c.args.task.now.inputs.items in
    active_value (draft_of c.args.topology.now) (task_view c.args.task.now) (are_committed inputs inputs) c.args.ask.now c.args.at_least c.in-Ok.place c.in-Ok.ensures
    (ap (λ (t : TaskId). same_task t c.in-Ok.place.task) (sym c.id.ensures) ∙ (sym c.is.ensures ∙ c.if-not-is.false))
    (sym (clean_told inputs c.is_clean.result c.is_clean.ensures.yes c.is_clean.ensures.no) ∙ c.if-not-is_clean.false)
    c.position-position.result c.position-position.ensures (omega (arith, c.if-position-at_least.false))
    c.in_ok-value.value _ _ c.in_ok-value.ensures c.value.ensures (c.as_slice.ensures ∙ c.in_ok-key.ensures)
