use Rattle.std.proofs.Common.{sym, ap, ◌∙◌, arith}
use Rattle.ks_record.specs.Parts.{same_task}
use Rattle.ks_record.specs.declared.record.TaskId.{TaskId}
use Rattle.ks_topo.specs.Topologies.{draft_of}
use Rattle.ks_standby.specs.Replicas.{replica_view}
use Rattle.ks_iq.proofs.Lending.{lent_bad, lent_other, lent_behind, lent_value}
use Rattle.ks_iq.proofs.lent_store.read_lent.Goals as goal

pub returns-in-Err : goal.returns-in-Err
returns-in-Err c = lent_bad (draft_of c.args.topology.now) (replica_view c.args.replica.now) c.args.ask.now c.args.at_least c.in-Err.fault c.in-Err.ensures

pub returns-then-not-is : goal.returns-then-not-is
returns-then-not-is c =
    lent_other (draft_of c.args.topology.now) (replica_view c.args.replica.now) c.args.ask.now c.args.at_least c.in-Ok.place c.in-Ok.ensures
    (ap (λ (t : TaskId). same_task t c.in-Ok.place.task) (sym c.id.ensures) ∙ (sym c.is.ensures ∙ c.if-not-is.true))

pub returns-then-position-at_least : goal.returns-then-position-at_least
returns-then-position-at_least c =
    lent_behind (draft_of c.args.topology.now) (replica_view c.args.replica.now) c.args.ask.now c.args.at_least c.in-Ok.place c.in-Ok.ensures
    (ap (λ (t : TaskId). same_task t c.in-Ok.place.task) (sym c.id.ensures) ∙ (sym c.is.ensures ∙ c.if-not-is.false))
    c.position-position.result c.position-position.ensures (omega (arith, c.if-position-at_least.true))

pub returns : goal.returns
returns c =
    lent_value (draft_of c.args.topology.now) (replica_view c.args.replica.now) c.args.ask.now c.args.at_least c.in-Ok.place c.in-Ok.ensures
    (ap (λ (t : TaskId). same_task t c.in-Ok.place.task) (sym c.id.ensures) ∙ (sym c.is.ensures ∙ c.if-not-is.false))
    c.position-position.result c.position-position.ensures (omega (arith, c.if-position-at_least.false))
    c.in_ok-value.value _ _ c.in_ok-value.ensures c.value.ensures (c.as_slice.ensures ∙ c.in_ok-key.ensures)
