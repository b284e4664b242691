use Rattle.std.proofs.Common.{ℕ, ◌∙◌, length, map, ap, sym}
use Rattle.ks_topo.specs.Topologies.{draft_of}
use Rattle.ks_task.proofs.Subs.{logs_there}
use Rattle.ks_settle.proofs.Feeding.{task_rests, own_parts}
use Rattle.ks_settle.proofs.restoring.restore.Goals as goal

pub fed_replica-requires-clause-quiet : goal.fed_replica-requires-clause-quiet
fed_replica-requires-clause-quiet g c = record { may = c.requires.may; idle = c.requires.ready.alone.idle }

pub fed_replica-requires-clause-changelogs : goal.fed_replica-requires-clause-changelogs
fed_replica-requires-clause-changelogs g c = c.changelogs-changelogs.ensures ∙ logs_there (draft_of c.args.topology.now) c.requires.of.well_formed c.args.task.sub ∙ sym (c.requires.of.changelogs c.args.task.sub)

pub of-requires-clause-offsets : goal.of-requires-clause-offsets
of-requires-clause-offsets g c =
    let all = c.changelogs-changelogs.result.now in
    ap (map (λ (o : ℕ × ℕ). o.0)) c.as_slice.ensures.value
    ∙ (own_parts g.W.Work.plan c.args.cluster.now (record { may = c.requires.may; idle = c.requires.ready.alone.idle }) c.is_history.ensures.history (draft_of c.args.topology.now) c.args.task all (length all) c.in_ok-replica.replica c.in_ok-offsets.offsets.items
    c.requires.of c.requires.there c.in_ok-replica.ensures c.in_ok-offsets.ensures).2

pub returns-in-Ok-clause-rests : goal.returns-in-Ok-clause-rests
returns-in-Ok-clause-rests g c =
    let own = c.changelogs-changelogs.ensures ∙ logs_there (draft_of c.args.topology.now) c.requires.of.well_formed c.args.task.sub ∙ sym (c.requires.of.changelogs c.args.task.sub) in
    task_rests g.W.Work.plan c.args.cluster.now (record { may = c.requires.may; idle = c.requires.ready.alone.idle }) c.is_history.ensures.history (draft_of c.args.topology.now) c.args.publisher.now c.args.task c.changelogs-changelogs.result.now c.in_ok-replica.replica
    c.as_slice.result.now c.in-Ok.task c.requires.ready c.requires.there own c.in_ok-replica.ensures (c.as_slice.ensures.value ∙ c.in_ok-offsets.ensures) c.in-Ok.ensures.task c.in-Ok.ensures.view
