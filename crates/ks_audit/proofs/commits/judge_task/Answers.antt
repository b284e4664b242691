use Rattle.std.proofs.Common.{◌≡◌, Option, Some, None, option_map, ap, sym, ◌∙◌}
use Rattle.std.proofs.lemmas.Result.{IfOk-weaker}
use Rattle.ks_topo.specs.Topologies.{draft_of}
use Rattle.ks_cluster.specs.View.{setup_of}
use Rattle.ks_audit.proofs.Judged.{task_judged, task_apart}
use Rattle.ks_audit.proofs.commits.judge_task.Goals as goal

pub judge-requires-clause-once : goal.judge-requires-clause-once
judge-requires-clause-once g c = c.requires.may.once _

pub judge-requires-clause-task : goal.judge-requires-clause-task
judge-requires-clause-task g c =
    let some = sym c.pending_for.ensures ∙ ap (option_map (λ p. p.now)) c.in-Some.is in
    c.requires.own c.id-id.result c.in-Some.pending.now some ∙ c.id-id.ensures

pub returns-in-Some : goal.returns-in-Some
returns-in-Some g c =
    let some = sym c.pending_for.ensures ∙ ap (option_map (λ p. p.now)) c.in-Some.is in
    IfOk-weaker c.judge.result _ _ (λ b h.
    task_judged (draft_of c.args.topology.now) (setup_of g.W.Work.plan c.args.cluster.now) c.args.cluster.now.journal c.args.open.now c.id-id.result c.in-Some.pending.now b c.args.task.now c.judge.new.self
    c.id-id.ensures some (c.requires.own c.id-id.result c.in-Some.pending.now some ∙ c.id-id.ensures) c.requires.audited h) c.judge.ensures

pub returns-in-None : goal.returns-in-None
returns-in-None g c =
    let none = sym c.pending_for.ensures ∙ ap (option_map (λ p. p.now)) c.in-None.is in
    task_apart (draft_of c.args.topology.now) (setup_of g.W.Work.plan c.args.cluster.now) c.args.cluster.now.journal c.args.open.now c.id-id.result c.is_named.result c.args.task.now
    c.id-id.ensures none c.is_named.ensures c.requires.audited
