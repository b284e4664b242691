use denote.Exit.{no}
use denote.Param.Send.{sendable, param_sync, arg_sync}
use denote.Param.SendFields.{declared_sync}
use Rattle.std.proofs.Common.{◌∙◌, ap, ap₂, sym, subst}
use Rattle.std.proofs.Crossing.{crosses}
use Rattle.std.specs.Prelude.{Some}
use Rattle.std.proofs.lemmas.Result.{IfOk-weaker}
use Rattle.ks_topo.specs.Topologies.{plan_in}
use Rattle.ks_def_tasks.specs.Rules.{rules_of}
use Rattle.ks_job.specs.Items.{item_views}
use Rattle.ks_job_source.specs.Opening.{IsReadable}
use Rattle.ks_run_feed.specs.Wanted.{placing_of}
use Rattle.ks_task.specs.Placing.{placed_by}
use Rattle.ks_task.specs.contracts.work.TaskWork as TaskWork
use Rattle.ks_run_verdict.specs.Told.{wanted_in}
use Rattle.ks_run.specs.Settling.{RunsJob}
use Rattle.ks_run.proofs.settling.settle_job.Goals as goal

-- Threads may share the work: its topology, its placing and the name of a hash.
pub settle-answer-requires-sync-W : goal.settle-answer-requires-sync-W
settle-answer-requires-sync-W g c κs within = param_sync _ _ (arg_sync _ no _ (declared_sync (TaskWork.the_type _ _) (search (c.share_topology.ensures, sendable) depth 20, (search (sendable, crosses) depth 20, (search (sendable, crosses) depth 20, tt)))))

pub settle-answer-requires-clause-placing : goal.settle-answer-requires-clause-placing
settle-answer-requires-clause-placing g c κs within =
    ap₂ (λ t p. placed_by (plan_in t) p) c.new-work.ensures.topology (c.new-work.ensures.placing ∙ ap Some c.placing_of-placing.ensures)

pub settle-answer-requires-clause-job : goal.settle-answer-requires-clause-job
settle-answer-requires-clause-job g c κs within =
    let built = rw c.in-Ok-built.is at c.in-Ok.ensures in
    subst (λ d. IsReadable d (item_views c.args.job.records.items) c.args.job.rest) (sym built.1) c.requires.job

pub returns : goal.returns
returns g c =
    let built = rw c.in-Ok-built.is at c.in-Ok.ensures in
    IfOk-weaker c.settle-answer.result _ _
    (λ a h. subst (λ d. RunsJob (rules_of g.H.Hash128.hash_of) (placing_of c.args.crew.settings) (wanted_in c.args.crew.settings.journal c.args.crew.question) d (item_views c.args.job.records.items) c.args.job.rest.standing
    (g.S.Source.left c.args.input.now) (g.S.Source.left c.settle-answer.new.input) (g.S.Source.faults c.args.input.now) (g.S.Source.faults c.settle-answer.new.input) a.status a.text.items a.journal) built.1 h)
    c.settle-answer.ensures
