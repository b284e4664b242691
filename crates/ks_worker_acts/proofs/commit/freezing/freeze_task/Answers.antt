use Rattle.std.proofs.Common.{[], ◌∷◌, ◌++◌, List, ap, sym, subst, ◌∙◌}
use Rattle.std.proofs.lemmas.Bool.{true≢false}
use Rattle.ks_plan.specs.Plan.{plan_of}
use Rattle.ks_law_topology.specs.Work.{work_of}
use Rattle.ks_commit.specs.Work.{work_view}
use Rattle.ks_commit.specs.Committed.{works_of}
use Rattle.ks_commit.proofs.Turns.{works_of-append}
use Rattle.ks_law_restore.specs.Views.{WorkView}
use Rattle.ks_def_tasks.specs.Rules.{rules_of}
use Rattle.ks_worker_acts.specs.Works.{AreWorksOf}
use Rattle.ks_worker_acts.proofs.Works.{clean_more, dirty_more}
use Rattle.ks_worker_acts.proofs.commit.freezing.freeze_task.Goals as goal

pub returns-then-is_clean : goal.returns-then-is_clean
returns-then-is_clean c = λ d hash ts of are. clean_more (work_of (rules_of hash) (plan_of d)) ts c.args.task.now (works_of c.args.works.now.items) are (c.is_clean.ensures.yes c.if-is_clean.true)

pub returns : goal.returns
returns c = λ d hash ts of are.
    let plan = work_of (rules_of hash) (plan_of d) in
    subst (λ (fs : List WorkView). AreWorksOf plan (ts ++ c.args.task.now ∷ []) fs)
    (sym (ap works_of c.in_ok-push.ensures.items ∙ works_of-append c.args.works.now.items (c.in_ok-work.work ∷ [])))
    (dirty_more plan ts c.args.task.now (works_of c.args.works.now.items) (work_view c.in_ok-work.work) are (λ clean. absurd (true≢false (sym (c.is_clean.ensures.no clean) ∙ c.if-is_clean.false))) (c.in_ok-work.ensures d hash of))
