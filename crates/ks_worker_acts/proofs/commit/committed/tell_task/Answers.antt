use Rattle.std.proofs.Common.{inl, inr, ℕ, List, refl, sym, ap, ◌∙◌}
use Rattle.std.proofs.lemmas.Bool.{true≢false}
use Rattle.ks_record.specs.declared.record.TaskId.{TaskId}
use Rattle.ks_plan.specs.Plan.{plan_of}
use Rattle.ks_plan.specs.Infos.{changelog_numbers}
use Rattle.ks_law_restore.specs.Views.{committed_view}
use Rattle.ks_task.specs.Tasks.{task_view}
use Rattle.ks_task.specs.Views.{own_ends}
use Rattle.ks_worker_commit.specs.Leaves.{ends_for}
use Rattle.ks_worker_acts.proofs.commit.committed.tell_task.Goals as goal

pub returns-then-is_clean : goal.returns-then-is_clean
returns-then-is_clean c = λ d of. inl (c.is_clean.ensures.yes c.if-is_clean.true, refl)

pub returns : goal.returns
returns c = λ d of.
    let v = task_view c.args.task.now in
    inr (
      λ clean. absurd (true≢false (sym (c.is_clean.ensures.no clean) ∙ c.if-is_clean.false)),
      record {
        of = c.in_ok-committed.ensures.task d of;
        view = c.in_ok-committed.ensures.view d of
            ∙ ap (λ (l : List (ℕ × ℕ)). committed_view v (own_ends (changelog_numbers (plan_of d) v.task.sub) l)) (c.as_slice.ensures.value ∙ c.in_ok-own.ensures ∙ ap (λ (t : TaskId). ends_for t c.args.ends.now) c.id.ensures);
        cache = c.committed.ensures.cache;
      },
    )
