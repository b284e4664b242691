use Rattle.std.proofs.Common.{[], ◌∷◌, ◌++◌, sym, subst, ◌∙◌}
use Rattle.std.proofs.lemmas.Bool.{true≢false}
use Rattle.ks_commit.proofs.Turns.{one_taken}
use Rattle.ks_worker_acts.specs.Works.{AreCleanOf}
use Rattle.ks_worker_acts.proofs.Told.{kept_more, dropped_more}
use Rattle.ks_worker_acts.proofs.commit.dropping.drop_dirty.Goals as goal

pub loop-task-preserved-in-Continue-1 : goal.loop-task-preserved-in-Continue-1
loop-task-preserved-in-Continue-1 c = record {
  whole = one_taken c.loop-task.yielded c.loop-task.task-iterator.rest.items c.args.tasks.now.items c.next.new.self.rest.items c.in-Some.task c.loop-task.invariant.whole c.in-Some.ensures.steps.0;
  kept = subst (AreCleanOf (c.loop-task.yielded ++ c.in-Some.task ∷ [])) (sym c.in_ok-push.ensures.items)
      (kept_more c.loop-task.yielded c.loop-task.tasks.items c.in-Some.task c.loop-task.invariant.kept (c.is_clean.ensures.yes c.if-is_clean.true));
}

pub loop-task-preserved : goal.loop-task-preserved
loop-task-preserved c = record {
  whole = one_taken c.loop-task.yielded c.loop-task.task-iterator.rest.items c.args.tasks.now.items c.next.new.self.rest.items c.in-Some.task c.loop-task.invariant.whole c.in-Some.ensures.steps.0;
  kept = dropped_more c.loop-task.yielded c.loop-task.tasks.items c.in-Some.task c.loop-task.invariant.kept (λ clean. absurd (true≢false (sym (c.is_clean.ensures.no clean) ∙ c.if-is_clean.false)));
}
