-- Clean tasks, and the word for them.
use Rattle.std.proofs.Common.{◌≡◌, Bool, true, false, refl, sym, ◌∙◌}
use Rattle.std.proofs.lemmas.Bool.{true≢false}
use Rattle.ks_task.specs.declared.task.Task.{Task}
use Rattle.ks_task.specs.Tasks.{task_view, IsClean}
use Rattle.ks_task.proofs.Viewing.{clean_is, is_clean}
use Rattle.ks_worker_state.specs.Tasks.{is_clean_task}

pub clean_task : (t : Task) → is_clean_task t ≡ true → IsClean (task_view t)
clean_task t h = clean_is t.inputs.items h

pub task_clean : (t : Task) → IsClean (task_view t) → is_clean_task t ≡ true
task_clean t h = is_clean t.inputs.items t.inputs.items h

pub dirty_task : (t : Task) → (IsClean (task_view t) → ⊥) → is_clean_task t ≡ false
dirty_task t never = by (is_clean_task t) refl
  where
    by : (b : Bool) → is_clean_task t ≡ b → b ≡ false
    by true e = absurd (never (clean_task t e))
    by false e = refl

-- what a test of a task says is the word for it
pub same_clean : (t : Task) (r : Bool) → (r ≡ true → IsClean (task_view t)) → (IsClean (task_view t) → r ≡ true) → r ≡ is_clean_task t
same_clean t true says told = sym (task_clean t (says refl))
same_clean t false says told = sym (dirty_task t (λ clean. true≢false (sym (told clean))))
