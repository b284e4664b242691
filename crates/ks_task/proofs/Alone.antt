-- One worker that has every task.
use Rattle.std.proofs.Common.{◌≡◌, ℕ, None, Some, List, [], ◌∷◌, map, refl, ap}
use Rattle.ks_record.specs.declared.record.TaskId.{TaskId}
use Rattle.ks_plan.specs.Infos.{changelog_numbers}
use Rattle.ks_plan.specs.Layout.{tasks}
use Rattle.ks_plan.specs.Plan.{plan_of}
use Rattle.ks_law_topology.proofs.Setups.{setups_are_made}
use Rattle.ks_commit.specs.Everything.{at_worker, everything}
use Rattle.ks_assign_group.proofs.Alone.{alone_is_good}
use Rattle.ks_task.specs.Placing.{EverythingIsGood}

all_at : (w : ℕ) (ts : List TaskId) → at_worker w ts ≡ map (λ t. (t, w)) ts
all_at w [] = refl
all_at w (t ∷ ts) = ap (λ ps. (t, w) ∷ ps) (all_at w ts)

pub everything_is_good : EverythingIsGood
everything_is_good d None w well some few held ends = refl
everything_is_good d (Some placing) w well some few held ends =
    let once = (setups_are_made (record { part = λ k n. 0; hash = λ row. 0 }) d well).once in
    alone_is_good (changelog_numbers (plan_of d)) (tasks (plan_of d)) placing w (everything w (tasks (plan_of d))) once some few (all_at w (tasks (plan_of d))) refl refl held ends
