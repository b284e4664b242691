-- Which assignments of a topology's tasks are good (KIP-441).
use Rattle.std.specs.Prelude.{◌≡◌, ◌≤◌, ℕ, true, Option, None, Some, IfSome, [], ◌∷◌}
use Rattle.ks_plan.specs.Drafts.{DraftView}
use Rattle.ks_plan.specs.Faults.{fault_of}
use Rattle.ks_plan.specs.Infos.{changelog_numbers}
use Rattle.ks_plan.specs.Layout.{tasks}
use Rattle.ks_plan.specs.Plan.{Plan, plan_of}
use Rattle.ks_cluster.specs.Placed.{PlacementTest}
use Rattle.ks_commit.specs.Everything.{everything, IsGoodForAll}
use Rattle.ks_assign.specs.declared.clients.Placing.{Placing}
use Rattle.ks_assign_group.specs.Groups.{good_by}

-- with a placing those that are good by it; without one each
abbrev pub placed_by : Plan → Option Placing → PlacementTest
placed_by p None = λ members held ends a. true
placed_by p (Some placing) = good_by (changelog_numbers p) (tasks p) placing

-- where a worker is the one member, it is good that it has every task, by any placing of at least one thread and by none
abbrev pub EverythingIsGood : Type 0
EverythingIsGood = (d : DraftView) (placing : Option Placing) (w : ℕ) → fault_of d ≡ None → IfSome placing (λ p. 1 ≤ p.threads) → w ≤ 16 →
    IsGoodForAll (placed_by (plan_of d) placing) (w ∷ []) (everything w (tasks (plan_of d)))
