use Rattle.std.proofs.Common.{ℕ, List, take}
use Rattle.std.specs.List.{All}
use Rattle.ks_plan.specs.Drafts.{DraftView}
use Rattle.ks_plan.specs.Plan.{plan_of}
use Rattle.ks_law_topology.specs.Work.{work_of}
use Rattle.ks_commit.specs.Committed.{works_of}
use Rattle.ks_def_tasks.specs.Rules.{rules_of}
use Rattle.ks_task.specs.Tasks.{IsTaskOf}
use Rattle.ks_worker_acts.specs.Works.{AreWorksOf}
use Rattle.ks_worker_acts.proofs.commit.freezing.freeze_dirty.Given as goal

-- the works of the tasks so far
abbrev pub invariant-loop-i : goal.invariant-loop-i
invariant-loop-i l = (d : DraftView) (hash : List ℕ → ℕ) → All (IsTaskOf d) l.tasks → AreWorksOf (work_of (rules_of hash) (plan_of d)) (take l.i l.tasks) (works_of l.works.items)
