use Rattle.std.proofs.Common.{◌≡◌, ℕ, List, length}
use Rattle.ks_plan.specs.Drafts.{DraftView}
use Rattle.ks_history.specs.State.{Setup}
use Rattle.ks_history.specs.declared.journal.Entry.{Entry}
use Rattle.ks_audit.specs.Playing.{AreJudged, AreResting, HasOpen, IsMade, names_in}
use Rattle.ks_audit.proofs.commits.rest_tasks.Given as goal

abbrev pub invariant-loop-place : goal.invariant-loop-place
invariant-loop-place l =
    (length l.tasks.items ≡ length l.fn.tasks.items)
    × ((d : DraftView) (setup : Setup) (journal : List Entry) (w epoch : ℕ) → IsMade setup journal w epoch → HasOpen setup journal w l.open → names_in l.fn.tasks.items ≡ setup.tasks → AreJudged d setup journal w l.fn.tasks.items →
    (names_in l.tasks.items ≡ setup.tasks) × AreResting d setup journal w epoch l.place l.tasks.items)
