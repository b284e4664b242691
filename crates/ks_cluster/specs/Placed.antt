-- Which assignments are good, and journals in which each assignment that was taken is good (KIP-441: tasks are placed by what the members hold and by the ends of the changelogs).
use Rattle.std.specs.Prelude.{◌≡◌, ℕ, Bool, true, List, ◌∷◌, ◌++◌}
use mathlib.Core.List.{IsPrefix}
use Rattle.ks_record.specs.declared.record.PartId.{PartId}
use Rattle.ks_record.specs.declared.record.TaskId.{TaskId}
use Rattle.ks_record.specs.declared.assignment.Assignment.{Assignment}
use Rattle.ks_history.specs.declared.journal.Request.TheVariants.{Assign}
use Rattle.ks_history.specs.declared.journal.Reply.TheVariants.{Truth}
use Rattle.ks_history.specs.declared.journal.Entry.{Entry}
use Rattle.ks_history.specs.declared.journal.Status.{Status}
use Rattle.ks_history.specs.State.{Setup}
use Rattle.ks_history.specs.History.{at}
use Rattle.ks_history.specs.Reads.{status}

-- which assignments are good for a generation's members, the positions that they hold and the ends of the changelogs
abbrev pub PlacementTest : Type 0
PlacementTest = List ℕ → List (ℕ × TaskId × ℕ) → List (PartId × ℕ) → Assignment → Bool

-- the same, by what a cluster tells of its group
abbrev pub is_good_by : PlacementTest → Status → Assignment → Bool
is_good_by test s a = test s.members s.held s.ends a

-- the assignment is good by what some prefix of the journal, in which the generation stood already, tells of the group
pub record IsGoodAt (test : PlacementTest) (setup : Setup) (journal : List Entry) (g : ℕ) (a : Assignment) : Type 0 where
  pub seen : List Entry
  pub begins : IsPrefix seen journal
  pub generation : (at setup seen).generation ≡ g
  pub good : is_good_by test (status setup (at setup seen)) a ≡ true

-- each assignment that was taken is good so by the journal before it
abbrev pub ArePlaced : PlacementTest → Setup → List Entry → Type 0
ArePlaced test setup journal =
    (front : List Entry) (w g : ℕ) (a : Assignment) (rest : List Entry)
    → journal ≡ front ++ record { request = Assign w g a; reply = Truth true } ∷ rest → IsGoodAt test setup front g a
