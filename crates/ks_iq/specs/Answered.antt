-- Answers one after another, of a reader that moves on.
use Rattle.std.specs.Prelude.{◌≤◌, ℕ, List, [], ◌∷◌}
use Rattle.std.specs.List.{All}
use Rattle.ks_plan.specs.Drafts.{DraftView}
use Rattle.ks_history.specs.State.{State}
use Rattle.ks_iq.specs.declared.ask.Ask.{Ask}
use Rattle.ks_iq.specs.declared.answer.Answer.{Answer}
use Rattle.ks_iq.specs.Reads.{IsRead}

abbrev pub last_position : List Answer → ℕ
last_position [] = 0
last_position (x ∷ []) = x.position
last_position (x ∷ y ∷ ys) = last_position (y ∷ ys)

-- from a position on none falls
abbrev pub PositionsRise : ℕ → List Answer → Type 0
PositionsRise from [] = Unit {0}
PositionsRise from (x ∷ xs) = (from ≤ x.position) × PositionsRise x.position xs

-- each is a read of a state, and no position falls
pub record AreAnswers (d : DraftView) (s : State) (ask : Ask) (from : ℕ) (answers : List Answer) : Type 0 where
  pub reads : All (IsRead d s ask) answers
  pub rise : PositionsRise from answers
