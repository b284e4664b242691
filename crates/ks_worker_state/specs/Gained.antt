-- Requests that a pass has gained, and those that it made itself.
use Rattle.std.specs.Prelude.{◌≡◌, ◌⊎◌, ◌+◌, ◌&&◌, Bool, true, List, [], ◌∷◌, ◌++◌, length}
use Rattle.ks_history.specs.declared.journal.Entry.{Entry}
use Rattle.ks_history.specs.declared.journal.Request.{Request}
use Rattle.ks_growing.specs.Passes.{PassView}
use Rattle.ks_shared.specs.declared.state.Frame.{Frame}

-- these requests stand among the entries, in this order
abbrev pub StandAmong : List Request → List Entry → Type 0
StandAmong [] entries = Unit {0}
StandAmong (r ∷ rs) [] = ⊥
StandAmong (r ∷ rs) (e ∷ es) = ((e.request ≡ r) × StandAmong rs es) ⊎ StandAmong (r ∷ rs) es

-- they stand among the entries that the pass has seen since
pub record HasGained {W : Type 0} (old new : PassView Entry (Frame W)) (requests : List Request) : Type 0 where
  pub more : List Entry
  pub seen : new.seen ≡ old.seen ++ more
  pub among : StandAmong requests more

-- the pass has seen more since, among which these requests stand in their order, and has made as many itself
pub record HasMade {W : Type 0} (old new : PassView Entry (Frame W)) (requests : List Request) : Type 0 where
  pub gained : HasGained old new requests
  pub made : new.made ≡ old.made + length requests

-- each of these requests is of this kind
abbrev pub are_all : (Request → Bool) → List Request → Bool
are_all is [] = true
are_all is (r ∷ rs) = is r && are_all is rs

-- all that the pass itself made since is of this kind
pub record HasMadeOnly {W : Type 0} (is : Request → Bool) (old new : PassView Entry (Frame W)) : Type 0 where
  pub own : List Request
  pub made : HasMade old new own
  pub only : are_all is own ≡ true
