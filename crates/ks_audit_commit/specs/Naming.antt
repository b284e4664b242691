-- The offsets that a commit names for the inputs of a task.
use Rattle.std.specs.Prelude.{◌≡◌, ℕ, ◌≤◌, ◌==◌, Bool, true, false, if◌then◌else◌, nat_le, List, [], ◌∷◌, Option, Some, None, length, map}
use Rattle.std.specs.List.Sorted.{IsPermutation}
use Rattle.ks_history.specs.Machine.{has_topic}
use Rattle.ks_history.specs.State.{offset_in}

-- the offset that is named for a topic
abbrev pub offset_named : ℕ → List (ℕ × ℕ) → Option ℕ
offset_named topic [] = None
offset_named topic (pair ∷ pairs) = if topic == pair.0 then Some pair.1 else offset_named topic pairs

-- one is named, at or past a position
abbrev pub is_ahead : Option ℕ → ℕ → Bool
is_ahead None position = false
is_ahead (Some upto) position = nat_le position upto

-- one is named for each of these inputs, at or past the position there
abbrev pub are_ahead : (ℕ → ℕ) → List ℕ → List (ℕ × ℕ) → Bool
are_ahead position [] offsets = true
are_ahead position (topic ∷ topics) offsets = if is_ahead (offset_named topic offsets) (position topic) then are_ahead position topics offsets else false

-- and for nothing else, if each input stands once
abbrev pub may_go_on : (ℕ → ℕ) → List ℕ → List (ℕ × ℕ) → Bool
may_go_on position inputs offsets = if are_ahead position inputs offsets then length inputs == length offsets else false

-- the offsets name each input once, each at or past the position there; a topic without one has an old one
pub record GoesOn (position old : ℕ → ℕ) (inputs : List ℕ) (offsets : List (ℕ × ℕ)) : Type 0 where
  pub named : IsPermutation inputs (map (λ o. o.0) offsets)
  pub ahead : (topic : ℕ) → has_topic topic inputs ≡ true → position topic ≤ offset_in (old topic) topic offsets
