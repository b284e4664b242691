-- What a subscription says.
use Rattle.std.specs.Prelude.{ℕ, ◌≤◌, List, Option, IfSome}

pub record SubscriptionValue : Type 0 where
  -- of the left row's bytes, where there is such a row
  pub hash : Option ℕ
  -- 0 to 3
  pub instruction : ℕ
  -- the key of the left row
  pub left : List ℕ
  -- the partition to answer to, where the left key doesn't tell it
  pub part : Option ℕ

-- one of at most 64
abbrev pub IsPart : Option ℕ → Type 0
IsPart part = IfSome part (λ i. i ≤ 63)
