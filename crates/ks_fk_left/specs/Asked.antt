-- Subscriptions as they are written, and answers to responses.
use Rattle.std.specs.Prelude.{ℕ, List, [], ◌∷◌, map, Option, Some, None}
use Rattle.ks_row.specs.Spelling.{spelling}
use Rattle.ks_expr.specs.Eval.{Row}
use Rattle.ks_query.specs.Streams.{Key}
use Rattle.ks_wire.specs.Values.{SubscriptionValue}
use Rattle.ks_def_tasks.specs.Messages.{Subscription, value_of}
use Rattle.ks_fk_left.specs.declared.Answer.{Answer}
use Rattle.ks_fk_left.specs.declared.Answer.TheVariants.{Stale, Set}

-- the hash of a row is that of its bytes
abbrev pub row_hash : (List ℕ → ℕ) → Row → ℕ
row_hash hash row = hash (spelling row)

-- subscriptions by foreign key, with the left key that each names
abbrev pub told : Key → List (Key × Subscription) → List (Key × SubscriptionValue)
told left ss = map (λ s. (s.0, value_of left s.1)) ss

-- one subscription to a foreign key, where there is one
abbrev pub asked : Option Key → Option ℕ → ℕ → Key → Option ℕ → List (Key × SubscriptionValue)
asked None hash instruction left part = []
asked (Some key) hash instruction left part = (key, record { hash = hash; instruction = instruction; left = left; part = part }) ∷ []

-- what an answer sets: nothing where it is stale
abbrev pub set_by : Answer → Option (Option Row)
set_by Stale = None
set_by (Set row) = Some row
