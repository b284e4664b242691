-- What the words mean: a law on lags, and that goodness is a test.
use Rattle.std.specs.Prelude.{◌≡◌, ◌↔◌, ℕ, true, nat_le, List, [], ◌∷◌}
use Rattle.ks_record.specs.declared.assignment.Assignment.{Assignment}
use Rattle.ks_record.specs.declared.record.TaskId.{TaskId}
use Rattle.ks_assign.specs.Lag.{lags_of, warm}
use Rattle.ks_assign.specs.Placement.{IsGood, is_good}
use Rattle.ks_assign.specs.declared.clients.Client.{Client}
use Rattle.ks_assign.specs.declared.clients.Held.{Held}
use Rattle.ks_assign.specs.declared.clients.Wants.{Wants}

-- a client of which one lag for a task is told is warm for it exactly where that lag is at most the acceptable one
abbrev pub WarmIsSmallLag : Type 0
WarmIsSmallLag = (held : List Held) (most i : ℕ) (t : TaskId) (n : ℕ) → lags_of i t held ≡ n ∷ [] → warm held most i t ≡ nat_le n most

-- an assignment passes the test exactly where it is good
abbrev pub GoodIsATest : Type 0
GoodIsATest = (tasks : List TaskId) (clients : List Client) (held : List Held) (wants : Wants) (a : Assignment) →
    (is_good tasks clients held wants a ≡ true) ↔ IsGood tasks clients held wants a
