-- Reads at a position of a partition, in a state (KIP-535: reads of a store that lags).
use Rattle.std.specs.Prelude.{◌≡◌, ℕ, List, Option}
use Rattle.ks_record.specs.declared.record.PartId.{PartId}
use Rattle.ks_def_runs.specs.Bytes.{Store}
use Rattle.ks_def_runs.specs.FinMap as fin
use Rattle.ks_history.specs.Partition.{recs, below}
use Rattle.ks_history.specs.Machine.{latest}
use Rattle.ks_history.specs.State.{State}
use Rattle.ks_history.specs.Faithful.{decided}
use Rattle.ks_history.specs.Follows.{IsReached}

-- what the decided records of a partition below a position leave
abbrev pub store_at : State → PartId → ℕ → Store
store_at s p position = latest (recs (below position (decided s p)))

-- the value of a key is what they leave of it, and the position is one that readers reach
pub record IsReadAt (s : State) (p : PartId) (key : List ℕ) (read : Option (List ℕ)) (position : ℕ) : Type 0 where
  pub reached : IsReached s p position
  pub value : read ≡ fin.get (store_at s p position) key
