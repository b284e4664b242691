-- A topology line, as it was read from a source.
use Rattle.std.specs.Prelude.{◌≡◌, ◌⊎◌, ◌≤◌, ℕ, List, ◌++◌, length, Option, None}
use Rattle.std.specs.Io.KnownBytes.{Consumes, IsAtEnd}
use Rattle.ks_plan.specs.Drafts.{DraftView}
use Rattle.ks_plan.specs.Faults.{fault_of}
use Rattle.ks_law_inputs.specs.Records.{HavePartitions}
use Rattle.ks_job_source.specs.declared.stop.JobStop.{JobStop}
use Rattle.ks_job_source.specs.TopologyLines.{EndsTopology}
use Rattle.ks_job_source.specs.TopologyLines.{LacksEnd, LacksTopology, StopsAt, StopsAtEnd}

-- a topology that is well formed, each of whose topics has a partition
pub record IsReady (d : DraftView) : Type 0 where
  pub fine : fault_of d ≡ None
  pub partitions : HavePartitions d.topics

-- the source lost the bytes up to the end of a topology line, of this number and behind so many bytes, and these behind them
pub record HasRead (old now : Option (List ℕ)) (d : DraftView) (rest : List ℕ) (line taken : ℕ) : Type 0 where
  pub head : List ℕ
  pub lost : Consumes old now (head ++ rest)
  pub topology : EndsTopology head line d
  pub size : taken ≡ length head
  pub few : line ≤ taken

-- it lost all its bytes, which are a topology line of this number without its end
pub record HasReadOut (old now : Option (List ℕ)) (line : ℕ) : Type 0 where
  pub got : List ℕ
  pub lost : Consumes old now got
  pub end : IsAtEnd now
  pub lacks : LacksEnd got line

-- it lost some bytes, and there is this to stop at, maybe at their end
pub record HasStopped (old now : Option (List ℕ)) (stop : JobStop) : Type 0 where
  pub got : List ℕ
  pub lost : Consumes old now got
  pub stops : StopsAt got stop ⊎ (IsAtEnd now × StopsAtEnd got stop)

-- it lost these, which have no topology yet and nothing to stop at
pub record HasBegun (old now : Option (List ℕ)) : Type 0 where
  pub got : List ℕ
  pub lost : Consumes old now got
  pub lacks : LacksTopology got
