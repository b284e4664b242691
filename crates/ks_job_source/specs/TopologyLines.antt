-- The line of a topology at the front of an audit's input, as the reader of jobs reads it.
use Rattle.std.specs.Prelude.{◌≡◌, ℕ, List, [], ◌∷◌, ◌++◌, Some, None}
use Rattle.ks_plan.specs.Drafts.{DraftView}
use Rattle.ks_plan.specs.Faults.{fault_of}
use Rattle.ks_job.specs.Items.{TopologyAt}
use Rattle.ks_job.specs.Reader.{so_far, whole}
use Rattle.ks_job_source.specs.declared.stop.JobStop.{JobStop}
use Rattle.ks_job_source.specs.Stops.{stop_of}

-- these bytes are blank lines and then the line of a well-formed topology, which has this number, with its end
pub record EndsTopology (bytes : List ℕ) (line : ℕ) (d : DraftView) : Type 0 where
  pub front : List ℕ
  pub ended : bytes ≡ front ++ 10 ∷ []
  pub before : (so_far front).items ≡ []
  pub items : (so_far bytes).items ≡ TopologyAt line d ∷ []
  pub unstopped : stop_of (so_far bytes) ≡ None

-- these bytes have no topology's line with its end yet, and nothing to stop at
pub record LacksTopology (bytes : List ℕ) : Type 0 where
  pub unopened : (so_far bytes).items ≡ []
  pub unstopped : stop_of (so_far bytes) ≡ None

-- these bytes are the line of a well-formed topology, which has this number, without its end
pub record LacksEnd (bytes : List ℕ) (line : ℕ) : Type 0 where
  pub draft : DraftView
  pub unopened : (so_far bytes).items ≡ []
  pub items : (whole bytes).items ≡ TopologyAt line draft ∷ []
  pub fine : fault_of draft ≡ None

-- these bytes begin with such as have no topology before their last one, and then there is this to stop at
pub record StopsAt (bytes : List ℕ) (stop : JobStop) : Type 0 where
  pub begun : List ℕ
  pub byte : ℕ
  pub rest : List ℕ
  pub cut : bytes ≡ begun ++ byte ∷ rest
  pub unopened : (so_far begun).items ≡ []
  pub stops : stop_of (so_far (begun ++ byte ∷ [])) ≡ Some stop

-- no line ends in a topology, and what stands at the end is this
pub record StopsAtEnd (bytes : List ℕ) (stop : JobStop) : Type 0 where
  pub unopened : (so_far bytes).items ≡ []
  pub stops : stop_of (whole bytes) ≡ Some stop
