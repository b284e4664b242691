-- A topology line, as it is read. No public contract names the reader's words.
use Rattle.std.specs.Prelude.{◌≡◌, ◌⊎◌, ◌≤◌, ℕ, List, [], ◌∷◌, ◌++◌, length, Option, Some, None, Result, Ok, Err, ⊤, option_map}
use Rattle.std.specs.Option.{option_or}
use Rattle.ks_plan.specs.Drafts.{DraftView}
use Rattle.ks_plan.specs.Faults.{fault_of}
use Rattle.ks_topo.specs.declared.built.Topology.{Topology}
use Rattle.ks_topo.specs.Topologies.{draft_of}
use Rattle.ks_job.specs.declared.reader.JobFault.{JobFault}
use Rattle.ks_job.specs.Items.{ItemView, TopologyAt}
use Rattle.ks_job.specs.Reader.{Reader, so_far, whole}
use Rattle.ks_job_source.specs.declared.stop.JobStop.{JobStop}
use Rattle.ks_job_source.specs.declared.audit_opening.TopologyLine.{TopologyLine}
use Rattle.ks_job_source.specs.TopologyLines.{EndsTopology}
use Rattle.ks_job_source.specs.Reading.{machine_of, answer_stop}
use Rattle.ks_job_source.specs.Stops.{refusal, stop_of}

-- a topology with the number of its line, or why it is refused; if one has come
abbrev pub Found : Type 0
Found = Option (Result (ℕ × Topology) JobStop)

-- the topology that stands last among these items
abbrev pub FoundIn : List ItemView → Found → Type 0
FoundIn items None = (line : ℕ) (d : DraftView) → items ≡ TopologyAt line d ∷ [] → ⊥
FoundIn items (Some (Ok p)) = (front : List ItemView) × (items ≡ front ++ TopologyAt p.0 (draft_of p.1) ∷ []) × (fault_of (draft_of p.1) ≡ None)
FoundIn items (Some (Err stop)) = (front : List ItemView) × (line : ℕ) × (d : DraftView) × (items ≡ front ++ TopologyAt line d ∷ []) × (refusal line d ≡ Some stop)

-- it comes before what a reader has to say of its lines
abbrev pub or_fault : Found → Result ⊤ JobFault → Found
or_fault found answer = option_or found (option_map Err (answer_stop answer))

-- a reader has read these bytes, which have no topology and nothing to stop at
pub record IsBefore (got : List ℕ) (reader : Option Reader) : Type 0 where
  pub stands : machine_of reader [] ≡ Some (so_far got)
  pub unstopped : stop_of (so_far got) ≡ None

-- these bytes end with a topology line, of this number
abbrev pub HasTopology : List ℕ → ℕ → Topology → Type 0
HasTopology got line topology = EndsTopology got line (draft_of topology)

-- they have no topology before their last byte, and then there is this to stop at
pub record StopsNow (got : List ℕ) (stop : JobStop) : Type 0 where
  pub begun : List ℕ
  pub byte : ℕ
  pub cut : got ≡ begun ++ byte ∷ []
  pub unopened : (so_far begun).items ≡ []
  pub stops : stop_of (so_far got) ≡ Some stop

-- what one more line, or the front of one, leads to
abbrev pub LineFinds : List ℕ → Option Reader → Found → Type 0
LineFinds got reader None = IsBefore got reader
LineFinds got reader (Some (Ok p)) = HasTopology got p.0 p.1
LineFinds got reader (Some (Err stop)) = StopsNow got stop

-- what the end of the input leads to
abbrev pub EndFinds : List ℕ → Found → Type 0
EndFinds got None = ⊥
EndFinds got (Some (Ok p)) = ((whole got).items ≡ TopologyAt p.0 (draft_of p.1) ∷ []) × (fault_of (draft_of p.1) ≡ None)
EndFinds got (Some (Err stop)) = stop_of (whole got) ≡ Some stop

-- the same bytes and the front of a piece, behind which the rest of it stands
pub record HasLine (got piece more : List ℕ) (line : ℕ) (topology : Topology) : Type 0 where
  pub front : List ℕ
  pub cut : piece ≡ front ++ more
  pub topology_is : HasTopology (got ++ front) line topology

pub record StopsIn (got piece : List ℕ) (stop : JobStop) : Type 0 where
  pub front : List ℕ
  pub rest : List ℕ
  pub cut : piece ≡ front ++ rest
  pub stops : StopsNow (got ++ front) stop

abbrev pub PieceFinds : List ℕ → List ℕ → Option Reader → Option (Result TopologyLine JobStop) → Type 0
PieceFinds got piece reader None = IsBefore (got ++ piece) reader
PieceFinds got piece reader (Some (Ok t)) = HasLine got piece t.more.now t.line t.topology
PieceFinds got piece reader (Some (Err stop)) = StopsIn got piece stop

-- the same was found, and behind a topology stand these bytes
abbrev pub IsWith : List ℕ → Found → Option (Result TopologyLine JobStop) → Type 0
IsWith more None None = Unit {0}
IsWith more (Some (Ok p)) (Some (Ok t)) = (t.line ≡ p.0) × (t.topology ≡ p.1) × (t.more.now ≡ more)
IsWith more (Some (Err stop)) (Some (Err told)) = told ≡ stop
IsWith more found result = ⊥

-- the topology of a draft, or why it is refused
abbrev pub BuildsLine : ℕ → DraftView → Result (ℕ × Topology) JobStop → Type 0
BuildsLine line d (Ok p) = (p.0 ≡ line) × (fault_of d ≡ None) × (draft_of p.1 ≡ d)
BuildsLine line d (Err stop) = refusal line d ≡ Some stop
