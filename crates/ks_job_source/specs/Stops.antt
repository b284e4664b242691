-- Why an input is no job that can be run: what is wrong with its topology, or its first faulty line.
use Rattle.std.specs.Prelude.{ℕ, List, [], ◌∷◌, Option, Some, None, option_map}
use Rattle.std.specs.Option.{option_or}
use Rattle.ks_plan.specs.Drafts.{DraftView}
use Rattle.ks_plan.specs.Faults.{fault_of}
use Rattle.ks_job.specs.Items.{ItemView, TopologyAt, RecordTo}
use Rattle.ks_job.specs.Reader.{Reader, Reading, Faulty, Machine}
use Rattle.ks_job_source.specs.declared.stop.JobStop.{JobStop}
use Rattle.ks_job_source.specs.declared.stop.JobStop.TheVariants.{BadLine, BadTopology}

-- a topology's first fault
abbrev pub refusal : ℕ → DraftView → Option JobStop
refusal line d = option_map (BadTopology line) (fault_of d)

-- the topology is the first item
abbrev pub topology_stop : List ItemView → Option JobStop
topology_stop [] = None
topology_stop (TopologyAt line d ∷ is) = refusal line d
topology_stop (RecordTo t r ∷ is) = None

abbrev pub line_stop : Reader → Option JobStop
line_stop (Reading s begun) = None
line_stop (Faulty n k) = Some (BadLine n k)

-- the topology's line comes before every other line that is faulty
abbrev pub stop_of : Machine → Option JobStop
stop_of m = option_or (topology_stop m.items) (line_stop m.reader)
