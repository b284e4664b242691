-- Words of the crate's own helpers: how the items so far are split, and where reading stands. No public contract names them.
use Rattle.std.specs.Prelude.{◌≡◌, ℕ, List, [], ◌∷◌, Option, Some, None, Result, Ok, Err}
use Rattle.ks_plan.specs.Drafts.{DraftView, draft_view}
use Rattle.ks_job.specs.Items.{ItemView, TopologyAt, RecordTo, item_views}
use Rattle.ks_job.specs.Reader.{Reader}
use Rattle.ks_job.specs.Reader as readers
use Rattle.ks_job_source.specs.declared.stop.JobStop.{JobStop}
use Rattle.ks_job_source.specs.declared.stop.JobStop.TheVariants.{BadLine, BadTopology}
use Rattle.ks_job_source.specs.declared.rest.Standing.{Standing}
use Rattle.ks_job_source.specs.declared.rest.Standing.TheVariants.{Reading, Whole, Stopped}
use Rattle.ks_job_source.specs.declared.opening.OpenJob.{OpenJob}

-- ---- where reading stands after a piece and after the end of the input
abbrev pub standing_after : Reader → Standing
standing_after (readers.Reading s begun) = Reading (Some (readers.Reading s begun))
standing_after (readers.Faulty n k) = Stopped (BadLine n k)

abbrev pub standing_ended : Reader → Standing
standing_ended (readers.Reading s begun) = Whole
standing_ended (readers.Faulty n k) = Stopped (BadLine n k)

-- ---- the items so far
-- a topology first, and the others
abbrev pub split : List ItemView → Option (DraftView × List ItemView)
split [] = None
split (TopologyAt line d ∷ is) = Some (d, is)
split (RecordTo t r ∷ is) = None

-- where reading stands by why it stops, if it does, and the reader, which is none after the end of the input; a topology that is refused isn't opened
abbrev pub stand_by : Option JobStop → Option (Option Reader) → Result Standing JobStop
stand_by (Some (BadTopology line fault)) reader = Err (BadTopology line fault)
stand_by (Some (BadLine line kind)) reader = Ok (Stopped (BadLine line kind))
stand_by None (Some r) = Ok (Reading r)
stand_by None None = Ok Whole

-- what was opened has these items and stands so; or nothing was, for this reason
abbrev pub Parts : Option JobStop → Option (Option Reader) → List ItemView → List ℕ → Result OpenJob JobStop → Type 0
Parts stop reader is buf (Ok job) =
    (split is ≡ Some (draft_view job.draft, item_views job.records.items))
    × (stand_by stop reader ≡ Ok job.rest.standing)
    × (job.rest.taken ≡ 0)
    × (job.rest.buf.items ≡ buf)
Parts stop reader is buf (Err s) = stop ≡ Some s
