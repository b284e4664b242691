-- A record's line whose record is known.
use Rattle.std.specs.Prelude.{◌≡◌, ℕ, ◌+◌, List, Option, Some, Result, Ok, Err, codes, nat_lt, if◌then◌else◌}
use Rattle.ks_job_record.specs.declared.fault.JobKind.{JobKind}
use Rattle.ks_job_record.specs.declared.fault.JobKind.TheVariants.{TooMany}
use Rattle.ks_job_record.specs.declared.record.Input.{Input}
use Rattle.ks_job_record.specs.Says.{Says}
use Rattle.ks_job.specs.Items.{ItemView, RecordTo}
use Rattle.ks_job.specs.Lines.{Spot}

-- where reading stands after it, with these topics, and its item, unless the job is full
abbrev pub input_at : Option (List (List ℕ)) → Spot → ℕ → Input → Result (Spot × Option ItemView) JobKind
input_at topics s size input = if nat_lt s.records 250000 then Ok (record { line = s.line + 1; start = s.start + size; topics = topics; records = s.records + 1 }, Some (RecordTo input.topic input.rec)) else Err (TooMany (codes "records") 250000)

abbrev pub input_line : Spot → ℕ → Input → Result (Spot × Option ItemView) JobKind
input_line s size input = input_at s.topics s size input

-- the topics are known, and the line says this record
pub record SaysAt (s : Spot) (line : List ℕ) (input : Input) : Type 0 where
  pub topics : List (List ℕ)
  pub known : s.topics ≡ Some topics
  pub says : Says topics line input
