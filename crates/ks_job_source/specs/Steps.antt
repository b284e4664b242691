-- One step of reading a job on.
use Rattle.std.specs.Prelude.{◌<◌, ◌≤◌, ◌+◌, ℕ, List, ◌++◌, Option}
use Rattle.ks_job.specs.Items.{ItemView}
use Rattle.ks_job.specs.Reader.{Reader}
use Rattle.ks_law_inputs.specs.Records.{AreRecords}
use Rattle.ks_job_source.specs.declared.rest.Standing.{Standing}
use Rattle.ks_job_source.specs.declared.rest.Standing.TheVariants.{Reading}
use Rattle.ks_job_source.specs.Opening.{GoesOn, StandsPast, IsReading}

-- wherever reading came from, it stands so after the step, with these items more
abbrev pub GoesFurther : Option (List ℕ) → Option (List ℕ) → Standing → Standing → List ItemView → Type 0
GoesFurther left now old new items = (start : Reader) (first : Option (List ℕ)) (before : List ItemView) → GoesOn start first left old before → GoesOn start first now new (before ++ items)

abbrev pub StepsOn : Option (List ℕ) → Option (List ℕ) → Option Reader → Standing → List ItemView → Type 0
StepsOn left now reader new items = GoesFurther left now (Reading reader) new items

-- behind a topology with so many topics the items are records for these; so many bytes were taken, some where reading isn't at its end
pub record ArePast (topics next taken : ℕ) (new : Standing) (items : List ItemView) : Type 0 where
  pub stands : StandsPast topics next new
  pub records : AreRecords topics items
  pub some : IsReading new → 0 < taken

abbrev pub StepsPast : Option Reader → Standing → ℕ → List ItemView → Type 0
StepsPast reader new taken items = (topics count next : ℕ) → StandsPast topics count (Reading reader) → next ≤ count + taken → ArePast topics next taken new items

-- the same, with what was counted before and after
pub record HaveGone (topics old_count new_count : ℕ) (new : Standing) (items : List ItemView) : Type 0 where
  pub stands : StandsPast topics new_count new
  pub records : AreRecords topics items
  pub more : IsReading new → old_count < new_count

abbrev pub GoesPast : Standing → Standing → ℕ → ℕ → List ItemView → Type 0
GoesPast old new old_count new_count items = (topics : ℕ) → StandsPast topics old_count old → HaveGone topics old_count new_count new items
