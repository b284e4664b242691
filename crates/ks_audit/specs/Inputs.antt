-- The records that a journal produces, as those of a job.
use Rattle.std.specs.Prelude.{◌≡◌, List, [], ◌∷◌, map}
use Rattle.ks_plan.specs.Plan.{Plan}
use Rattle.ks_query.specs.Streams.{Input}
use Rattle.ks_def_tasks.specs.Messages.{Rules}
use Rattle.ks_history.specs.declared.journal.Entry.{Entry}
use Rattle.ks_history.specs.History.{IsLegal}
use Rattle.ks_law_topology.specs.Work.{setup_of}
use Rattle.ks_law_settled.specs.Jobs.{produces, produced_of, FitInputs, InRange}
use Rattle.ks_audit.specs.Audited.{IsPlaced}

-- each record that is produced is an input record at its place
abbrev pub AreInputs : Rules → Plan → List Entry → Type 0
AreInputs rules p [] = Unit {0}
AreInputs rules p (entry ∷ entries) = IsPlaced rules p entry.request × AreInputs rules p entries

-- these are the records of a job, produced each at its place
pub record HasRecords (rules : Rules) (p : Plan) (journal : List Entry) : Type 0 where
  pub records : List Input
  pub produced : produces journal ≡ map (produced_of rules p) records
  pub fit : FitInputs p records
  pub range : InRange records

abbrev pub InputsAreRecords : Type 0
InputsAreRecords = (rules : Rules) (p : Plan) (journal : List Entry) → IsLegal (setup_of rules p) journal → AreInputs rules p journal → HasRecords rules p journal
