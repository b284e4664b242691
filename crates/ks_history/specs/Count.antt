-- How many records a journal puts into the partitions; markers aren't counted.
use Rattle.std.specs.Prelude.{ℕ, ◌+◌, Option, None, List, [], ◌∷◌, length}
use Rattle.ks_record.specs.declared.assignment.Refused.{Refused}
use Rattle.ks_history.specs.declared.journal.Request.{Request}
use Rattle.ks_history.specs.declared.journal.Request.TheVariants.{Produce, Append}
use Rattle.ks_history.specs.declared.journal.Entry.{Entry}
use Rattle.ks_history.specs.State.{State, Setup, start}
use Rattle.ks_history.specs.Step.{refusal, after}

abbrev pub records_by : Request → Option Refused → ℕ
records_by (Produce p rec) r = 1
records_by (Append w e number t p recs) None = length recs
records_by _ r = 0

abbrev pub records_from : Setup → State → List Entry → ℕ
records_from setup s [] = 0
records_from setup s (entry ∷ entries) = records_by entry.request (refusal setup s entry.request) + records_from setup (after setup s entry.request) entries

abbrev pub records_in : Setup → List Entry → ℕ
records_in setup journal = records_from setup start journal
