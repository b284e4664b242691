-- A reader as it stands.
use Rattle.std.specs.Prelude.{◌≡◌, ℕ, List, Option, Some, None, Result, Ok, Err, ⊤}
use Rattle.ks_job.specs.declared.judge.JobItem.{JobItem}
use Rattle.ks_job.specs.declared.reader.JobFault.{JobFault}
use Rattle.ks_job.specs.declared.reader.Phase.{Phase}
use Rattle.ks_job.specs.declared.reader.Phase.TheVariants as phases
use Rattle.ks_job.specs.Items.{item_views}
use Rattle.ks_job.specs.Lines.{spot}
use Rattle.ks_job.specs.Reader.{Reader, Reading, Faulty, Machine, after}

abbrev pub reader_of : Phase → Reader
reader_of (phases.Reading place begun) = Reading (spot place) begun.items
reader_of (phases.Faulty f) = Faulty f.line f.kind

abbrev pub machine : Phase → List JobItem → Machine
machine p items = record { reader = reader_of p; items = item_views items }

-- the reader and the items are those after the piece
abbrev pub Fed : Option Reader → Option Reader → List JobItem → List JobItem → List ℕ → Type 0
Fed None new old_items new_items piece = ⊥
Fed (Some r) None old_items new_items piece = ⊥
Fed (Some r) (Some s) old_items new_items piece = record { reader = s; items = item_views new_items } ≡ after (record { reader = r; items = item_views old_items }) piece

abbrev pub IsReading : Reader → Type 0
IsReading (Reading s begun) = Unit {0}
IsReading (Faulty n k) = ⊥

-- a fault exactly where the reader has stopped, and that fault
abbrev pub TellsFault : Result ⊤ JobFault → Reader → Type 0
TellsFault (Ok u) r = IsReading r
TellsFault (Err f) r = r ≡ Faulty f.line f.kind

abbrev pub IsFaulty : Reader → Type 0
IsFaulty (Reading s begun) = ⊥
IsFaulty (Faulty n k) = Unit {0}
