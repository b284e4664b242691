use Rattle.std.proofs.Common.{ap}
use Rattle.ks_record.specs.Records.{Record as Rec}
use Rattle.ks_record.specs.declared.record.PartId.{PartId}
use Rattle.ks_def_runs.specs.Run.{Outcome}
use Rattle.ks_def_tasks.specs.Bytes.{ByteStores}
use Rattle.ks_def_tasks.proofs.Agree.{agree, is_decoded}
use Rattle.ks_def_tasks.proofs.Windowed.{counts_agree, times_agree}
use Rattle.ks_def_tasks.proofs.Hashes.{hashes_agree}
use Rattle.ks_def_tasks.proofs.bytes_agree.Goals as goal

pub returns-clause-tables : goal.returns-clause-tables
returns-clause-tables c rules p t stores q r topic message taken n kind node plain owned again = agree rules p t stores q r topic message taken n kind node plain owned again

pub returns-clause-hashes : goal.returns-clause-hashes
returns-clause-hashes c rules p t stores q r topic message taken n kind node owned bytes fits k = hashes_agree rules p t stores q r topic message taken n kind node owned bytes fits k

pub returns-clause-records : goal.returns-clause-records
returns-clause-records c rules p t stores q r topic message taken = record {
  made = ap (λ (o : Outcome PartId ByteStores Rec). o.made) (is_decoded rules p t stores q r topic message taken);
  late = ap (λ (o : Outcome PartId ByteStores Rec). o.late) (is_decoded rules p t stores q r topic message taken);
}

pub returns-clause-windows : goal.returns-clause-windows
returns-clause-windows c rules p t stores q r topic message taken n f by w through node owned bytes fits = record {
  counts = counts_agree rules p t stores q r topic message taken n f by w through node owned bytes fits;
  times = times_agree rules p t stores q r topic message taken n f by w through node owned bytes fits;
}
