use Rattle.ks_audit.proofs.Records.{inputs_are_records}
use Rattle.ks_audit.proofs.laws.inputs_are_records.Goals as goal

pub returns : goal.returns
returns c = inputs_are_records
