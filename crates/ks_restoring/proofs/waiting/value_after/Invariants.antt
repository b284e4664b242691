use Rattle.std.proofs.Common.{◌≡◌, take}
use Rattle.std.specs.Prelude.{option_copied}
use Rattle.ks_def_runs.specs.FinMap as fin
use Rattle.ks_history.specs.Machine.{latest_from}
use Rattle.ks_store.specs.Restored.{records_of}
use Rattle.ks_restoring.proofs.waiting.value_after.Given as goal

-- what is found after the first records
abbrev pub invariant-loop-rec : goal.invariant-loop-rec
invariant-loop-rec l = option_copied l.found ≡ fin.get (latest_from l.table.store (take l.rec-index (records_of l.records))) l.key
