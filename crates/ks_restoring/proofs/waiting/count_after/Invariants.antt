use Rattle.std.proofs.Common.{◌≡◌, ◌≤◌, ◌+◌, take}
use Rattle.ks_def_runs.specs.FinMap as fin
use Rattle.ks_history.specs.Machine.{latest_from}
use Rattle.ks_store.specs.Restored.{records_of}
use Rattle.ks_restoring.proofs.waiting.count_after.Given as goal

-- so many more, and so many less, after the first records
abbrev pub invariant-loop-i : goal.invariant-loop-i
invariant-loop-i l = record {
  len : fin.len (latest_from l.table.store (take l.i (records_of l.records))) + l.less ≡ fin.len l.table.store + l.more;
  more : l.more ≤ l.i;
  less : l.less ≤ l.i;
}
