use Rattle.std.proofs.Common.{◌≡◌, drop}
use Rattle.ks_def_tasks.specs.Bytes.{records_at}
use Rattle.ks_task.specs.Views.{with_records}
use Rattle.ks_task.proofs.changelogs.keep_all.Given as goal

-- what is left to keep, from here, is what was to be kept
abbrev pub invariant-loop-place : goal.invariant-loop-place
invariant-loop-place l = with_records l.store (records_at l.part (drop l.place l.made)) ≡ with_records l.initial.store (records_at l.part (drop l.from l.made))
