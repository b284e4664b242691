use Rattle.std.proofs.Common.{◌≡◌, ◌++◌, drop}
use Rattle.ks_history.specs.State.{insert_part}
use Rattle.ks_worker_commit.proofs.outputs.with_part.Given as goal

abbrev pub invariant-loop-i : goal.invariant-loop-i
invariant-loop-i l = l.made.items ++ insert_part l.p (drop l.i l.parts) ≡ insert_part l.p l.parts
