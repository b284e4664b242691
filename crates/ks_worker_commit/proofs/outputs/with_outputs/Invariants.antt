use Rattle.std.proofs.Common.{◌≡◌, drop}
use Rattle.ks_worker_commit.specs.Outputs.{parts_with}
use Rattle.ks_worker_commit.proofs.outputs.with_outputs.Given as goal

abbrev pub invariant-loop-out : goal.invariant-loop-out
invariant-loop-out l = parts_with l.made.items (drop l.out-index l.outputs) ≡ parts_with l.parts l.outputs
