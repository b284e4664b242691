use Rattle.std.proofs.Common.{◌≡◌, drop, ◌++◌}
use Rattle.ks_assign.specs.Steps.{held_of}
use Rattle.ks_assign.proofs.placing.held_of.Given as goal

abbrev pub invariant-loop-h : goal.invariant-loop-h
invariant-loop-h l = l.own.items ++ held_of l.task (drop l.h-index l.held) ≡ held_of l.task l.held
