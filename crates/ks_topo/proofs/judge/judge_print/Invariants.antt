use Rattle.std.proofs.Common.{◌≡◌, [], take, drop}
use Rattle.ks_plan.specs.Drafts.{nodes_view}
use Rattle.ks_plan.specs.Faults.{printed_fault}
use Rattle.ks_topo.proofs.judge.judge_print.Given as goal

-- the rest of the names decides
abbrev pub invariant-loop-i : goal.invariant-loop-i
invariant-loop-i l = printed_fault l.all.topics.now (nodes_view l.all.nodes.now) (take l.i l.print) (drop l.i l.print) ≡ printed_fault l.all.topics.now (nodes_view l.all.nodes.now) [] l.print
