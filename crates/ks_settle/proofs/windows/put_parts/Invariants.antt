use Rattle.std.proofs.Common.{◌≡◌}
use Rattle.ks_plan.specs.Layout.{up_to}
use Rattle.ks_cluster.specs.View.{state_of}
use Rattle.ks_settle.specs.Windows.{put_parts}
use Rattle.ks_settle.proofs.windows.put_parts.Given as goal

-- those of the partitions so far
abbrev pub invariant-loop-part : goal.invariant-loop-part
invariant-loop-part g l = l.windows.entries ≡ put_parts (state_of g.W.Work.plan l.cluster) l.topic l.fn.windows.entries (up_to l.part)
