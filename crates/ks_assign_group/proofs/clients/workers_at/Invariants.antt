use Rattle.std.proofs.Common.{◌≡◌, ◌++◌, drop}
use Rattle.ks_assign_group.specs.Groups.{workers_at}
use Rattle.ks_assign_group.proofs.clients.workers_at.Given as goal

abbrev pub invariant-loop-w : goal.invariant-loop-w
invariant-loop-w l = l.workers.items ++ workers_at l.threads l.instance (drop l.w-index l.members) ≡ workers_at l.threads l.instance l.members
