use Rattle.std.proofs.Common.{◌≡◌}
use Rattle.ks_assign_group.specs.Groups.{clients_below}
use Rattle.ks_assign_group.proofs.clients.clients_of.Given as goal

abbrev pub invariant-loop-instance : goal.invariant-loop-instance
invariant-loop-instance l = l.clients.items ≡ clients_below l.instance l.threads l.members
