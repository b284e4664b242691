use Rattle.std.proofs.Common.{◌≡◌, ◌+◌, ◌≤◌, drop}
use Rattle.ks_assign.specs.Placement.{by_client, copies}
use Rattle.ks_assign.proofs.counting.copies_at.Given as goal

abbrev pub invariant-loop-p : goal.invariant-loop-p
invariant-loop-p l = (l.n + copies l.task l.instance (by_client l.clients (drop l.p-index l.places)) ≡ copies l.task l.instance (by_client l.clients l.places)) × (l.n ≤ l.p-index)
