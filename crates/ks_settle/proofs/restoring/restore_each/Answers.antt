use Rattle.std.proofs.Common.{rules}
use Rattle.ks_settle.proofs.restoring.restore_each.Goals as goal

pub returns : goal.returns
returns g c = record { count = c.for_each_mut.auto.s; each = λ k x lt. let h = (c.for_each_mut.ensures k x lt).1 in search rules }
