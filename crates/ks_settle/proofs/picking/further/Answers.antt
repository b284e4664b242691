use Rattle.std.proofs.Common.{sym, ◌∙◌}
use Rattle.ks_settle.proofs.Given.{stands_at}
use Rattle.ks_settle.proofs.picking.further.Goals as goal

pub returns-then-not-is_as_far : goal.returns-then-not-is_as_far
returns-then-not-is_as_far c = stands_at c.args.replicas.now c.args.task c.args.place c.index-replicas-place.result c.id.result c.requires.within c.index-replicas-place.is c.id.ensures (sym c.is.ensures ∙ c.if-is.true)
