use Rattle.std.proofs.Common.{refl, ap, ◌∙◌, sym, false}
use Rattle.ks_group.specs.Group.{resolved}
use Rattle.ks_cluster.proofs.Groups.{expired_moves}
use Rattle.ks_cluster.proofs.broker.Broker.expire.Goals as goal

pub returns-clause-ok : goal.returns-clause-ok
returns-clause-ok c =
    expired_moves c.args.self.now _ c.args.w c.requires (sym c.can_expire.ensures ∙ c.if-not-can_expire.false) c.fence.ensures (c.resolve.ensures ∙ ap (λ g. resolved g c.args.w false) c.expire.ensures) refl
