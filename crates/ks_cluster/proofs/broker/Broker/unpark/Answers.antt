use Rattle.std.proofs.Common.{refl, sym, ap, ◌∙◌}
use Rattle.ks_cluster.specs.ParkedPairs.{is_parked_in, unparked_in}
use Rattle.ks_cluster.proofs.Groups.{unparked_moves}
use Rattle.ks_cluster.proofs.broker.Broker.unpark.Goals as goal

pub returns-clause-ok : goal.returns-clause-ok
returns-clause-ok c =
    unparked_moves c.args.self.now _ c.args.instance c.args.task
    (sym (c.is_parked-there.ensures ∙ ap (is_parked_in c.args.instance c.args.task) c.as_slice-parked.ensures) ∙ c.if-not-there.false)
    (ap (λ l. record c.args.self.now { parked = l }) (c.of.ensures ∙ c.in_ok-left.ensures ∙ ap (unparked_in c.args.instance c.args.task) c.as_slice-parked.ensures))
