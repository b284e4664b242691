use Rattle.std.proofs.Common.{refl, sym, ◌∙◌}
use Rattle.ks_cluster.proofs.Steps.{append_done}
use Rattle.ks_cluster.proofs.broker.Broker.append.Goals as goal

pub returns-in-Ok-clause-ok : goal.returns-in-Ok-clause-ok
returns-in-Ok-clause-ok c =
    append_done c.args.self.now _ c.args.w c.args.epoch c.args.number c.args.task c.args.part c.args.recs c.in-Ok.first c.requires
    c.in_default.ensures (sym c.in-Ok.is ∙ c.in_ok-answer.ensures.answer) c.in_ok-answer.ensures.ok c.in_ok-answer.ensures.few refl
