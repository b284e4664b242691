use Rattle.std.proofs.Common.{refl}
use Rattle.ks_cluster.proofs.Steps.{begin_refused, pend_refused, offsets_step}
use Rattle.ks_cluster.proofs.broker.Broker.send_offsets.Goals as goal

pub returns-in-Some-clause-ok : goal.returns-in-Some-clause-ok
returns-in-Some-clause-ok c = begin_refused c.args.self.now c.args.w c.args.epoch c.args.generation c.args.new c.in-Some.refused c.in-Some.ensures

pub returns-in-Ok-clause-ok : goal.returns-in-Ok-clause-ok
returns-in-Ok-clause-ok c =
    offsets_step c.args.self.now _ c.args.w c.args.epoch c.args.generation c.args.new c.in_ok-outcome.outcome c.start.result c.in-Ok.is c.requires c.in_default.ensures
    c.in_ok-outcome.ensures.refused c.in_ok-outcome.ensures.ok c.start.ensures.answer c.start.ensures.producers refl

pub returns-in-Err-clause-ok : goal.returns-in-Err-clause-ok
returns-in-Err-clause-ok c =
    pend_refused c.args.self.now _ c.args.w c.args.epoch c.args.generation c.args.new c.in_ok-outcome.outcome c.in-Err.refused c.in-Err.is c.in_default.ensures
    c.in_ok-outcome.ensures.refused c.in_ok-outcome.ensures.same refl
