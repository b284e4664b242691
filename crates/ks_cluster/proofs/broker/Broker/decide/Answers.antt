use Rattle.std.proofs.Common.{refl}
use Rattle.ks_cluster.proofs.Steps.{decide_done, decide_stops}
use Rattle.ks_cluster.proofs.broker.Broker.decide.Goals as goal

pub returns-in-Err : goal.returns-in-Err
returns-in-Err c = decide_stops c.args.self.now _ c.args.w c.args.epoch c.args.commit c.in-Err.refused c.in-Err.ensures.answer c.in-Err.ensures.producers refl

pub returns : goal.returns
returns c = decide_done c.args.self.now _ c.args.w c.args.epoch c.args.commit c.requires c.in_default.ensures.answer c.in_default.ensures.producers c.resolve.ensures refl
