use Rattle.ks_topo.specs.Topologies.{draft_of}
use Rattle.ks_run_workers.proofs.Turned.{has_turned}
use Rattle.ks_run_workers.proofs.working.take_turns.Goals as goal

pub returns-clause-turned : goal.returns-clause-turned
returns-clause-turned g c = record {
  turned = has_turned g.W.Work.plan (draft_of c.args.topology.now) c.args.turns _ _ c.run-answer.result c.is_err-member.result c.is_err-member.ensures.value
      c.run-answer.ensures.worker c.run-answer.ensures.turns c.run-answer.ensures.counts c.run-answer.ensures.ended c.run-answer.ensures.shown;
}
