use Rattle.ks_worker_commit.specs.Underway.{has_added}
use Rattle.ks_worker_commit.proofs.Carrying.{outputs_as}
use Rattle.ks_worker_commit.proofs.sending.append_work.Goals as goal

pub returns-clause-carries : goal.returns-clause-carries
returns-clause-carries g c = outputs_as g.W.Work.plan _ _ c.args.member.number c.args.member.epoch c.args.member.generation _ _ (has_added c.args.part) c.args.part c.args.work.now.task c.as_slice-outputs.result.now c.args.work.now.outputs c.as_slice-outputs.ensures c.append_outputs.result c.append_outputs.ensures.carries
