use Rattle.std.proofs.Common.{rules}
use Rattle.ks_worker_commit.proofs.Carrying.{carried_in}
use Rattle.ks_worker_commit.proofs.sending.append_if_in.Goals as goal

pub returns-clause-carries : goal.returns-clause-carries
returns-clause-carries g c = carried_in g.W.Work.plan _ _ c.args.member.number c.args.member.epoch c.args.member.generation _ _ c.args.place.1 c.args.place.0 c.args.out.now c.append_output.result (search rules) c.append_output.ensures.carries
