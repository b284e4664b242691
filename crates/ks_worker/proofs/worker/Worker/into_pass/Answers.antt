use Rattle.ks_worker.proofs.Left.{leaves, puts_behind, appended}
use Rattle.ks_worker.proofs.worker.Worker.into_pass.Goals as goal

pub returns-clause-behind : goal.returns-clause-behind
returns-clause-behind g c =
    puts_behind c.args.self.state c.rest_tasks.new.replicas.items c.args.replicas.now.items c.append.new.self.items c.in_ok-rest_tasks.ensures
    (appended c.append.result c.in_ok-append.field-0 c.args.replicas.now.items c.rest_tasks.new.replicas.items c.append.new.self.items c.append.ensures.items c.in_ok-append.was)

pub returns-clause-replicas : goal.returns-clause-replicas
returns-clause-replicas g c =
    leaves g.W.Work.plan c.args.self.state c.rest_tasks.new.replicas.items c.args.replicas.now.items c.append.new.self.items c.in_ok-rest_tasks.ensures
    (appended c.append.result c.in_ok-append.field-0 c.args.replicas.now.items c.rest_tasks.new.replicas.items c.append.new.self.items c.append.ensures.items c.in_ok-append.was)
