use Rattle.ks_worker.proofs.Performed.{has_worked}
use Rattle.ks_worker.proofs.Taken.{counts_moved}
use Rattle.ks_worker.proofs.worker.Worker.work.Goals as goal

pub returns-clause-does : goal.returns-clause-does
returns-clause-does g c =
    has_worked g.W.Work.plan c.args.self.now.state c.work.new.state c.args.pick c.in_ok-moved.moved c.work.ensures.same c.work.ensures.made c.work.ensures.replicas c.in_ok-moved.ensures.names c.in_ok-moved.ensures.read
    c.in_ok-moved.ensures.moved c.in_ok-moved.ensures.first c.in_ok-moved.ensures.stays c.in_ok-moved.ensures.dry

pub returns-clause-dry : goal.returns-clause-dry
returns-clause-dry g c =
    counts_moved c.args.self.now.dry c.count_dry-self.result c.in_ok-moved.moved c.args.self.now.state.tasks.items c.work.new.state.tasks.items c.count_dry-self.ensures c.in_ok-moved.ensures.moved c.in_ok-moved.ensures.stays
