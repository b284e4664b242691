use Rattle.std.proofs.Common.{subst}
use Rattle.std.specs.Prelude.{is_some}
use Rattle.ks_history.specs.declared.journal.Request.TheVariants.{Unpark}
use Rattle.ks_history.specs.declared.journal.Reply.TheVariants.{Truth}
use Rattle.ks_cluster.specs.View.{ClusterView, AddsEntry}
use Rattle.ks_shared.proofs.Shelving.{shelf_unparked, taken_adds, taken_follows}
use Rattle.ks_shared.proofs.state.HeldState.unpark.Goals as goal

pub invariant_of-self-2 : goal.invariant_of-self-2
invariant_of-self-2 g c =
    shelf_unparked g.W.Work.plan c.self.inside.cluster c.unpark.new.self c.args.instance c.args.task c.in_ok-_is_parked._is_parked c.self.inside.shelf c.take.new.self
    c.in_ok-_is_parked.ensures.ok c.take.ensures.rest (g.met.W.Work.network _) c.is_history.ensures.history c.self.invariant

pub returns-clause-ok : goal.returns-clause-ok
returns-clause-ok g c =
    subst (λ (k : ClusterView g.row.W.Denot). AddsEntry g.W.Work.plan k c.unpark.new.self (Unpark c.args.instance c.args.task) (Truth (is_some c.take.result))) c.self.view_is
    (taken_adds g.W.Work.plan c.self.inside.cluster c.unpark.new.self c.args.instance c.args.task c.in_ok-_is_parked._is_parked c.self.inside.shelf c.take.result
    c.in_ok-_is_parked.ensures.ok c.take.ensures.gives c.self.invariant)

pub returns-clause-follows : goal.returns-clause-follows
returns-clause-follows g c =
    taken_follows g.W.Work.plan c.self.inside.cluster c.unpark.new.self c.args.instance c.args.task c.in_ok-_is_parked._is_parked c.self.inside.shelf c.take.result
    c.in_ok-_is_parked.ensures.ok c.take.ensures.gives c.self.invariant (g.met.W.Work.network _) c.is_history.ensures.history
