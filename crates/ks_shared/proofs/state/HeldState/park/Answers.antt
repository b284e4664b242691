use Rattle.std.proofs.Common.{subst, sym}
use Rattle.ks_record.specs.declared.record.TaskId.{TaskId}
use Rattle.ks_history.specs.declared.journal.Request.TheVariants.{Park}
use Rattle.ks_history.specs.declared.journal.Reply.TheVariants.{Done}
use Rattle.ks_cluster.specs.View.{ClusterView, setup_of, AddsEntry}
use Rattle.ks_shared.specs.Shelf.{IsReplicaOf, IsShelf}
use Rattle.ks_shared.proofs.Shelving.{same_shelf, shelf_parked}
use Rattle.ks_shared.proofs.state.HeldState.park.Goals as goal

pub invariant_of-self : goal.invariant_of-self
invariant_of-self g c = same_shelf g.W.Work.plan c.self.inside.cluster c.self.inside.shelf c.make_place.new.self c.make_place.ensures.same c.self.invariant

pub invariant_of-self-in-Err : goal.invariant_of-self-in-Err
invariant_of-self-in-Err g c =
    subst (λ (k : ClusterView g.row.W.Denot). IsShelf g.W.Work.plan k c.make_place.new.self) (sym c.in-Err.ensures.err)
    (same_shelf g.W.Work.plan c.self.inside.cluster c.self.inside.shelf c.make_place.new.self c.make_place.ensures.same c.self.invariant)

pub invariant_of-self-2 : goal.invariant_of-self-2
invariant_of-self-2 g c =
    shelf_parked g.W.Work.plan c.self.inside.cluster c.park.new.self c.args.instance c.args.replica c.make_place.new.self c.set.new.self
    (subst (λ (t : TaskId). AddsEntry g.W.Work.plan c.self.inside.cluster c.park.new.self (Park c.args.instance t) Done) c.id-task.ensures c.in-Ok.ensures.ok)
    (subst (λ (k : ClusterView g.row.W.Denot). IsReplicaOf (setup_of g.W.Work.plan k) k.journal c.args.replica.id c.args.replica) (sym c.self.view_is) c.requires.follows)
    c.set.ensures (g.met.W.Work.network _) c.is_history.ensures.history
    (same_shelf g.W.Work.plan c.self.inside.cluster c.self.inside.shelf c.make_place.new.self c.make_place.ensures.same c.self.invariant)
