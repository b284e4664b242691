use Rattle.std.proofs.Common.{◌≡◌, true, sym, subst, ◌∙◌}
use Rattle.ks_history.specs.Machine.{has_topic}
use Rattle.ks_history.specs.State.{has_task}
use Rattle.ks_cluster.specs.View.{setup_of, setup_at, state_of}
use Rattle.ks_history.specs.History.{at}
use Rattle.ks_cluster.proofs.Rows.{offset_is}
use Rattle.ks_cluster.proofs.cluster.Cluster.offset.Goals as goal

pub returns : goal.returns
returns g c =
    let plan = g.W.Work.plan in
    let task = c.args.task in
    let there = subst (λ v. has_task task (setup_of plan v).tasks ≡ true) (sym c.self.view_is) c.requires.task in
    let input = subst (λ v. has_topic c.args.topic ((setup_of plan v).plan.inputs task.sub) ≡ true) (sym c.self.view_is) c.requires.input in
    subst (λ v. c.offset.result ≡ (state_of plan v).committed task c.args.topic) c.self.view_is
    (c.offset.ensures ∙ offset_is (setup_at (g.W.Work.plan c.self.inside.work) c.self.inside.counts.items c.self.inside.broker) (at (setup_at (g.W.Work.plan c.self.inside.work) c.self.inside.counts.items c.self.inside.broker) c.self.inside.journal.items) task c.args.topic c.self.inside.broker.group.offsets there input c.self.invariant.follows.stands.group_is.offsets_are)
