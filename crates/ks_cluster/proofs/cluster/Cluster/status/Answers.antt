use Rattle.std.proofs.Common.{◌≡◌, ap, ◌∙◌, subst, []}
use Rattle.ks_history.specs.Reads.{status}
use Rattle.ks_cluster.specs.View.{setup_of, setup_from, state_of}
use Rattle.ks_cluster.specs.Statuses.{changelogs_on}
use Rattle.ks_cluster.proofs.StatusParts.{status-is}
use Rattle.ks_cluster.proofs.cluster.Cluster.status.Goals as goal

pub returns : goal.returns
returns g c =
    let b = c.self.inside.broker in
    subst (λ v. record {
      generation = c.generation.result;
      members = c.of.result;
      assignment = c.in_ok-assignment.assignment;
      held = c.of-2.result;
      waiting = c.in_ok-waiting.waiting;
      ends = c.of-3.result;
    } ≡ status (setup_of g.W.Work.plan v) (state_of g.W.Work.plan v)) c.self.view_is
    (status-is _ _ b _ _ _ _ _ _ c.self.invariant.follows.stands c.generation.ensures (c.of.ensures ∙ c.in_ok-members.ensures ∙ c.members.ensures) (c.in_ok-assignment.ensures ∙ c.assignment.ensures)
    (c.of-2.ensures ∙ c.in_ok-held.ensures ∙ c.held.ensures) c.in_ok-waiting.ensures
    (c.of-3.ensures ∙ c.in_ok-ends.ensures
    ∙ ap (λ ts. changelogs_on (setup_from (g.W.Work.plan c.self.inside.work) [] ts) b.log 0 c.as_slice-counts.result.now) c.tasks-tasks.ensures
    ∙ ap (changelogs_on (setup_from (g.W.Work.plan c.self.inside.work) [] b.group.tasks) b.log 0) c.as_slice-counts.ensures.value))
