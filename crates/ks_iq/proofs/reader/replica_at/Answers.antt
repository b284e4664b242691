use Rattle.std.proofs.Common.{ap, ◌∙◌, arith, inr}
use Rattle.ks_history.specs.Follows.{ReplicaView}
use Rattle.ks_iq.specs.Readers.{replica_place}
use Rattle.ks_iq.proofs.OwnReplicas.{at_pushed}
use Rattle.ks_iq.proofs.reader.replica_at.Goals as goal

pub returns-clause-place : goal.returns-clause-place
returns-clause-place c =
    at_pushed c.args.task c.args.replicas.now.items c.push.new.self.items c.place_of-at.result c.in_ok-replica.replica
    (c.place_of-at.ensures ∙ ap (replica_place c.args.task) c.deref.ensures.value) (omega (arith, c.if-at-len.false, c.len.ensures, c.args.replicas.now.ok.0))
    (ap (λ (v : ReplicaView). v.task) c.in_ok-replica.ensures.view) c.in_ok-push.ensures.items

pub returns-clause-more : goal.returns-clause-more
returns-clause-more c = inr (
  c.in_ok-replica.replica,
  c.in_ok-push.ensures.items,
  record { view = c.in_ok-replica.ensures.view; changelogs = c.in_ok-replica.ensures.changelogs ∙ c.changelogs_in.ensures },
)
