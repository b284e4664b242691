use Rattle.std.proofs.Common.{◌≡◌, true, refl, sym, subst}
use Rattle.std.proofs.lemmas.Result.{on_ok_weaker}
use Rattle.ks_history.specs.Machine.{has_topic}
use Rattle.ks_shared.specs.Calls.{setup_in}
use Rattle.ks_standby.specs.declared.replica.Replica.{Replica}
use Rattle.ks_standby.specs.Replicas.{changelogs_of}
use Rattle.ks_worker_state.specs.Standbys.{IsStandby}
use Rattle.ks_iq.proofs.reader.Reader.feed_at.Goals as goal

pub feed_on-requires-clause-standby : goal.feed_on-requires-clause-standby
feed_on-requires-clause-standby g c =
    subst (IsStandby (setup_in g.W.Work.plan c.args.self.now.pass.frame) c.args.self.now.pass.seen) (sym c.index_mut-replica.ensures.value)
    (c.requires.reader c.args.at c.index_mut-replica.result.now c.requires.at)

pub feed_on-requires-clause-topic : goal.feed_on-requires-clause-topic
feed_on-requires-clause-topic g c =
    subst (λ (r : Replica). has_topic c.args.log (changelogs_of r) ≡ true) (sym c.index_mut-replica.ensures.value) (c.requires.log c.index_mut-replica.result.now)

pub returns-clause-fed : goal.returns-clause-fed
returns-clause-fed g c =
    on_ok_weaker c.feed_on.result
    (λ f. record { before = c.index_mut-replica.result.now; after = c.feed_on.new.replica; was = c.index_mut-replica.ensures.value; fed = f; is = refl })
    c.feed_on.ensures.fed
