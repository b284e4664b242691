use Rattle.std.proofs.Common.{◌≡◌, ap, ◌∙◌, arith}
use Rattle.std.specs.Prelude.{Result}
use Rattle.std.proofs.lemmas.Result.{IfOk-weaker}
use Rattle.ks_topo.specs.Topologies.{draft_of}
use Rattle.ks_history.specs.State.{has_task}
use Rattle.ks_shared.specs.Calls.{setup_in}
use Rattle.ks_standby.specs.Replicas.{replica_view}
use Rattle.ks_iq.specs.declared.answer.Answer.{Answer}
use Rattle.ks_iq.specs.declared.fault.IqFault.{IqFault}
use Rattle.ks_iq.specs.Asks.{lent_answer}
use Rattle.ks_iq.specs.Readers.{IsTold}
use Rattle.ks_iq.proofs.Known.{known_task}
use Rattle.ks_iq.proofs.Telling.{on_ok, told_fault, told_at, reader_with, reader_fed, has_log, fed_within, none_fell}
use Rattle.ks_iq.proofs.reader.Reader.ask.Goals as goal

pub returns-in-Err-clause-told : goal.returns-in-Err-clause-told
returns-in-Err-clause-told g c =
    told_fault g.W.Work.plan (draft_of c.args.topology.now) c.args.ask.now c.args.self.now.pass c.args.self.now.pass c.args.self.now.replicas.items c.args.self.now.replicas.items c.args.at_least c.in-Err.fault c.in-Err.ensures

pub feed_at-requires-clause-reader : goal.feed_at-requires-clause-reader
feed_at-requires-clause-reader g c =
    let d = draft_of c.args.topology.now in
    let setup = setup_in g.W.Work.plan c.args.self.now.pass.frame in
    reader_with g.W.Work.plan d c.args.ask.now c.args.self.now.pass c.args.self.now.pass c.requires.may.topology c.args.self.now.replicas.items c.replica_at.new.replicas.items c.in-Ok.place.task
    (ap (λ t. has_task t setup.tasks) c.in-Ok.ensures.task ∙ known_task d setup c.args.ask.now c.nodes-nodes.ensures.well_formed c.requires.may.parts c.requires.may.topology c.in-Ok.ensures.fine) c.requires.reader c.in_ok-at.ensures.more

pub feed_at-requires-clause-log : goal.feed_at-requires-clause-log
feed_at-requires-clause-log g c =
    let d = draft_of c.args.topology.now in
    let setup = setup_in g.W.Work.plan c.args.self.now.pass.frame in
    has_log g.W.Work.plan d c.args.ask.now c.args.self.now.pass c.args.self.now.pass c.requires.may.topology c.replica_at.new.replicas.items c.in_ok-at.at c.in-Ok.place c.in-Ok.ensures c.in_ok-at.ensures.place
    (reader_with g.W.Work.plan d c.args.ask.now c.args.self.now.pass c.args.self.now.pass c.requires.may.topology c.args.self.now.replicas.items c.replica_at.new.replicas.items c.in-Ok.place.task
    (ap (λ t. has_task t setup.tasks) c.in-Ok.ensures.task ∙ known_task d setup c.args.ask.now c.nodes-nodes.ensures.well_formed c.requires.may.parts c.requires.may.topology c.in-Ok.ensures.fine) c.requires.reader c.in_ok-at.ensures.more)

pub index-requires : goal.index-requires
index-requires g c =
    let low = fed_within g.W.Work.plan (draft_of c.args.topology.now) c.args.ask.now c.args.self.now.pass c.feed_at.new.self.pass c.feed_at.ensures.later
    c.replica_at.new.replicas.items c.feed_at.new.self.replicas.items c.in-Ok.place.log c.in_ok-at.at c.in_ok-at.ensures.place.within c.in_ok-feed_at.ensures.fed in
    omega (arith, low, c.feed_at.new.self.replicas.ok.0)

pub returns-clause-reader : goal.returns-clause-reader
returns-clause-reader g c =
    let d = draft_of c.args.topology.now in
    let setup = setup_in g.W.Work.plan c.args.self.now.pass.frame in
    let pass = c.args.self.now.pass in
    on_ok c.stale.result
    (reader_fed g.W.Work.plan d c.args.ask.now pass c.feed_at.new.self.pass c.feed_at.ensures.later
    c.replica_at.new.replicas.items c.feed_at.new.self.replicas.items c.in-Ok.place.log c.in_ok-at.at c.requires.may.call.network
    (reader_with g.W.Work.plan d c.args.ask.now pass pass c.requires.may.topology c.args.self.now.replicas.items c.replica_at.new.replicas.items c.in-Ok.place.task
    (ap (λ t. has_task t setup.tasks) c.in-Ok.ensures.task ∙ known_task d setup c.args.ask.now c.nodes-nodes.ensures.well_formed c.requires.may.parts c.requires.may.topology c.in-Ok.ensures.fine) c.requires.reader c.in_ok-at.ensures.more)
    c.in_ok-feed_at.ensures.fed)

pub returns-clause-rises : goal.returns-clause-rises
returns-clause-rises g c =
    on_ok c.stale.result
    (none_fell g.W.Work.plan (draft_of c.args.topology.now) c.args.ask.now c.args.self.now.pass c.feed_at.new.self.pass c.feed_at.ensures.later
    c.args.self.now.replicas.items c.replica_at.new.replicas.items c.feed_at.new.self.replicas.items c.in-Ok.place.task c.in-Ok.place.log c.in_ok-at.at c.in_ok-at.ensures.place.within c.in_ok-at.ensures.more
    c.in_ok-feed_at.ensures.fed)

pub returns-clause-told : goal.returns-clause-told
returns-clause-told g c =
    let d = draft_of c.args.topology.now in
    let a = c.args.ask.now in
    let pass = c.args.self.now.pass in
    let before = c.args.self.now.replicas.items in
    let after = c.feed_at.new.self.replicas.items in
    IfOk-weaker c.stale.result (λ (r : Result Answer IqFault). r ≡ lent_answer d (replica_view c.index.result.now) a c.args.at_least) (IsTold g.W.Work.plan d pass c.feed_at.new.self.pass before after a c.args.at_least)
    (λ r e. told_at g.W.Work.plan d a pass c.feed_at.new.self.pass c.feed_at.ensures.later before c.replica_at.new.replicas.items after c.in_ok-at.at c.args.at_least c.in-Ok.place c.index.result.now r
    c.in-Ok.ensures c.requires.may.topology c.in_ok-at.ensures.place c.in_ok-at.ensures.more c.in_ok-feed_at.ensures.fed c.index.ensures e)
    c.stale.ensures.exact
