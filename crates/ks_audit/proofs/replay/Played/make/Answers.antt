use Rattle.std.proofs.Common.{◌≡◌, sym, ap, ◌∙◌}
use Rattle.ks_cluster.specs.View.{setup_of, state_of}
use Rattle.ks_audit.proofs.Playing.{owner_few, ready_faithful, made_on, not_made}
use Rattle.ks_audit.proofs.replay.Played.make.Goals as goal

pub replay_entry-requires-clause-meets : goal.replay_entry-requires-clause-meets
replay_entry-requires-clause-meets g c = c.requires.ready.2.meets

pub replay_entry-requires-clause-faithful : goal.replay_entry-requires-clause-faithful
replay_entry-requires-clause-faithful g c = ready_faithful g.W.Work.plan g.W.Work.good c.requires.ready.1 c.requires.ready.0 c.args.self.now c.args.commit c.args.entry.now c.requires.ready.2

pub replay_entry-requires-clause-all_good : goal.replay_entry-requires-clause-all_good
replay_entry-requires-clause-all_good g c = c.requires.ready.2.all_good

pub keep-requires-clause-count : goal.keep-requires-clause-count
keep-requires-clause-count g c = c.requires.ready.2.ledger_is.count

pub keep-requires-clause-worker : goal.keep-requires-clause-worker
keep-requires-clause-worker g c = owner_few (setup_of g.W.Work.plan c.args.self.now.cluster) (state_of g.W.Work.plan c.args.self.now.cluster) c.args.entry.now.request c.requires.ready.2.meets

pub returns-then-not-branch : goal.returns-then-not-branch
returns-then-not-branch g c = λ d rules ready.
    not_made g.W.Work.plan g.W.Work.good rules d c.args.self.now c.args.commit c.args.entry.now ready c.in_ok-replay_entry.field-0 c.replay_entry.new.cluster _ c.if-not-branch.true c.in_ok-replay_entry.ensures

pub returns : goal.returns
returns g c = λ d rules ready.
    made_on g.W.Work.plan g.W.Work.good rules d c.args.self.now c.args.commit c.args.entry.now ready c.in_ok-replay_entry.field-0 c.replay_entry.new.cluster c.keep.new.self c.if-not-branch.false c.in_ok-replay_entry.ensures
    c.journal-before.ensures.history c.journal-behind.ensures.history c.keep.ensures.cluster c.keep.ensures.conditions c.in_ok-keep.ensures.kept
