use Rattle.std.proofs.Common.{subst}
use Rattle.ks_topo.specs.Topologies.{draft_of}
use Rattle.ks_cluster.specs.View.{setup_of}
use Rattle.ks_settle.specs.Drained.{IsFetched}
use Rattle.ks_settle.proofs.Taking.{comes_nearer, still_reader, not_yet, reading_on, read_on}
use Rattle.ks_settle.proofs.reading.read_on.Goals as goal

pub fetch_on-requires-clause-reader : goal.fetch_on-requires-clause-reader
fetch_on-requires-clause-reader g c =
    still_reader (draft_of c.args.topology.now) (setup_of g.W.Work.plan c.args.cluster.now) c.args.cluster.now.journal c.args.topic c.loop-moved.moved c.args.task.now c.loop-moved.task c.requires.reader c.loop-moved.invariant

pub loop-moved-init : goal.loop-moved-init
loop-moved-init g c = not_yet (draft_of c.args.topology.now) (setup_of g.W.Work.plan c.args.cluster.now) c.args.cluster.now.journal c.args.topic c.args.task.now c.requires.reader

pub loop-moved-preserved : goal.loop-moved-preserved
loop-moved-preserved g c =
    reading_on (draft_of c.args.topology.now) (setup_of g.W.Work.plan c.args.cluster.now) c.args.cluster.now.journal c.args.topic c.loop-moved.moved c.args.task.now c.loop-moved.task c.fetch_on.new.task c.loop-moved.invariant
    (subst (λ b. IsFetched (draft_of c.args.topology.now) (setup_of g.W.Work.plan c.args.cluster.now) c.args.cluster.now.journal c.args.topic b c.loop-moved.task c.fetch_on.new.task) c.if-branch.true c.in_ok-fetch_on.ensures)

pub loop-moved-smaller : goal.loop-moved-smaller
loop-moved-smaller g c =
    comes_nearer (draft_of c.args.topology.now) (setup_of g.W.Work.plan c.args.cluster.now) c.args.cluster.now.journal c.args.topic c.loop-moved.moved c.args.task.now c.loop-moved.task c.fetch_on.new.task c.requires.reader c.loop-moved.invariant
    (subst (λ b. IsFetched (draft_of c.args.topology.now) (setup_of g.W.Work.plan c.args.cluster.now) c.args.cluster.now.journal c.args.topic b c.loop-moved.task c.fetch_on.new.task) c.if-branch.true c.in_ok-fetch_on.ensures)

pub returns : goal.returns
returns g c =
    read_on (draft_of c.args.topology.now) (setup_of g.W.Work.plan c.args.cluster.now) c.args.cluster.now.journal c.args.topic c.loop-moved.moved c.args.task.now c.loop-moved.task c.fetch_on.new.task c.loop-moved.invariant
    (subst (λ b. IsFetched (draft_of c.args.topology.now) (setup_of g.W.Work.plan c.args.cluster.now) c.args.cluster.now.journal c.args.topic b c.loop-moved.task c.fetch_on.new.task) c.if-branch.false c.in_ok-fetch_on.ensures)
