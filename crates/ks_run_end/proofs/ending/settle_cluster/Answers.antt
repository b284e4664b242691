use Rattle.std.proofs.Common.{◌∙◌, ap, refl}
use Rattle.std.proofs.lemmas.Result.{IfOk-weaker}
use Rattle.ks_topo.specs.Topologies.{draft_of}
use Rattle.ks_cluster.specs.View as kept
use Rattle.ks_run_end.proofs.Drained.{nodes_ready, alone_ready, drained_setup, is_of}
use Rattle.ks_run_end.proofs.ending.settle_cluster.Goals as goal

pub drain-requires-clause-parts : goal.drain-requires-clause-parts
drain-requires-clause-parts g c κs within = nodes_ready (draft_of c.args.topology.now) c.nodes-nodes.ensures.well_formed c.requires.partitions

pub drain-requires-clause-alone : goal.drain-requires-clause-alone
drain-requires-clause-alone g c κs within =
    let wanted = c.requires.placing in
    alone_ready (g.W.Work.good c.args.cluster.now.work) wanted.0 (draft_of c.args.topology.now) c.args.cluster.now.tasks wanted.2 (ap (λ s. s.tasks) c.requires.setup) c.nodes-nodes.ensures.well_formed wanted.1

pub judge-requires-clause-of : goal.judge-requires-clause-of
judge-requires-clause-of g c κs within =
    is_of g.H.Hash128.hash_of (draft_of c.args.topology.now) c.args.topology.now (kept.setup_of g.W.Work.plan c.drain.new.cluster) refl c.nodes-nodes.ensures.well_formed
    (drained_setup g.W.Work.plan c.args.cluster.now c.drain.new.cluster c.in_ok-drain.ensures.more ∙ c.requires.setup)

pub judge-requires-clause-counts : goal.judge-requires-clause-counts
judge-requires-clause-counts g c κs within =
    ap (λ s. s.counts) (drained_setup g.W.Work.plan c.args.cluster.now c.drain.new.cluster c.in_ok-drain.ensures.more ∙ c.requires.setup)

pub returns-clause-settled : goal.returns-clause-settled
returns-clause-settled g c = IfOk-weaker c.judge.result _ _ (λ v told. c.in_ok-drain.ensures.settled) c.judge.ensures
