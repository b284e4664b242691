use Rattle.std.proofs.Common.{ap, sym, ◌∙◌}
use Rattle.std.proofs.lemmas.Result.{IfOk-weaker}
use Rattle.ks_topo.specs.Topologies.{draft_of}
use Rattle.ks_cluster.specs.View.{setup_of}
use Rattle.ks_audit_commit.specs.Naming.{offset_named}
use Rattle.ks_audit_commit.proofs.Ordered.{named_taker, is_before, one_passed, one_unnamed}
use Rattle.ks_audit_commit.proofs.ordering.pass_one.Goals as goal

pub pass_to-requires-clause-taker : goal.pass_to-requires-clause-taker
pass_to-requires-clause-taker g c =
    named_taker (draft_of c.args.topology.now) (setup_of g.W.Work.plan c.args.cluster.now) c.args.cluster.now.journal c.args.pending.now c.args.topic c.in-Some.upto c.args.task.now c.requires.taking
    (ap (offset_named c.args.topic) (sym c.as_slice.ensures) ∙ sym c.offset_of.ensures ∙ c.in-Some.is)

pub pass_to-requires-clause-later : goal.pass_to-requires-clause-later
pass_to-requires-clause-later g c =
    is_before (draft_of c.args.topology.now) (setup_of g.W.Work.plan c.args.cluster.now) c.args.cluster.now.journal c.args.pending.now c.args.topic c.in-Some.upto c.args.task.now c.requires.taking
    (ap (offset_named c.args.topic) (sym c.as_slice.ensures) ∙ sym c.offset_of.ensures ∙ c.in-Some.is)

pub returns-in-Some : goal.returns-in-Some
returns-in-Some g c =
    IfOk-weaker c.pass_to.result _ _ (λ done h.
    one_passed (draft_of c.args.topology.now) (setup_of g.W.Work.plan c.args.cluster.now) c.args.cluster.now.journal c.args.pending.now (g.met.W.Work.network _) c.args.topic c.in-Some.upto done c.args.task.now c.pass_to.new.task
    c.requires.taking (ap (offset_named c.args.topic) (sym c.as_slice.ensures) ∙ sym c.offset_of.ensures ∙ c.in-Some.is) h) c.pass_to.ensures

pub returns-in-None : goal.returns-in-None
returns-in-None g c =
    one_unnamed (draft_of c.args.topology.now) (setup_of g.W.Work.plan c.args.cluster.now) c.args.cluster.now.journal c.args.pending.now c.args.topic c.args.task.now c.requires.taking c.requires.input
    (ap (offset_named c.args.topic) (sym c.as_slice.ensures) ∙ sym c.offset_of.ensures ∙ c.in-None.is)
