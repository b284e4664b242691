use Rattle.std.proofs.Common.{◌≡◌, true, false, ap, sym, ◌∙◌}
use Rattle.std.proofs.lemmas.Result.{IfOk-weaker}
use Rattle.ks_topo.specs.Topologies.{plan_in}
use Rattle.ks_cluster.specs.View.{setup_of, state_of}
use Rattle.ks_audit.proofs.Going.{allowed, not_allowed, source_of}
use Rattle.ks_audit.proofs.replay.Played.allows.Goals as goal

pub is_placed-requires-clause-source : goal.is_placed-requires-clause-source
is_placed-requires-clause-source g c =
    source_of (setup_of g.W.Work.plan c.args.self.now.cluster) (state_of g.W.Work.plan c.args.self.now.cluster) (plan_in c.args.topology.now) c.args.request.now c.requires.sources
    (allowed (setup_of g.W.Work.plan c.args.self.now.cluster) (state_of g.W.Work.plan c.args.self.now.cluster) c.args.request.now c.in_ok-allow.field-0 c.in_ok-allow.ensures c.if-branch.true)

pub returns-then-branch-clause-meets : goal.returns-then-branch-clause-meets
returns-then-branch-clause-meets g c =
    IfOk-weaker c.is_placed.result _ _ (λ b h is.
    allowed (setup_of g.W.Work.plan c.args.self.now.cluster) (state_of g.W.Work.plan c.args.self.now.cluster) c.args.request.now c.in_ok-allow.field-0 c.in_ok-allow.ensures c.if-branch.true) c.is_placed.ensures

pub returns-then-branch-clause-at_place : goal.returns-then-branch-clause-at_place
returns-then-branch-clause-at_place g c = IfOk-weaker c.is_placed.result _ _ (λ b h is hash. (h hash).0 is) c.is_placed.ensures

pub returns-then-branch-clause-only : goal.returns-then-branch-clause-only
returns-then-branch-clause-only g c = IfOk-weaker c.is_placed.result _ _ (λ b h hash m p. (h hash).1 p) c.is_placed.ensures

pub returns-else-branch-clause-only : goal.returns-else-branch-clause-only
returns-else-branch-clause-only g c = λ hash m p.
    absurd (not_allowed (setup_of g.W.Work.plan c.args.self.now.cluster) (state_of g.W.Work.plan c.args.self.now.cluster) c.args.request.now c.in_ok-allow.field-0 c.in_ok-allow.ensures c.if-branch.false m)
