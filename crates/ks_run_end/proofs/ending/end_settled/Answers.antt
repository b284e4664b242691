use Rattle.std.proofs.Common.{◌∙◌, ap, subst, sym}
use Rattle.std.proofs.lemmas.Result.{IfOk-weaker}
use Rattle.ks_plan.specs.Plan.{plan_of}
use Rattle.ks_topo.specs.Topologies.{draft_of}
use Rattle.ks_history.specs.History.{at}
use Rattle.ks_history.specs.Machine.{IsNetwork}
use Rattle.ks_history.specs.State.{Setup}
use Rattle.ks_law_topology.proofs.Networks.{works_are_networks}
use Rattle.ks_def_tasks.specs.Rules.{rules_of}
use Rattle.ks_cluster.specs.View as kept
use Rattle.ks_run_verdict.specs.Told.{told as told_of, wanted_at, IsText}
use Rattle.ks_run_end.specs.Tails.{wanted_of, IsToldBy}
use Rattle.ks_run_end.proofs.Drained.{nodes_ready, drained_setup}
use Rattle.ks_run_end.proofs.Told.{may_tell_on, is_quiet, reads_the, last_within, text_is}
use Rattle.ks_run_end.proofs.ending.end_settled.Goals as goal

pub end_run-requires-clause-quiet : goal.end_run-requires-clause-quiet
end_run-requires-clause-quiet g c κs within =
    is_quiet g.W.Work.plan g.H.Hash128.hash_of (draft_of c.args.topology.now) c.settle_cluster.new.cluster (drained_setup g.W.Work.plan c.args.cluster c.settle_cluster.new.cluster c.settle_cluster.ensures.more ∙ c.requires.setup) c.nodes-nodes.ensures.well_formed
    c.is_history.ensures.history (rw c.in-Ok.is at c.settle_cluster.ensures.settled)

pub end_run-requires-clause-topology : goal.end_run-requires-clause-topology
end_run-requires-clause-topology g c κs within =
    reads_the g.H.Hash128.hash_of (draft_of c.args.topology.now) (kept.setup_of g.W.Work.plan c.settle_cluster.new.cluster) (drained_setup g.W.Work.plan c.args.cluster c.settle_cluster.new.cluster c.settle_cluster.ensures.more ∙ c.requires.setup)

pub end_run-requires-clause-parts : goal.end_run-requires-clause-parts
end_run-requires-clause-parts g c κs within = nodes_ready (draft_of c.args.topology.now) c.nodes-nodes.ensures.well_formed c.requires.partitions

pub end_run-requires-clause-may : goal.end_run-requires-clause-may
end_run-requires-clause-may g c κs within =
    let d = draft_of c.args.topology.now in
    let setup = drained_setup g.W.Work.plan c.args.cluster c.settle_cluster.new.cluster c.settle_cluster.ensures.more ∙ c.requires.setup in
    may_tell_on g.W.Work.plan d c.args.cluster c.settle_cluster.new.cluster c.args.wanted.now (reads_the g.H.Hash128.hash_of d (kept.setup_of g.W.Work.plan c.settle_cluster.new.cluster) setup)
    (subst (λ (s : Setup). IsNetwork s.plan) (sym setup) (works_are_networks (rules_of g.H.Hash128.hash_of) (plan_of d))) c.is_history.ensures.history c.settle_cluster.ensures.more c.requires.may

pub returns-in-Ok : goal.returns-in-Ok
returns-in-Ok g c =
    let d = draft_of c.args.topology.now in
    let rules = rules_of g.H.Hash128.hash_of in
    let drained = c.settle_cluster.new.cluster in
    let wanted = c.args.wanted.now in
    let setup = drained_setup g.W.Work.plan c.args.cluster drained c.settle_cluster.ensures.more ∙ c.requires.setup in
    let top = reads_the g.H.Hash128.hash_of d (kept.setup_of g.W.Work.plan drained) setup in
    let may = may_tell_on g.W.Work.plan d c.args.cluster drained wanted top (subst (λ (s : Setup). IsNetwork s.plan) (sym setup) (works_are_networks rules (plan_of d))) c.is_history.ensures.history c.settle_cluster.ensures.more c.requires.may in
    let state = told_of rules d (kept.state_of g.W.Work.plan drained) in
    let settled = rw c.in-Ok.is at c.settle_cluster.ensures.settled in
    let verdict = rw c.in-Ok.is at c.settle_cluster.ensures.told in
    IfOk-weaker c.end_run.result _ _
    (λ a h.
    let status_is = h.0 ∙ ap (λ t. t.0) verdict in
    let text = text_is rules d drained.journal (kept.state_of g.W.Work.plan drained) (ap (λ (s : Setup). at s drained.journal) setup)
    (λ a xs all. last_within d (kept.setup_of g.W.Work.plan drained) drained.journal a top xs all) wanted state a.text.items may
    (subst (λ t. IsToldBy d (kept.state_of g.W.Work.plan drained) wanted drained.journal t a.text.items) verdict h.1) in
    record {
      drained = drained;
      more = c.settle_cluster.ensures.more;
      done = record { history = c.is_history.ensures.history; few = c.is_history.ensures.few; settled = settled };
      placed = c.is_history.ensures.placed;
      status_is = status_is;
      told = subst (λ n. IsText rules d (wanted_at n (wanted_of wanted)) drained.journal state.1 a.text.items) (sym status_is) text;
      handed = h.2;
    })
    c.end_run.ensures
