use Rattle.std.proofs.Common.{drop, length, ap, ◌∙◌, arith}
use Rattle.std.proofs.lemmas.Result.{IfOk-weaker}
use Rattle.ks_topo.specs.Topologies.{draft_of, plan_in}
use Rattle.ks_law_topology.specs.Work.{work_of}
use Rattle.ks_cluster.specs.View.{setup_of}
use Rattle.ks_def_tasks.specs.Rules.{rules_of}
use Rattle.ks_audit_commit.proofs.Takes.{fetch_may, fetched_is, front_is, takes_met, takes_none}
use Rattle.ks_audit_commit.proofs.taking.take_one.Goals as goal

pub fetch-requires : goal.fetch-requires
fetch-requires g c =
    fetch_may (draft_of c.args.topology.now) (setup_of g.W.Work.plan c.args.cluster.now) c.args.cluster.now.journal c.args.topic c.args.task.now c.requires.made c.requires.taker
    c.id.result c.input_position-from.result c.id.ensures c.input_position-from.ensures

pub returns-in-len1-up : goal.returns-in-len1-up
returns-in-len1-up g c =
    let d = draft_of c.args.topology.now in
    let setup = setup_of g.W.Work.plan c.args.cluster.now in
    let same = fetched_is d setup c.args.cluster.now.journal c.args.topic c.args.task.now c.requires.made c.requires.taker c.id.result c.input_position-from.result c.id.ensures c.input_position-from.ensures in
    let list = c.as_slice.result.now in
    let is = front_is list c.rec-item.result c.in-len1-up.len_at_least c.rec-item.is ∙ c.as_slice.ensures.value ∙ c.in_ok-recs.ensures.records ∙ ap (λ x. x.0) same in
    IfOk-weaker c.take_below.result _ _ (λ took h.
    takes_met d setup c.args.cluster.now.journal c.args.topic c.args.task.now c.requires.made c.requires.taker (g.met.W.Work.network _) (work_of (rules_of g.H.Hash128.hash_of) (plan_in c.args.topology.now)) c.requires.work
    c.args.upto c.rec-item.result (drop 1 list) took c.take_below.new.task is h) c.take_below.ensures

pub returns : goal.returns
returns g c =
    let d = draft_of c.args.topology.now in
    let setup = setup_of g.W.Work.plan c.args.cluster.now in
    let same = fetched_is d setup c.args.cluster.now.journal c.args.topic c.args.task.now c.requires.made c.requires.taker c.id.result c.input_position-from.result c.id.ensures c.input_position-from.ensures in
    takes_none d setup c.args.cluster.now.journal c.args.topic c.args.task.now c.requires.made c.requires.taker c.args.upto c.as_slice.result.now
    (c.as_slice.ensures.value ∙ c.in_ok-recs.ensures.records ∙ ap (λ x. x.0) same)
    (λ x xs e. absurd (omega (arith, ap length e)))
