use denote.Exit.{no}
use denote.Param.Send.{sendable, param_sync, arg_sync}
use denote.Param.SendFields.{declared_sync}
use Rattle.std.proofs.Crossing.{crosses}
use Rattle.std.proofs.Common.{inl, ◌∷◌, ◌++◌, refl, sym, ap, ap₂, subst, ◌∙◌}
use Rattle.std.specs.Prelude.{codes}
use Rattle.std.proofs.lemmas.Result.{IfOk-weaker}
use Rattle.ks_topo.specs.Topologies.{draft_of, plan_in}
use Rattle.ks_def_tasks.specs.Rules.{rules_of}
use Rattle.ks_journal.specs.Lines.{journal_text}
use Rattle.ks_journal.specs.Fits.{FitsJournal}
use Rattle.ks_cluster.specs.View.{setup_of}
use Rattle.ks_audit.specs.Audits.{journal_of, plan_by}
use Rattle.ks_audit.specs.Inputs.{AreInputs}
use Rattle.ks_task.specs.contracts.work.TaskWork as TaskWork
use Rattle.ks_audit_verdict.specs.Places.Place.{journal_line}
use Rattle.ks_run_audit.specs.Outputs.{place_in, text_of}
use Rattle.ks_run_audit.proofs.Ends.{topology_same, setup_same, is_of, counts_are, end_audited, end_refused}
use Rattle.ks_run_audit.proofs.ending.judge_end.Goals as goal

-- Threads may share the work: its topology, its placing and the name of a hash.
pub judge_cluster-fault-requires-sync-W : goal.judge_cluster-fault-requires-sync-W
judge_cluster-fault-requires-sync-W g c κs within = param_sync _ _ (arg_sync _ no _ (declared_sync (TaskWork.the_type _ _) (search (c.share_topology.ensures, sendable) depth 20, (search (sendable, crosses) depth 20, (search (sendable, crosses) depth 20, tt)))))

pub judge_cluster-fault-requires-clause-of : goal.judge_cluster-fault-requires-clause-of
judge_cluster-fault-requires-clause-of g c κs within =
    let hash = g.H.Hash128.hash_of in
    let same = topology_same c.args.topology.now c.args.output c.in-Some.audit c.in-Some.ensures.audit c.requires.sound.topology c.requires.same in
    is_of hash c.args.topology.now c.in-Some.audit.topology.now (setup_of (plan_by hash) c.finish-cluster.result) c.requires.ready same c.finish-cluster.ensures.setup

pub judge_cluster-fault-requires-clause-counts : goal.judge_cluster-fault-requires-clause-counts
judge_cluster-fault-requires-clause-counts g c κs within =
    let hash = g.H.Hash128.hash_of in
    let same = topology_same c.args.topology.now c.args.output c.in-Some.audit c.in-Some.ensures.audit c.requires.sound.topology c.requires.same in
    counts_are hash c.args.topology.now c.in-Some.audit.topology.now (setup_of (plan_by hash) c.finish-cluster.result) same c.finish-cluster.ensures.setup

pub returns-clause-right : goal.returns-clause-right
returns-clause-right g c =
    let hash = g.H.Hash128.hash_of in
    let t = c.args.topology.now in
    let u = c.in-Some.audit.topology.now in
    let cluster = c.finish-cluster.result in
    let setup = setup_of (plan_by hash) cluster in
    let same = topology_same t c.args.output c.in-Some.audit c.in-Some.ensures.audit c.requires.sound.topology c.requires.same in
    let inputs = subst (λ x. AreInputs (rules_of hash) (plan_in x) cluster.journal) same c.finish-cluster.ensures.inputs in
    let fits = subst FitsJournal (sym (c.finish-cluster.ensures.cluster ∙ ap journal_of c.in-Some.ensures.audit)) c.requires.sound.fits in
    let text = c.in-Some.ensures.text ∙ ap₂ (λ l j. codes "settled" ++ 10 ∷ (l ++ journal_text j)) (sym c.as_slice.ensures.value) (sym c.finish-cluster.ensures.cluster) in
    IfOk-weaker c.judge_cluster-fault.result _ _ (λ o shows none. end_audited hash (draft_of t) setup cluster.journal c.requires.ready c.topology_fits.ensures c.hashes_fit.ensures inputs
    (setup_same hash t u setup same c.finish-cluster.ensures.setup) c.is_history.ensures.history c.is_history.ensures.few c.as_slice.result.now (text_of c.args.output) fits (shows none) text) c.judge_cluster-fault.ensures.right

pub returns-clause-wrong : goal.returns-clause-wrong
returns-clause-wrong g c =
    let hash = g.H.Hash128.hash_of in
    let t = c.args.topology.now in
    let u = c.in-Some.audit.topology.now in
    let cluster = c.finish-cluster.result in
    let setup = setup_of (plan_by hash) cluster in
    let same = topology_same t c.args.output c.in-Some.audit c.in-Some.ensures.audit c.requires.sound.topology c.requires.same in
    let text = c.in-Some.ensures.text ∙ ap₂ (λ l j. codes "settled" ++ 10 ∷ (l ++ journal_text j)) (sym c.as_slice.ensures.value) (sym c.finish-cluster.ensures.cluster) in
    let here = c.in-Some.ensures.place ∙ ap journal_line (sym c.finish-cluster.ensures.cluster) in
    IfOk-weaker c.judge_cluster-fault.result _ _ (λ o shows. end_refused (rules_of hash) (draft_of t) setup cluster.journal (place_in c.args.output) c.as_slice.result.now (text_of c.args.output) (setup_same hash t u setup same c.finish-cluster.ensures.setup) here text o shows) c.judge_cluster-fault.ensures.wrong

pub returns-in_default-clause-wrong : goal.returns-in_default-clause-wrong
returns-in_default-clause-wrong g c = inl (c.in_default.ensures.early refl, refl)
