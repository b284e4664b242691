use Rattle.std.proofs.Common.{◌≡◌, subst, sym}
use Rattle.std.specs.Prelude.{IfOk}
use Rattle.std.proofs.lemmas.Result.{IfOk-weaker}
use Rattle.ks_job_source.specs.Texts.{bad_job_text}
use Rattle.ks_run_output.specs.Texts.{read_fault_text}
use Rattle.ks_topo.specs.Topologies.{draft_of}
use Rattle.ks_def_tasks.specs.Rules.{rules_of}
use Rattle.ks_job_source.specs.declared.rest.JobEnd.{JobEnd}
use Rattle.ks_run.specs.Settling.{EndsBy}
use Rattle.ks_run_end.specs.Tails.{wanted_of, refusal_in}
use Rattle.ks_run.proofs.Settles.{all_given}
use Rattle.ks_cluster.specs.View.{setup_of}
use Rattle.ks_run.proofs.settling.end_by.Goals as goal

pub end_whole-requires-clause-replicas : goal.end_whole-requires-clause-replicas
end_whole-requires-clause-replicas g c κs within = all_given (setup_of g.W.Work.plan c.args.ended.cluster) c.args.ended.cluster.journal c.args.ended.replicas.items c.requires.replicas

pub returns-in-Whole : goal.returns-in-Whole
returns-in-Whole g c =
    subst (λ (e : JobEnd). IfOk c.end_whole.result (λ a. EndsBy g.W.Work.plan g.W.Work.good (rules_of g.H.Hash128.hash_of) (wanted_of c.args.wanted.now) (draft_of c.args.topology.now) c.args.ended.cluster (refusal_in c.args.wanted.now) e a.status a.text.items a.journal))
    (sym c.in-Whole.is) c.end_whole.ensures

pub returns-in-Stopped : goal.returns-in-Stopped
returns-in-Stopped g c =
    IfOk-weaker c.end_undrained.result _ _
    (λ a h.
    let text = subst (λ r. IfOk r (λ t. t.items ≡ bad_job_text c.in-Stopped.stop)) h.1 c.print_bad_job-text.ensures in
    subst (λ (e : JobEnd). EndsBy g.W.Work.plan g.W.Work.good (rules_of g.H.Hash128.hash_of) (wanted_of c.args.wanted.now) (draft_of c.args.topology.now) c.args.ended.cluster (refusal_in c.args.wanted.now) e a.status a.text.items a.journal)
    (sym c.in-Stopped.is) (h.0, text, h.2))
    c.end_undrained.ensures

pub returns-in-Failed : goal.returns-in-Failed
returns-in-Failed g c =
    IfOk-weaker c.end_undrained-in-Failed.result _ _
    (λ a h.
    let text = subst (λ r. IfOk r (λ t. t.items ≡ read_fault_text)) h.1 c.print_read_fault.ensures in
    subst (λ (e : JobEnd). EndsBy g.W.Work.plan g.W.Work.good (rules_of g.H.Hash128.hash_of) (wanted_of c.args.wanted.now) (draft_of c.args.topology.now) c.args.ended.cluster (refusal_in c.args.wanted.now) e a.status a.text.items a.journal)
    (sym c.in-Failed.is) (h.0, text, h.2))
    c.end_undrained-in-Failed.ensures
