use Rattle.std.proofs.Common.{◌≡◌, refl, sym, ap, subst, ◌∙◌, rules}
use Rattle.ks_topo.specs.Topologies.{draft_of}
use Rattle.ks_def_tasks.specs.Rules.{rules_of}
use Rattle.ks_run_audit.proofs.Sources.{none_begun, none_faulty}
use Rattle.ks_run_audit.proofs.Answering.{opened, stopped}
use Rattle.ks_run_audit.proofs.auditing.audit_by.Goals as goal

pub audit_open-answer-requires-clause-few : goal.audit_open-answer-requires-clause-few
audit_open-answer-requires-clause-few g c κs within = λ e. ((rw c.in-Ok.is at c.in_ok-open.ensures.read) e).few

pub returns-in-Ok-clause-answer : goal.returns-in-Ok-clause-answer
returns-in-Ok-clause-answer g c =
    opened (rules_of g.H.Hash128.hash_of) (g.S.Source.left c.args.input.now) (g.S.Source.left c.open_audit.new.input) (g.S.Source.left c.audit_open-answer.new.input) (g.S.Source.faults c.args.input.now) (g.S.Source.faults c.open_audit.new.input) (g.S.Source.faults c.audit_open-answer.new.input)
    c.in-Ok.open c.audit_open-answer.result (rw c.in-Ok.is at c.in_ok-open.ensures.read) (rw c.in-Ok.is at c.in_ok-open.ensures.unended) c.audit_open-answer.ensures.ended c.audit_open-answer.ensures.unended c.in_ok-open.ensures.kept c.audit_open-answer.ensures.kept

pub returns-in_ok-text-in-Err-clause-answer : goal.returns-in_ok-text-in-Err-clause-answer
returns-in_ok-text-in-Err-clause-answer g c =
    stopped (rules_of g.H.Hash128.hash_of) (g.S.Source.left c.args.input.now) (g.S.Source.left c.open_audit.new.input) (g.S.Source.faults c.args.input.now) (g.S.Source.faults c.open_audit.new.input)
    c.in-Err.stop (rw c.in-Err.is at c.in_ok-open.ensures.stopped) c.in_ok-open.ensures.kept _ c.in_ok-text-in-Err.ensures

pub returns-in_err-open-clause-early : goal.returns-in_err-open-clause-early
returns-in_err-open-clause-early g c = λ e. none_begun (rules_of g.H.Hash128.hash_of) (g.S.Source.left c.args.input.now) (g.S.Source.left c.open_audit.new.input) (c.in_err-open.ensures.begun (search rules))

pub returns-in-Ok-clause-early : goal.returns-in-Ok-clause-early
returns-in-Ok-clause-early g c = λ e.
    let o = c.in-Ok.open in
    none_faulty (rules_of g.H.Hash128.hash_of) (draft_of o.topology) o.line o.taken (g.S.Source.left c.args.input.now) (g.S.Source.left c.open_audit.new.input) (g.S.Source.left c.audit_open-answer.new.input) o.rest.items
    ((rw c.in-Ok.is at c.in_ok-open.ensures.read) (c.audit_open-answer.ensures.whole e)) (c.audit_open-answer.ensures.early e)
