use Rattle.std.proofs.Common.{ap, sym, subst, ◌∙◌}
use Rattle.ks_expr.specs.Terms.{term_of}
use Rattle.ks_job_record.specs.Gives.{Gives, ◌>>=◌}
use Rattle.ks_job_topology.specs.Exprs.{read_or, shallow, limited}
use Rattle.ks_job_topology.proofs.Verdicts.{goes_on}
use Rattle.ks_job_topology.proofs.expr.read_limited.Goals as goal

pub returns : goal.returns
unfolding limited
returns c =
    let name = c.args.name.now in
    subst (λ r. Gives (λ e. term_of e) c.limit_depth.result r)
    (sym (ap (λ j. read_or name j >>= shallow) (sym c.in_ok-judged.ensures) ∙ goes_on name term_of shallow c.in_ok-judged.judged c.in_ok-expr.expr c.in_ok-expr.ensures))
    c.limit_depth.ensures
