use Rattle.std.proofs.Common.{ap, sym, subst, ◌∙◌}
use Rattle.std.specs.Prelude.{codes}
use Rattle.ks_expr.specs.Terms.{test_of}
use Rattle.ks_job_record.specs.Gives.{Gives, ◌>>=◌}
use Rattle.ks_job_topology.specs.Exprs.{read_or}
use Rattle.ks_job_topology.specs.Tests.{test_from, shallow_test, where_of}
use Rattle.ks_job_topology.proofs.Verdicts.{goes_on}
use Rattle.ks_job_topology.proofs.pred.read_where.Goals as goal

pub returns : goal.returns
unfolding where_of
returns c =
    let name = codes "where" in
    subst (λ r. Gives (λ p. test_of p) c.limit_depth.result r)
    (sym (ap (λ r. r >>= (λ d. read_or name (test_from d) >>= (λ t. shallow_test t))) c.in_ok-inner.ensures
    ∙ (ap (λ j. read_or name j >>= shallow_test) (sym c.in_ok-judged.ensures) ∙ goes_on name test_of shallow_test c.in_ok-judged.judged c.in_ok-pred.pred c.in_ok-pred.ensures)))
    c.limit_depth.ensures
