use Rattle.ks_expr.proofs.projection.put_value.Goals as goal

pub returns-in-Some-clause-fits : goal.returns-in-Some-clause-fits
returns-in-Some-clause-fits c = rw c.in-Some.is c.put_field.ensures.fits
