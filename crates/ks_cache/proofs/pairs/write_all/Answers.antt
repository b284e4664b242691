use Rattle.ks_cache.proofs.pairs.write_all.Goals as goal

pub returns-clause-none : goal.returns-clause-none
returns-clause-none g c = c.in_ok-write_last.ensures.none c.if-branch.false
