use Rattle.ks_window.proofs.counting.keep_greatest.Goals as goal

pub returns-clause-recs : goal.returns-clause-recs
returns-clause-recs g c = rw c.to_be_bytes.ensures at c.keep.ensures.recs
