use Rattle.std.proofs.Common.{◌≡◌, length}
use Rattle.ks_law_settled.specs.Collision.{earlier}
use Rattle.ks_settle_report.specs.Hashed.{row_hash, kind_as}
use Rattle.ks_settle_report.proofs.pairs.earlier.Given as goal

-- the records that are left decide
abbrev pub invariant-loop-rest : goal.invariant-loop-rest
invariant-loop-rest g l = earlier (row_hash g.H.Hash128.hash_of) (kind_as l.shown) l.rec l.rest ≡ earlier (row_hash g.H.Hash128.hash_of) (kind_as l.shown) l.rec l.recs

abbrev pub decreases-loop-rest : goal.decreases-loop-rest
decreases-loop-rest g l = length l.rest
