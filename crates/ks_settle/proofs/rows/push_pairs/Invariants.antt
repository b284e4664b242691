use Rattle.std.proofs.Common.{◌≡◌, length}
use Rattle.ks_settle.specs.Rows.{op_as, push_pairs}
use Rattle.ks_settle.proofs.rows.push_pairs.Given as goal

-- the rows so far, with the pairs that are left
abbrev pub invariant-loop-rest : goal.invariant-loop-rest
invariant-loop-rest l = push_pairs (op_as l.shown) l.rows.items l.rest ≡ push_pairs (op_as l.shown) l.fn.rows.items l.pairs

abbrev pub decreases-loop-rest : goal.decreases-loop-rest
decreases-loop-rest l = length l.rest
