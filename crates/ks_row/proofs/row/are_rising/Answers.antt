use Rattle.std.proofs.Common.{arith, map}
use Rattle.ks_row.specs.Fields.{member_seen}
use Rattle.ks_row.proofs.Rising.{rises_on, rises_not}
use Rattle.ks_row.proofs.Refs.{refs_more, refs_all}
use Rattle.ks_row.proofs.row.are_rising.Goals as goal

pub loop-i-preserved : goal.loop-i-preserved
loop-i-preserved c =
    rises_on (map member_seen c.args.fields.now) c.loop-i.i c.is_below.result
    (refs_more c.args.fields.now c.loop-i.i _ _ c.is_below.result (omega arith) c.loop-i-test.true c.is_below.ensures c.loop-i.invariant)
    c.if-is_below.true

pub returns-in-loop-i : goal.returns-in-loop-i
returns-in-loop-i c =
    rises_not (map member_seen c.args.fields.now) c.loop-i.i c.is_below.result
    (refs_more c.args.fields.now c.loop-i.i _ _ c.is_below.result (omega arith) c.loop-i-test.true c.is_below.ensures c.loop-i.invariant)
    c.if-is_below.false

pub returns : goal.returns
returns c = refs_all c.args.fields.now c.loop-i.i (omega arith) (omega arith) c.loop-i.invariant
