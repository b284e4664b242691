use Rattle.ks_expr.proofs.Refs.{place_here, place_on}
use Rattle.std.proofs.Common.{ap, ◌+◌}
use Rattle.ks_expr.proofs.projection.find_place.Goals as goal

pub returns-else-is_below-clause-place : goal.returns-else-is_below-clause-place
returns-else-is_below-clause-place c =
    place_here c.args.name.now c.args.fields.now c.loop-own.own-index c.loop-own.place _ _ c.is_below.result
    c.loop-own-test.true c.is_below.ensures c.if-is_below.false c.loop-own.invariant.found

pub loop-own-preserved : goal.loop-own-preserved
loop-own-preserved c = record {
  found = place_on c.args.name.now c.args.fields.now c.loop-own.own-index c.loop-own.place _ _ c.is_below.result
      c.loop-own-test.true c.is_below.ensures c.if-is_below.true c.loop-own.invariant.found;
  count = ap (λ n. n + 1) c.loop-own.invariant.count;
}
