use Rattle.std.proofs.Common.{arith, ◌∙◌}
use Rattle.ks_topo.proofs.Judging.{judged_err, judged_on, known_on, parts_on, origins_on}
use Rattle.ks_topo.proofs.judge.judge_nodes.Goals as goal

pub returns-in_err-next-clause-found : goal.returns-in_err-next-clause-found
returns-in_err-next-clause-found c =
    judged_err c.args.draft.now c.deref-in-loop-i.result.now c.deref-in-loop-i-2.result.now c.loop-i.i c.from_residual.result c.in_err-next.field-0.0
    (omega arith) (c.deref-in-loop-i.ensures.value ∙ c.loop-i.invariant.parts) (c.deref-in-loop-i-2.ensures.value ∙ c.loop-i.invariant.origins) c.loop-i.invariant.found
    c.from_residual.ensures.0 c.from_residual.ensures.1 c.in_err-next.ensures.found

pub loop-i-preserved : goal.loop-i-preserved
loop-i-preserved c = record {
  found = judged_on c.args.draft.now c.deref-in-loop-i.result.now c.deref-in-loop-i-2.result.now c.loop-i.i (omega arith) (c.deref-in-loop-i.ensures.value ∙ c.loop-i.invariant.parts)
      (c.deref-in-loop-i-2.ensures.value ∙ c.loop-i.invariant.origins) c.loop-i.invariant.found c.in_ok-next.ensures.found;
  known = known_on c.args.draft.now c.loop-i.known.items _ c.loop-i.i c.in_ok-next.next (omega arith) c.loop-i.invariant.known c.in_ok-next.ensures.resolved c.in_ok-push.ensures.items;
  parts = parts_on c.args.draft.now c.args.counts.now c.loop-i.parts.items _ c.loop-i.i c.in_ok-next.next (omega arith) c.requires.counts c.loop-i.invariant.parts c.in_ok-next.ensures.resolved c.in_ok-push_parts.ensures;
  origins = origins_on c.args.draft.now c.loop-i.origins.items _ c.loop-i.i c.in_ok-next.next (omega arith) c.loop-i.invariant.origins c.in_ok-next.ensures.resolved c.in_ok-push_origin.ensures;
}
