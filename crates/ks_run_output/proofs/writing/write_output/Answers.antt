use Rattle.std.proofs.Common.{arith, ◌∙◌}
use Rattle.ks_run_output.proofs.Known.{put_more}
use Rattle.ks_run_output.proofs.writing.write_output.Goals as goal

pub loop-at-preserved : goal.loop-at-preserved
loop-at-preserved g c = record {
  within = let b = c.in_ok-at.ensures.bound in omega arith;
  front = put_more _ _ _ _ _ _ c.loop-at.invariant.front c.in_ok-at.ensures.bytes;
  kept = c.in_ok-at.ensures.cause.kept ∙ c.loop-at.invariant.kept;
}
