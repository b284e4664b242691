use Rattle.std.proofs.Common.{ℕ, ◌∙◌, ◌++◌, sym, arith, length-append, length-take, take}
use Rattle.std.specs.Prelude.{None}
use Rattle.ks_job_source.proofs.Machines.{few_bytes}
use Rattle.ks_job_source.proofs.Taking.{took_more, so_far_more, unstopped_more, stopped_early}
use Rattle.ks_job_source.proofs.reading.read_by.Goals as goal

pub returns-in-Some-clause-read : goal.returns-in-Some-clause-read
returns-in-Some-clause-read g c =
    let was = c.loop-count.invariant in
    stopped_early _ _ _ _ was.got _ c.in-Some.stop was.front c.in-Ok.ensures.bytes.0 was.stands was.unstopped (rw c.in-Some.is at c.in-Ok-feed_piece.ensures.stop)

pub overflow_add-taken : goal.overflow_add-taken
overflow_add-taken g c =
    let was = c.loop-count.invariant in
    omega (arith, few_bytes was.got was.unstopped, was.counted, was.room, c.in-Ok.ensures.bound)

pub loop-count-smaller : goal.loop-count-smaller
loop-count-smaller g c =
    let was = c.loop-count.invariant in
    omega (arith, few_bytes was.got was.unstopped, was.counted)

pub loop-count-preserved : goal.loop-count-preserved
loop-count-preserved g c =
    let was = c.loop-count.invariant in
    let piece = take c.in-Ok.count c.take.new.buf in
    record {
      got = was.got ++ piece;
      front = took_more _ _ _ was.got piece was.front c.in-Ok.ensures.bytes.0;
      kept = c.in-Ok.ensures.cause.kept ∙ was.kept;
      stands = so_far_more _ _ was.got piece was.stands c.in-Ok-feed_piece.ensures.fed;
      unstopped = sym (unstopped_more _ was.got piece None was.stands was.unstopped (rw c.in-None.is at c.in-Ok-feed_piece.ensures.stop));
      counted = let b = c.in-Ok.ensures.bound in omega (arith, was.counted, length-append {A = ℕ}, length-take {A = ℕ});
      some = omega (arith, was.some);
      room = omega (arith, was.room);
    }
