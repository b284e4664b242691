use Rattle.std.proofs.Common.{sym, arith}
use Rattle.ks_job.proofs.Cuts.{cut_found, cut_none}
use Rattle.ks_job_source.proofs.cutting.cut_line.Goals as goal

pub returns-then-end-bytes-clause-cut : goal.returns-then-end-bytes-clause-cut
returns-then-end-bytes-clause-cut c = sym (cut_found _ _ c.if-end-bytes.true (c.line_end-end.ensures.at c.if-end-bytes.true) c.line_end-end.ensures.before)

pub returns-else-end-bytes-clause-cut : goal.returns-else-end-bytes-clause-cut
returns-else-end-bytes-clause-cut c = sym (cut_none c.args.bytes.now (λ k h. c.line_end-end.ensures.before k (omega (arith, h))))
