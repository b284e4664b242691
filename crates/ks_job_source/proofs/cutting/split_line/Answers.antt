use Rattle.std.proofs.Common.{arith}
use Rattle.ks_job_source.proofs.Cuts.{split_both, split_line, no_end}
use Rattle.ks_job_source.proofs.cutting.split_line.Goals as goal

pub returns-then-end-bytes-clause-both : goal.returns-then-end-bytes-clause-both
returns-then-end-bytes-clause-both c = split_both _ _ c.if-end-bytes.true (c.line_end-end.ensures.at c.if-end-bytes.true) c.line_end-end.ensures.before

pub returns-then-end-bytes-clause-line : goal.returns-then-end-bytes-clause-line
returns-then-end-bytes-clause-line c = split_line _ _ c.if-end-bytes.true (c.line_end-end.ensures.at c.if-end-bytes.true) c.line_end-end.ensures.before

pub returns-else-end-bytes-clause-none : goal.returns-else-end-bytes-clause-none
returns-else-end-bytes-clause-none c = λ e. no_end c.args.bytes.now (λ k h. c.line_end-end.ensures.before k (omega (arith, h)))
