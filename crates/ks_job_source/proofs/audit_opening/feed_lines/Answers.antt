use Rattle.std.proofs.Common.{◌++◌, ◌∙◌, sym}
use Rattle.ks_job_source.proofs.AuditOpens.{along_starts, along_on, still_before, found_here, found_last}
use Rattle.ks_job_source.proofs.audit_opening.feed_lines.Goals as goal

pub loop-front-init : goal.loop-front-init
loop-front-init c = λ got before. along_starts c.args.reader.now c.args.piece.now got before

pub returns-then-is_some : goal.returns-then-is_some
returns-then-is_some c = λ got before.
    let h = c.loop-front.invariant got before in
    found_here got c.args.piece.now c.in-Some.more.now c.feed_line.new.reader c.args.reader.now c.loop-front.reader c.loop-front.rest.now c.in-Some.front.now h c.in-Some.ensures.both c.in_ok-found.found (sym c.is_some.ensures ∙ c.if-is_some.true)
    c.with_more.result c.with_more.ensures (c.in_ok-found.ensures (got ++ h.front) h.before)

pub loop-front-preserved : goal.loop-front-preserved
loop-front-preserved c = λ got before.
    let h = c.loop-front.invariant got before in
    along_on c.args.reader.now c.loop-front.reader c.args.piece.now c.loop-front.rest.now got h c.feed_line.new.reader c.in-Some.front.now c.in-Some.more.now c.in-Some.ensures.both
    (still_before ((got ++ h.front) ++ c.in-Some.front.now) c.feed_line.new.reader c.in_ok-found.found (sym c.is_some.ensures ∙ c.if-is_some.false) (c.in_ok-found.ensures (got ++ h.front) h.before))

pub returns : goal.returns
returns c = λ got before.
    let h = c.loop-front.invariant got before in
    found_last c.args.reader.now c.loop-front.reader c.feed_line-2.new.reader c.args.piece.now c.loop-front.rest.now got h c.in_ok-found-2.found c.with_more-2.result c.with_more-2.ensures (c.in_ok-found-2.ensures (got ++ h.front) h.before)
