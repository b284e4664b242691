use Rattle.std.proofs.Common.{◌+◌, ◌≤◌, ℕ, List, ◌∙◌, ◌++◌, ◌≡◌, ap, sym, subst, arith, append-nil, length, length-append, length-take, take, rules}
use Rattle.std.specs.Prelude.{Option, Some, Ok, Err}
use Rattle.std.specs.Io.KnownBytes.{Consumes}
use Rattle.ks_topo.specs.Topologies.{draft_of}
use Rattle.ks_job_source.proofs.Machines.{few_bytes}
use Rattle.ks_job_source.proofs.Taking.{took_more}
use Rattle.ks_job_source.specs.Opened.{HasRead, IsReady}
use Rattle.ks_job_source.specs.AuditOpening.{IsBefore, HasLine, PieceFinds}
use Rattle.ks_job_source.proofs.AuditOpens.{has_begun, has_read, has_stopped, read_out, stopped_out, line_ready, line_within}
use Rattle.ks_job_source.proofs.audit_opening.open_audit.Goals as goal

pub end_reading-requires : goal.end_reading-requires
end_reading-requires g c =
    let was = c.loop-count.invariant.0 in
    (was.got, record { stands = was.stands; unstopped = was.unstopped }, was.counted)

pub returns-in-Err-clause-begun : goal.returns-in-Err-clause-begun
returns-in-Err-clause-begun g c = λ e.
    let was = c.loop-count.invariant.0 in
    has_begun (g.S.Source.left c.args.input.now) (g.S.Source.left c.loop-count.input) (g.S.Source.left c.take.new.self) was.got c.loop-count.reader was.front c.in-Err.ensures.bytes (record { stands = was.stands; unstopped = was.unstopped })

pub overflow_add-taken : goal.overflow_add-taken
overflow_add-taken g c =
    let was = c.loop-count.invariant.0 in
    omega (arith, few_bytes was.got was.unstopped, was.counted, was.room, c.in-Ok.ensures.bound)

pub loop-count-smaller : goal.loop-count-smaller
loop-count-smaller g c =
    let was = c.loop-count.invariant.0 in
    omega (arith, few_bytes was.got was.unstopped, was.counted)

pub loop-count-preserved : goal.loop-count-preserved
loop-count-preserved g c =
    let was = c.loop-count.invariant.0 in
    let piece = take c.in-Ok.count c.take.new.buf in
    let before : IsBefore was.got c.loop-count.reader = record { stands = was.stands; unstopped = was.unstopped } in
    let on : IsBefore (was.got ++ piece) c.feed_lines.new.reader = subst (λ o. PieceFinds was.got piece c.feed_lines.new.reader o) c.in-None.is (c.in-Ok-feed_lines.ensures was.got before) in (
      record {
        got = was.got ++ piece;
        front = took_more _ _ _ was.got piece was.front c.in-Ok.ensures.bytes.0;
        kept = c.in-Ok.ensures.cause.kept ∙ was.kept;
        stands = on.stands;
        unstopped = on.unstopped;
        counted = let b = c.in-Ok.ensures.bound in omega (arith, was.counted, length-append {A = ℕ}, length-take {A = ℕ});
        some = omega (arith, was.some, c.take.auto.buf);
        room = omega (arith, was.room, c.take.auto.buf);
      },
      omega (arith, c.loop-count.invariant.1, c.take.auto.buf),
    )

pub returns-in-Some-Ok-clause-ready : goal.returns-in-Some-Ok-clause-ready
returns-in-Some-Ok-clause-ready g c =
    let was = c.loop-count.invariant.0 in
    let piece = take c.in-Ok.count c.take.new.buf in
    let before : IsBefore was.got c.loop-count.reader = record { stands = was.stands; unstopped = was.unstopped } in
    let found = c.in-Some-Ok.found in
    let is : c.in-Some-Ok.field-0 ≡ Ok c.in-Some-Ok.found = search rules in
    let some = subst (λ o. PieceFinds was.got piece c.feed_lines.new.reader o) c.in-Some-Ok.is (c.in-Ok-feed_lines.ensures was.got before) in
    let has = subst (λ r. PieceFinds was.got piece c.feed_lines.new.reader (Some r)) is some in
    subst (λ t. IsReady (draft_of t)) (sym c.in_ok-open_with-in-Some-Ok.ensures.topology) (line_ready was.got piece found.more.now found.line found.topology has)

pub returns-in-Some-Ok-clause-within : goal.returns-in-Some-Ok-clause-within
returns-in-Some-Ok-clause-within g c =
    let was = c.loop-count.invariant.0 in
    let piece = take c.in-Ok.count c.take.new.buf in
    let before : IsBefore was.got c.loop-count.reader = record { stands = was.stands; unstopped = was.unstopped } in
    let found = c.in-Some-Ok.found in
    let is : c.in-Some-Ok.field-0 ≡ Ok c.in-Some-Ok.found = search rules in
    let some = subst (λ o. PieceFinds was.got piece c.feed_lines.new.reader o) c.in-Some-Ok.is (c.in-Ok-feed_lines.ensures was.got before) in
    let has : HasLine was.got piece found.more.now found.line found.topology = subst (λ r. PieceFinds was.got piece c.feed_lines.new.reader (Some r)) is some in
    let b = c.in-Ok.ensures.bound in
    let size : length piece ≡ c.in-Ok.count = omega (arith, b, length-take {A = ℕ}) in
    let parts = ap (λ (l : List ℕ). length l) has.cut in
    let less : length found.more.now ≤ c.loop-count.taken + c.in-Ok.count = omega (arith, parts, size, length-append has.front found.more.now) in
    line_within was.got piece found.more.now found.line found.topology _ has (omega (arith, c.in_ok-open_with-in-Some-Ok.ensures.taken less, was.counted, size))

pub returns-in-Some-Ok-clause-read : goal.returns-in-Some-Ok-clause-read
returns-in-Some-Ok-clause-read g c = λ e.
    let was = c.loop-count.invariant.0 in
    let first = g.S.Source.left c.args.input.now in
    let now = g.S.Source.left c.take.new.self in
    let piece = take c.in-Ok.count c.take.new.buf in
    let before : IsBefore was.got c.loop-count.reader = record { stands = was.stands; unstopped = was.unstopped } in
    let found = c.in-Some-Ok.found in
    let opened = c.in_ok-open_with-in-Some-Ok.field-0 in
    let is : c.in-Some-Ok.field-0 ≡ Ok c.in-Some-Ok.found = search rules in
    let some = subst (λ o. PieceFinds was.got piece c.feed_lines.new.reader o) c.in-Some-Ok.is (c.in-Ok-feed_lines.ensures was.got before) in
    let has : HasLine was.got piece found.more.now found.line found.topology = subst (λ r. PieceFinds was.got piece c.feed_lines.new.reader (Some r)) is some in
    let b = c.in-Ok.ensures.bound in
    let size : length piece ≡ c.in-Ok.count = omega (arith, b, length-take {A = ℕ}) in
    let parts = ap (λ (l : List ℕ). length l) has.cut in
    let less : length found.more.now ≤ c.loop-count.taken + c.in-Ok.count = omega (arith, parts, size, length-append has.front found.more.now) in
    let read = has_read first now was.got piece found.more.now found.line opened.taken found.topology (took_more _ _ _ was.got piece was.front c.in-Ok.ensures.bytes.0) has (omega (arith, c.in_ok-open_with-in-Some-Ok.ensures.taken less, was.counted, size)) in
    subst (λ n. HasRead first now (draft_of opened.topology) opened.rest.items n opened.taken) (sym c.in_ok-open_with-in-Some-Ok.ensures.line)
    (subst (λ t. HasRead first now (draft_of t) opened.rest.items found.line opened.taken) (sym c.in_ok-open_with-in-Some-Ok.ensures.topology)
    (subst (λ l. HasRead first now (draft_of found.topology) l found.line opened.taken) (sym c.in_ok-open_with-in-Some-Ok.ensures.rest) read))

pub returns-in-Some-Err-clause-stopped : goal.returns-in-Some-Err-clause-stopped
returns-in-Some-Err-clause-stopped g c =
    let was = c.loop-count.invariant.0 in
    let first = g.S.Source.left c.args.input.now in
    let now = g.S.Source.left c.take.new.self in
    let piece = take c.in-Ok.count c.take.new.buf in
    let before : IsBefore was.got c.loop-count.reader = record { stands = was.stands; unstopped = was.unstopped } in
    let is : c.in-Some-Err.field-0 ≡ Err c.in-Some-Err.stop = search rules in
    let some = subst (λ o. PieceFinds was.got piece c.feed_lines.new.reader o) c.in-Some-Err.is (c.in-Ok-feed_lines.ensures was.got before) in
    has_stopped first now was.got piece c.in-Some-Err.stop (took_more _ _ _ was.got piece was.front c.in-Ok.ensures.bytes.0) (subst (λ r. PieceFinds was.got piece c.feed_lines.new.reader (Some r)) is some)

at_end : (first now : Option (List ℕ)) (got buf : List ℕ) (count : ℕ) → Consumes first now (got ++ take count buf) → count ≡ 0 → Consumes first now got
at_end first now got buf count lost none = subst (Consumes first now) (ap (λ n. got ++ take n buf) none ∙ append-nil got) lost

pub returns-then-count-eq0-clause-unended : goal.returns-then-count-eq0-clause-unended
returns-then-count-eq0-clause-unended g c =
    let was = c.loop-count.invariant.0 in
    let first = g.S.Source.left c.args.input.now in
    let now = g.S.Source.left c.take.new.self in
    let before : IsBefore was.got c.loop-count.reader = record { stands = was.stands; unstopped = was.unstopped } in
    let none : c.in-Ok.count ≡ 0 = omega arith in
    let lost = at_end first now was.got c.take.new.buf c.in-Ok.count (took_more _ _ _ was.got (take c.in-Ok.count c.take.new.buf) was.front c.in-Ok.ensures.bytes.0) none in
    read_out first now was.got c.loop-count.reader lost (c.in-Ok.ensures.bytes.1 none (omega (arith, was.some, c.take.auto.buf))) before c.in_ok-end_reading.field-0 c.in_ok-end_reading.ensures.lacks

pub returns-then-count-eq0-clause-stopped : goal.returns-then-count-eq0-clause-stopped
returns-then-count-eq0-clause-stopped g c =
    let was = c.loop-count.invariant.0 in
    let first = g.S.Source.left c.args.input.now in
    let now = g.S.Source.left c.take.new.self in
    let before : IsBefore was.got c.loop-count.reader = record { stands = was.stands; unstopped = was.unstopped } in
    let none : c.in-Ok.count ≡ 0 = omega arith in
    let lost = at_end first now was.got c.take.new.buf c.in-Ok.count (took_more _ _ _ was.got (take c.in-Ok.count c.take.new.buf) was.front c.in-Ok.ensures.bytes.0) none in
    stopped_out first now was.got c.loop-count.reader lost (c.in-Ok.ensures.bytes.1 none (omega (arith, was.some, c.take.auto.buf))) before c.in_ok-end_reading.field-0 c.in_ok-end_reading.ensures.stops
