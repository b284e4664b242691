use Rattle.std.proofs.Common.{ℕ, ◌≡◌, ◌<◌, ◌≤◌, ◌∙◌, ◌++◌, ◌==◌, ◌||◌, not, [], ap, sym, subst, refl, arith, length, length-append, length-take, take, drop, List}
use Rattle.std.specs.Prelude.{None, is_some}
use Rattle.std.specs.Io.KnownBytes.{Consumes}
use Rattle.ks_job_source.specs.Reading.{machine_of}
use Rattle.ks_job_source.proofs.Machines.{few_bytes}
use Rattle.ks_job_source.proofs.Taking.{took_more, so_far_more, unstopped_more}
use Rattle.ks_job_source.proofs.Opens.{written, piece_opens, piece_splits, end_opens, end_splits, still_open, never_open}
use Rattle.ks_job_source.proofs.opening.open_by.Goals as goal
use Rattle.ks_job_source.proofs.opening.open_by.Goals.{then-is_some, else-is_some}

pub open_with-requires : goal.open_with-requires
open_with-requires g c =
    let was = c.loop-count.invariant.taking in
    let mid = g.S.Source.left c.loop-count.input in
    let now = g.S.Source.left c.take.new.self in
    let none : c.in-Ok.count ≡ 0 = omega (arith, c.if-count-eq0.true) in
    let last : Consumes mid now [] = subst (λ n. Consumes mid now (take n c.take.new.buf)) none c.in-Ok.ensures.bytes.0 in
    let long : length c.take.new.buf ≡ length c.loop-count.buf.items = omega (arith, c.take.auto.buf, ap (λ (l : List ℕ). length l) c.deref_mut.ensures.value) in
    end_splits (g.S.Source.left c.args.input.now) mid now was.got was.front last (c.in-Ok.ensures.bytes.1 none (omega (arith, long, was.some))) c.loop-count.reader c.loop-count.items.items c.end_items.new.items.items
    was.stands was.unstopped c.in_ok-stop.ensures.ended c.in_ok-stop.stop c.in_ok-stop.ensures.stop

pub returns-then-count-eq0-clause-opened : goal.returns-then-count-eq0-clause-opened
returns-then-count-eq0-clause-opened g c =
    let was = c.loop-count.invariant.taking in
    let mid = g.S.Source.left c.loop-count.input in
    let now = g.S.Source.left c.take.new.self in
    let none : c.in-Ok.count ≡ 0 = omega (arith, c.if-count-eq0.true) in
    let last : Consumes mid now [] = subst (λ n. Consumes mid now (take n c.take.new.buf)) none c.in-Ok.ensures.bytes.0 in
    let long : length c.take.new.buf ≡ length c.loop-count.buf.items = omega (arith, c.take.auto.buf, ap (λ (l : List ℕ). length l) c.deref_mut.ensures.value) in
    let buf = take c.loop-count.buf.len (c.take.new.buf ++ drop (length c.take.new.buf) c.loop-count.buf.items) in
    let same : buf ≡ c.take.new.buf = written c.loop-count.buf.len c.take.new.buf c.loop-count.buf.items c.loop-count.buf.ok.0 long in
    end_opens (g.S.Source.left c.args.input.now) mid now was.got was.front last (c.in-Ok.ensures.bytes.1 none (omega (arith, long, was.some))) c.loop-count.reader c.loop-count.items.items c.end_items.new.items.items
    was.stands was.unstopped c.in_ok-stop.ensures.ended c.in_ok-stop.stop c.in_ok-stop.ensures.stop c.open_with.result buf (subst (λ (l : List ℕ). 1 ≤ length l) (sym same) (omega (arith, long, was.some))) c.open_with.ensures

pub open_with-requires-then-is_open : goal.open_with-requires-then-is_open
open_with-requires-then-is_open g c =
    let was = c.loop-count.invariant.taking in
    let mid = g.S.Source.left c.loop-count.input in
    let now = g.S.Source.left c.take.new.self in
    let long : length c.take.new.buf ≡ length c.loop-count.buf.items = omega (arith, c.take.auto.buf, ap (λ (l : List ℕ). length l) c.deref_mut.ensures.value) in
    let same : c.deref.result.now ≡ c.take.new.buf = c.deref.ensures.value ∙ written c.loop-count.buf.len c.take.new.buf c.loop-count.buf.items c.loop-count.buf.ok.0 long in
    let piece = take c.in-Ok.count c.deref.result.now in
    let lost : Consumes mid now piece = subst (λ l. Consumes mid now (take c.in-Ok.count l)) (sym same) c.in-Ok.ensures.bytes.0 in
    let some = is_some c.in-Ok-feed_piece.stop in
    let items = c.feed_piece.new.items.items in
    let splits = piece_splits (g.S.Source.left c.args.input.now) now (was.got ++ piece) (took_more _ mid now was.got piece was.front lost) c.feed_piece.new.reader items
    (so_far_more (machine_of c.loop-count.reader c.loop-count.items.items) (machine_of c.feed_piece.new.reader c.feed_piece.new.items.items) was.got piece was.stands c.in-Ok-feed_piece.ensures.fed) some in
    elim c.if-is_some.branch [
      | then-is_some w ↦ splits (length items == 0) c.in-Ok-feed_piece.stop refl refl (ap (λ x. x || not (length items == 0)) (sym c.is_some.ensures ∙ (sym w.is_open-is ∙ c.if-is_open.true)))
      | else-is_some w ↦ splits w.is_empty.result c.in-Ok-feed_piece.stop refl (w.is_empty.ensures ∙ ap (λ n. n == 0) c.feed_piece.new.items.ok.0)
          (ap (λ x. x || not w.is_empty.result) (sym c.is_some.ensures ∙ w.if-is_some.false) ∙ (sym w.is_open-is ∙ c.if-is_open.true))
    ]

pub returns-then-is_open-clause-opened : goal.returns-then-is_open-clause-opened
returns-then-is_open-clause-opened g c =
    let was = c.loop-count.invariant.taking in
    let mid = g.S.Source.left c.loop-count.input in
    let now = g.S.Source.left c.take.new.self in
    let long : length c.take.new.buf ≡ length c.loop-count.buf.items = omega (arith, c.take.auto.buf, ap (λ (l : List ℕ). length l) c.deref_mut.ensures.value) in
    let buf = take c.loop-count.buf.len (c.take.new.buf ++ drop (length c.take.new.buf) c.loop-count.buf.items) in
    let same : buf ≡ c.take.new.buf = written c.loop-count.buf.len c.take.new.buf c.loop-count.buf.items c.loop-count.buf.ok.0 long in
    let piece = take c.in-Ok.count c.deref.result.now in
    let lost : Consumes mid now piece = subst (λ l. Consumes mid now (take c.in-Ok.count l)) (sym (c.deref.ensures.value ∙ same)) c.in-Ok.ensures.bytes.0 in
    piece_opens (g.S.Source.left c.args.input.now) now (was.got ++ piece) (took_more _ mid now was.got piece was.front lost) c.feed_piece.new.reader c.feed_piece.new.items.items
    (so_far_more (machine_of c.loop-count.reader c.loop-count.items.items) (machine_of c.feed_piece.new.reader c.feed_piece.new.items.items) was.got piece was.stands c.in-Ok-feed_piece.ensures.fed) c.in-Ok-feed_piece.stop c.open_with-then-is_open.result buf
    (unstopped_more _ was.got piece c.in-Ok-feed_piece.stop was.stands was.unstopped c.in-Ok-feed_piece.ensures.stop) (subst (λ (l : List ℕ). 1 ≤ length l) (sym same) (omega (arith, long, was.some))) c.open_with-then-is_open.ensures

pub overflow_add-taken : goal.overflow_add-taken
overflow_add-taken g c =
    let was = c.loop-count.invariant.taking in
    omega (arith, few_bytes was.got was.unstopped, was.counted, was.room, c.in-Ok.ensures.bound)

pub loop-count-smaller : goal.loop-count-smaller
loop-count-smaller g c =
    let was = c.loop-count.invariant.taking in
    omega (arith, few_bytes was.got was.unstopped, was.counted)

pub loop-count-preserved : goal.loop-count-preserved
loop-count-preserved g c =
    let was = c.loop-count.invariant.taking in
    let mid = g.S.Source.left c.loop-count.input in
    let now = g.S.Source.left c.take.new.self in
    let long : length c.take.new.buf ≡ length c.loop-count.buf.items = omega (arith, c.take.auto.buf, ap (λ (l : List ℕ). length l) c.deref_mut.ensures.value) in
    let buf = take c.loop-count.buf.len (c.take.new.buf ++ drop (length c.take.new.buf) c.loop-count.buf.items) in
    let same : buf ≡ c.take.new.buf = written c.loop-count.buf.len c.take.new.buf c.loop-count.buf.items c.loop-count.buf.ok.0 long in
    let piece = take c.in-Ok.count c.deref.result.now in
    let lost : Consumes mid now piece = subst (λ l. Consumes mid now (take c.in-Ok.count l)) (sym (c.deref.ensures.value ∙ same)) c.in-Ok.ensures.bytes.0 in
    let none : (c.in-Ok-feed_piece.stop ≡ None) × (c.feed_piece.new.items.items ≡ []) = elim c.if-is_some.branch [
      | then-is_some w ↦ never_open _ c.in-Ok-feed_piece.stop c.feed_piece.new.items.items (w.is_open-is ∙ w.if-is_some.true) c.if-is_open.false
      | else-is_some w ↦ still_open w.is_empty.result c.feed_piece.new.items.len c.in-Ok-feed_piece.stop c.feed_piece.new.items.items (sym c.is_some.ensures ∙ w.if-is_some.false) (sym w.is_open-is ∙ c.if-is_open.false) w.is_empty.ensures c.feed_piece.new.items.ok.0
    ] in
    record {
      taking = record {
        got = was.got ++ piece;
        front = took_more _ mid now was.got piece was.front lost;
        kept = c.in-Ok.ensures.cause.kept ∙ was.kept;
        stands = so_far_more (machine_of c.loop-count.reader c.loop-count.items.items) (machine_of c.feed_piece.new.reader c.feed_piece.new.items.items) was.got piece was.stands c.in-Ok-feed_piece.ensures.fed;
        unstopped = sym (unstopped_more _ was.got piece c.in-Ok-feed_piece.stop was.stands was.unstopped c.in-Ok-feed_piece.ensures.stop) ∙ none.0;
        counted = let b = c.in-Ok.ensures.bound in omega (arith, was.counted, ap (λ (l : List ℕ). length l) (c.deref.ensures.value ∙ same), length-append {A = ℕ}, length-take {A = ℕ});
        some = subst (λ (l : List ℕ). 0 < length l) (sym same) (omega (arith, long, was.some));
        room = subst (λ (l : List ℕ). length l ≤ 4194304) (sym same) (omega (arith, long, was.room));
      };
      none = none.1;
    }
