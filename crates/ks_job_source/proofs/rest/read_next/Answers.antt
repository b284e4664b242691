use Rattle.std.proofs.Common.{◌≡◌, subst, arith, take, length-take, ℕ}
use Rattle.std.specs.Io.KnownBytes.{Consumes}
use Rattle.ks_job.specs.Items.{item_views}
use Rattle.ks_job_source.proofs.Opened.{steps_end, steps_piece, past_end, past_piece}
use Rattle.ks_job_source.proofs.rest.read_next.Goals as goal

pub returns-then-count-eq0-clause-goes : goal.returns-then-count-eq0-clause-goes
returns-then-count-eq0-clause-goes g c =
    let left = g.S.Source.left c.args.input.now in
    let now = g.S.Source.left c.take.new.self in
    let none : c.in-Ok.count ≡ 0 = omega (arith, c.if-count-eq0.true) in
    steps_end left now c.args.reader c.in_ok-standing.standing (item_views c.take_end.new.items.items)
    (subst (λ n. Consumes left now (take n c.take.new.buf)) none c.in-Ok.ensures.bytes.0) (c.in-Ok.ensures.bytes.1 none (omega (arith, c.requires.room, c.take.auto.buf)))
    c.in_ok-standing.ensures.standing c.in_ok-standing.ensures.items

pub returns-then-count-eq0-clause-past : goal.returns-then-count-eq0-clause-past
returns-then-count-eq0-clause-past g c = past_end c.args.reader c.in_ok-standing.standing (item_views c.take_end.new.items.items) c.in_ok-standing.ensures.standing c.in_ok-standing.ensures.items

pub returns-clause-goes : goal.returns-clause-goes
returns-clause-goes g c =
    steps_piece (g.S.Source.left c.args.input.now) (g.S.Source.left c.take.new.self) c.args.reader c.in_ok-standing-2.standing (item_views c.take_piece.new.items.items) (take c.in-Ok.count c.take.new.buf)
    c.in-Ok.ensures.bytes.0 c.in_ok-standing-2.ensures.standing c.in_ok-standing-2.ensures.items

pub returns-clause-past : goal.returns-clause-past
returns-clause-past g c =
    past_piece c.args.reader c.in_ok-standing-2.standing (item_views c.take_piece.new.items.items) (take c.in-Ok.count c.take.new.buf) c.in-Ok.count
    (let b = c.in-Ok.ensures.bound in omega (arith, length-take {A = ℕ})) (omega (arith, c.if-count-eq0.false)) c.in_ok-standing-2.ensures.standing c.in_ok-standing-2.ensures.items
