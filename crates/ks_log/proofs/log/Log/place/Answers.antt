use Rattle.std.proofs.Common.{rules, ◌≡◌, ◌<◌, ◌+◌, get_or, sym, ap, ◌∙◌, arith}
use Rattle.ks_log.specs.Places.{seat, part_number}
use Rattle.ks_log.specs.Written.{place}
use Rattle.ks_log.proofs.Logs.{no_seat, some_seat}
use Rattle.ks_log.proofs.log.Log.place.Goals as goal

pub returns-then-seat-eq0 : goal.returns-then-seat-eq0
returns-then-seat-eq0 c =
    let parts = c.self.inside.parts.items in
    let low : c.args.part.part < 256 = search rules in
    let is : c.seat_of-seat.result ≡ seat c.args.part parts = c.seat_of-seat.ensures ∙ ap (λ l. get_or l (part_number c.args.part) 0) c.as_slice.ensures.value ∙ c.self.invariant.1 c.args.part low in
    c.len.ensures ∙ c.self.inside.parts.ok.0 ∙ no_seat c.args.part parts (sym is ∙ c.if-seat-eq0.true) ∙ ap (place c.args.part) c.self.view_is

pub returns : goal.returns
returns c =
    let parts = c.self.inside.parts.items in
    let low : c.args.part.part < 256 = search rules in
    let is : c.seat_of-seat.result ≡ seat c.args.part parts = c.seat_of-seat.ensures ∙ ap (λ l. get_or l (part_number c.args.part) 0) c.as_slice.ensures.value ∙ c.self.invariant.1 c.args.part low in
    let some : seat c.args.part parts ≡ place c.args.part parts + 1 = some_seat c.args.part parts (λ z. c.if-seat-eq0.false (is ∙ z)) in
    let same : place c.args.part parts ≡ place c.args.part c.args.self.now = ap (place c.args.part) c.self.view_is in
    omega (arith, is, some, same)
