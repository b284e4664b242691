use Rattle.std.proofs.Common.{◌≡◌, ◌<◌, ◌≤◌, length, get_or, sym, ap, ◌∙◌, arith}
use Rattle.ks_log.specs.declared.log.Written.{Written}
use Rattle.ks_log.specs.Written.{slots_in, place}
use Rattle.ks_log.proofs.Logs.{slots_in-there, slots_in-new}
use Rattle.ks_log.proofs.log.Log.part.Goals as goal

pub returns-then-at-len : goal.returns-then-at-len
returns-then-at-len c =
    let parts = c.self.inside.parts.items in
    let written = c.index.result.now in
    let at = c.place-at.ensures ∙ ap (place c.args.part) (sym c.self.view_is) in
    let there : place c.args.part parts < length parts = omega (arith, at, c.if-at-len.true, c.len.ensures, c.self.inside.parts.ok.0) in
    ap (λ (w : Written). w.slots) (c.index.ensures ∙ ap (λ n. get_or parts n written) at) ∙ sym (slots_in-there c.args.part parts written there) ∙ ap (slots_in c.args.part) c.self.view_is

pub returns : goal.returns
returns c =
    let parts = c.self.inside.parts.items in
    let at = c.place-at.ensures ∙ ap (place c.args.part) (sym c.self.view_is) in
    let beyond : length parts ≤ place c.args.part parts = omega (arith, at, c.if-at-len.false, c.len.ensures, c.self.inside.parts.ok.0) in
    c.self.invariant.0.empty_is ∙ sym (slots_in-new c.args.part parts beyond) ∙ ap (slots_in c.args.part) c.self.view_is
