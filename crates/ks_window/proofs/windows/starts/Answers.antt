use Rattle.std.proofs.Common.{◌≡◌, ◌≤◌, ◌∙◌, ◌/◌, ◌-◌, ap, sym, subst, arith}
use Rattle.ks_window.specs.Starts.{first_index}
use Rattle.ks_window.proofs.Opens.{multiples_from, pushed, whole, first_within}
use Rattle.ks_window.proofs.windows.starts.Goals as goal

pub loop-index-preserved : goal.loop-index-preserved
loop-index-preserved c =
    let i = c.loop-index.invariant in
    record {
      from = omega (arith, i.from);
      found = c.in_ok-push.ensures.items ∙ pushed c.args.advance (c.saturating_sub.result / c.args.advance) c.loop-index.index c.loop-index.found.items i.from i.found;
    }

pub returns : goal.returns
returns c =
    let i = c.loop-index.invariant in
    let e : c.saturating_sub.result / c.args.advance ≡ first_index c.args.t c.args.size c.args.advance = ap (λ n. n / c.args.advance) c.saturating_sub.ensures in
    let within : c.saturating_sub.result / c.args.advance ≤ c.args.t / c.args.advance = subst (λ n. n ≤ c.args.t / c.args.advance) (sym e) (first_within c.args.t c.args.size c.args.advance c.requires.some) in
    let top : c.loop-index.index ≤ c.args.t / c.args.advance = c.loop-index.auto.index-end within in
    let is : c.loop-index.index ≡ c.args.t / c.args.advance = omega (arith, top, c.loop-index-test.false) in
    c.in_ok-push-2.ensures.items
    ∙ whole c.args.t c.args.size c.args.advance c.loop-index.index c.loop-index.found.items c.requires.some c.requires.most
    (subst (λ n. n ≤ c.loop-index.index) e i.from) is (i.found ∙ ap (λ n. multiples_from c.args.advance n (c.loop-index.index - n)) e)
