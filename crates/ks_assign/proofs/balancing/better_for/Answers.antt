use Rattle.std.proofs.Common.{◌≡◌, ◌<◌, ℕ, sym, subst, arith, ◌∙◌, true}
use Rattle.std.proofs.lemmas.Bool.Decides.{nat_tests}
use Rattle.ks_assign.specs.Placement.{home, may_run, outweighs}
use Rattle.ks_assign.proofs.Homes.{home_item}
use Rattle.ks_assign.proofs.balancing.better_for.Goals as goal

pub returns-then-may_run : goal.returns-then-may_run
returns-then-may_run c =
    let is : home c.args.clients.now c.first_worker.result ≡ c.b-item.result.instance = home_item _ _ _ _ c.requires.clients c.loop-b-test.true c.b-item.is c.first_worker.ensures in
    let there = c.from-other.ensures ∙ sym is in
    let small : home c.args.clients.now c.first_worker.result < 256 = omega (arith, is) in
    record {
      less = subst (λ (i : ℕ). outweighs c.args.p.1 i c.args.loads.now ≡ true) there (sym c.if-outweighs.ensures);
      runs = subst (λ (i : ℕ). may_run c.args.clients.now c.args.held.now c.args.most i c.args.p.0 ≡ true) there (sym c.if-may_run.ensures);
      homes = grind (arith, nat_tests, small);
    }
