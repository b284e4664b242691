use Rattle.std.proofs.Common.{◌≡◌, arith}
use Rattle.std.specs.Vec.Iter.{into_iter_items}
use Rattle.ks_run_workers.specs.Members.{IsEnlisted}
use Rattle.ks_run_feed.specs.Wanted.{placing_of}
use Rattle.ks_run_workers.proofs.Enlisted.{enlisted_one, all_enlisted, fewer, as_many, all_pushed}
use Rattle.ks_run_workers.proofs.enlisting.enlist.Goals as goal

pub loop-pass-preserved : goal.loop-pass-preserved
loop-pass-preserved g c =
    let before = c.loop-pass.members.items in
    let after = c.push.new.self.items in
    let rest = into_iter_items c.loop-pass.rest in
    let more = into_iter_items c.next.new.self in
    let many = as_many before after c.enlist_one.result rest more c.in-Some.pass c.in_ok-push.ensures.items c.in-Some.ensures.items in
    record {
      passes = enlisted_one (λ m. m.worker.state.session.client.pass) before after c.enlist_one.result c.in-Some.pass rest more c.args.passes.items c.in_ok-push.ensures.items c.in-Some.ensures.items c.enlist_one.ensures.pass c.loop-pass.invariant.passes;
      gates = fewer rest more c.in-Some.pass (into_iter_items c.loop-pass.gates) (into_iter_items c.next-in-Some.new.self) c.in-Some-next.gate c.in-Some.ensures.items c.in-Some-next.ensures.items c.loop-pass.invariant.gates;
      few = omega (arith, many, c.loop-pass.invariant.few);
      instances = omega (arith, many, c.loop-pass.invariant.instances);
      uncounted = all_pushed (λ m. IsEnlisted m.worker.state) before after c.enlist_one.result c.in_ok-push.ensures.items c.loop-pass.invariant.uncounted c.enlist_one.ensures.enlisted;
      placing = all_pushed (λ m. m.worker.placing ≡ placing_of c.args.settings.now) before after c.enlist_one.result c.in_ok-push.ensures.items c.loop-pass.invariant.placing c.enlist_one.ensures.placing;
      cache = all_pushed (λ m. m.worker.state.member.cache ≡ c.args.settings.now.cache) before after c.enlist_one.result c.in_ok-push.ensures.items c.loop-pass.invariant.cache c.enlist_one.ensures.cache;
    }

pub returns-clause-passes : goal.returns-clause-passes
returns-clause-passes g c =
    all_enlisted (λ m. m.worker.state.session.client.pass) c.loop-pass.members.items (into_iter_items c.loop-pass.rest) c.args.passes.items (omega (arith, c.loop-pass.rest.rest.ok, c.in_default.ensures.cases.0)) c.loop-pass.invariant.passes
