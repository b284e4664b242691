use Rattle.std.proofs.Common.{refl, rules}
use Rattle.ks_settle.proofs.Given.{one_named, one_given}
use Rattle.ks_settle.proofs.restoring.restorations_of.Goals as goal

pub loop-name-init : goal.loop-name-init
loop-name-init c = record { names = search rules; given = λ setup journal all. (all, search rules) }

pub loop-name-preserved : goal.loop-name-preserved
loop-name-preserved c = record {
  names = one_named c.args.names.now c.loop-name.name-index _ c.loop-name.all.items c.push.new.self.items _ c.loop-name-test.true refl c.in_ok-push.ensures.items c.loop-name.invariant.names;
  given = λ setup journal all. one_given setup journal c.loop-name.left.items c.take_furthest-replica.new.replicas.items _ c.take_furthest-replica.result c.loop-name.all.items c.push.new.self.items _ c.take_furthest-replica.ensures refl refl c.in_ok-push.ensures.items
      (c.loop-name.invariant.given setup journal all);
}
