use Rattle.ks_worker_state.specs.Names.{replica_names}
use Rattle.ks_worker_turn.proofs.PlacesHeld.{none_placed, one_placed, all_placed, some_is}
use Rattle.ks_worker_turn.proofs.having.has_replicas.Goals as goal

pub loop-i-init : goal.loop-i-init
loop-i-init c = none_placed c.args.number (replica_names c.args.replicas.now)

pub loop-i-preserved : goal.loop-i-preserved
loop-i-preserved c =
    one_placed c.args.number (replica_names c.args.replicas.now) c.args.places.now c.loop-i.i _ c.loop-i-test.true (λ own. c.find_replica.ensures (some_is c.find_replica.result c.in-Some.index c.in-Some.is) own) c.loop-i.invariant

pub returns : goal.returns
returns c = λ e. all_placed c.args.number (replica_names c.args.replicas.now) c.args.places.now c.loop-i.i c.loop-i-test.false c.loop-i.invariant
