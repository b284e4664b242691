use Rattle.std.proofs.Common.{refl, arith}
use Rattle.ks_settle.proofs.Given.{at_place, takes_one, takes_none}
use Rattle.ks_settle.proofs.picking.take_furthest.Goals as goal

pub remove-requires : goal.remove-requires
remove-requires c =
    omega (arith, (at_place c.as_slice.result.now c.args.replicas.now.items c.args.task c.place_of-place.result c.in-Some.i c.place_of-place.ensures c.in-Some.is c.as_slice.ensures.value).within, c.args.replicas.now.ok.0)

pub returns-in-Some : goal.returns-in-Some
returns-in-Some c =
    takes_one c.args.replicas.now.items c.remove.new.self.items c.args.task c.in-Some.i c.remove.result
    (at_place c.as_slice.result.now c.args.replicas.now.items c.args.task c.place_of-place.result c.in-Some.i c.place_of-place.ensures c.in-Some.is c.as_slice.ensures.value) c.remove.ensures.value c.remove.ensures.items

pub returns-in-None : goal.returns-in-None
returns-in-None c = takes_none c.args.replicas.now.items c.args.replicas.now.items c.args.task refl
