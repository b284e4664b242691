use Rattle.std.proofs.Common.{ap, ◌∙◌, ◌<◌, length, sym, subst}
use Rattle.ks_standby.specs.Shelf.{parked_in, place_in}
use Rattle.ks_standby.proofs.Shelving.{place_new, has_new}
use Rattle.ks_standby.proofs.parked.Parked.make_place.Goals as goal

pub returns-clause-ok : goal.returns-clause-ok
returns-clause-ok c = subst (λ xs. place_in c.args.instance c.args.task xs < length xs) (sym c.in_ok-push.ensures.items) (has_new c.args.instance c.args.task c.args.self.now.places.items)

pub returns-clause-same : goal.returns-clause-same
returns-clause-same c i t = ap (parked_in i t) c.in_ok-push.ensures.items ∙ place_new i c.args.instance t c.args.task c.args.self.now.places.items
