use Rattle.std.proofs.Common.{false, refl}
use Rattle.ks_store.specs.Groups.{groups_of}
use Rattle.ks_store.proofs.Fronted.{nowhere_still}
use Rattle.ks_store.proofs.groups.unlist_key.Goals as goal

pub returns-in_default-clause-gone : goal.returns-in_default-clause-gone
returns-in_default-clause-gone c = nowhere_still c.args.key.now false (groups_of c.args.groups.now.entries) c.in_default.ensures refl
