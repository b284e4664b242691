use Rattle.std.proofs.Common.{ap, sym}
use Rattle.std.specs.Prelude.{is_some}
use Rattle.ks_store.specs.Groups.{front_in, groups_of}
use Rattle.ks_store.proofs.Fronted.{key_listed, nowhere_still}
use Rattle.ks_store.proofs.groups.list_key.Goals as goal

pub returns-in-Some-clause-ok : goal.returns-in-Some-clause-ok
returns-in-Some-clause-ok c =
    key_listed c.list_under.result c.args.key.now c.in-Some.front.now (groups_of c.args.groups.now.entries) (groups_of c.list_under.new.groups.entries) c.in-Some.ensures c.list_under.ensures.ok

pub returns-in-None-clause-ok : goal.returns-in-None-clause-ok
returns-in-None-clause-ok c = nowhere_still c.args.key.now (is_some (front_in c.args.key.now)) (groups_of c.args.groups.now.entries) c.in-None.ensures (ap is_some (sym c.in-None.ensures))
