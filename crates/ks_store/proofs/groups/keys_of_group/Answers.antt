use Rattle.std.proofs.Common.{◌≡◌, subst, ap, sym, ◌∙◌}
use Rattle.std.specs.Prelude.{IfOk}
use Rattle.ks_store.specs.declared.groups.Group.{Group}
use Rattle.ks_store.specs.Groups.{Keys, IsGroup, keys_in}
use Rattle.ks_store.specs.Pairs.{pairs_of}
use Rattle.ks_store.proofs.Fronted.{under_own}
use Rattle.ks_store.proofs.groups.keys_of_group.Goals as goal

pub returns-in-Many : goal.returns-in-Many
returns-in-Many c =
    let keys = pairs_of c.in-Many.pairs.entries in
    let own : IsGroup c.args.front.now keys = subst (λ (g : Group). IsGroup c.args.front.now (keys_in g)) c.in-Many.is c.requires in
    subst (λ (ks : Keys). IfOk c.pairs_from.result (λ v. v.items ≡ ks)) (under_own c.args.front.now keys own.1 ∙ sym (ap keys_in c.in-Many.is)) c.pairs_from.ensures
