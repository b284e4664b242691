use Rattle.std.proofs.Common.{◌≡◌, subst, ◌∙◌}
use Rattle.std.specs.Prelude.{IfOk}
use Rattle.ks_store.specs.Groups.{Keys}
use Rattle.ks_store.proofs.Fronted.{group_here, none_here, group_is}
use Rattle.ks_store.proofs.groups.keys_under.Goals as goal

pub keys_of_group-requires : goal.keys_of_group-requires
keys_of_group-requires c = group_is c.args.groups.now.entries c.args.front.now c.in-Some.group.now c.in-Some.ensures.value c.requires

pub returns-in-Some : goal.returns-in-Some
returns-in-Some c =
    subst (λ (keys : Keys). IfOk c.keys_of_group.result (λ v. v.items ≡ keys)) (group_here c.args.groups.now.entries c.args.front.now c.in-Some.group.now c.in-Some.ensures.value) c.keys_of_group.ensures

pub returns-in-None : goal.returns-in-None
returns-in-None c = c.new.ensures.items ∙ none_here c.args.groups.now.entries c.args.front.now c.in-None.ensures.value
