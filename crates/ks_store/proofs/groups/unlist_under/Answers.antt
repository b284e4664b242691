use Rattle.std.proofs.Common.{List, ℕ, false, ap, sym, subst, ◌∙◌, option_copied}
use Rattle.std.specs.Global.{Vec}
use Rattle.ks_store.specs.declared.groups.Group.{Group}
use Rattle.ks_store.specs.Groups.{groups_of, ListSameBut}
use Rattle.ks_store.proofs.Fronted.{gone, taken, absent, not_only, group_is, group_found}
use Rattle.ks_store.proofs.groups.unlist_under.Goals as goal

pub returns-then-is_only-clause-groups : goal.returns-then-is_only-clause-groups
returns-then-is_only-clause-groups c =
    (gone c.args.groups.now.entries c.remove.new.self.entries c.args.front.now c.args.key.now (option_copied c.get.result) c.requires.front c.get.ensures.value (sym c.is_only.ensures ∙ c.if-is_only.true)
    c.remove.ensures.updates.1 c.remove.ensures.updates.3 c.requires.groups).0

pub returns-then-is_only-clause-gone : goal.returns-then-is_only-clause-gone
returns-then-is_only-clause-gone c =
    (gone c.args.groups.now.entries c.remove.new.self.entries c.args.front.now c.args.key.now (option_copied c.get.result) c.requires.front c.get.ensures.value (sym c.is_only.ensures ∙ c.if-is_only.true)
    c.remove.ensures.updates.1 c.remove.ensures.updates.3 c.requires.groups).1

pub take_key-requires : goal.take_key-requires
take_key-requires c = (group_is c.args.groups.now.entries c.args.front.now c.in-Some.group.now c.in-Some.ensures.value c.requires.groups).0

pub returns-in-Some-clause-groups : goal.returns-in-Some-clause-groups
returns-in-Some-clause-groups c =
    let up = (c.get_mut.follows.holds c.take_key.new.group).3 (group_found c.in-Some.ensures.value) in
    (taken c.args.groups.now.entries (c.get_mut.follows.lender c.take_key.new.group).entries c.args.front.now c.args.key.now c.in-Some.group.now c.take_key.new.group c.requires.front c.in-Some.ensures.value
    (not_only c.args.key.now c.in-Some.ensures.value c.get.ensures.value (sym c.is_only.ensures ∙ c.if-is_only.false)) up.1 up.3 c.take_key.ensures c.requires.groups).0

pub returns-in-Some-clause-gone : goal.returns-in-Some-clause-gone
returns-in-Some-clause-gone c =
    let up = (c.get_mut.follows.holds c.take_key.new.group).3 (group_found c.in-Some.ensures.value) in
    (taken c.args.groups.now.entries (c.get_mut.follows.lender c.take_key.new.group).entries c.args.front.now c.args.key.now c.in-Some.group.now c.take_key.new.group c.requires.front c.in-Some.ensures.value
    (not_only c.args.key.now c.in-Some.ensures.value c.get.ensures.value (sym c.is_only.ensures ∙ c.if-is_only.false)) up.1 up.3 c.take_key.ensures c.requires.groups).1

pub returns-in-Some-clause-start : goal.returns-in-Some-clause-start
returns-in-Some-clause-start c = ap (λ h. h.begun.state) (c.get_mut.follows.holds c.take_key.new.group).5

pub returns-in-None-clause-gone : goal.returns-in-None-clause-gone
returns-in-None-clause-gone c =
    subst (λ (es : List (Vec ℕ × Group)). ListSameBut c.args.key.now false (groups_of c.args.groups.now.entries) (groups_of es)) (sym (ap (λ m. m.entries) c.get_mut.follows.holds-at-none))
    (absent c.args.groups.now.entries c.args.front.now c.args.key.now c.requires.front c.in-None.ensures.value)
