use Rattle.std.proofs.Common.{List, ℕ, refl, ap, subst, sym, ◌∙◌}
use Rattle.std.specs.Global.{Vec}
use Rattle.ks_store.specs.declared.groups.Group.{Group}
use Rattle.ks_store.specs.Groups.{groups_of, AreGroups, ListSame}
use Rattle.ks_store.proofs.Fronted.{added, begun, on_err, group_found}
use Rattle.ks_store.proofs.groups.list_under.Goals as goal

pub returns-in-Some-clause-groups : goal.returns-in-Some-clause-groups
returns-in-Some-clause-groups c =
    let up = (c.get_mut.follows.holds c.add_key.new.group).3 (group_found c.in-Some.ensures.value) in
    (added c.add_key.result c.args.groups.now.entries (c.get_mut.follows.lender c.add_key.new.group).entries c.args.front.now c.args.key.now c.in_ok-copy.copy.items c.in-Some.group.now c.add_key.new.group
    c.in_ok-copy.ensures.items c.requires.front c.in-Some.ensures.value up.1 up.3 c.add_key.ensures.ok c.add_key.ensures.err c.requires.groups).0

pub returns-in-Some-clause-ok : goal.returns-in-Some-clause-ok
returns-in-Some-clause-ok c =
    let up = (c.get_mut.follows.holds c.add_key.new.group).3 (group_found c.in-Some.ensures.value) in
    (added c.add_key.result c.args.groups.now.entries (c.get_mut.follows.lender c.add_key.new.group).entries c.args.front.now c.args.key.now c.in_ok-copy.copy.items c.in-Some.group.now c.add_key.new.group
    c.in_ok-copy.ensures.items c.requires.front c.in-Some.ensures.value up.1 up.3 c.add_key.ensures.ok c.add_key.ensures.err c.requires.groups).1

pub returns-in-Some-clause-err : goal.returns-in-Some-clause-err
returns-in-Some-clause-err c =
    let up = (c.get_mut.follows.holds c.add_key.new.group).3 (group_found c.in-Some.ensures.value) in
    (added c.add_key.result c.args.groups.now.entries (c.get_mut.follows.lender c.add_key.new.group).entries c.args.front.now c.args.key.now c.in_ok-copy.copy.items c.in-Some.group.now c.add_key.new.group
    c.in_ok-copy.ensures.items c.requires.front c.in-Some.ensures.value up.1 up.3 c.add_key.ensures.ok c.add_key.ensures.err c.requires.groups).2

pub returns-in-Some-clause-start : goal.returns-in-Some-clause-start
returns-in-Some-clause-start c = ap (λ h. h.begun.state) (c.get_mut.follows.holds c.add_key.new.group).5

pub returns-in_err-insert-clause-groups : goal.returns-in_err-insert-clause-groups
returns-in_err-insert-clause-groups c = subst (λ (es : List (Vec ℕ × Group)). AreGroups (groups_of es)) (sym (c.in_err-insert.ensures.err ∙ ap (λ m. m.entries) c.get_mut.follows.holds-at-none)) c.requires.groups

pub returns-in_err-insert-clause-err : goal.returns-in_err-insert-clause-err
returns-in_err-insert-clause-err c =
    on_err c.from_residual-in_err-insert.result (groups_of c.args.groups.now.entries) (groups_of c.insert.new.self.entries)
    (subst (λ (es : List (Vec ℕ × Group)). ListSame (groups_of c.args.groups.now.entries) (groups_of es)) (sym (c.in_err-insert.ensures.err ∙ ap (λ m. m.entries) c.get_mut.follows.holds-at-none)) (λ q. refl))

pub returns-clause-groups : goal.returns-clause-groups
returns-clause-groups c =
    (begun c.args.groups.now.entries c.get_mut.follows.lender-at-none.entries c.insert.new.self.entries c.args.front.now c.in_ok-front.front.items c.args.key.now c.in_ok-copy.copy
    (ap (λ m. m.entries) c.get_mut.follows.holds-at-none) c.in_ok-front.ensures.items c.in_ok-copy.ensures.items
    c.requires.front c.in_default.ensures.value c.in_ok-insert.ensures.updates.1 c.in_ok-insert.ensures.updates.3 c.requires.groups).0

pub returns-clause-ok : goal.returns-clause-ok
returns-clause-ok c =
    (begun c.args.groups.now.entries c.get_mut.follows.lender-at-none.entries c.insert.new.self.entries c.args.front.now c.in_ok-front.front.items c.args.key.now c.in_ok-copy.copy
    (ap (λ m. m.entries) c.get_mut.follows.holds-at-none) c.in_ok-front.ensures.items c.in_ok-copy.ensures.items
    c.requires.front c.in_default.ensures.value c.in_ok-insert.ensures.updates.1 c.in_ok-insert.ensures.updates.3 c.requires.groups).1
