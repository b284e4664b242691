use Rattle.std.proofs.Common.{◌≡◌, ◌-◌, sym, ap, subst, take, min, length, drop, ◌++◌, ◌∙◌, arith}
use Rattle.std.proofs.lemmas.Grind.{common_steps}
use Rattle.ks_assign.specs.Placement.{Places, by_client}
use Rattle.ks_assign.specs.Steps.{IsPlan, all_others, all_wanted}
use Rattle.ks_assign.proofs.Whole.{assign_good, assignment_good}
use Rattle.ks_assign.proofs.assigning.assign.Goals as goal

pub returns : goal.returns
returns c =
    let whole : take c.in_ok-plan.plan.len (c.balance.new.active ++ drop (length c.balance.new.active) c.in_ok-plan.plan.items) ≡ c.balance.new.active = grind (arith, common_steps, c.balance.auto.active, c.as_mut_slice.ensures.value, c.as_mut_slice.ensures.len, c.in_ok-plan.plan.ok) in
    assignment_good c.args.tasks.now c.args.clients.now c.args.held.now c.args.wants.now c.in_ok-active.active.items c.in_ok-standby.standby.items c.in_ok-warmup.warmup.items _
    (assign_good c.args.tasks.now c.args.clients.now c.args.held.now c.args.wants.now c.balance.new.active c.in_ok-active.active.items c.in_ok-chosen.chosen.items c.in_ok-standby.standby.items c.in_ok-found.found.items c.in_ok-warmup.warmup.items
    c.requires.clients c.requires.tasks
    (c.balance.ensures.plan c.args.tasks.now (subst (λ (ps : Places). IsPlan c.args.tasks.now c.args.clients.now c.args.held.now c.args.wants.now.lag ps) (sym c.as_mut_slice.ensures.value) c.in_ok-plan.ensures))
    c.balance.ensures.balanced
    (c.in_ok-active.ensures.clients ∙ ap (by_client c.args.clients.now) (c.deref.ensures.value ∙ whole)) c.in_ok-active.ensures.even
    (c.in_ok-chosen.ensures.ok ∙ ap (λ (xs : Places). all_others c.args.clients.now (min c.args.wants.now.standbys (length c.args.clients.now - 1)) (by_client c.args.clients.now xs)) c.deref-2.ensures.value) c.in_ok-chosen.ensures.homes
    (c.in_ok-standby.ensures.clients ∙ ap (by_client c.args.clients.now) c.deref-3.ensures.value)
    (c.in_ok-found.ensures.ok ∙ ap (λ (xs : Places). all_wanted c.args.clients.now (by_client c.args.clients.now xs) (by_client c.args.clients.now c.deref-5.result.now) (by_client c.args.clients.now xs)) c.deref-4.ensures.value ∙ ap (λ (xs : Places). all_wanted c.args.clients.now (by_client c.args.clients.now c.in_ok-active.active.items) (by_client c.args.clients.now xs) (by_client c.args.clients.now c.in_ok-active.active.items)) c.deref-5.ensures.value) c.in_ok-found.ensures.homes
    (c.in_ok-warmup.ensures.clients ∙ ap (by_client c.args.clients.now) (c.deref-6.ensures.value ∙ c.truncate.ensures.items)))
    c.of.ensures c.of-2.ensures c.of-3.ensures
