use Rattle.std.proofs.Common.{refl, sym, subst}
use Rattle.ks_history.specs.declared.journal.Request.TheVariants.{Hold}
use Rattle.ks_history.specs.declared.journal.Reply.TheVariants.{Done}
use Rattle.ks_history.specs.History.{Meets}
use Rattle.ks_cluster.specs.View.{setup_of, state_of}
use Rattle.ks_cluster.proofs.Entries.{answered}
use Rattle.ks_cluster.proofs.Placed.{kept_on}
use Rattle.ks_cluster.proofs.cluster.Cluster.hold.Goals as goal

pub invariant_of-self-2 : goal.invariant_of-self-2
invariant_of-self-2 g c =
    let plan = g.W.Work.plan in
    let meets = subst (λ v. Meets (setup_of plan v) (state_of plan v) (Hold c.args.w c.args.held.now)) (sym c.self.view_is) c.requires in
    rw (c.push_reserved.ensures.items, c.reserve.ensures.items, c.of.ensures, c.in_ok-kept.ensures)
    (kept_on (plan c.self.inside.work) (g.W.Work.good c.self.inside.work) c.self.inside.counts.items c.self.inside.journal.items c.self.inside.broker c.hold.new.self c.self.invariant (Hold c.args.w c.args.held.now) (Done) refl meets tt c.in_ok-hold.ensures.ok)

pub returns-clause-ok : goal.returns-clause-ok
returns-clause-ok g c =
    answered g.W.Work.plan c.self.inside.work c.self.inside.counts.items c.self.inside.journal.items c.push_reserved.new.self.items c.self.inside.broker c.hold.new.self _ (Hold c.args.w c.args.held.now) (Done) c.self.view_is (rw (c.push_reserved.ensures.items, c.reserve.ensures.items, c.of.ensures, c.in_ok-kept.ensures) refl) c.self.invariant.follows c.in_ok-hold.ensures.ok
