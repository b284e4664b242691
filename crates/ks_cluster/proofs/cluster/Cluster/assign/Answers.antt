use Rattle.std.proofs.Common.{◌≡◌, None, refl, sym, subst}
use Rattle.ks_history.specs.declared.journal.Request.TheVariants.{Assign}
use Rattle.ks_history.specs.History.{Meets}
use Rattle.ks_cluster.specs.Placed.{IsGoodAt}
use Rattle.ks_cluster.specs.View.{setup_of, state_of}
use Rattle.ks_cluster.specs.Replies.{truth_or}
use Rattle.ks_cluster.proofs.Entries.{answered}
use Rattle.ks_cluster.proofs.Placed.{kept_assign}
use Rattle.ks_cluster.proofs.cluster.Cluster.assign.Goals as goal

pub invariant_of-self-2 : goal.invariant_of-self-2
invariant_of-self-2 g c =
    let plan = g.W.Work.plan in
    let meets = subst (λ v. Meets (setup_of plan v) (state_of plan v) (Assign c.args.w c.args.generation c.args.a.now)) (sym c.self.view_is) c.requires.meets in
    let good = subst (λ v. (state_of plan v).generation ≡ c.args.generation → (state_of plan v).assignment ≡ None → IsGoodAt (g.W.Work.good v.work) (setup_of plan v) v.journal c.args.generation c.args.a.now)
    (sym c.self.view_is) c.requires.good in
    rw (c.push_reserved.ensures.items, c.reserve.ensures.items, c.told.ensures, c.in_ok-kept.ensures)
    (kept_assign (plan c.self.inside.work) (g.W.Work.good c.self.inside.work) c.self.inside.counts.items c.self.inside.journal.items c.self.inside.broker c.assign.new.self c.self.invariant c.args.w c.args.generation c.args.a.now (truth_or c.in_ok-outcome.outcome) meets good (c.in_ok-outcome.ensures.ok c.args.w))

pub returns-clause-ok : goal.returns-clause-ok
returns-clause-ok g c =
    answered g.W.Work.plan c.self.inside.work c.self.inside.counts.items c.self.inside.journal.items c.push_reserved.new.self.items c.self.inside.broker c.assign.new.self _ (Assign c.args.w c.args.generation c.args.a.now) (truth_or c.in_ok-outcome.outcome) c.self.view_is (rw (c.push_reserved.ensures.items, c.reserve.ensures.items, c.told.ensures, c.in_ok-kept.ensures) refl) c.self.invariant.follows (c.in_ok-outcome.ensures.ok c.args.w)
