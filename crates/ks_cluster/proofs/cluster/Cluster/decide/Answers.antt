use Rattle.std.proofs.Common.{refl, sym, subst}
use Rattle.ks_history.specs.declared.journal.Request.TheVariants.{Decide}
use Rattle.ks_history.specs.History.{Meets, CommitsFaithfully}
use Rattle.ks_cluster.specs.View.{setup_of, state_of}
use Rattle.ks_cluster.specs.Replies.{done_or}
use Rattle.ks_cluster.proofs.Entries.{answered}
use Rattle.ks_cluster.proofs.Placed.{kept_on}
use Rattle.ks_cluster.proofs.cluster.Cluster.decide.Goals as goal

pub invariant_of-self-2 : goal.invariant_of-self-2
invariant_of-self-2 g c =
    let plan = g.W.Work.plan in
    let meets = subst (λ v. Meets (setup_of plan v) (state_of plan v) (Decide c.args.w c.args.epoch c.args.commit)) (sym c.self.view_is) c.requires.meets in
    let faithful = subst (λ v. CommitsFaithfully (setup_of plan v) (state_of plan v) (Decide c.args.w c.args.epoch c.args.commit)) (sym c.self.view_is) c.requires.faithful in
    rw (c.push_reserved.ensures.items, c.reserve.ensures.items, c.done.ensures)
    (kept_on (plan c.self.inside.work) (g.W.Work.good c.self.inside.work) c.self.inside.counts.items c.self.inside.journal.items c.self.inside.broker c.decide-outcome.new.self c.self.invariant (Decide c.args.w c.args.epoch c.args.commit) (done_or c.decide-outcome.result) refl meets faithful c.decide-outcome.ensures)

pub returns-clause-ok : goal.returns-clause-ok
returns-clause-ok g c =
    answered g.W.Work.plan c.self.inside.work c.self.inside.counts.items c.self.inside.journal.items c.push_reserved.new.self.items c.self.inside.broker c.decide-outcome.new.self _ (Decide c.args.w c.args.epoch c.args.commit) (done_or c.decide-outcome.result) c.self.view_is (rw (c.push_reserved.ensures.items, c.reserve.ensures.items, c.done.ensures) refl) c.self.invariant.follows c.decide-outcome.ensures
