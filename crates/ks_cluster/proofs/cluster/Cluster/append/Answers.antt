use Rattle.std.proofs.Common.{refl, sym, subst}
use Rattle.ks_history.specs.declared.journal.Request.TheVariants.{Append}
use Rattle.ks_history.specs.History.{Meets}
use Rattle.ks_cluster.specs.View.{setup_of, state_of}
use Rattle.ks_cluster.specs.Replies.{number_or}
use Rattle.ks_cluster.specs.Moves.{Moves}
use Rattle.ks_cluster.proofs.Entries.{answered}
use Rattle.ks_cluster.proofs.Placed.{kept_on}
use Rattle.ks_cluster.proofs.cluster.Cluster.append.Goals as goal

pub invariant_of-self-2 : goal.invariant_of-self-2
invariant_of-self-2 g c =
    let plan = g.W.Work.plan in
    let meets = subst (λ v. Meets (setup_of plan v) (state_of plan v) (Append c.args.w c.args.epoch c.args.number c.args.task c.args.part c.args.recs.now)) (sym c.self.view_is) c.requires in
    rw (c.push_reserved.ensures.items, c.reserve.ensures.items, c.numbered.ensures, c.in_ok-kept.ensures)
    (kept_on (plan c.self.inside.work) (g.W.Work.good c.self.inside.work) c.self.inside.counts.items c.self.inside.journal.items c.self.inside.broker c.append.new.self c.self.invariant (Append c.args.w c.args.epoch c.args.number c.args.task c.args.part c.args.recs.now) (number_or c.in_ok-outcome.outcome) refl meets tt
    (subst (λ rs. Moves c.self.inside.broker c.append.new.self (Append c.args.w c.args.epoch c.args.number c.args.task c.args.part rs) (number_or c.in_ok-outcome.outcome)) c.in_ok-own.ensures c.in_ok-outcome.ensures.ok))

pub returns-clause-ok : goal.returns-clause-ok
returns-clause-ok g c =
    answered g.W.Work.plan c.self.inside.work c.self.inside.counts.items c.self.inside.journal.items c.push_reserved.new.self.items c.self.inside.broker c.append.new.self _ (Append c.args.w c.args.epoch c.args.number c.args.task c.args.part c.args.recs.now) (number_or c.in_ok-outcome.outcome) c.self.view_is (rw (c.push_reserved.ensures.items, c.reserve.ensures.items, c.numbered.ensures, c.in_ok-kept.ensures) refl) c.self.invariant.follows
    (subst (λ rs. Moves c.self.inside.broker c.append.new.self (Append c.args.w c.args.epoch c.args.number c.args.task c.args.part rs) (number_or c.in_ok-outcome.outcome)) c.in_ok-own.ensures c.in_ok-outcome.ensures.ok)
