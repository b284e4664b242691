use Rattle.std.proofs.Common.{◌≡◌, IfOk, true, sym, subst, ◌∙◌}
use Rattle.std.proofs.lemmas.Result.{IfOk-weaker}
use Rattle.ks_history.specs.State.{has_task}
use Rattle.ks_history.specs.Reads.{committed_refusal, committed_offsets}
use Rattle.ks_cluster.specs.View.{setup_of, setup_at, state_of, Refuses}
use Rattle.ks_history.specs.History.{at}
use Rattle.ks_cluster.proofs.Rows.{offsets_are}
use Rattle.ks_cluster.proofs.Readings.{committed_refused, refuses_so}
use Rattle.ks_cluster.proofs.cluster.Cluster.committed.Goals as goal

pub returns-clause-offsets : goal.returns-clause-offsets
returns-clause-offsets g c =
    let plan = g.W.Work.plan in
    let there = subst (λ v. has_task c.args.task (setup_of plan v).tasks ≡ true) (sym c.self.view_is) c.requires.task in
    subst (λ v. IfOk c.in_ok-outcome.outcome (λ l. l.items ≡ committed_offsets (setup_of plan v) (state_of plan v) c.args.task)) c.self.view_is
    (IfOk-weaker c.in_ok-outcome.outcome _ _ (λ l h. h ∙ offsets_are (setup_at (g.W.Work.plan c.self.inside.work) c.self.inside.counts.items c.self.inside.broker) (at (setup_at (g.W.Work.plan c.self.inside.work) c.self.inside.counts.items c.self.inside.broker) c.self.inside.journal.items) c.args.task c.self.inside.broker.group.offsets there c.self.invariant.follows.stands.group_is.offsets_are) c.in_ok-outcome.ensures.offsets)

pub returns-clause-refused : goal.returns-clause-refused
returns-clause-refused g c =
    let plan = g.W.Work.plan in
    subst (λ v. Refuses (committed_refusal (state_of plan v) c.args.w c.args.generation c.args.task) c.in_ok-outcome.outcome) c.self.view_is
    (refuses_so _ _ c.in_ok-outcome.outcome (committed_refused _ _ c.self.inside.broker c.args.w c.args.generation c.args.task c.self.invariant.follows.stands) c.in_ok-outcome.ensures.refused)
