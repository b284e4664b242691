use Rattle.std.proofs.Common.{◌≡◌, ℕ, List, sym, ap, ◌∙◌, subst}
use Rattle.ks_record.specs.declared.record.TaskId.{TaskId}
use Rattle.ks_topo.specs.Topologies.{draft_of}
use Rattle.ks_commit.specs.declared.work.Frozen.{Frozen}
use Rattle.ks_commit.specs.Committed.{works_of, tasks_in, Committed}
use Rattle.ks_settle.specs.Drained.{AreToldBy}
use Rattle.ks_settle.proofs.Publishing.{rests_on, told_cached, drains_none, drains_by, drains_longer}
use Rattle.ks_settle.proofs.draining.TaskManager.publish.Goals as goal

pub returns-clause-rest : goal.returns-clause-rest
returns-clause-rest g c =
    let names : c.as_slice-2.result.now ≡ tasks_in (works_of c.args.works.items) = c.as_slice-2.ensures.value ∙ c.in_ok-worked.ensures ∙ ap (λ (fs : List Frozen). tasks_in (works_of fs)) c.as_slice.ensures.value in
    rests_on g.W.Work.plan c.args.cluster.now c.commit.new.cluster c.commit.new.publisher (draft_of c.args.topology.now) c.args.self.now.publisher.worker c.args.topic (works_of c.args.works.items) c.as_slice-3.result.now c.args.self.now.tasks.items c.tell.new.tasks.items
    c.requires.may c.requires.logs c.requires.reading
    (subst (λ (es : List (List (ℕ × ℕ))). Committed g.W.Work.plan c.args.cluster.now c.commit.new.cluster c.args.self.now.publisher.worker (works_of c.args.works.items) es) (sym c.as_slice-3.ensures.value) c.in_ok-ends.ensures.committed)
    c.is_history.ensures.history (c.in_ok-ends.ensures.same.0 ∙ c.requires.worker) c.in_ok-ends.ensures.ready
    (subst (λ (ts : List TaskId). AreToldBy (draft_of c.args.topology.now) ts c.as_slice-3.result.now c.args.self.now.tasks.items c.tell.new.tasks.items) names c.in_ok-tell.ensures)

pub returns-clause-caches : goal.returns-clause-caches
returns-clause-caches g c = told_cached (draft_of c.args.topology.now) c.as_slice-2.result.now c.as_slice-3.result.now c.args.self.now.tasks.items c.tell.new.tasks.items c.in_ok-tell.ensures

pub returns-clause-on : goal.returns-clause-on
returns-clause-on g c =
    let committed = c.in_ok-ends.ensures.committed in
    drains_by c.args.self.now.publisher.worker 1 c.args.cluster.now c.commit.new.cluster committed.more c.requires.worker committed.is committed.publishing

pub returns-in_err-ends-clause-on : goal.returns-in_err-ends-clause-on
returns-in_err-ends-clause-on g c = drains_longer c.args.self.now.publisher.worker 1 c.args.cluster.now c.commit.new.cluster c.requires.worker c.in_err-ends.ensures.err

pub returns-in_err-worked-clause-on : goal.returns-in_err-worked-clause-on
returns-in_err-worked-clause-on g c = drains_none 1 c.args.cluster.now

pub returns-in_err-tell-clause-on : goal.returns-in_err-tell-clause-on
returns-in_err-tell-clause-on g c =
    let committed = c.in_ok-ends.ensures.committed in
    drains_by c.args.self.now.publisher.worker 1 c.args.cluster.now c.commit.new.cluster committed.more c.requires.worker committed.is committed.publishing
