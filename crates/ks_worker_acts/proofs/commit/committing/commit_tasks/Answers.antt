use Rattle.std.proofs.Common.{rules, ◌≡◌, ◌≢◌, [], length, refl, sym, subst}
use Rattle.ks_topo.specs.Topologies.{draft_of}
use Rattle.ks_commit.specs.Committed.{works_of}
use Rattle.ks_worker_acts.specs.Told.{AreTold}
use Rattle.ks_worker_acts.specs.Works.{AreCleanOf}
use Rattle.ks_worker_acts.specs.Ends.{HasEnded}
use Rattle.ks_worker_state.specs.State.{IsWorkerState}
use Rattle.ks_worker_state.proofs.States.{same_state}
use Rattle.ks_worker_acts.specs.declared.commit.commit_end.CommitEnd.TheVariants.{Committed as IsCommitted, Aborted as IsAborted}
use Rattle.ks_worker_acts.proofs.Lists.{no_more}
use Rattle.ks_worker_acts.proofs.Worker.{no_requests}
use Rattle.ks_worker_acts.proofs.Ending.{on_ok, if_ok, works_from, nothing_dirty, may_active, may_apart, may_each_of, committed_worker, committed_ended, aborted_worker, aborted_ended, fenced_ended, touched_ended, lost_worker}
use Rattle.ks_worker_acts.proofs.commit.committing.commit_tasks.Goals as goal

pub returns-in_err-works-clause-later : goal.returns-in_err-works-clause-later
returns-in_err-works-clause-later g c = same_state g.W.Work.plan c.args.shared.now.growing.id c.args.state.now c.requires.may.call

pub returns-in_err-works-clause-requests : goal.returns-in_err-works-clause-requests
returns-in_err-works-clause-requests g c = no_requests g.W.Work.plan c.args.state.now.session.client.pass c.args.state.now.session.client.pass c.args.state.now.member.number refl

pub returns-then-is_empty-clause-later : goal.returns-then-is_empty-clause-later
returns-then-is_empty-clause-later g c = same_state g.W.Work.plan c.args.shared.now.growing.id c.args.state.now c.requires.may.call

pub returns-then-is_empty-clause-requests : goal.returns-then-is_empty-clause-requests
returns-then-is_empty-clause-requests g c = no_requests g.W.Work.plan c.args.state.now.session.client.pass c.args.state.now.session.client.pass c.args.state.now.member.number refl

pub returns-then-is_empty-clause-ended : goal.returns-then-is_empty-clause-ended
returns-then-is_empty-clause-ended g c =
    let count : length c.in_ok-works.works.items ≡ 0 = search rules in
    let none : c.in_ok-works.works.items ≡ [] = no_more [] c.in_ok-works.works.items count refl in
    nothing_dirty g.W.Work.plan g.H.Hash128.hash_of c.args.shared.now.growing.id (draft_of c.args.topology.now) c.args.state.now c.requires.may c.in_ok-works.works.items none
    (works_from g.W.Work.plan g.H.Hash128.hash_of c.args.shared.now.growing.id (draft_of c.args.topology.now) c.args.state.now c.requires.may c.freeze_dirty.result c.or_halt.result c.in_ok-works.works (λ w. w.items) c.as_slice.result.now c.in_ok-works.works.items c.as_slice.ensures.value c.or_halt.ensures c.in_ok-works.was c.freeze_dirty.ensures refl)

pub commit-requires-clause-active : goal.commit-requires-clause-active
commit-requires-clause-active g c =
    may_active g.W.Work.plan g.H.Hash128.hash_of c.args.shared.now.growing.id (draft_of c.args.topology.now) c.args.state.now c.requires.may (works_of c.as_slice-2.result.now)
    (works_from g.W.Work.plan g.H.Hash128.hash_of c.args.shared.now.growing.id (draft_of c.args.topology.now) c.args.state.now c.requires.may c.freeze_dirty.result c.or_halt.result c.in_ok-works.works (λ w. w.items) c.as_slice.result.now c.as_slice-2.result.now c.as_slice.ensures.value c.or_halt.ensures c.in_ok-works.was c.freeze_dirty.ensures c.as_slice-2.ensures.value)

pub commit-requires-clause-apart : goal.commit-requires-clause-apart
commit-requires-clause-apart g c =
    may_apart g.W.Work.plan g.H.Hash128.hash_of c.args.shared.now.growing.id (draft_of c.args.topology.now) c.args.state.now c.requires.may (works_of c.as_slice-2.result.now)
    (works_from g.W.Work.plan g.H.Hash128.hash_of c.args.shared.now.growing.id (draft_of c.args.topology.now) c.args.state.now c.requires.may c.freeze_dirty.result c.or_halt.result c.in_ok-works.works (λ w. w.items) c.as_slice.result.now c.as_slice-2.result.now c.as_slice.ensures.value c.or_halt.ensures c.in_ok-works.was c.freeze_dirty.ensures c.as_slice-2.ensures.value)

pub commit-requires-clause-works : goal.commit-requires-clause-works
commit-requires-clause-works g c =
    let some : c.as_slice-2.result.now ≢ [] = search rules in
    may_each_of g.W.Work.plan g.H.Hash128.hash_of c.args.shared.now.growing.id (draft_of c.args.topology.now) c.args.state.now c.requires.may c.as_slice-2.result.now some
    (works_from g.W.Work.plan g.H.Hash128.hash_of c.args.shared.now.growing.id (draft_of c.args.topology.now) c.args.state.now c.requires.may c.freeze_dirty.result c.or_halt.result c.in_ok-works.works (λ w. w.items) c.as_slice.result.now c.as_slice-2.result.now c.as_slice.ensures.value c.or_halt.ensures c.in_ok-works.was c.freeze_dirty.ensures c.as_slice-2.ensures.value)

pub returns-in-Ok-Committed-clause-worker : goal.returns-in-Ok-Committed-clause-worker
returns-in-Ok-Committed-clause-worker g c =
    let some : c.as_slice-2.result.now ≢ [] = search rules in
    on_ok c.go_on.result (AreTold (draft_of c.args.topology.now) c.commit.new.session.ends.items c.args.state.now.tasks.items c.go_on.new.state.tasks.items) (IsWorkerState g.W.Work.plan (draft_of c.args.topology.now) c.go_on.new.state)
    (committed_worker g.W.Work.plan g.H.Hash128.hash_of c.args.shared.now.growing.id (draft_of c.args.topology.now) c.args.state.now c.requires.may c.as_slice-2.result.now some
    (works_from g.W.Work.plan g.H.Hash128.hash_of c.args.shared.now.growing.id (draft_of c.args.topology.now) c.args.state.now c.requires.may c.freeze_dirty.result c.or_halt.result c.in_ok-works.works (λ w. w.items) c.as_slice.result.now c.as_slice-2.result.now c.as_slice.ensures.value c.or_halt.ensures c.in_ok-works.was c.freeze_dirty.ensures c.as_slice-2.ensures.value)
    c.commit.new.session c.commit.ensures.later c.in-Ok-Committed.field-0 c.in-Ok-Committed.ensures.producer c.in-Ok-Committed.ensures.tasks c.in-Ok-Committed.ensures.cases
    c.go_on.new.state c.go_on.ensures.session c.go_on.ensures.member c.go_on.ensures.replicas c.in-Ok-Committed.field-0-is)
    (c.go_on.ensures.told (draft_of c.args.topology.now) (λ k t lt. (c.requires.may.worker.tasks_are k t lt).of))

pub returns-in-Ok-Committed-clause-ended : goal.returns-in-Ok-Committed-clause-ended
returns-in-Ok-Committed-clause-ended g c =
    let some : c.as_slice-2.result.now ≢ [] = search rules in
    if_ok c.go_on.result IsCommitted (AreTold (draft_of c.args.topology.now) c.commit.new.session.ends.items c.args.state.now.tasks.items c.go_on.new.state.tasks.items) (HasEnded g.W.Work.plan (draft_of c.args.topology.now) c.args.state.now c.go_on.new.state)
    (committed_ended g.W.Work.plan g.H.Hash128.hash_of c.args.shared.now.growing.id (draft_of c.args.topology.now) c.args.state.now c.requires.may c.as_slice-2.result.now some
    (works_from g.W.Work.plan g.H.Hash128.hash_of c.args.shared.now.growing.id (draft_of c.args.topology.now) c.args.state.now c.requires.may c.freeze_dirty.result c.or_halt.result c.in_ok-works.works (λ w. w.items) c.as_slice.result.now c.as_slice-2.result.now c.as_slice.ensures.value c.or_halt.ensures c.in_ok-works.was c.freeze_dirty.ensures c.as_slice-2.ensures.value)
    c.commit.new.session c.commit.ensures.later c.in-Ok-Committed.field-0 c.in-Ok-Committed.ensures.producer c.in-Ok-Committed.ensures.tasks c.in-Ok-Committed.ensures.cases
    c.go_on.new.state c.go_on.ensures.session c.go_on.ensures.member c.go_on.ensures.replicas c.in-Ok-Committed.field-0-is)
    c.go_on.ensures.end (c.go_on.ensures.told (draft_of c.args.topology.now) (λ k t lt. (c.requires.may.worker.tasks_are k t lt).of))

pub returns-in-Ok-Aborted-clause-worker : goal.returns-in-Ok-Aborted-clause-worker
returns-in-Ok-Aborted-clause-worker g c =
    let some : c.as_slice-2.result.now ≢ [] = search rules in
    on_ok c.go_back.result (AreCleanOf c.args.state.now.tasks.items c.go_back.new.state.tasks.items) (IsWorkerState g.W.Work.plan (draft_of c.args.topology.now) c.go_back.new.state)
    (aborted_worker g.W.Work.plan g.H.Hash128.hash_of c.args.shared.now.growing.id (draft_of c.args.topology.now) c.args.state.now c.requires.may c.as_slice-2.result.now some
    (works_from g.W.Work.plan g.H.Hash128.hash_of c.args.shared.now.growing.id (draft_of c.args.topology.now) c.args.state.now c.requires.may c.freeze_dirty.result c.or_halt.result c.in_ok-works.works (λ w. w.items) c.as_slice.result.now c.as_slice-2.result.now c.as_slice.ensures.value c.or_halt.ensures c.in_ok-works.was c.freeze_dirty.ensures c.as_slice-2.ensures.value)
    c.commit.new.session c.commit.ensures.later c.in-Ok-Aborted.field-0 c.in-Ok-Aborted.ensures.producer c.in-Ok-Aborted.ensures.tasks c.in-Ok-Aborted.ensures.cases
    c.go_back.new.state c.go_back.ensures.session c.go_back.ensures.member c.go_back.ensures.replicas c.in-Ok-Aborted.field-0-is)
    c.go_back.ensures.kept

pub returns-in-Ok-Aborted-clause-ended : goal.returns-in-Ok-Aborted-clause-ended
returns-in-Ok-Aborted-clause-ended g c =
    let some : c.as_slice-2.result.now ≢ [] = search rules in
    if_ok c.go_back.result IsAborted (AreCleanOf c.args.state.now.tasks.items c.go_back.new.state.tasks.items) (HasEnded g.W.Work.plan (draft_of c.args.topology.now) c.args.state.now c.go_back.new.state)
    (aborted_ended g.W.Work.plan g.H.Hash128.hash_of c.args.shared.now.growing.id (draft_of c.args.topology.now) c.args.state.now c.requires.may c.as_slice-2.result.now some
    (works_from g.W.Work.plan g.H.Hash128.hash_of c.args.shared.now.growing.id (draft_of c.args.topology.now) c.args.state.now c.requires.may c.freeze_dirty.result c.or_halt.result c.in_ok-works.works (λ w. w.items) c.as_slice.result.now c.as_slice-2.result.now c.as_slice.ensures.value c.or_halt.ensures c.in_ok-works.was c.freeze_dirty.ensures c.as_slice-2.ensures.value)
    c.commit.new.session c.commit.ensures.later c.in-Ok-Aborted.field-0 c.in-Ok-Aborted.ensures.producer c.in-Ok-Aborted.ensures.tasks c.in-Ok-Aborted.ensures.cases
    c.go_back.new.state c.go_back.ensures.session c.go_back.ensures.member c.go_back.ensures.replicas c.in-Ok-Aborted.field-0-is c.in-Ok-Aborted.ensures.marked)
    c.go_back.ensures.end c.go_back.ensures.kept

pub returns-in-Ok-Fenced-clause-worker : goal.returns-in-Ok-Fenced-clause-worker
returns-in-Ok-Fenced-clause-worker g c =
    lost_worker g.W.Work.plan g.H.Hash128.hash_of c.args.shared.now.growing.id (draft_of c.args.topology.now) c.args.state.now c.requires.may c.commit.new.session.client c.lose_all.new.state c.lose_all.ensures.client c.commit.ensures.later c.lose_all.ensures.lost

pub returns-in-Ok-Fenced-clause-ended : goal.returns-in-Ok-Fenced-clause-ended
returns-in-Ok-Fenced-clause-ended g c =
    let some : c.as_slice-2.result.now ≢ [] = search rules in
    subst (HasEnded g.W.Work.plan (draft_of c.args.topology.now) c.args.state.now c.lose_all.new.state) (sym c.lose_all.ensures.end)
    (fenced_ended g.W.Work.plan g.H.Hash128.hash_of c.args.shared.now.growing.id (draft_of c.args.topology.now) c.args.state.now c.requires.may c.as_slice-2.result.now some
    (works_from g.W.Work.plan g.H.Hash128.hash_of c.args.shared.now.growing.id (draft_of c.args.topology.now) c.args.state.now c.requires.may c.freeze_dirty.result c.or_halt.result c.in_ok-works.works (λ w. w.items) c.as_slice.result.now c.as_slice-2.result.now c.as_slice.ensures.value c.or_halt.ensures c.in_ok-works.was c.freeze_dirty.ensures c.as_slice-2.ensures.value)
    c.commit.new.session c.commit.ensures.later c.in-Ok-Fenced.field-0 c.in-Ok-Fenced.ensures.producer c.in-Ok-Fenced.ensures.tasks c.in-Ok-Fenced.ensures.cases
    c.lose_all.new.state c.in-Ok-Fenced.field-0-is c.lose_all.ensures.client c.lose_all.ensures.lost)

pub returns-in-Ok-Touched-clause-worker : goal.returns-in-Ok-Touched-clause-worker
returns-in-Ok-Touched-clause-worker g c =
    lost_worker g.W.Work.plan g.H.Hash128.hash_of c.args.shared.now.growing.id (draft_of c.args.topology.now) c.args.state.now c.requires.may c.commit.new.session.client c.lose_all-in-Ok-Touched.new.state c.lose_all-in-Ok-Touched.ensures.client c.commit.ensures.later c.lose_all-in-Ok-Touched.ensures.lost

pub returns-in-Ok-Touched-clause-ended : goal.returns-in-Ok-Touched-clause-ended
returns-in-Ok-Touched-clause-ended g c =
    let some : c.as_slice-2.result.now ≢ [] = search rules in
    subst (HasEnded g.W.Work.plan (draft_of c.args.topology.now) c.args.state.now c.lose_all-in-Ok-Touched.new.state) (sym c.lose_all-in-Ok-Touched.ensures.end)
    (touched_ended g.W.Work.plan g.H.Hash128.hash_of c.args.shared.now.growing.id (draft_of c.args.topology.now) c.args.state.now c.requires.may c.as_slice-2.result.now some
    (works_from g.W.Work.plan g.H.Hash128.hash_of c.args.shared.now.growing.id (draft_of c.args.topology.now) c.args.state.now c.requires.may c.freeze_dirty.result c.or_halt.result c.in_ok-works.works (λ w. w.items) c.as_slice.result.now c.as_slice-2.result.now c.as_slice.ensures.value c.or_halt.ensures c.in_ok-works.was c.freeze_dirty.ensures c.as_slice-2.ensures.value)
    c.commit.new.session c.commit.ensures.later c.in-Ok-Touched.field-0 c.in-Ok-Touched.ensures.producer c.in-Ok-Touched.ensures.tasks c.in-Ok-Touched.ensures.cases
    c.lose_all-in-Ok-Touched.new.state c.in-Ok-Touched.field-0-is c.lose_all-in-Ok-Touched.ensures.client c.lose_all-in-Ok-Touched.ensures.lost)
