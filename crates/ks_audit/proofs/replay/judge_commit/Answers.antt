use Rattle.std.proofs.Common.{◌≡◌, ℕ, ◌≤◌, Option, IfSome, sym, subst}
use Rattle.ks_topo.specs.Topologies.{draft_of}
use Rattle.ks_cluster.specs.View.{setup_of, state_of}
use Rattle.ks_audit.specs.declared.fault.AuditFault.TheVariants.{NotFaithful}
use Rattle.ks_audit.specs.declared.fault.LineStop.TheVariants.{Fault}
use Rattle.ks_audit.specs.Entries.{IsOpenAt, IsReady, IsCommitStop}
use Rattle.ks_audit.proofs.Keeping.{kept_at, own_at}
use Rattle.ks_audit.proofs.Going.{commit_stops}
use Rattle.ks_audit.proofs.replay.judge_commit.Goals as goal

pub open_of-open-requires : goal.open_of-open-requires
open_of-open-requires g c = subst (IsOpenAt c.args.ledger.now) c.in-Some.is c.requires.there

pub judge_tasks-requires-clause-own : goal.judge_tasks-requires-clause-own
judge_tasks-requires-clause-own g c =
    own_at (setup_of g.W.Work.plan c.args.cluster.now) c.args.cluster.now.journal c.args.ledger.now c.requires.played.ledger_is c.in-Some.w c.open_of-open.result.now
    (subst (λ (k : Option ℕ). IfSome k (λ w. w ≤ 16)) c.in-Some.is c.requires.worker) c.open_of-open.ensures

pub returns-in_default-clause-ready : goal.returns-in_default-clause-ready
returns-in_default-clause-ready g c =
    subst (λ (k : Option ℕ). IsReady (draft_of c.args.topology.now) (setup_of g.W.Work.plan c.args.cluster.now) c.args.cluster.now.journal k c.args.tasks.now.items) (sym c.in_default.is) c.requires.played.audited

pub returns-in-Some-found-clause-stop : goal.returns-in-Some-found-clause-stop
returns-in-Some-found-clause-stop g c =
    let setup = setup_of g.W.Work.plan c.args.cluster.now in
    let has = kept_at setup c.args.cluster.now.journal c.args.ledger.now c.requires.played.ledger_is c.in-Some.w c.open_of-open.result.now
    (subst (λ (k : Option ℕ). IfSome k (λ w. w ≤ 16)) c.in-Some.is c.requires.worker) c.open_of-open.ensures in
    subst (λ (k : Option ℕ). IsCommitStop setup (state_of g.W.Work.plan c.args.cluster.now) k (Fault (NotFaithful c.in-Some-found.task))) (sym c.in-Some.is)
    (commit_stops (draft_of c.args.topology.now) setup c.args.cluster.now.journal c.in-Some.w c.open_of-open.result.now c.in-Some-found.task c.in_ok-found.found c.judge_tasks.new.tasks.items has c.in-Some-found.is (c.in_ok-found.ensures c.in-Some.w has))

pub returns-in-None-clause-names : goal.returns-in-None-clause-names
returns-in-None-clause-names g c =
    let has = kept_at (setup_of g.W.Work.plan c.args.cluster.now) c.args.cluster.now.journal c.args.ledger.now c.requires.played.ledger_is c.in-Some.w c.open_of-open.result.now
    (subst (λ (k : Option ℕ). IfSome k (λ w. w ≤ 16)) c.in-Some.is c.requires.worker) c.open_of-open.ensures in
    (c.in_ok-found.ensures c.in-Some.w has).names c.in-None.is

pub returns-in-None-clause-ready : goal.returns-in-None-clause-ready
returns-in-None-clause-ready g c =
    let setup = setup_of g.W.Work.plan c.args.cluster.now in
    let has = kept_at setup c.args.cluster.now.journal c.args.ledger.now c.requires.played.ledger_is c.in-Some.w c.open_of-open.result.now
    (subst (λ (k : Option ℕ). IfSome k (λ w. w ≤ 16)) c.in-Some.is c.requires.worker) c.open_of-open.ensures in
    subst (λ (k : Option ℕ). IsReady (draft_of c.args.topology.now) setup c.args.cluster.now.journal k c.judge_tasks.new.tasks.items) (sym c.in-Some.is)
    ((c.in_ok-found.ensures c.in-Some.w has).all c.in-None.is)
