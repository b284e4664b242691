use Rattle.std.proofs.Common.{◌≡◌, true, List, length, sym, ap, subst, refl, ◌∙◌}
use Rattle.std.proofs.lemmas.Result.{on_ok_weaker, IfErr-weaker}
use Rattle.ks_topo.specs.Topologies.{draft_of}
use Rattle.ks_cluster.specs.View.{setup_of, state_of}
use Rattle.ks_def_tasks.specs.Rules.{rules_of}
use Rattle.ks_audit_ledger.specs.declared.account.Account.{Account}
use Rattle.ks_audit.specs.Playing.{IsPlayed, commit_at}
use Rattle.ks_audit.specs.Entries.{IsOpenAt}
use Rattle.ks_audit.proofs.Playing.{owner_within, commit_few, commit_open, ready_to_make}
use Rattle.ks_audit.proofs.Going.{may_judge, held_up, not_answered, made_goes_on}
use Rattle.ks_audit.proofs.replay.Played.go_on.Goals as goal

pub commit_of-commit-requires : goal.commit_of-commit-requires
commit_of-commit-requires g c = record {
  worker = owner_within (setup_of g.W.Work.plan c.args.self.now.cluster) (state_of g.W.Work.plan c.args.self.now.cluster) c.args.entry.now.request (length c.as_slice.result.now)
      (ap (λ (l : List Account). length l) c.as_slice.ensures.value ∙ c.requires.played.kept.ledger_is.count) c.requires.meets;
}

pub returns-then-not-is_answered-clause-stop : goal.returns-then-not-is_answered-clause-stop
returns-then-not-is_answered-clause-stop g c =
    let found = c.commit_of-commit.ensures ∙ ap (λ (l : List Account). commit_at l c.args.entry.now.request) c.as_slice.ensures.value in
    not_answered (setup_of g.W.Work.plan c.args.self.now.cluster) c.args.self.now.cluster.journal c.args.self.now.ledger.items c.args.entry.now c.commit_of-commit.result c.is_answered.result
    c.requires.played.kept.ledger_is c.requires.meets found c.is_answered.ensures c.if-not-is_answered.true

pub judge_commit-requires-clause-may : goal.judge_commit-requires-clause-may
judge_commit-requires-clause-may g c =
    may_judge g.W.Work.plan g.W.Work.good (rules_of g.H.Hash128.hash_of) (draft_of c.args.topology.now) c.args.self.now c.requires.played

pub judge_commit-requires-clause-played : goal.judge_commit-requires-clause-played
judge_commit-requires-clause-played g c =
    subst (λ (l : List Account). IsPlayed (draft_of c.args.topology.now) (setup_of g.W.Work.plan c.args.self.now.cluster) c.args.self.now.cluster.journal l c.args.self.now.tasks.items) (sym c.as_slice-ledger.ensures.value) c.requires.played.kept

pub judge_commit-requires-clause-worker : goal.judge_commit-requires-clause-worker
judge_commit-requires-clause-worker g c =
    let found = c.commit_of-commit.ensures ∙ ap (λ (l : List Account). commit_at l c.args.entry.now.request) c.as_slice.ensures.value in
    commit_few (setup_of g.W.Work.plan c.args.self.now.cluster) c.args.self.now.cluster.journal c.args.self.now.ledger.items c.args.entry.now.request c.commit_of-commit.result c.requires.played.kept.ledger_is c.requires.meets found

pub judge_commit-requires-clause-there : goal.judge_commit-requires-clause-there
judge_commit-requires-clause-there g c =
    let found = c.commit_of-commit.ensures ∙ ap (λ (l : List Account). commit_at l c.args.entry.now.request) c.as_slice.ensures.value in
    subst (λ (l : List Account). IsOpenAt l c.commit_of-commit.result) (sym c.as_slice-ledger.ensures.value)
    (commit_open (setup_of g.W.Work.plan c.args.self.now.cluster) c.args.self.now.cluster.journal c.args.self.now.ledger.items c.args.entry.now.request c.commit_of-commit.result c.requires.played.kept.ledger_is c.requires.meets found)

pub returns-in-Err-clause-stop : goal.returns-in-Err-clause-stop
returns-in-Err-clause-stop g c =
    let found = c.commit_of-commit.ensures ∙ ap (λ (l : List Account). commit_at l c.args.entry.now.request) c.as_slice.ensures.value in
    held_up (setup_of g.W.Work.plan c.args.self.now.cluster) c.args.self.now.cluster.journal c.args.self.now.ledger.items c.args.entry.now c.commit_of-commit.result
    c.requires.played.kept.ledger_is c.requires.meets found (c.is_answered.ensures.0 c.if-not-is_answered.false) c.in-Err.stop c.in-Err.ensures.stop

pub make_or_stop-requires-clause-ready : goal.make_or_stop-requires-clause-ready
make_or_stop-requires-clause-ready g c =
    let found = c.commit_of-commit.ensures ∙ ap (λ (l : List Account). commit_at l c.args.entry.now.request) c.as_slice.ensures.value in (
      draft_of c.args.topology.now,
      rules_of g.H.Hash128.hash_of,
      ready_to_make g.W.Work.plan g.W.Work.good (rules_of g.H.Hash128.hash_of) (draft_of c.args.topology.now) c.args.self.now c.judge_commit.new.tasks c.commit_of-commit.result c.args.entry.now (g.met.W.Work.network _)
          c.requires.played c.requires.meets found c.in-Ok.ensures.names c.in-Ok.ensures.ready,
    )

pub make_or_stop-requires-clause-there : goal.make_or_stop-requires-clause-there
make_or_stop-requires-clause-there g c =
    let found = c.commit_of-commit.ensures ∙ ap (λ (l : List Account). commit_at l c.args.entry.now.request) c.as_slice.ensures.value in
    commit_open (setup_of g.W.Work.plan c.args.self.now.cluster) c.args.self.now.cluster.journal c.args.self.now.ledger.items c.args.entry.now.request c.commit_of-commit.result c.requires.played.kept.ledger_is c.requires.meets found

pub returns-in-Ok-clause-plays : goal.returns-in-Ok-clause-plays
returns-in-Ok-clause-plays g c =
    let found = c.commit_of-commit.ensures ∙ ap (λ (l : List Account). commit_at l c.args.entry.now.request) c.as_slice.ensures.value in
    let ready = ready_to_make g.W.Work.plan g.W.Work.good (rules_of g.H.Hash128.hash_of) (draft_of c.args.topology.now) c.args.self.now c.judge_commit.new.tasks c.commit_of-commit.result c.args.entry.now (g.met.W.Work.network _)
    c.requires.played c.requires.meets found c.in-Ok.ensures.names c.in-Ok.ensures.ready in
    on_ok_weaker c.make_or_stop.result
    (λ makes. made_goes_on g.W.Work.plan g.W.Work.good (rules_of g.H.Hash128.hash_of) (draft_of c.args.topology.now) c.args.self.now _ c.make_or_stop.new.self c.commit_of-commit.result c.args.entry.now true refl refl
    ready (makes (draft_of c.args.topology.now) (rules_of g.H.Hash128.hash_of) ready)) c.make_or_stop.ensures.made

pub returns-in-Ok-clause-stop : goal.returns-in-Ok-clause-stop
returns-in-Ok-clause-stop g c =
    let found = c.commit_of-commit.ensures ∙ ap (λ (l : List Account). commit_at l c.args.entry.now.request) c.as_slice.ensures.value in
    let ready = ready_to_make g.W.Work.plan g.W.Work.good (rules_of g.H.Hash128.hash_of) (draft_of c.args.topology.now) c.args.self.now c.judge_commit.new.tasks c.commit_of-commit.result c.args.entry.now (g.met.W.Work.network _)
    c.requires.played c.requires.meets found c.in-Ok.ensures.names c.in-Ok.ensures.ready in
    IfErr-weaker c.make_or_stop.result _ _ (λ stop h. h (draft_of c.args.topology.now) (rules_of g.H.Hash128.hash_of) ready) c.make_or_stop.ensures.stop
