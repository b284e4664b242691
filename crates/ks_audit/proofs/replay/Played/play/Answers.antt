use Rattle.std.proofs.Common.{◌≡◌, List, sym, ap, ◌∙◌}
use Rattle.std.proofs.lemmas.Bool.{true≢false}
use Rattle.ks_history.specs.State.{Setup}
use Rattle.ks_topo.specs.Topologies.{draft_of, plan_in}
use Rattle.ks_cluster.specs.View.{setup_of, state_of}
use Rattle.ks_def_tasks.specs.Rules.{rules_of}
use Rattle.ks_audit.proofs.Going.{entry_played, entry_stopped}
use Rattle.ks_audit.proofs.replay.Played.play.Goals as goal

pub allows-requires-clause-same : goal.allows-requires-clause-same
allows-requires-clause-same g c = c.requires.played.conditions

pub allows-requires-clause-made : goal.allows-requires-clause-made
allows-requires-clause-made g c = c.requires.played.kept.made

pub allows-requires-clause-sources : goal.allows-requires-clause-sources
allows-requires-clause-sources g c = ap (λ (s : Setup). s.plan.sources) c.requires.played.setup

pub returns-then-not-branch-clause-stop : goal.returns-then-not-branch-clause-stop
returns-then-not-branch-clause-stop g c = λ placed step. true≢false (sym (c.in_ok-allows.ensures.only g.H.Hash128.hash_of step.meets placed) ∙ c.if-not-branch.true)

pub go_on-requires-clause-meets : goal.go_on-requires-clause-meets
go_on-requires-clause-meets g c = c.in_ok-allows.ensures.meets c.if-not-branch.false

pub returns-in-Ok-clause-plays : goal.returns-in-Ok-clause-plays
returns-in-Ok-clause-plays g c =
    entry_played g.W.Work.plan g.W.Work.good (rules_of g.H.Hash128.hash_of) (draft_of c.args.topology.now) c.args.self.now _ c.args.entry.now
    (c.in_ok-allows.ensures.at_place c.if-not-branch.false g.H.Hash128.hash_of) c.in-Ok.ensures.plays

pub returns-in-Err-clause-stop : goal.returns-in-Err-clause-stop
returns-in-Err-clause-stop g c =
    entry_stopped (rules_of g.H.Hash128.hash_of) (plan_in c.args.topology.now) (setup_of g.W.Work.plan c.args.self.now.cluster) (state_of g.W.Work.plan c.args.self.now.cluster) c.args.entry.now
    (c.in_ok-allows.ensures.at_place c.if-not-branch.false g.H.Hash128.hash_of) c.in-Err.stop c.in-Err.ensures.stop
