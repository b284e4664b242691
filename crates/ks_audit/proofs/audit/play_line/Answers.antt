use Rattle.std.proofs.Common.{◌≡◌, Option, IfSome, subst}
use Rattle.ks_topo.specs.Topologies.{draft_of, plan_in}
use Rattle.ks_cluster.specs.View.{setup_of}
use Rattle.ks_def_tasks.specs.Rules.{rules_of}
use Rattle.ks_history.specs.declared.journal.Entry.{Entry}
use Rattle.ks_audit.specs.Audited.{IsLineOf}
use Rattle.ks_audit.proofs.Going.{line_played, line_stopped}
use Rattle.ks_audit.proofs.audit.play_line.Goals as goal

pub returns-in_default-clause-stop : goal.returns-in_default-clause-stop
returns-in_default-clause-stop g c = c.in_ok-found.ensures.none c.in_default.is

pub returns-in-Ok-clause-plays : goal.returns-in-Ok-clause-plays
returns-in-Ok-clause-plays g c =
    line_played g.W.Work.plan g.W.Work.good (rules_of g.H.Hash128.hash_of) (draft_of c.args.topology.now) c.args.played.now c.play-answer.new.self c.args.text.now c.in-Some.entry c.requires.played
    (subst (λ (o : Option Entry). IfSome o (λ e. IsLineOf e c.args.text.now)) c.in-Some.is c.in_ok-found.ensures.some) (rw c.in-Ok.is at c.play-answer.ensures.plays)

pub returns-in-Err-clause-stop : goal.returns-in-Err-clause-stop
returns-in-Err-clause-stop g c =
    line_stopped (rules_of g.H.Hash128.hash_of) (plan_in c.args.topology.now) (setup_of g.W.Work.plan c.args.played.now.cluster) c.args.played.now.cluster.journal c.args.text.now c.in-Some.entry c.requires.played.setup
    (subst (λ (o : Option Entry). IfSome o (λ e. IsLineOf e c.args.text.now)) c.in-Some.is c.in_ok-found.ensures.some) c.in-Err.stop (rw c.in-Err.is at c.play-answer.ensures.stop)
