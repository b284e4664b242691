use Rattle.std.proofs.Common.{ap, subst, refl, ◌∙◌, ◌≡◌, arith}
use Rattle.ks_topo.specs.Topologies.{draft_of}
use Rattle.ks_iq.specs.Readers.{IsTold}
use Rattle.ks_iq.specs.Answered.{last_position}
use Rattle.ks_run_workers.proofs.AskedOften.{asked_once, never_refused}
use Rattle.ks_run_workers.proofs.asking.ask_once.Goals as goal

pub unreachable-requires : goal.unreachable-requires
unreachable-requires g c =
    let old = c.args.asker.now in
    never_refused g.W.Work.plan c.args.shared.now.growing.id (draft_of c.args.topology.now) old c.ask.new.self.pass c.ask.new.self.replicas.items c.last_position-at_least.result _ c.requires
    (c.last_position-at_least.ensures ∙ ap last_position c.deref.ensures.value)
    (subst (IsTold g.W.Work.plan (draft_of c.args.topology.now) old.reader.pass c.ask.new.self.pass old.reader.replicas.items c.ask.new.self.replicas.items old.ask c.last_position-at_least.result) c.in-Err.is c.in_ok-answer.ensures.told)

pub returns-clause-asked : goal.returns-clause-asked
returns-clause-asked g c =
    let last : c.last_position-at_least.result ≡ last_position c.args.asker.now.answers.items = c.last_position-at_least.ensures ∙ ap last_position c.deref.ensures.value in
    let told = subst (IsTold g.W.Work.plan (draft_of c.args.topology.now) c.args.asker.now.reader.pass c.ask.new.self.pass c.args.asker.now.reader.replicas.items c.ask.new.self.replicas.items c.args.asker.now.ask c.last_position-at_least.result) c.in-Ok.is c.in_ok-answer.ensures.told in
    asked_once g.W.Work.plan c.args.shared.now.growing.id (draft_of c.args.topology.now) c.args.asker.now _ c.in-Ok.answer c.requires c.in_ok-push-in-Ok.ensures.items refl c.ask.ensures.later c.in_ok-answer.ensures.reader told.0
    (omega (arith, last, told.1)) told.2
