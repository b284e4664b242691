use Rattle.std.proofs.Common.{Ok, ap, ◌∙◌, refl}
use Rattle.ks_commit.specs.Committed.{works_of}
use Rattle.ks_worker_commit.specs.Underway.{memory}
use Rattle.ks_worker_commit.proofs.Requesting.{requests_both}
use Rattle.ks_worker_commit.proofs.Closing.{later_of, ok_cases, ok_producer, ok_tasks, ok_marked, aborted_ok_cases, aborted_ok_producer, aborted_ok_tasks, aborted_ok_marked, rest_cases, rest_producer, rest_tasks, rest_marked, rest_gate}
use Rattle.ks_worker_commit.proofs.committing.commit.Goals as goal

pub returns-in-Ok-clause-later : goal.returns-in-Ok-clause-later
returns-in-Ok-clause-later g c = later_of g.W.Work.plan _ _ c.args.member.number c.requires.may.history (requests_both g.W.Work.plan _ _ _ _ c.send_and_decide.ensures.requests c.finish.ensures.requests)

pub returns-in-Ok-clause-requests : goal.returns-in-Ok-clause-requests
returns-in-Ok-clause-requests g c = requests_both g.W.Work.plan _ _ _ _ c.send_and_decide.ensures.requests c.finish.ensures.requests

pub returns-in-Ok-clause-cases : goal.returns-in-Ok-clause-cases
returns-in-Ok-clause-cases g c = ok_cases g.W.Work.plan _ _ _ c.args.member c.args.session.now.last (memory c.send_and_decide.new.session.last c.send_and_decide.new.session.numbers.items c.send_and_decide.new.session.ends.items) (memory c.finish.new.session.last c.finish.new.session.numbers.items c.finish.new.session.ends.items) (works_of c.args.works.now) c.requires.apart c.send_and_decide.result tt c.in-Ok.is c.send_and_decide.ensures.ends c.send_and_decide.ensures.requests c.finish.ensures.requests c.requires.may.history c.finish.ensures.same c.finish.result c.finish.ensures.so

pub returns-in-Ok-clause-producer : goal.returns-in-Ok-clause-producer
returns-in-Ok-clause-producer g c = ok_producer g.W.Work.plan _ _ _ c.args.member c.args.session.now.last (memory c.send_and_decide.new.session.last c.send_and_decide.new.session.numbers.items c.send_and_decide.new.session.ends.items) (memory c.finish.new.session.last c.finish.new.session.numbers.items c.finish.new.session.ends.items) (works_of c.args.works.now) c.requires.apart c.send_and_decide.result tt c.in-Ok.is c.send_and_decide.ensures.ends c.send_and_decide.ensures.requests c.finish.ensures.requests c.requires.may.history c.finish.ensures.same c.finish.result c.finish.ensures.so

pub returns-in-Ok-clause-tasks : goal.returns-in-Ok-clause-tasks
returns-in-Ok-clause-tasks g c = ok_tasks g.W.Work.plan _ _ _ c.args.member c.args.session.now.last (memory c.send_and_decide.new.session.last c.send_and_decide.new.session.numbers.items c.send_and_decide.new.session.ends.items) (memory c.finish.new.session.last c.finish.new.session.numbers.items c.finish.new.session.ends.items) (works_of c.args.works.now) c.requires.apart c.send_and_decide.result tt c.in-Ok.is c.send_and_decide.ensures.ends c.send_and_decide.ensures.requests c.finish.ensures.requests c.requires.may.history c.finish.ensures.same c.finish.result c.finish.ensures.so

pub returns-in-Ok-clause-marked : goal.returns-in-Ok-clause-marked
returns-in-Ok-clause-marked g c = ok_marked g.W.Work.plan _ _ _ c.args.member c.args.session.now.last (memory c.send_and_decide.new.session.last c.send_and_decide.new.session.numbers.items c.send_and_decide.new.session.ends.items) (memory c.finish.new.session.last c.finish.new.session.numbers.items c.finish.new.session.ends.items) (works_of c.args.works.now) c.requires.apart c.send_and_decide.result tt c.in-Ok.is c.send_and_decide.ensures.ends c.send_and_decide.ensures.requests c.finish.ensures.requests c.requires.may.history c.finish.ensures.same c.finish.result c.finish.ensures.so

pub returns-in-Aborted-clause-requests : goal.returns-in-Aborted-clause-requests
returns-in-Aborted-clause-requests g c = requests_both g.W.Work.plan _ _ _ _ c.send_and_decide.ensures.requests c.abort.ensures.requests.requests

pub returns-in-Aborted-clause-cases : goal.returns-in-Aborted-clause-cases
returns-in-Aborted-clause-cases g c = aborted_ok_cases g.W.Work.plan _ _ _ c.args.member c.args.session.now.last (memory c.send_and_decide.new.session.last c.send_and_decide.new.session.numbers.items c.send_and_decide.new.session.ends.items) (memory c.abort.new.session.last c.abort.new.session.numbers.items c.abort.new.session.ends.items) (works_of c.args.works.now) c.send_and_decide.result c.in-Err.halt c.in-Err.is c.send_and_decide.ensures.ends c.send_and_decide.ensures.requests c.abort.ensures.requests c.requires.may.history c.outcome_of.result c.outcome_of.ensures (c.in-Ok-outcome_of.is ∙ ap Ok c.in-Aborted.is) c.abort.result c.abort.ensures.so refl

pub returns-in-Aborted-clause-producer : goal.returns-in-Aborted-clause-producer
returns-in-Aborted-clause-producer g c = aborted_ok_producer g.W.Work.plan _ _ _ c.args.member c.args.session.now.last (memory c.send_and_decide.new.session.last c.send_and_decide.new.session.numbers.items c.send_and_decide.new.session.ends.items) (memory c.abort.new.session.last c.abort.new.session.numbers.items c.abort.new.session.ends.items) (works_of c.args.works.now) c.send_and_decide.result c.in-Err.halt c.in-Err.is c.send_and_decide.ensures.ends c.send_and_decide.ensures.requests c.abort.ensures.requests c.requires.may.history c.outcome_of.result c.outcome_of.ensures (c.in-Ok-outcome_of.is ∙ ap Ok c.in-Aborted.is) c.abort.result c.abort.ensures.so

pub returns-in-Aborted-clause-tasks : goal.returns-in-Aborted-clause-tasks
returns-in-Aborted-clause-tasks g c = aborted_ok_tasks g.W.Work.plan _ _ _ c.args.member c.args.session.now.last (memory c.send_and_decide.new.session.last c.send_and_decide.new.session.numbers.items c.send_and_decide.new.session.ends.items) (memory c.abort.new.session.last c.abort.new.session.numbers.items c.abort.new.session.ends.items) (works_of c.args.works.now) c.send_and_decide.result c.in-Err.halt c.in-Err.is c.send_and_decide.ensures.ends c.send_and_decide.ensures.requests c.abort.ensures.requests c.requires.may.history c.outcome_of.result c.outcome_of.ensures (c.in-Ok-outcome_of.is ∙ ap Ok c.in-Aborted.is) c.abort.result c.abort.ensures.so

pub returns-in-Aborted-clause-marked : goal.returns-in-Aborted-clause-marked
returns-in-Aborted-clause-marked g c = aborted_ok_marked g.W.Work.plan _ _ _ c.args.member c.args.session.now.last (memory c.send_and_decide.new.session.last c.send_and_decide.new.session.numbers.items c.send_and_decide.new.session.ends.items) (memory c.abort.new.session.last c.abort.new.session.numbers.items c.abort.new.session.ends.items) (works_of c.args.works.now) c.send_and_decide.result c.in-Err.halt c.in-Err.is c.send_and_decide.ensures.ends c.send_and_decide.ensures.requests c.abort.ensures.requests c.requires.may.history c.outcome_of.result c.outcome_of.ensures (c.in-Ok-outcome_of.is ∙ ap Ok c.in-Aborted.is) c.abort.result c.abort.ensures.so

pub returns-in_default-clause-cases : goal.returns-in_default-clause-cases
returns-in_default-clause-cases g c = rest_cases g.W.Work.plan _ _ c.args.member c.args.session.now.last (memory c.send_and_decide.new.session.last c.send_and_decide.new.session.numbers.items c.send_and_decide.new.session.ends.items) (works_of c.args.works.now) c.send_and_decide.result c.in-Err.halt c.in-Err.is c.send_and_decide.ensures.ends c.outcome_of.result c.outcome_of.ensures _ c.in-Ok-outcome_of.is c.in_default.not-Aborted

pub returns-in_default-clause-producer : goal.returns-in_default-clause-producer
returns-in_default-clause-producer g c = rest_producer g.W.Work.plan _ _ c.args.member c.args.session.now.last (memory c.send_and_decide.new.session.last c.send_and_decide.new.session.numbers.items c.send_and_decide.new.session.ends.items) (works_of c.args.works.now) c.send_and_decide.result c.in-Err.halt c.in-Err.is c.send_and_decide.ensures.ends c.outcome_of.result c.outcome_of.ensures _ c.in-Ok-outcome_of.is c.in_default.not-Aborted

pub returns-in_default-clause-tasks : goal.returns-in_default-clause-tasks
returns-in_default-clause-tasks g c = rest_tasks g.W.Work.plan _ _ c.args.member c.args.session.now.last (memory c.send_and_decide.new.session.last c.send_and_decide.new.session.numbers.items c.send_and_decide.new.session.ends.items) (works_of c.args.works.now) c.send_and_decide.result c.in-Err.halt c.in-Err.is c.send_and_decide.ensures.ends c.outcome_of.result c.outcome_of.ensures _ c.in-Ok-outcome_of.is c.in_default.not-Aborted

pub returns-in_default-clause-marked : goal.returns-in_default-clause-marked
returns-in_default-clause-marked g c = rest_marked g.W.Work.plan _ _ c.args.member c.args.session.now.last (memory c.send_and_decide.new.session.last c.send_and_decide.new.session.numbers.items c.send_and_decide.new.session.ends.items) (works_of c.args.works.now) c.send_and_decide.result c.in-Err.halt c.in-Err.is c.send_and_decide.ensures.ends c.outcome_of.result c.outcome_of.ensures _ c.in-Ok-outcome_of.is c.in_default.not-Aborted

pub returns-in_default-clause-gate : goal.returns-in_default-clause-gate
returns-in_default-clause-gate g c = rest_gate g.W.Work.plan _ _ c.args.member c.args.session.now.last (memory c.send_and_decide.new.session.last c.send_and_decide.new.session.numbers.items c.send_and_decide.new.session.ends.items) (works_of c.args.works.now) c.send_and_decide.result c.in-Err.halt c.in-Err.is c.send_and_decide.ensures.ends c.outcome_of.result c.outcome_of.ensures _ _ _ c.in-Ok-outcome_of.is c.send_and_decide.ensures.gate
