use Rattle.std.proofs.Common.{ap, ◌∙◌, refl}
use Rattle.ks_commit.specs.Alone.{number_in}
use Rattle.ks_commit.specs.Numbers.{renumber}
use Rattle.ks_worker_commit.specs.Underway.{memory}
use Rattle.ks_worker_commit.proofs.ByKind.{append_done, append_halted, append_requests}
use Rattle.ks_worker_commit.proofs.Requesting.{cuts_known}
use Rattle.ks_worker_commit.proofs.requests.append_output.Goals as goal

pub returns-clause-carries : goal.returns-clause-carries
returns-clause-carries g c = append_done g.W.Work.plan _ _ c.args.member.number c.args.member.epoch c.args.member.generation (memory c.args.session.now.last c.args.session.now.numbers.items c.args.session.now.ends.items) _
    c.append.result c.done.result c.number_at-before.result c.in_ok-after.after _ c.args.task c.args.out.now.0 _ c.args.out.now.1 _
    c.append.ensures.answered c.done.ensures c.in-Ok.is
    (c.number_at-before.ensures ∙ ap (number_in c.args.out.now.0) c.as_slice.ensures.value) c.in_ok-after.ensures refl refl
    (c.in_ok-numbers.ensures ∙ ap (renumber c.args.out.now.0 c.in_ok-after.after) c.as_slice-2.ensures.value) c.in_ok-note_end.ensures

pub returns-in-Err-clause-carries : goal.returns-in-Err-clause-carries
returns-in-Err-clause-carries g c = append_halted g.W.Work.plan _ _ c.args.member.number c.args.member.epoch c.args.member.generation (memory c.args.session.now.last c.args.session.now.numbers.items c.args.session.now.ends.items) _
    (Unit {0}) c.append.result c.done.result c.in-Err.halt c.number_at-before.result c.in_ok-after.after c.args.task c.args.out.now.0 _ c.args.out.now.1
    c.append.ensures.answered c.done.ensures c.in-Err.is
    (c.number_at-before.ensures ∙ ap (number_in c.args.out.now.0) c.as_slice.ensures.value) c.in_ok-after.ensures refl

pub returns-clause-requests : goal.returns-clause-requests
returns-clause-requests g c = append_requests g.W.Work.plan _ _ c.args.member.number c.args.member.epoch c.args.member.generation (memory c.args.session.now.last c.args.session.now.numbers.items c.args.session.now.ends.items) _ _ c.args.task _ _ c.append.result c.append.ensures.answered

pub returns-in-Err-clause-requests : goal.returns-in-Err-clause-requests
returns-in-Err-clause-requests g c = append_requests g.W.Work.plan _ _ c.args.member.number c.args.member.epoch c.args.member.generation (memory c.args.session.now.last c.args.session.now.numbers.items c.args.session.now.ends.items) _ _ c.args.task _ _ c.append.result c.append.ensures.answered

pub returns-in_err-note_end-clause-requests : goal.returns-in_err-note_end-clause-requests
returns-in_err-note_end-clause-requests g c = append_requests g.W.Work.plan _ _ c.args.member.number c.args.member.epoch c.args.member.generation (memory c.args.session.now.last c.args.session.now.numbers.items c.args.session.now.ends.items) _ _ c.args.task _ _ c.append.result c.append.ensures.answered

pub returns-clause-gate : goal.returns-clause-gate
returns-clause-gate g c = cuts_known _ _ c.append.result c.done.result _ c.done.ensures c.append.ensures.gate c.in-Ok.is

pub returns-in-Err-clause-gate : goal.returns-in-Err-clause-gate
returns-in-Err-clause-gate g c = cuts_known _ _ c.append.result c.done.result _ c.done.ensures c.append.ensures.gate c.in-Err.is
