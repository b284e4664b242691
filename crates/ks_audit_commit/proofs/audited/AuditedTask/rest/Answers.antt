use Rattle.std.proofs.Common.{ap, ◌∙◌}
use Rattle.ks_history.specs.Follows.{TaskView}
use Rattle.ks_audit_commit.specs.Ends.{moved}
use Rattle.ks_audit_commit.proofs.Judged.{rested}
use Rattle.ks_audit_commit.proofs.audited.AuditedTask.rest.Goals as goal

pub returns-clause-name : goal.returns-clause-name
returns-clause-name c = λ d of. ap (λ (v : TaskView). v.task) (c.in_ok-committed.ensures.view d of)

pub returns-clause-rests : goal.returns-clause-rests
returns-clause-rests c = λ d setup journal w epoch p may.
    rested d setup journal w epoch c.args.open.now p c.id.result c.args.self.now _ may c.id.ensures (c.in_ok-committed.ensures.task d may.of) (c.in_ok-committed.ensures.view d may.of)
    (c.in_ok-move_ends.ensures ∙ ap (moved c.id.result c.args.self.now.ends.items) c.as_slice.ensures)
