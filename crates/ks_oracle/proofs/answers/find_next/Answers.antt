use Rattle.std.proofs.Common.{◌≡◌, List, subst}
use Rattle.ks_plan.specs.Drafts.{op_view}
use Rattle.ks_oracle.specs.declared.answers.Answer.{Answer}
use Rattle.ks_oracle.specs.Found.{answers_of, stream_found}
use Rattle.ks_oracle.proofs.Founds.{next_is}
use Rattle.ks_oracle.proofs.answers.find_next.Goals as goal

pub returns-clause-next : goal.returns-clause-next
returns-clause-next c =
    next_is c.args.records.now c.args.found.now.items c.push.new.self.items c.in_ok-answer.answer c.args.node.now c.in_ok-push.ensures.items
    (subst (λ (l : List Answer). c.in_ok-answer.answer ≡ stream_found c.args.records.now (answers_of l) (op_view c.args.node.now.op) c.args.node.now.wiring) c.deref.ensures.value c.in_ok-answer.ensures)
