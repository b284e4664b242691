use Rattle.ks_journal_line.proofs.Found.{kind_kept}
use Rattle.ks_journal_line.proofs.line.read_last.Goals as goal

pub returns-clause-kind : goal.returns-clause-kind
returns-clause-kind c = kind_kept c.if_all.result _ c.if_all.ensures.same c.in_ok-reply.ensures.kind
