use Rattle.ks_run_audit.proofs.Ends.{stripped}
use Rattle.ks_run_audit.proofs.ending.strip_text.Goals as goal

pub returns-clause-some : goal.returns-clause-some
returns-clause-some c = (stripped c.args.lines.now c.args.text.now c.strip_prefix.result c.strip_prefix.ensures.cases).0

pub returns-clause-none : goal.returns-clause-none
returns-clause-none c = (stripped c.args.lines.now c.args.text.now c.strip_prefix.result c.strip_prefix.ensures.cases).1
