use Rattle.ks_journal.proofs.LineAgain.{line_again, one_line}
use Rattle.ks_journal.proofs.laws.a_line_tells_its_entry.Goals as goal

pub returns-clause-again : goal.returns-clause-again
returns-clause-again c = line_again

pub returns-clause-one : goal.returns-clause-one
returns-clause-one c = one_line
