use Rattle.ks_journal.proofs.JournalAgain.{one_journal}
use Rattle.ks_journal.proofs.laws.a_text_tells_its_journal.Goals as goal

pub returns : goal.returns
returns c = one_journal
