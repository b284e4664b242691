use Rattle.ks_law_commit.proofs.Counted.{account_begins}
use Rattle.ks_law_commit.proofs.accounts.account_begins.Goals as goal

pub returns : goal.returns
returns c = account_begins
