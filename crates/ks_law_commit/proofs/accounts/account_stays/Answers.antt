use Rattle.ks_law_commit.proofs.Counted.{account_stays}
use Rattle.ks_law_commit.proofs.accounts.account_stays.Goals as goal

pub returns : goal.returns
returns c = account_stays
