use Rattle.ks_law_commit.proofs.Counted.{account_ends}
use Rattle.ks_law_commit.proofs.accounts.account_ends.Goals as goal

pub returns : goal.returns
returns c = account_ends
