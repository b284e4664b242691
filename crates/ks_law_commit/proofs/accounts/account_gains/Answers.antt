use Rattle.ks_law_commit.proofs.Counted.{account_gains}
use Rattle.ks_law_commit.proofs.accounts.account_gains.Goals as goal

pub returns : goal.returns
returns c = account_gains
