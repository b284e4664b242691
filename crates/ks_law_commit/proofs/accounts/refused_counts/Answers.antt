use Rattle.ks_law_commit.proofs.Counted.{refused_counts}
use Rattle.ks_law_commit.proofs.accounts.refused_counts.Goals as goal

pub returns : goal.returns
returns c = refused_counts
