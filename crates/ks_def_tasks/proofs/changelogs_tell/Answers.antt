use Rattle.ks_def_tasks.proofs.Told.{tells}
use Rattle.ks_def_tasks.proofs.Numbers.{apart}
use Rattle.ks_def_tasks.proofs.Alone.{alone}
use Rattle.ks_def_tasks.proofs.changelogs_tell.Goals as goal

pub returns-clause-told : goal.returns-clause-told
returns-clause-told c rules p t stores q r n = tells rules p t stores q r n

pub returns-clause-apart : goal.returns-clause-apart
returns-clause-apart c p = apart p

pub returns-clause-alone : goal.returns-clause-alone
returns-clause-alone c rules p t u stores q r n other own = alone p t u n other own rules stores q r
