use Rattle.ks_task.proofs.Holding.{held_empty}
use Rattle.ks_task.proofs.changelogs.+hold_bytes.Goals as goal

pub returns-in_default : goal.returns-in_default
returns-in_default t c = held_empty c.args.changelogs.now c.in_default.len_below
