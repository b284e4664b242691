use Rattle.ks_law_exactly_once.proofs.Replays.{is_run, tells_stores, tells_pasts, tells_all, tells_lists, tells_late}
use Rattle.ks_law_exactly_once.proofs.laws.replay_is_run.Goals as goal

pub returns : goal.returns
returns c = record { run = is_run; stores = tells_stores; pasts = tells_pasts; all = tells_all; lists = tells_lists; late = tells_late }
