use Rattle.ks_log.proofs.Cuts.{past_last-at}
use Rattle.ks_log.proofs.reading.past_last_in.Goals as goal

pub returns : goal.returns
returns c = past_last-at c.args.recs.now _ c.if-count-eq0.false
