use Rattle.ks_expr.specs.Eval.{Row, same_bytes}
use Rattle.ks_query.specs.Streams.{Key}
use Rattle.ks_law_quiescence.specs.ForeignJoin.{Protocol, run_of}
use Rattle.ks_law_quiescence.proofs.OneKey.{Sound-run, stored_at_rest, result_at_rest, keys_decided}
use Rattle.ks_law_quiescence.proofs.joins.join_of_one_key_rests.Goals as goal

pub returns : goal.returns
returns c foreign_key hash part joined events none subscriptions responses =
    let join : Protocol Key Row Row Row = record { alike = same_bytes; foreign_key = foreign_key; hash = hash; part = part; joined = joined } in
    let st = run_of join events in
    let sound = Sound-run join keys_decided events none in
    record {
      stored = stored_at_rest join keys_decided st sound subscriptions;
      result = result_at_rest join keys_decided st sound subscriptions responses;
    }
