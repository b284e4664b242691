use Rattle.ks_wire.proofs.Wired.{subscription_codec, response_codec, delta_codec, agg_codec, subscriber_codec, time_codec, subscription_key_codec, window_key_codec}
use Rattle.ks_wire.proofs.codec.reading_undoes_writing.Goals as goal

pub returns : goal.returns
returns c = record {
  subscription = subscription_codec;
  response = response_codec;
  delta = delta_codec;
  agg = agg_codec;
  subscriber = subscriber_codec;
  time = time_codec;
  subscription_keys = subscription_key_codec;
  window_keys = window_key_codec;
}
