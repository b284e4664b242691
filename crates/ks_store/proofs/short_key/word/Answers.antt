use Rattle.std.proofs.Common.{arith}
use Rattle.ks_store.proofs.Packing.{word_read}
use Rattle.ks_store.proofs.short_key.word.Goals as goal

pub returns : goal.returns
returns c = word_read c.args.bytes.now _ c.args.at _ _ c.from_le_bytes.ensures c.in-Some.ensures.cases.0 (omega (arith, c.requires, c.told-bytes))
