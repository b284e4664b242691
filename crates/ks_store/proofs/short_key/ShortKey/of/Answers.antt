use Rattle.std.proofs.Common.{rules}
use Rattle.ks_store.proofs.Packing.{packed_key, packed_words}
use Rattle.ks_store.proofs.short_key.ShortKey.of.Goals as goal

pub invariant_of-result : goal.invariant_of-result
invariant_of-result c = packed_words c.args.bytes.now c.pad-all.result _ _ _ c.requires (search rules) c.pad-all.ensures c.word.ensures c.word-2.ensures c.word-3.ensures

pub returns : goal.returns
returns c = packed_key c.args.bytes.now c.pad-all.result _ _ _ c.requires (search rules) c.pad-all.ensures c.word.ensures c.word-2.ensures c.word-3.ensures
