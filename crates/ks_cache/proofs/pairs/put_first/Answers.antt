use Rattle.std.proofs.Common.{ap, ◌∙◌}
use Rattle.ks_store.specs.Pairs.{pairs_of}
use Rattle.ks_cache.proofs.Entries.{Held, put_is}
use Rattle.ks_cache.proofs.pairs.put_first.Goals as goal

pub returns-in-Ok-clause-ok : goal.returns-in-Ok-clause-ok
returns-in-Ok-clause-ok c =
    ap (λ (k : Held). pairs_of k.entries) c.in-Ok.ensures.entries
    ∙ put_is c.args.cache.now c.args.key c.args.value c.len-len.ensures.valid.0 c.len-len.ensures.valid.1 c.len-len.ensures.valid.2
