use Rattle.std.proofs.Common.{ap, ◌∙◌}
use Rattle.ks_store.specs.Pairs.{pairs_of}
use Rattle.ks_cache.proofs.Entries.{Held, removed}
use Rattle.ks_cache.proofs.pairs.take_out.Goals as goal

pub returns-clause-pairs : goal.returns-clause-pairs
returns-clause-pairs c =
    ap (λ (k : Held). pairs_of k.entries) c.pop.ensures.entries ∙ removed c.args.key.now c.args.cache.now.entries c.len-len.ensures.valid.0
