use Rattle.std.proofs.Common.{ap}
use Rattle.ks_store.specs.Pairs.{pairs_of}
use Rattle.ks_store.proofs.Fronted.{both_put}
use Rattle.ks_store.proofs.groups.both_keys.Goals as goal

pub returns : goal.returns
returns c =
    both_put c.args.one.now c.args.other.items c.in_ok-key.key.items c.new.result.items c.new-2.result.items
    (pairs_of c.new-pairs.result.entries) (pairs_of c.set_at.new.pairs.entries) (pairs_of c.set_at-2.new.pairs.entries)
    (ap pairs_of c.new-pairs.ensures.empty) c.in_ok-set_at.ensures.ok c.in_ok-set_at-2.ensures.ok c.in_ok-key.ensures.items c.new.ensures.items c.new-2.ensures.items
