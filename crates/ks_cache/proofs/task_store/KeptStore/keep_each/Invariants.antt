use Rattle.std.proofs.Common.{◌≡◌, take}
use Rattle.ks_store.specs.Restored.{records_of}
use Rattle.ks_cache.specs.Kept.{kept_after}
use Rattle.ks_cache.proofs.task_store.KeptStore.keep_each.Given as goal

-- the first records are taken
abbrev pub invariant-loop-rec : goal.invariant-loop-rec
invariant-loop-rec l = l.self ≡ kept_after l.fn.self (take l.rec-index (records_of l.recs))
