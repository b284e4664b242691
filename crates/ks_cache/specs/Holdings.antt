-- The two ways in which a task's store is kept.
use Rattle.ks_cache.specs.Cached.{map_of}
use Rattle.ks_cache.specs.Kept.{Kept, kept_plain}
use Rattle.ks_cache.specs.declared.task_store.Holding.{Holding}
use Rattle.ks_cache.specs.declared.task_store.Holding.TheVariants.{Plain, Cached}

abbrev pub kept_of : Holding → Kept
kept_of (Plain store) = kept_plain store
kept_of (Cached store) = record { whole = map_of (λ s. s) store; cached = store.cached; capacity = store.capacity }
