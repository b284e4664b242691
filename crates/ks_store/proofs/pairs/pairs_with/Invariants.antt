use Rattle.std.proofs.Common.{◌≡◌, ◌++◌, ◌==◌}
use Rattle.std.specs.List.{filter, starts_with}
use Rattle.ks_store.specs.Pairs.{pairs_of}
use Rattle.ks_store.proofs.pairs.pairs_with.Given as goal

-- the pairs found and those of the rest are those of all
abbrev pub invariant-loop-key : goal.invariant-loop-key
invariant-loop-key l = l.found.items ++ filter (λ e. starts_with ◌==◌ e.0 l.front) (pairs_of l.key-iterator) ≡ filter (λ e. starts_with ◌==◌ e.0 l.front) (pairs_of l.pairs.entries)
