use Rattle.std.proofs.Common.{◌≡◌, ◌++◌, ◌==◌}
use Rattle.std.specs.List.{filter, starts_with}
use Rattle.ks_store.specs.Rows.{long_rows}
use Rattle.ks_store.proofs.rows.long_under.Given as goal

-- the rows found and those of the rest are those of all
abbrev pub invariant-loop-key : goal.invariant-loop-key
invariant-loop-key l = l.all.items ++ filter (λ e. starts_with ◌==◌ e.0 l.front) (long_rows l.key-iterator) ≡ l.fn.found.items ++ filter (λ e. starts_with ◌==◌ e.0 l.front) (long_rows l.rows.entries)
