use Rattle.std.proofs.Common.{◌≡◌, ◌++◌, ◌==◌}
use Rattle.std.specs.List.{filter, starts_with}
use Rattle.ks_store.specs.Rows.{short_rows}
use Rattle.ks_store.proofs.rows.short_under.Given as goal

-- the rows found and those of the rest are those of all
abbrev pub invariant-loop-key : goal.invariant-loop-key
invariant-loop-key l = l.found.items ++ filter (λ e. starts_with ◌==◌ e.0 l.front) (short_rows l.key-iterator) ≡ filter (λ e. starts_with ◌==◌ e.0 l.front) (short_rows l.rows.entries)
