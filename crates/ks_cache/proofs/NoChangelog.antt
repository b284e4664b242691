-- Of a changelog that isn't there.
use Rattle.std.proofs.Common.{◌≡◌, ◌<◌, arith, ℕ, List, length, [], ◌∷◌, None, sym}
use Rattle.ks_def_runs.specs.FinMap as fin
use Rattle.ks_def_runs.specs.Bytes.{by_bytes}
use Rattle.ks_cache.specs.declared.changelogs.Changelog.{Changelog}
use Rattle.ks_cache.specs.Changelogs.{stores_in}

pub no_changelog : (ls : List Changelog) (n : ℕ) (key : List ℕ) → length ls < 1 → None ≡ fin.get (stores_in ls n) key
no_changelog [] n key lt = sym (fin.get-empty by_bytes key)
no_changelog (l ∷ ls) n key lt = absurd (omega arith)
