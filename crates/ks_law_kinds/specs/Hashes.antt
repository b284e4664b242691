-- Hashes of rows.
use Rattle.std.specs.Prelude.{◌≡◌, ◌<◌, ◌^◌, ℕ, List}
use Rattle.ks_row.specs.Spelling.{spelling}
use Rattle.ks_hash.specs.Murmur3.{murmur3_of}
use Rattle.ks_expr.specs.Eval.{Row}
use Rattle.ks_def_tasks.specs.Messages.{Rules}
use Rattle.ks_law_topology.specs.Work.{FitsRules}

-- rules that hash a row's bytes by MurmurHash3 have hashes of 128 bits
abbrev pub MurmurFits : Type 0
MurmurFits = (rules : Rules) → ((row : Row) → rules.hash row ≡ murmur3_of (spelling row)) → FitsRules rules

-- so have rules that hash a row's bytes by a hash of 128 bits, as each that the program can be given is
abbrev pub HashesFit : Type 0
HashesFit = (hash : List ℕ → ℕ) → ((bytes : List ℕ) → hash bytes < 2 ^ 128) → (rules : Rules) → ((row : Row) → rules.hash row ≡ hash (spelling row)) → FitsRules rules
