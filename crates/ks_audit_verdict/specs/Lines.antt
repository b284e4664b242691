-- Bytes as lines, each with its LF behind it.
use Rattle.std.specs.Prelude.{◌≡◌, ◌+◌, ◌≤◌, ℕ, List, [], ◌∷◌, ◌++◌, length}
use Rattle.std.specs.List.{flat_map}
use Rattle.ks_job_source.specs.Cutting.{HasNoEnd}

-- the bytes of a line without its end, of which it has at most 67,108,864
abbrev pub IsPlain : List ℕ → Type 0
IsPlain line = HasNoEnd line × (length line ≤ 67108864)

abbrev pub ended : List ℕ → List ℕ
ended line = line ++ 10 ∷ []

abbrev pub lines_text : List (List ℕ) → List ℕ
lines_text lines = flat_map ended lines

-- each of these is one
abbrev pub ArePlain : List (List ℕ) → Type 0
ArePlain [] = Unit {0}
ArePlain (line ∷ lines) = IsPlain line × ArePlain lines

-- these lines stand one after another from a place on, each by this rule, and lead here
abbrev pub Leads : {P : Type 0} → (P → List ℕ → P → Type 0) → P → List (List ℕ) → P → Type 0
Leads takes place [] here = here ≡ place
Leads takes place (line ∷ lines) here = IsPlain line × ((next : _) × takes place line next × Leads takes next lines here)

-- behind so many bytes no length is passed: each line of these has its end and at most 67,108,864 bytes, the input 536,870,912
pub record IsWithinMost (before : ℕ) (text : List ℕ) : Type 0 where
  pub lines : List (List ℕ)
  pub plain : ArePlain lines
  pub cut : text ≡ lines_text lines
  pub most : before + length text ≤ 536870912
