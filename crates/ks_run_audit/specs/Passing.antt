-- Bytes that are taken line by line, from a place to another. No public contract names these words.
use Rattle.std.specs.Prelude.{◌≡◌, ◌+◌, ℕ, List, [], ◌++◌, length}
use Rattle.ks_job_source.specs.Cutting.{HasNoEnd}
use Rattle.ks_audit_verdict.specs.Lines.{IsPlain, lines_text, Leads}

-- behind what had begun these bytes came: these lines were taken, counted from so many, and this has begun, before the bytes that are left
pub record Passing {P : Type 0} (takes : P → List ℕ → P → Type 0) (from to : P) (bytes rest begun left : List ℕ) (before after : ℕ) (lines : List (List ℕ)) : Type 0 where
  pub along : Leads takes from lines to
  pub counted : after ≡ before + length lines
  pub cut : begun ++ bytes ≡ lines_text lines ++ left ++ rest
  pub plain : IsPlain left

-- with none left
abbrev pub Passes : {P : Type 0} → (P → List ℕ → P → Type 0) → P → P → List ℕ → List ℕ → List ℕ → ℕ → ℕ → List (List ℕ) → Type 0
Passes takes from to bytes begun left before after lines = Passing takes from to bytes [] begun left before after lines

-- some lines of them were taken, and what follows is refused, by where it stands: behind so many bytes, at its place, with what it is
pub record Refuses {P : Type 0} (takes : P → List ℕ → P → Type 0) (why : ℕ → P → List ℕ → Type 0) (from : P) (at : ℕ) (bytes begun : List ℕ) (before after : ℕ) : Type 0 where
  pub lines : List (List ℕ)
  pub here : P
  pub along : Leads takes from lines here
  pub counted : after ≡ before + length lines
  pub rest : List ℕ
  pub cut : begun ++ bytes ≡ lines_text lines ++ rest
  pub is : why (at + length (lines_text lines)) here rest
