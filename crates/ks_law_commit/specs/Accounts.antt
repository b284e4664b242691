-- The account of a commit's requests: how many it made, and how many entries of its number stand in the journal since.
use Rattle.std.specs.Prelude.{◌≡◌, ◌≢◌, ◌⊎◌, ℕ, suc, ◌+◌, ◌≤◌, ◌==◌, Bool, true, false, if◌then◌else◌, List, [], ◌∷◌, ◌++◌}
use Rattle.ks_history.specs.declared.journal.Entry.{Entry}
use Rattle.ks_history.specs.declared.journal.Request.{Request}
use Rattle.ks_history.specs.declared.journal.Request.TheVariants.{Add, Append, SendOffsets, Decide, MarkNext}
use Rattle.ks_history.specs.Touched.{touches, touched}

-- the requests of a commit
abbrev pub is_of_commit : ℕ → Request → Bool
is_of_commit w (Add v e p) = v == w
is_of_commit w (Append v e number t p rs) = v == w
is_of_commit w (SendOffsets v e g t offsets order late) = v == w
is_of_commit w (Decide v e commit) = v == w
is_of_commit w (MarkNext v) = v == w
is_of_commit w _ = false

-- how many entries are such requests, accepted or refused
abbrev pub requests_of : ℕ → List Entry → ℕ
requests_of w [] = 0
requests_of w (entry ∷ entries) = if is_of_commit w entry.request then suc (requests_of w entries) else requests_of w entries

-- how many entries touch the worker's transaction
abbrev pub accepted_of : ℕ → List Entry → ℕ
accepted_of w [] = 0
accepted_of w (entry ∷ entries) = if touches w entry then suc (accepted_of w entries) else accepted_of w entries

-- behind the journal that the worker had seen stand these entries; it made so many requests, all accepted, and remembers `last`;
-- if that isn't the last place that touches, somebody else used its number
pub record IsAccount (w : ℕ) (journal more : List Entry) (made last : ℕ) : Type 0 where
  pub requests : made ≤ requests_of w more
  pub accepted : made ≤ accepted_of w more
  pub either : (touched w (journal ++ more) ≡ last) ⊎ (suc made ≤ accepted_of w more)

-- ---- the laws
abbrev pub AccountBegins : Type 0
AccountBegins = (w last : ℕ) (journal : List Entry) → touched w journal ≡ last → IsAccount w journal [] 0 last

abbrev pub AccountStays : Type 0
AccountStays = (w last made : ℕ) (journal more others : List Entry) →
    IsAccount w journal more made last → IsAccount w journal (more ++ others) made last

abbrev pub AccountGains : Type 0
AccountGains = (w last made : ℕ) (journal more : List Entry) (entry : Entry) →
    is_of_commit w entry.request ≡ true → touches w entry ≡ true → IsAccount w journal more made last →
    IsAccount w journal (more ++ entry ∷ []) (made + 1) (touched w (journal ++ (more ++ entry ∷ [])))

abbrev pub AccountEnds : Type 0
AccountEnds = (w last made : ℕ) (journal more : List Entry) → IsAccount w journal more made last →
    touched w (journal ++ more) ≢ last → suc made ≤ accepted_of w more

abbrev pub RefusedCounts : Type 0
RefusedCounts = (w made : ℕ) (more others : List Entry) (entry : Entry) → is_of_commit w entry.request ≡ true →
    made ≤ requests_of w more → made + 1 ≤ requests_of w (more ++ others ++ entry ∷ [])
