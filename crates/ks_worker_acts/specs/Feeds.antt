-- What an act of feeding does to a worker's replicas (KIP-441: standby replicas).
use Rattle.std.specs.Prelude.{◌≡◌, ℕ, zero, suc, List, [], ◌∷◌, ◌++◌}
use Rattle.std.specs.List.{AllZip}
use Rattle.ks_history.specs.declared.journal.Entry.{Entry}
use Rattle.ks_history.specs.declared.journal.Request.{Request}
use Rattle.ks_history.specs.declared.journal.Request.TheVariants.{MarkNext}
use Rattle.ks_history.specs.State.{Setup}
use Rattle.ks_law_commit.specs.Moves.{IsFed}
use Rattle.ks_standby.specs.declared.replica.Replica.{Replica}
use Rattle.ks_standby.specs.Replicas.{replica_view, changelogs_of}

-- it was fed from all its changelogs since the journal was `h`: it has its name, no position fell, and each rose or had nothing stable
-- left
abbrev pub IsFedOn : Setup → List Entry → Replica → Replica → Type 0
IsFedOn setup h old new = IsFed setup h (changelogs_of old) (replica_view old) (replica_view new)

abbrev pub AreFed : Setup → List Entry → List Replica → List Replica → Type 0
AreFed setup h old new = AllZip (IsFedOn setup h) old new

-- the one at this place was, and the others are the same
abbrev pub IsFedAt : Setup → List Entry → ℕ → List Replica → List Replica → Type 0
IsFedAt setup h index [] news = ⊥
IsFedAt setup h index (a ∷ olds) [] = ⊥
IsFedAt setup h zero (a ∷ olds) (b ∷ news) = IsFedOn setup h a b × (news ≡ olds)
IsFedAt setup h (suc index) (a ∷ olds) (b ∷ news) = (b ≡ a) × IsFedAt setup h index olds news

-- the first waiting marker of each of so many producers, one after another
abbrev pub marks_to : ℕ → List Request
marks_to zero = []
marks_to (suc w) = marks_to w ++ MarkNext w ∷ []

-- so of all producers, where some markers wait; else none
abbrev pub marks_of : ℕ → List Request
marks_of zero = []
marks_of (suc n) = marks_to 17
