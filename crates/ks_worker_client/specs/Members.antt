-- What a worker knows of its producer (KIP-98: one producer a number; its epoch, its transaction, its sequence numbers).
use Rattle.std.specs.Prelude.{◌≡◌, ◌≤◌, ℕ, None, List, []}
use Rattle.ks_record.specs.declared.record.PartId.{PartId}
use Rattle.ks_history.specs.declared.journal.Entry.{Entry}
use Rattle.ks_history.specs.State.{Setup}
use Rattle.ks_history.specs.History.{at}
use Rattle.ks_history.specs.Touched.{touched}
use Rattle.ks_commit.specs.Alone.{IsNumbered}
use Rattle.ks_law_sharing.specs.Tasks.{HasSeen}
use Rattle.ks_worker_client.specs.declared.member.Member.{Member}

-- the member's generation and the place `last` that its producer remembers are of the journal's past
abbrev pub MemberHasSeen : Setup → List Entry → Member → ℕ → Type 0
MemberHasSeen setup journal m last = HasSeen setup journal m.number m.generation last

-- the producer's epoch is of the past; while nobody else has used its number, nothing of it is undecided, and these are the numbers of
-- records that it has sent to each partition in its epoch
pub record IsProducer (setup : Setup) (journal : List Entry) (m : Member) (last : ℕ) (numbers : List (PartId × ℕ)) : Type 0 where
  pub past : m.epoch ≤ ((at setup journal).producer m.number).epoch
  pub idle : touched m.number journal ≡ last → ((at setup journal).producer m.number).undecided ≡ None
  pub numbered : touched m.number journal ≡ last → IsNumbered (at setup journal) m.number m.epoch numbers
