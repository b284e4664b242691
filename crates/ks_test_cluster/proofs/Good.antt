-- Any assignment is good at any time.
use Rattle.std.proofs.Common.{◌≡◌, ℕ, true, List, [], refl, append-nil}
use Rattle.ks_record.specs.declared.assignment.Assignment.{Assignment}
use Rattle.ks_history.specs.declared.journal.Entry.{Entry}
use Rattle.ks_history.specs.State.{Setup}
use Rattle.ks_history.specs.History.{at}
use Rattle.ks_cluster.specs.Placed.{IsGoodAt}

pub good_now : (setup : Setup) (journal : List Entry) (g : ℕ) (a : Assignment) → (at setup journal).generation ≡ g → IsGoodAt (λ members held ends b. true) setup journal g a
good_now setup journal g a stands = record { seen = journal; begins = ([], append-nil journal); generation = stands; good = refl }
