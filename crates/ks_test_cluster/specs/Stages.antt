-- A cluster at each stage of the history of one commit: its requests are the first ones of that history.
use Rattle.std.specs.Prelude.{◌≡◌, ℕ, List, [], ◌∷◌, take}
use Rattle.ks_record.specs.Records.{Record as Rec}
use Rattle.ks_history.specs.declared.journal.Entry.{Entry}
use Rattle.ks_history.specs.declared.journal.Request.{Request}
use Rattle.ks_cluster.specs.View.{ClusterView}
use Rattle.ks_law_exactly_once.specs.Example.{setup, one_commit}

abbrev pub requests : List Entry → List Request
requests [] = []
requests (entry ∷ entries) = entry.request ∷ requests entries

abbrev pub Stands : {W : Type 0} → ℕ → Rec → ClusterView W → Type 0
Stands n rec c = (c.counts ≡ setup.counts) × (c.tasks ≡ setup.tasks) × (requests c.journal ≡ requests (take n (one_commit rec)))
