-- What the store of the right side keeps is the task machine's subscription store, read from the same bytes.
use Rattle.std.specs.Prelude.{◌≡◌, ℕ, true}
use Rattle.ks_record.specs.Texts.{IsKey}
use Rattle.ks_def_runs.specs.FinMap as fin
use Rattle.ks_plan.specs.Plan.{Plan}
use Rattle.ks_plan.specs.declared.node.Topic.TheVariants.{HashChangelog}
use Rattle.ks_plan.specs.Layout.{number_of}
use Rattle.ks_query.specs.Streams.{Key}
use Rattle.ks_def_tasks.specs.Bytes.{ByteStores, is_own, hashes_from}
use Rattle.ks_def_tasks.specs.Laws.{AreBytes}
use Rattle.ks_def_lookups.specs.Kept.{kept_under}

-- of a join's tasks, whose store has bytes as keys: what is kept under a key is what the machine has at it, in order
abbrev pub KeptIsDecoded : Type 0
KeptIsDecoded = (p : Plan) (sub : ℕ) (stores : ByteStores) (n : ℕ) → is_own p sub (HashChangelog n) ≡ true → let m = stores (number_of p (HashChangelog n)) in
    AreBytes (fin.entries m) → (foreign : Key) → IsKey foreign → kept_under foreign m ≡ fin.entries (hashes_from p sub stores n foreign)
