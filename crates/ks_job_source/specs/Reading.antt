-- A job as it is read: the reader with the items so far, and what is known when reading ends.
use Rattle.std.specs.Prelude.{◌≡◌, ℕ, List, Option, Some, None, IfSome, Result, Ok, Err, ⊤}
use Rattle.std.specs.declared.vec.Vec.{Vec}
use Rattle.std.specs.declared.alloc.Global.{Global}
use Rattle.std.specs.Io.KnownBytes.{Consumes}
use Rattle.ks_job.specs.Items.{item_views}
use Rattle.ks_job.specs.declared.judge.JobItem.{JobItem}
use Rattle.ks_job.specs.declared.reader.JobFault.{JobFault}
use Rattle.ks_job.specs.Reader.{Reader, Machine, so_far, whole}
use Rattle.ks_job_source.specs.declared.stop.JobStop.{JobStop}
use Rattle.ks_job_source.specs.declared.stop.JobStop.TheVariants.{BadLine}
use Rattle.ks_job_source.specs.Stops.{stop_of}

abbrev pub machine_of : Option Reader → List JobItem → Option Machine
machine_of None items = None
machine_of (Some r) items = Some record { reader = r; items = item_views items }

-- what a reader's answer says of its lines
abbrev pub answer_stop : Result ⊤ JobFault → Option JobStop
answer_stop (Ok u) = None
answer_stop (Err f) = Some (BadLine f.line f.kind)

-- where reading ends: all items, or why it stops
abbrev pub Ends : Machine → Result (Vec JobItem Global) JobStop → Type 0
Ends m (Ok items) = (stop_of m ≡ None) × (item_views items.items ≡ m.items)
Ends m (Err stop) = stop_of m ≡ Some stop

-- some bytes end so, and they are those that the source has, where it tells them
pub record Read (left : Option (List ℕ)) (r : Result (Vec JobItem Global) JobStop) : Type 0 where
  pub bytes : List ℕ
  pub known : IfSome left (λ b. b ≡ bytes)
  pub ends : Ends (whole bytes) r

-- the bytes that the source lost have no whole line that is faulty, and no topology that is refused
pub record TookNoFault (old new : Option (List ℕ)) : Type 0 where
  pub taken : List ℕ
  pub lost : Consumes old new taken
  pub unstopped : stop_of (so_far taken) ≡ None
