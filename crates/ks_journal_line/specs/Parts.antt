-- What a part of a request or of a record tells, for the functions that read these parts.
use Rattle.std.specs.Prelude.{List, ℕ, codes, if◌then◌else◌, Option, None}
use Rattle.ks_row.specs.Reading.{◌>>=◌}
use Rattle.serde_json.specs.Data.{Items}
use Rattle.ks_record.specs.Records.{Record as Rec}
use Rattle.ks_history.specs.declared.journal.Request.{Request}
use Rattle.ks_history.specs.declared.journal.Request.TheVariants.{Join, Expire, Park, Unpark}
use Rattle.ks_journal.specs.Reading.{Reader, first, whole_in, at_end, same_text, of_worker_at, hold_at, probe_at, assign_at, of_instance_at}

-- the record of this key and value, whose time is all that is left
abbrev pub timed_rec : Option (List ℕ) → Option (List ℕ) → Items → Option Rec
timed_rec key value ds = do
  ts ← first whole_in ds
  at_end (record { key = key; value = value; ts = ts.0 }, ts.1)

-- the request with a name that a request of the group or of an instance has
abbrev pub group_request_at : List ℕ → Reader Request
group_request_at name ds =
    if same_text name (codes "join") then of_worker_at Join ds
    else if same_text name (codes "expire") then of_worker_at Expire ds
    else if same_text name (codes "hold") then hold_at ds
    else if same_text name (codes "probe") then probe_at ds
    else if same_text name (codes "assign") then assign_at ds
    else if same_text name (codes "park") then of_instance_at Park ds
    else if same_text name (codes "unpark") then of_instance_at Unpark ds
    else None
