-- Which entries are left to the cluster's caller, who feeds it its records and drains it once all workers are done: what its own member is in the group, number 16, and the records of the source topics.
use Rattle.std.specs.Prelude.{ℕ, ◌==◌, Bool, true, false}
use Rattle.ks_history.specs.declared.journal.Request.{Request}
use Rattle.ks_history.specs.declared.journal.Request.TheVariants.{Produce, Init, Add, Append, SendOffsets, Decide, MarkNext, Join, Expire, Hold, Probe, Assign, Park, Unpark}
use Rattle.ks_history.specs.declared.journal.Entry.{Entry}

abbrev pub asks_as_caller : Request → Bool
asks_as_caller (Produce p rec) = true
asks_as_caller (Init w) = w == 16
asks_as_caller (Join w) = w == 16
asks_as_caller _ = false

-- a `produce`, and an `init` or a `join` of worker 16, which is the caller's own number
abbrev pub is_callers : Entry → Bool
is_callers entry = asks_as_caller entry.request
