-- What a finite map answers to calls, and what they leave of it.
use Rattle.std.specs.Prelude.{List, [], ◌∷◌}
use Rattle.ks_def_runs.specs.Bytes.{Store}
use Rattle.ks_def_runs.specs.FinMap as map
use Rattle.ks_def_runs.specs.Prefixes.{pairs_under}
use Rattle.ks_store.specs.declared.calls.StoreCall.{StoreCall}
use Rattle.ks_store.specs.declared.calls.StoreCall.TheVariants.{Put, Delete, Get, Prefix}
use Rattle.ks_store.specs.declared.calls.StoreReply.{StoreReply}
use Rattle.ks_store.specs.declared.calls.StoreReply.TheVariants.{Done, Found, Pairs}

-- the map after a call
abbrev pub store_after : Store → StoreCall → Store
store_after m (Put key value) = map.insert m key value
store_after m (Delete key) = map.remove m key
store_after m (Get key) = m
store_after m (Prefix front) = m

-- what a map answers
abbrev pub reply_to : Store → StoreCall → StoreReply
reply_to m (Put key value) = Done
reply_to m (Delete key) = Done
reply_to m (Get key) = Found (map.get m key)
reply_to m (Prefix front) = Pairs (pairs_under front m)

-- the map after calls, one after another
abbrev pub after_calls : Store → List StoreCall → Store
after_calls m [] = m
after_calls m (c ∷ cs) = after_calls (store_after m c) cs

-- an answer to each, of the map that those before it leave
abbrev pub replies_to : Store → List StoreCall → List StoreReply
replies_to m [] = []
replies_to m (c ∷ cs) = reply_to m c ∷ replies_to (store_after m c) cs
