-- Reading what tasks say to one another and keep: the value that the bytes spell, all of them, or none.
use Rattle.std.specs.Prelude.{ℕ, zero, suc, ◌-◌, ◌%◌, List, [], ◌∷◌, length, Option, Some, None, Bool, true, false, ◌==◌, nat_le, if◌then◌else◌, option_map}
use Rattle.std.specs.Int.{w32, w64, w128, cast_signed}
use Rattle.ks_record.specs.Texts.{key_from}
use Rattle.ks_row.specs.Rows.{Member}
use Rattle.ks_row.specs.Reading.{◌>>=◌, number_at, int_at, bytes_at, row_from}
use Rattle.ks_wire.specs.Values.{SubscriptionValue}
use Rattle.ks_wire.specs.declared.values.Response.{Response}
use Rattle.ks_wire.specs.declared.values.Delta.{Delta}
use Rattle.ks_wire.specs.declared.values.Agg.{Agg}
use Rattle.ks_wire.specs.declared.values.Subscriber.{Subscriber}

-- the value, where no byte is left
abbrev pub whole : {A : Type 0} → A × List ℕ → Option A
whole x = if length x.1 == 0 then Some x.0 else None

-- a hash or none, as the flag says
unfoldable pub hash_at : ℕ → List ℕ → Option (Option ℕ × List ℕ)
hash_at flag bytes =
    if flag == 128 then Some (None, bytes)
    else (if flag == 0 then option_map (λ h. (Some h.0, h.1)) (number_at w128 bytes) else None)

-- a partition of at most 63, in all of the bytes
unfoldable pub part_from : List ℕ → Option ℕ
part_from bytes = do
  n ← number_at w32 bytes
  part ← whole n
  if nat_le part 63 then Some part else None

-- the left key, and of version 1 the partition in the last four bytes
unfoldable pub named_from : ℕ → List ℕ → Option (List ℕ × Option ℕ)
named_from zero bytes = option_map (λ k. (k, None)) (key_from bytes)
named_from (suc v) bytes = do
  front ← bytes_at (length bytes - 4) bytes
  key ← key_from front.0
  part ← part_from front.1
  Some (key, Some part)

-- the version is in the flag's lowest bit
unfoldable pub subscription_from : List ℕ → Option SubscriptionValue
subscription_from [] = None
subscription_from (flag ∷ []) = None
subscription_from (flag ∷ instruction ∷ rest) = do
  hash ← hash_at (flag - flag % 2) rest
  named ← named_from (flag % 2) hash.1
  if nat_le instruction 3 then Some (record { hash = hash.0; instruction = instruction; left = named.0; part = named.1 }) else None

-- no partition where no byte is left
unfoldable pub part_or_none : List ℕ → Option (Option ℕ)
part_or_none [] = Some None
part_or_none (b ∷ bytes) = option_map Some (part_from (b ∷ bytes))

unfoldable pub subscriber_from : List ℕ → Option Subscriber
subscriber_from bytes = do
  hash ← number_at w128 bytes
  part ← part_or_none hash.1
  Some (record { hash = hash.0; part = part })

-- no row where no byte is left
unfoldable pub right_from : List ℕ → Option (Option (List Member))
right_from [] = Some None
right_from (b ∷ bytes) = option_map Some (row_from (b ∷ bytes))

unfoldable pub response_from : List ℕ → Option Response
response_from [] = None
response_from (flag ∷ rest) = do
  hash ← hash_at flag rest
  right ← right_from hash.1
  Some (record { hash = hash.0; right = right })

unfoldable pub delta_from : List ℕ → Option Delta
delta_from [] = None
delta_from (zero ∷ rest) = do
  amount ← int_at rest
  whole (record { add = false; amount = amount.0 }, amount.1)
delta_from (suc zero ∷ rest) = do
  amount ← int_at rest
  whole (record { add = true; amount = amount.0 }, amount.1)
delta_from (suc (suc b) ∷ rest) = None

unfoldable pub agg_from : List ℕ → Option Agg
agg_from bytes = do
  members ← int_at bytes
  total ← int_at members.1
  whole (record { members = members.0; total = total.0 }, total.1)

-- a timestamp alone
unfoldable pub time_from : List ℕ → Option ℕ
time_from bytes = do
  t ← number_at w64 bytes
  whole t

-- a key behind its length
unfoldable pub long_key_at : List ℕ → Option (List ℕ × List ℕ)
long_key_at bytes = do
  n ← number_at w32 bytes
  front ← bytes_at n.0 n.1
  key ← key_from front.0
  Some (key, front.1)

-- the foreign key and the left key
unfoldable pub subscription_key_from : List ℕ → Option (List ℕ × List ℕ)
subscription_key_from bytes = do
  foreign ← long_key_at bytes
  left ← key_from foreign.1
  Some (foreign.0, left)

-- the key and the start of the window
unfoldable pub window_key_from : List ℕ → Option (List ℕ × ℕ)
window_key_from bytes = do
  key ← long_key_at bytes
  start ← number_at w64 key.1
  whole ((key.0, start.0), start.1)
