-- The one spelling of what tasks say to one another and keep.
-- A subscription and a response have the fields of Kafka Streams' `SubscriptionWrapper` and `SubscriptionResponseWrapper`
-- (KIP-213); the layout is this project's own.
use Rattle.std.specs.Prelude.{◌≡◌, ℕ, ◌+◌, ◌<◌, ◌≤◌, ◌^◌, List, [], ◌∷◌, ◌++◌, length, Option, Some, None, IfSome, Bool, if◌then◌else◌}
use Rattle.std.specs.Int.{w32, w64, w128, to_be_bytes}
use Rattle.std.specs.Int.RustNames.{FitsSigned}
use Rattle.ks_record.specs.Texts.{IsKey}
use Rattle.ks_row.specs.Rows.{Member}
use Rattle.ks_row.specs.Spelling.{spelling, int_bytes, FitsRow}
use Rattle.ks_wire.specs.Values.{SubscriptionValue, IsPart}
use Rattle.ks_wire.specs.declared.values.Response.{Response}
use Rattle.ks_wire.specs.declared.values.Delta.{Delta}
use Rattle.ks_wire.specs.declared.values.Agg.{Agg}
use Rattle.ks_wire.specs.declared.values.Subscriber.{Subscriber}

-- the top bit is set where there is no hash
abbrev pub hash_flag : Option ℕ → ℕ
hash_flag None = 128
hash_flag (Some h) = 0

abbrev pub hash_bytes : ℕ → List ℕ
hash_bytes h = to_be_bytes w128 h

abbrev pub hash_or_nothing : Option ℕ → List ℕ
hash_or_nothing None = []
hash_or_nothing (Some h) = hash_bytes h

-- version 1 names a partition, version 0 doesn't
abbrev pub version_of : Option ℕ → ℕ
version_of None = 0
version_of (Some i) = 1

abbrev pub part_or_nothing : Option ℕ → List ℕ
part_or_nothing None = []
part_or_nothing (Some i) = to_be_bytes w32 i

-- the flag with the version, the instruction, the hash, the left key and the partition
unfoldable pub subscription_bytes : SubscriptionValue → List ℕ
subscription_bytes s = (hash_flag s.hash + version_of s.part) ∷ s.instruction ∷ hash_or_nothing s.hash ++ s.left ++ part_or_nothing s.part

-- what a subscription store keeps at a foreign key and a left key
unfoldable pub subscriber_bytes : Subscriber → List ℕ
subscriber_bytes s = hash_bytes s.hash ++ part_or_nothing s.part

abbrev pub row_or_nothing : Option (List Member) → List ℕ
row_or_nothing None = []
row_or_nothing (Some row) = spelling row

-- the flag, whose version stays 0, the hash and the right row
unfoldable pub response_bytes : Response → List ℕ
response_bytes r = hash_flag r.hash ∷ hash_or_nothing r.hash ++ row_or_nothing r.right

-- 1 to add, 0 to subtract, and the amount
unfoldable pub delta_bytes : Delta → List ℕ
delta_bytes d = (if d.add then 1 else 0) ∷ int_bytes d.amount

unfoldable pub agg_bytes : Agg → List ℕ
agg_bytes a = int_bytes a.members ++ int_bytes a.total

-- a key behind its length
abbrev pub long_key : List ℕ → List ℕ
long_key k = to_be_bytes w32 (length k) ++ k

-- where the store of a foreign-key join keeps the subscriber of a left key at a foreign key
unfoldable pub subscription_key : List ℕ → List ℕ → List ℕ
subscription_key foreign left = long_key foreign ++ left

-- where a windowed count keeps the count of a key in the window that starts at start
unfoldable pub window_key : List ℕ → ℕ → List ℕ
window_key key start = long_key key ++ to_be_bytes w64 start

-- where a windowed count keeps the greatest timestamp
abbrev pub time_key : List ℕ
time_key = 0x54 ∷ []

abbrev pub time_bytes : ℕ → List ℕ
time_bytes t = to_be_bytes w64 t

-- ---- what has a spelling

abbrev pub FitsHash : Option ℕ → Type 0
FitsHash hash = IfSome hash (λ h. h < 2 ^ 128)

pub record FitsSubscription (s : SubscriptionValue) : Type 0 where
  pub hash : FitsHash s.hash
  pub instruction : s.instruction ≤ 3
  pub left : IsKey s.left
  pub part : IsPart s.part

pub record FitsSubscriber (s : Subscriber) : Type 0 where
  pub hash : s.hash < 2 ^ 128
  pub part : IsPart s.part

pub record FitsResponse (r : Response) : Type 0 where
  pub hash : FitsHash r.hash
  pub right : IfSome r.right FitsRow

abbrev pub FitsDelta : Delta → Type 0
FitsDelta d = FitsSigned w64 d.amount

pub record FitsAgg (a : Agg) : Type 0 where
  pub members : FitsSigned w64 a.members
  pub total : FitsSigned w64 a.total

-- a foreign key and a left key
abbrev pub FitsKeys : List ℕ × List ℕ → Type 0
FitsKeys p = IsKey p.0 × IsKey p.1

-- a key and the start of a window
abbrev pub FitsWindow : List ℕ × ℕ → Type 0
FitsWindow p = IsKey p.0 × (p.1 < 2 ^ 64)
