-- Bytes, and what spells something.
use Rattle.std.proofs.Common.{◌≡◌, ℕ, zero, suc, ◌+◌, ◌^◌, ◌<◌, ◌≤◌, Bool, true, false, cond, ltb, List, [], ◌∷◌, ◌++◌, length, Option, Some, None, refl, sym, ap, subst, arith, ⊎_elim}
use Rattle.std.specs.Prelude.{◌/◌, ◌%◌, ◌==◌, nat_le, nat_lt, is_some, IfSome}
use Rattle.std.specs.List.{flat_map, AllByRecursion}
use Rattle.std.specs.Int.{Width, w32, w64, w128, to_be_bytes, bytes_high_first, byte_at, byte_len, cast_unsigned}
use Rattle.std.specs.Str.{IsUtf8}
use Rattle.std.proofs.Math.Utf8.{encode, encodes, scalar, scalars, scalar_cases}
use Rattle.std.proofs.lemmas.Bool.{and_parts, and_from, lt-ltb, ltb-true, leb-true, true≢false}
use Rattle.std.proofs.lemmas.List.Concat.{flat_map-cons}
use Rattle.ks_record.specs.Texts.{IsKey, key_from}
use Rattle.ks_row.specs.Rows.{Member, is_row, rises, names_of}
use Rattle.ks_record.specs.Bytes.{IsBytes}
use Rattle.ks_row.specs.Spelling.{int_bytes, field_bytes, member_bytes, spelling, FitsField, FitsMember, FitsRow}
use Rattle.ks_row.specs.Reading.{row_from}
use Rattle.ks_row.specs.declared.row.Field.{Field}
use Rattle.ks_row.specs.declared.row.Field.TheVariants.{Int, Text}
use Rattle.ks_row.proofs.Spelled.{key_again, row_codec}
use Rattle.ks_wire.specs.Values.{SubscriptionValue}
use Rattle.ks_wire.specs.declared.values.Response.{Response}
use Rattle.ks_wire.specs.declared.values.Delta.{Delta}
use Rattle.ks_wire.specs.declared.values.Agg.{Agg}
use Rattle.ks_wire.specs.declared.values.Subscriber.{Subscriber}
use Rattle.ks_wire.specs.Spelling.{hash_flag, version_of, part_or_nothing, hash_or_nothing, hash_bytes, time_bytes, subscription_bytes, subscriber_bytes, row_or_nothing, response_bytes, delta_bytes, agg_bytes, long_key, subscription_key, window_key, FitsSubscription, FitsSubscriber, FitsResponse, FitsDelta, FitsAgg}
use Rattle.ks_wire.specs.Reading.{subscription_from, response_from, delta_from, agg_from, subscriber_from, time_from, subscription_key_from, window_key_from}
use Rattle.ks_wire.proofs.Wired.{subscription_codec, response_codec, delta_codec, agg_codec, subscriber_codec, time_codec, subscription_key_codec, window_key_codec}
use Rattle.ks_law_kinds.specs.OfKind.{are_bytes, spells}

pub are_bytes-append : (xs ys : List ℕ) → are_bytes xs ≡ true → are_bytes ys ≡ true → are_bytes (xs ++ ys) ≡ true
are_bytes-append [] ys a b = b
are_bytes-append (x ∷ xs) ys a b =
    let h = and_parts (nat_lt x 256) (are_bytes xs) a in
    and_from (nat_lt x 256) (are_bytes (xs ++ ys)) h.0 (are_bytes-append xs ys h.1 b)

pub IsBytes-of : (xs : List ℕ) → are_bytes xs ≡ true → IsBytes xs
IsBytes-of [] h i = omega arith
IsBytes-of (x ∷ xs) h zero = ltb-true x 256 (and_parts (nat_lt x 256) (are_bytes xs) h).0
IsBytes-of (x ∷ xs) h (suc i) = IsBytes-of xs (and_parts (nat_lt x 256) (are_bytes xs) h).1 i

below : (i n : ℕ) → byte_at i n < 256
below zero n = omega arith
below (suc i) n = omega arith

high_bytes : (k n : ℕ) → are_bytes (bytes_high_first k n) ≡ true
high_bytes zero n = refl
high_bytes (suc k) n = and_from _ _ (lt-ltb (byte_at k n) 256 (below k n)) (high_bytes k n)

pub number_bytes : (w : Width) (n : ℕ) → are_bytes (to_be_bytes w n) ≡ true
number_bytes w n = high_bytes (byte_len w) n

-- ---- texts
encode_bytes : (c : ℕ) → scalar c ≡ true → are_bytes (encode c) ≡ true
unfolding encode
encode_bytes c h = by (ltb c 128) (ltb c 2048) (ltb c 65536) refl refl refl
  where
    small : (x : ℕ) → x < 256 → nat_lt x 256 ≡ true
    small x lt = lt-ltb x 256 lt

    limit : c < 1114112
    limit = ⊎_elim (λ (lt : c < 55296). omega arith) (λ (r : (57344 ≤ c) × (c < 1114112)). r.1) (scalar_cases c h)

    by : (x y z : Bool) → ltb c 128 ≡ x → ltb c 2048 ≡ y → ltb c 65536 ≡ z →
        are_bytes (cond x (c ∷ []) (cond y ((192 + c / 64) ∷ (128 + c % 64) ∷ []) (cond z ((224 + c / 4096) ∷ (128 + c / 64 % 64) ∷ (128 + c % 64) ∷ []) ((240 + c / 262144) ∷ (128 + c / 4096 % 64) ∷ (128 + c / 64 % 64) ∷ (128 + c % 64) ∷ [])))) ≡ true
    by true y z e f g = and_from (nat_lt c 256) true (small c (omega (arith, ltb-true c 128 e))) refl
    by false true z e f g = and_from _ _ (small (192 + c / 64) (omega (arith, ltb-true c 2048 f))) (and_from _ _ (small (128 + c % 64) (omega arith)) refl)
    by false false true e f g = and_from _ _ (small (224 + c / 4096) (omega (arith, ltb-true c 65536 g)))
        (and_from _ _ (small (128 + c / 64 % 64) (omega arith)) (and_from _ _ (small (128 + c % 64) (omega arith)) refl))
    by false false false e f g = and_from _ _ (small (240 + c / 262144) (omega (arith, limit)))
        (and_from _ _ (small (128 + c / 4096 % 64) (omega arith)) (and_from _ _ (small (128 + c / 64 % 64) (omega arith)) (and_from _ _ (small (128 + c % 64) (omega arith)) refl)))

encodes_bytes : (cs : List ℕ) → scalars cs ≡ true → are_bytes (encodes cs) ≡ true
encodes_bytes [] h = refl
encodes_bytes (c ∷ cs) h = let a = and_parts (scalar c) (scalars cs) h in are_bytes-append (encode c) (encodes cs) (encode_bytes c a.0) (encodes_bytes cs a.1)

pub utf8_bytes : (xs : List ℕ) → IsUtf8 xs → are_bytes xs ≡ true
utf8_bytes xs u = subst (λ l. are_bytes l ≡ true) u.1.1 (encodes_bytes u.0 u.1.0)

-- ---- what is spelled is read
module _ {A : Type 0} (read : List ℕ → Option A) where
  pub spelled : (bytes : List ℕ) (v : A) → are_bytes bytes ≡ true → read bytes ≡ Some v → spells read bytes ≡ true
  spelled bytes v b e = and_from (are_bytes bytes) (is_some (read bytes)) b (ap is_some e)

pub spells_key : (k : List ℕ) → IsKey k → spells key_from k ≡ true
spells_key k h = spelled key_from k k (utf8_bytes k h.utf8) (key_again k h)

one_byte : (b : ℕ) (bs : List ℕ) → b < 256 → are_bytes bs ≡ true → are_bytes (b ∷ bs) ≡ true
one_byte b bs lt h = and_from (nat_lt b 256) (are_bytes bs) (lt-ltb b 256 lt) h

-- ---- rows
few : (ms : List Member) → is_row ms ≡ true → length ms ≤ 64
few ms h = by (length ms == 0) (nat_le (length ms) 64) refl h
  where
    by : (a b : Bool) → nat_le (length ms) 64 ≡ b → cond a false (cond b (rises (names_of ms)) false) ≡ true → length ms ≤ 64
    by true b e h = absurd (true≢false (sym h))
    by false true e h = leb-true (length ms) 64 e
    by false false e h = absurd (true≢false (sym h))

of_field : (f : Field) → FitsField f → are_bytes (field_bytes f) ≡ true
of_field (Int z) h = one_byte 0 (int_bytes z) (omega arith) (number_bytes w64 (cast_unsigned w64 z))
of_field (Text s) h = one_byte 1 (to_be_bytes w32 (length s) ++ s) (omega arith) (are_bytes-append (to_be_bytes w32 (length s)) s (number_bytes w32 (length s)) (utf8_bytes s h.utf8))

of_member : (m : Member) → FitsMember m → are_bytes (member_bytes m) ≡ true
unfolding member_bytes
of_member m h = are_bytes-append (length m.0 ∷ m.0) (field_bytes m.1)
    (one_byte (length m.0) m.0 (omega (arith, h.name.most)) (utf8_bytes m.0 h.name.utf8)) (of_field m.1 h.field)

of_members : (ms : List Member) → AllByRecursion FitsMember ms → are_bytes (flat_map member_bytes ms) ≡ true
of_members [] h = refl
of_members (m ∷ ms) h = subst (λ l. are_bytes l ≡ true) (sym (flat_map-cons member_bytes m ms))
    (are_bytes-append (member_bytes m) (flat_map member_bytes ms) (of_member m h.0) (of_members ms h.1))

row_bytes : (row : List Member) → FitsRow row → are_bytes (spelling row) ≡ true
unfolding spelling
row_bytes row h = one_byte (length row) (flat_map member_bytes row) (omega (arith, few row h.row)) (of_members row h.members)

pub spells_row : (row : List Member) → FitsRow row → spells row_from (spelling row) ≡ true
spells_row row h = spelled row_from (spelling row) row (row_bytes row h) (row_codec.again row h)

-- ---- messages and stored values
flag : (h part : Option ℕ) → hash_flag h + version_of part < 256
flag None None = omega arith
flag None (Some i) = omega arith
flag (Some h) None = omega arith
flag (Some h) (Some i) = omega arith

no_version : (h : Option ℕ) → hash_flag h < 256
no_version None = omega arith
no_version (Some h) = omega arith

part_or : (part : Option ℕ) → are_bytes (part_or_nothing part) ≡ true
part_or None = refl
part_or (Some i) = number_bytes w32 i

hash_or : (h : Option ℕ) → are_bytes (hash_or_nothing h) ≡ true
hash_or None = refl
hash_or (Some h) = number_bytes w128 h

row_or : (row : Option (List Member)) → IfSome row FitsRow → are_bytes (row_or_nothing row) ≡ true
row_or None h = refl
row_or (Some row) h = row_bytes row h

subscription_are : (s : SubscriptionValue) → FitsSubscription s → are_bytes (subscription_bytes s) ≡ true
unfolding subscription_bytes
subscription_are s h = one_byte (hash_flag s.hash + version_of s.part) (s.instruction ∷ (hash_or_nothing s.hash ++ s.left ++ part_or_nothing s.part)) (flag s.hash s.part)
    (one_byte s.instruction (hash_or_nothing s.hash ++ s.left ++ part_or_nothing s.part) (omega (arith, h.instruction))
    (are_bytes-append (hash_or_nothing s.hash ++ s.left) (part_or_nothing s.part) (are_bytes-append (hash_or_nothing s.hash) s.left (hash_or s.hash) (utf8_bytes s.left h.left.utf8)) (part_or s.part)))

pub spells_subscription : (s : SubscriptionValue) → FitsSubscription s → spells subscription_from (subscription_bytes s) ≡ true
spells_subscription s h = spelled subscription_from (subscription_bytes s) s (subscription_are s h) (subscription_codec.again s h)

response_are : (r : Response) → FitsResponse r → are_bytes (response_bytes r) ≡ true
unfolding response_bytes
response_are r h = one_byte (hash_flag r.hash) (hash_or_nothing r.hash ++ row_or_nothing r.right) (no_version r.hash) (are_bytes-append (hash_or_nothing r.hash) (row_or_nothing r.right) (hash_or r.hash) (row_or r.right h.right))

pub spells_response : (r : Response) → FitsResponse r → spells response_from (response_bytes r) ≡ true
spells_response r h = spelled response_from (response_bytes r) r (response_are r h) (response_codec.again r h)

delta_are : (d : Delta) → are_bytes (delta_bytes d) ≡ true
unfolding delta_bytes
delta_are d = by d.add
  where
    by : (b : Bool) → are_bytes (cond b 1 0 ∷ int_bytes d.amount) ≡ true
    by true = one_byte 1 (int_bytes d.amount) (omega arith) (number_bytes w64 (cast_unsigned w64 d.amount))
    by false = one_byte 0 (int_bytes d.amount) (omega arith) (number_bytes w64 (cast_unsigned w64 d.amount))

pub spells_delta : (d : Delta) → FitsDelta d → spells delta_from (delta_bytes d) ≡ true
spells_delta d h = spelled delta_from (delta_bytes d) d (delta_are d) (delta_codec.again d h)

agg_are : (a : Agg) → are_bytes (agg_bytes a) ≡ true
unfolding agg_bytes
agg_are a = are_bytes-append (int_bytes a.members) (int_bytes a.total) (number_bytes w64 (cast_unsigned w64 a.members)) (number_bytes w64 (cast_unsigned w64 a.total))

pub spells_agg : (a : Agg) → FitsAgg a → spells agg_from (agg_bytes a) ≡ true
spells_agg a h = spelled agg_from (agg_bytes a) a (agg_are a) (agg_codec.again a h)

subscriber_are : (s : Subscriber) → are_bytes (subscriber_bytes s) ≡ true
unfolding subscriber_bytes
subscriber_are s = are_bytes-append (hash_bytes s.hash) (part_or_nothing s.part) (number_bytes w128 s.hash) (part_or s.part)

pub spells_subscriber : (s : Subscriber) → FitsSubscriber s → spells subscriber_from (subscriber_bytes s) ≡ true
spells_subscriber s h = spelled subscriber_from (subscriber_bytes s) s (subscriber_are s) (subscriber_codec.again s h)

pub spells_time : (t : ℕ) → t < 2 ^ 64 → spells time_from (time_bytes t) ≡ true
spells_time t lt = spelled time_from (time_bytes t) t (number_bytes w64 t) (time_codec.again t lt)

-- ---- keys of stores
long_are : (k : List ℕ) → IsKey k → are_bytes (long_key k) ≡ true
long_are k h = are_bytes-append (to_be_bytes w32 (length k)) k (number_bytes w32 (length k)) (utf8_bytes k h.utf8)

keys_are : (b p : List ℕ) → IsKey b → IsKey p → are_bytes (subscription_key b p) ≡ true
unfolding subscription_key
keys_are b p h g = are_bytes-append (long_key b) p (long_are b h) (utf8_bytes p g.utf8)

pub spells_keys : (b p : List ℕ) → IsKey b → IsKey p → spells subscription_key_from (subscription_key b p) ≡ true
spells_keys b p h g = spelled subscription_key_from (subscription_key b p) (b, p) (keys_are b p h g) (subscription_key_codec.again (b, p) (h, g))

window_are : (k : List ℕ) (start : ℕ) → IsKey k → are_bytes (window_key k start) ≡ true
unfolding window_key
window_are k start h = are_bytes-append (long_key k) (to_be_bytes w64 start) (long_are k h) (number_bytes w64 start)

pub spells_window : (k : List ℕ) (start : ℕ) → IsKey k → start < 2 ^ 64 → spells window_key_from (window_key k start) ≡ true
spells_window k start h lt = spelled window_key_from (window_key k start) (k, start) (window_are k start h) (window_key_codec.again (k, start) (h, lt))
