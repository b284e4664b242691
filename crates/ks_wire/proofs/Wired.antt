-- The readers and the spellings belong together.
use Rattle.std.proofs.Common.{◌≡◌, ℕ, ℤ, zero, suc, ◌+◌, ◌-◌, ◌%◌, ◌^◌, ◌<◌, ◌≤◌, Bool, true, false, cond, eqb, leb, ◌≢◌, List, [], ◌∷◌, ◌++◌, length, Option, Some, None, refl, sym, ap, ap₂, subst, ◌∙◌, append_assoc, length-append, arith}
use Rattle.std.specs.Prelude.{IfSome, option_map}
use Rattle.std.specs.Int.{w32, w64, w128, to_be_bytes}
use Rattle.std.proofs.lemmas.Bool.{eqb-true, leb-true, le-leb}
use Rattle.std.proofs.lemmas.List.{append-nil, nil_from_length}
use Rattle.std.proofs.lemmas.Nat.{mod_below}
use Rattle.ks_record.specs.Texts.{IsKey, key_from}
use Rattle.ks_row.specs.Rows.{Member}
use Rattle.ks_record.specs.Bytes.{IsBytes}
use Rattle.ks_row.specs.Spelling.{int_bytes, spelling, FitsRow}
use Rattle.ks_row.specs.Reading.{◌>>=◌, bytes_at, number_at, int_at, row_from}
use Rattle.ks_row.specs.Codecs.{IsCodec}
use Rattle.ks_row.proofs.Fields.{bind_some, guard_some, test_some, some_is, paired, Takes, Takes-then, IsBytes-rest, wide32, wide64, bytes_take, bytes_again, number_takes, number_again, int_takes, int_again}
use Rattle.ks_row.proofs.Spelled.{key_takes, key_again, row_codec}
use Rattle.ks_row.proofs.Decoded.{codec_of}
use Rattle.ks_wire.specs.Values.{SubscriptionValue, IsPart}
use Rattle.ks_wire.specs.declared.values.Response.{Response}
use Rattle.ks_wire.specs.declared.values.Delta.{Delta}
use Rattle.ks_wire.specs.declared.values.Agg.{Agg}
use Rattle.ks_wire.specs.declared.values.Subscriber.{Subscriber}
use Rattle.ks_wire.specs.Spelling.{hash_flag, version_of, part_or_nothing, hash_or_nothing, hash_bytes, subscriber_bytes, time_bytes, subscription_bytes, row_or_nothing, response_bytes, delta_bytes, agg_bytes, long_key, subscription_key, window_key, FitsHash, FitsSubscription, FitsSubscriber, FitsResponse, FitsDelta, FitsAgg, FitsKeys, FitsWindow}
use Rattle.ks_wire.specs.Reading.{whole, hash_at, part_from, named_from, subscription_from, part_or_none, subscriber_from, right_from, response_from, delta_from, agg_from, time_from, long_key_at, subscription_key_from, window_key_from}
use Rattle.ks_wire.proofs.Wide.{wide128}

-- ---- the last value of some bytes

-- where no byte is left, all was taken
at_end : {A : Type 0} (bytes text rest : List ℕ) (x y : A) → Takes bytes text rest → whole (x, rest) ≡ Some y → (bytes ≡ text) × (x ≡ y)
at_end bytes text rest x y t e =
    let g = test_some (eqb (length rest) 0) (Some x) y e in
    let nothing : rest ≡ [] = nil_from_length rest (eqb-true _ _ g.0) in
    (t.parts ∙ (ap (λ (r : List ℕ). text ++ r) nothing ∙ append-nil text), some_is x y g.1)

-- the value of a step that was turned into another
mapped : {A B : Type 0} (f : A → B) (r : Option A) (y : B) → option_map f r ≡ Some y → (x : A) × (r ≡ Some x) × (f x ≡ y)
mapped f (Some x) y e = (x, refl, some_is (f x) y e)
mapped f None y e = absurd cc

-- ---- hashes

by_flag : (flag : ℕ) (bytes : List ℕ) (b c : Bool) (h : Option ℕ) (rest : List ℕ) → IsBytes bytes → (b ≡ true → flag ≡ 128) → (c ≡ true → flag ≡ 0) →
    cond {A = Option (Option ℕ × List ℕ)} b (Some (None, bytes)) (cond {A = Option (Option ℕ × List ℕ)} c (option_map (λ k. (Some k.0, k.1)) (number_at w128 bytes)) None) ≡ Some (h, rest) →
    (flag ≡ hash_flag h) × Takes bytes (hash_or_nothing h) rest × FitsHash h
by_flag flag bytes true c h rest fits is_no is_some e =
    let none : (flag ≡ hash_flag None) × Takes bytes (hash_or_nothing None) bytes × FitsHash None = (is_no refl, record { parts = refl; rest_fits = fits }, tt) in
    subst (λ (x : Option ℕ × List ℕ). (flag ≡ hash_flag x.0) × Takes bytes (hash_or_nothing x.0) x.1 × FitsHash x.0) (some_is (None, bytes) (h, rest) e) none
by_flag flag bytes false true h rest fits is_no is_some e =
    let a = mapped (λ k. (Some k.0, k.1)) (number_at w128 bytes) (h, rest) e in
    let t = number_takes w128 (2 ^ 128) wide128 bytes a.0.0 a.0.1 fits a.1 in
    let some : (flag ≡ hash_flag (Some a.0.0)) × Takes bytes (hash_or_nothing (Some a.0.0)) a.0.1 × FitsHash (Some a.0.0) = (is_some refl, t.0, t.1) in
    subst (λ (x : Option ℕ × List ℕ). (flag ≡ hash_flag x.0) × Takes bytes (hash_or_nothing x.0) x.1 × FitsHash x.0) a.2 some
by_flag flag bytes false false h rest fits is_no is_some e = absurd cc

hash_takes : (flag : ℕ) (bytes : List ℕ) (h : Option ℕ) (rest : List ℕ) → IsBytes bytes → hash_at flag bytes ≡ Some (h, rest) → (flag ≡ hash_flag h) × Takes bytes (hash_or_nothing h) rest × FitsHash h
unfolding hash_at
hash_takes flag bytes h rest fits e = by_flag flag bytes (eqb flag 128) (eqb flag 0) h rest fits (eqb-true _ _) (eqb-true _ _) e

hash_again : (h : Option ℕ) (rest : List ℕ) → FitsHash h → hash_at (hash_flag h) (hash_or_nothing h ++ rest) ≡ Some (h, rest)
unfolding hash_at
hash_again None rest fits = refl
hash_again (Some h) rest fits = rw (number_again w128 (2 ^ 128) wide128 h rest fits) refl

-- ---- partitions

part_takes : (bytes : List ℕ) (i : ℕ) → IsBytes bytes → part_from bytes ≡ Some i → (bytes ≡ to_be_bytes w32 i) × (i ≤ 63)
unfolding part_from
part_takes bytes i fits e =
    let a = bind_some (number_at w32 bytes) (λ n. whole n >>= λ part. cond (leb part 63) (Some part) None) i e in
    let b = bind_some (whole a.0) (λ part. cond (leb part 63) (Some part) None) i a.2 in
    let g = test_some (leb b.0 63) (Some b.0) i b.2 in
    let t = number_takes w32 (2 ^ 32) wide32 bytes a.0.0 a.0.1 fits a.1 in
    let k = at_end bytes (to_be_bytes w32 a.0.0) a.0.1 a.0.0 b.0 t.0 b.1 in
    subst (λ (v : ℕ). (bytes ≡ to_be_bytes w32 v) × (v ≤ 63)) (some_is b.0 i g.1) (k.0 ∙ ap (to_be_bytes w32) k.1, leb-true _ _ g.0)

part_again : (i : ℕ) → i ≤ 63 → part_from (to_be_bytes w32 i) ≡ Some i
unfolding part_from
part_again i le =
    let lt : i < 2 ^ 32 = omega (arith, le) in
    let alone : number_at w32 (to_be_bytes w32 i) ≡ Some (i, []) = ap (number_at w32) (sym (append-nil (to_be_bytes w32 i))) ∙ number_again w32 (2 ^ 32) wide32 i [] lt in
    ap (λ r. r >>= λ n. whole n >>= λ part. cond (leb part 63) (Some part) None) alone ∙ ap (λ b. cond b (Some i) None) (le-leb _ _ le)

-- ---- subscriptions

named_takes : (version : ℕ) (bytes left : List ℕ) (part : Option ℕ) → version < 2 → IsBytes bytes → named_from version bytes ≡ Some (left, part) →
    (version ≡ version_of part) × (bytes ≡ left ++ part_or_nothing part) × IsKey left × IsPart part
unfolding named_from
named_takes zero bytes left part lt fits e =
    let a = mapped (λ k. (k, None)) (key_from bytes) (left, part) e in
    let k = key_takes bytes a.0 a.1 in
    let made : (0 ≡ version_of None) × (bytes ≡ a.0 ++ part_or_nothing None) × IsKey a.0 × IsPart None = (refl, k.0 ∙ sym (append-nil a.0), subst IsKey k.0 k.1, tt) in
    subst (λ (x : List ℕ × Option ℕ). (0 ≡ version_of x.1) × (bytes ≡ x.0 ++ part_or_nothing x.1) × IsKey x.0 × IsPart x.1) a.2 made
named_takes (suc v) bytes left part lt fits e =
    let a = bind_some (bytes_at (length bytes - 4) bytes) (λ front. key_from front.0 >>= λ key. part_from front.1 >>= λ i. Some (key, Some i)) (left, part) e in
    let b = bind_some (key_from a.0.0) (λ key. part_from a.0.1 >>= λ i. Some (key, Some i)) (left, part) a.2 in
    let d = bind_some (part_from a.0.1) (λ i. Some (b.0, Some i)) (left, part) b.2 in
    let t = bytes_take (length bytes - 4) bytes a.0.0 a.0.1 fits a.1 in
    let k = key_takes a.0.0 b.0 b.1 in
    let i = part_takes a.0.1 d.0 t.0.rest_fits d.1 in
    let one : suc v ≡ version_of (Some d.0) = omega (arith, lt) in
    let spelled : bytes ≡ b.0 ++ part_or_nothing (Some d.0) = t.0.parts ∙ ap (λ (x : List ℕ). x ++ a.0.1) k.0 ∙ ap (λ (x : List ℕ). b.0 ++ x) i.0 in
    let made : (suc v ≡ version_of (Some d.0)) × (bytes ≡ b.0 ++ part_or_nothing (Some d.0)) × IsKey b.0 × IsPart (Some d.0) = (one, spelled, subst IsKey k.0 k.1, i.1) in
    subst (λ (x : List ℕ × Option ℕ). (suc v ≡ version_of x.1) × (bytes ≡ x.0 ++ part_or_nothing x.1) × IsKey x.0 × IsPart x.1) (some_is (b.0, Some d.0) (left, part) d.2) made

named_again : (left : List ℕ) (part : Option ℕ) → IsKey left → IsPart part → named_from (version_of part) (left ++ part_or_nothing part) ≡ Some (left, part)
unfolding named_from
named_again left None key fits = ap (λ bs. option_map (λ k. (k, None)) (key_from bs)) (append-nil left) ∙ ap (option_map (λ k. (k, None))) (key_again left key)
named_again left (Some i) key fits =
    let four : length (to_be_bytes w32 i) ≡ 4 = wide32.len i in
    let cut : length (left ++ to_be_bytes w32 i) - 4 ≡ length left = omega (arith, four, length-append left (to_be_bytes w32 i)) in
    let read : bytes_at (length (left ++ to_be_bytes w32 i) - 4) (left ++ to_be_bytes w32 i) ≡ Some (left, to_be_bytes w32 i) = ap (λ n. bytes_at n (left ++ to_be_bytes w32 i)) cut ∙ bytes_again left (to_be_bytes w32 i) in
    ap (λ r. r >>= λ front. key_from front.0 >>= λ k. part_from front.1 >>= λ j. Some (k, Some j)) read
    ∙ ap (λ r. r >>= λ k. part_from (to_be_bytes w32 i) >>= λ j. Some (k, Some j)) (key_again left key)
    ∙ ap (λ r. r >>= λ j. Some (left, Some j)) (part_again i fits)

-- a flag is its base and its version
mod_most : (n : ℕ) → n % 2 ≤ n
mod_most n = omega arith

flag_parts : (h part : Option ℕ) → ((hash_flag h + version_of part) % 2 ≡ version_of part) × (hash_flag h + version_of part - (hash_flag h + version_of part) % 2 ≡ hash_flag h)
flag_parts None None = (refl, refl)
flag_parts None (Some i) = (refl, refl)
flag_parts (Some h) None = (refl, refl)
flag_parts (Some h) (Some i) = (refl, refl)

abbrev last : ℕ → Option ℕ → List ℕ × Option ℕ → Option SubscriptionValue
last i h n = cond (leb i 3) (Some (record { hash = h; instruction = i; left = n.0; part = n.1 })) None

subscription_takes : (bytes : List ℕ) (s : SubscriptionValue) → IsBytes bytes → subscription_from bytes ≡ Some s → FitsSubscription s × (bytes ≡ subscription_bytes s)
unfolding subscription_from subscription_bytes
subscription_takes [] s fits e = absurd cc
subscription_takes (flag ∷ []) s fits e = absurd cc
subscription_takes (flag ∷ i ∷ rest) s fits e =
    let a = bind_some (hash_at (flag - flag % 2) rest) (λ hash. named_from (flag % 2) hash.1 >>= last i hash.0) s e in
    let b = bind_some (named_from (flag % 2) a.0.1) (last i a.0.0) s a.2 in
    let g = test_some (leb i 3) (Some (record { hash = a.0.0; instruction = i; left = b.0.0; part = b.0.1 })) s b.2 in
    let t = hash_takes (flag - flag % 2) rest a.0.0 a.0.1 (IsBytes-rest i rest (IsBytes-rest flag (i ∷ rest) fits)) a.1 in
    let two : flag % 2 < 2 = mod_below flag 2 (omega arith) in
    let k = named_takes (flag % 2) a.0.1 b.0.0 b.0.1 two t.1.rest_fits b.1 in
    let made : SubscriptionValue = record { hash = a.0.0; instruction = i; left = b.0.0; part = b.0.1 } in
    let flag-is : flag ≡ hash_flag a.0.0 + version_of b.0.1 = omega (arith, t.0, k.0, mod_most flag) in
    let spelled : flag ∷ i ∷ rest ≡ subscription_bytes made =
    ap (λ (x : ℕ). x ∷ i ∷ rest) flag-is ∙ ap (λ (x : List ℕ). (hash_flag a.0.0 + version_of b.0.1) ∷ i ∷ x) (t.1.parts ∙ ap (λ (x : List ℕ). hash_or_nothing a.0.0 ++ x) k.1 ∙ sym (append_assoc (hash_or_nothing a.0.0) b.0.0 (part_or_nothing b.0.1))) in
    subst (λ (v : SubscriptionValue). FitsSubscription v × (flag ∷ i ∷ rest ≡ subscription_bytes v)) (some_is made s g.1) (record { hash = t.2; instruction = leb-true _ _ g.0; left = k.2; part = k.3 }, spelled)

subscription_again : (s : SubscriptionValue) → FitsSubscription s → subscription_from (subscription_bytes s) ≡ Some s
unfolding subscription_from subscription_bytes
subscription_again s fits =
    let flag = flag_parts s.hash s.part in
    let rest = hash_or_nothing s.hash ++ s.left ++ part_or_nothing s.part in
    ap₂ (λ f v. hash_at f rest >>= λ hash. named_from v hash.1 >>= last s.instruction hash.0) flag.1 flag.0
    ∙ ap (λ bs. hash_at (hash_flag s.hash) bs >>= λ hash. named_from (version_of s.part) hash.1 >>= last s.instruction hash.0) (append_assoc (hash_or_nothing s.hash) s.left (part_or_nothing s.part))
    ∙ ap (λ r. r >>= λ hash. named_from (version_of s.part) hash.1 >>= last s.instruction hash.0) (hash_again s.hash (s.left ++ part_or_nothing s.part) fits.hash)
    ∙ ap (λ r. r >>= last s.instruction s.hash) (named_again s.left s.part fits.left fits.part)
    ∙ ap (λ b. cond b (Some s) None) (le-leb _ _ fits.instruction)

pub subscription_codec : IsCodec subscription_from subscription_bytes FitsSubscription
subscription_codec = codec_of subscription_again subscription_takes

-- ---- responses

right_takes : (bytes : List ℕ) (o : Option (List Member)) → IsBytes bytes → right_from bytes ≡ Some o → (bytes ≡ row_or_nothing o) × IfSome o FitsRow
unfolding right_from
right_takes [] o fits e = subst (λ (v : Option (List Member)). ([] ≡ row_or_nothing v) × IfSome v FitsRow) (some_is None o e) (refl, tt)
right_takes (b ∷ bytes) o fits e =
    let a = mapped Some (row_from (b ∷ bytes)) o e in
    let t = row_codec.back (b ∷ bytes) a.0 fits a.1 in
    subst (λ (v : Option (List Member)). (b ∷ bytes ≡ row_or_nothing v) × IfSome v FitsRow) a.2 (t.1, t.0)

of_row : (bytes : List ℕ) (ms : List Member) → bytes ≢ [] → row_from bytes ≡ Some ms → right_from bytes ≡ Some (Some ms)
unfolding right_from
of_row [] ms some e = absurd (some refl)
of_row (b ∷ bytes) ms some e = rw e refl

spelling_some : (ms : List Member) → spelling ms ≢ []
unfolding spelling
spelling_some ms e = absurd cc

right_again : (o : Option (List Member)) → IfSome o FitsRow → right_from (row_or_nothing o) ≡ Some o
unfolding right_from
right_again None fits = refl
right_again (Some ms) fits = of_row (spelling ms) ms (spelling_some ms) (row_codec.again ms fits)

response_takes : (bytes : List ℕ) (r : Response) → IsBytes bytes → response_from bytes ≡ Some r → FitsResponse r × (bytes ≡ response_bytes r)
unfolding response_from response_bytes
response_takes [] r fits e = absurd cc
response_takes (flag ∷ rest) r fits e =
    let a = bind_some (hash_at flag rest) (λ hash. right_from hash.1 >>= λ right. Some (record { hash = hash.0; right = right })) r e in
    let b = bind_some (right_from a.0.1) (λ right. Some (record { hash = a.0.0; right = right })) r a.2 in
    let t = hash_takes flag rest a.0.0 a.0.1 (IsBytes-rest flag rest fits) a.1 in
    let k = right_takes a.0.1 b.0 t.1.rest_fits b.1 in
    let made : Response = record { hash = a.0.0; right = b.0 } in
    let spelled : flag ∷ rest ≡ response_bytes made = ap (λ (x : ℕ). x ∷ rest) t.0 ∙ ap (λ (x : List ℕ). hash_flag a.0.0 ∷ x) (t.1.parts ∙ ap (λ (x : List ℕ). hash_or_nothing a.0.0 ++ x) k.0) in
    subst (λ (v : Response). FitsResponse v × (flag ∷ rest ≡ response_bytes v)) (some_is made r b.2) (record { hash = t.2; right = k.1 }, spelled)

response_again : (r : Response) → FitsResponse r → response_from (response_bytes r) ≡ Some r
unfolding response_from response_bytes
response_again r fits = rw (hash_again r.hash (row_or_nothing r.right) fits.hash, right_again r.right fits.right) refl

pub response_codec : IsCodec response_from response_bytes FitsResponse
response_codec = codec_of response_again response_takes

-- ---- deltas and aggregates

delta_takes : (bytes : List ℕ) (d : Delta) → IsBytes bytes → delta_from bytes ≡ Some d → FitsDelta d × (bytes ≡ delta_bytes d)
unfolding delta_from delta_bytes
delta_takes [] d fits e = absurd cc
delta_takes (zero ∷ rest) d fits e =
    let a = bind_some (int_at rest) (λ amount. whole (record { add = false; amount = amount.0 }, amount.1)) d e in
    let t = int_takes rest a.0.0 a.0.1 (IsBytes-rest 0 rest fits) a.1 in
    let made : Delta = record { add = false; amount = a.0.0 } in
    let k = at_end rest (int_bytes a.0.0) a.0.1 made d t.0 a.2 in
    subst (λ (v : Delta). FitsDelta v × (0 ∷ rest ≡ delta_bytes v)) k.1 (t.1, ap (λ (x : List ℕ). 0 ∷ x) k.0)
delta_takes (suc zero ∷ rest) d fits e =
    let a = bind_some (int_at rest) (λ amount. whole (record { add = true; amount = amount.0 }, amount.1)) d e in
    let t = int_takes rest a.0.0 a.0.1 (IsBytes-rest 1 rest fits) a.1 in
    let made : Delta = record { add = true; amount = a.0.0 } in
    let k = at_end rest (int_bytes a.0.0) a.0.1 made d t.0 a.2 in
    subst (λ (v : Delta). FitsDelta v × (1 ∷ rest ≡ delta_bytes v)) k.1 (t.1, ap (λ (x : List ℕ). 1 ∷ x) k.0)
delta_takes (suc (suc b) ∷ rest) d fits e = absurd cc

int_alone : (z : ℤ) → FitsDelta (record { add = true; amount = z }) → int_at (int_bytes z) ≡ Some (z, [])
int_alone z fits = ap int_at (sym (append-nil (int_bytes z))) ∙ int_again z [] fits

added : (bytes : List ℕ) (z : ℤ) → int_at bytes ≡ Some (z, []) → delta_from (1 ∷ bytes) ≡ Some (record { add = true; amount = z })
unfolding delta_from
added bytes z e = ap (λ r. r >>= λ amount. whole (record { add = true; amount = amount.0 }, amount.1)) e

taken : (bytes : List ℕ) (z : ℤ) → int_at bytes ≡ Some (z, []) → delta_from (0 ∷ bytes) ≡ Some (record { add = false; amount = z })
unfolding delta_from
taken bytes z e = ap (λ r. r >>= λ amount. whole (record { add = false; amount = amount.0 }, amount.1)) e

by_add : (add : Bool) (z : ℤ) → FitsDelta (record { add = add; amount = z }) → delta_from (cond add 1 0 ∷ int_bytes z) ≡ Some (record { add = add; amount = z })
unfolding delta_from
by_add true z fits = added (int_bytes z) z (int_alone z fits)
by_add false z fits = taken (int_bytes z) z (int_alone z fits)

delta_again : (d : Delta) → FitsDelta d → delta_from (delta_bytes d) ≡ Some d
unfolding delta_bytes
delta_again d fits = by_add d.add d.amount fits

pub delta_codec : IsCodec delta_from delta_bytes FitsDelta
delta_codec = codec_of delta_again delta_takes

agg_takes : (bytes : List ℕ) (g : Agg) → IsBytes bytes → agg_from bytes ≡ Some g → FitsAgg g × (bytes ≡ agg_bytes g)
unfolding agg_from agg_bytes
agg_takes bytes g fits e =
    let a = bind_some (int_at bytes) (λ members. int_at members.1 >>= λ total. whole (record { members = members.0; total = total.0 }, total.1)) g e in
    let b = bind_some (int_at a.0.1) (λ total. whole (record { members = a.0.0; total = total.0 }, total.1)) g a.2 in
    let t = int_takes bytes a.0.0 a.0.1 fits a.1 in
    let u = int_takes a.0.1 b.0.0 b.0.1 t.0.rest_fits b.1 in
    let made : Agg = record { members = a.0.0; total = b.0.0 } in
    let k = at_end bytes (int_bytes a.0.0 ++ int_bytes b.0.0) b.0.1 made g (Takes-then bytes (int_bytes a.0.0) a.0.1 (int_bytes b.0.0) b.0.1 t.0 u.0) b.2 in
    subst (λ (v : Agg). FitsAgg v × (bytes ≡ agg_bytes v)) k.1 (record { members = t.1; total = u.1 }, k.0)

two_ints : (bytes more : List ℕ) (y z : ℤ) → int_at bytes ≡ Some (y, more) → int_at more ≡ Some (z, []) → agg_from bytes ≡ Some (record { members = y; total = z })
unfolding agg_from
two_ints bytes more y z e f =
    ap (λ r. r >>= λ members. int_at members.1 >>= λ total. whole (record { members = members.0; total = total.0 }, total.1)) e
    ∙ ap (λ r. r >>= λ total. whole (record { members = y; total = total.0 }, total.1)) f

agg_again : (g : Agg) → FitsAgg g → agg_from (agg_bytes g) ≡ Some g
unfolding agg_bytes
agg_again g fits = two_ints (agg_bytes g) (int_bytes g.total) g.members g.total (int_again g.members (int_bytes g.total) fits.members) (int_alone g.total fits.total)

pub agg_codec : IsCodec agg_from agg_bytes FitsAgg
agg_codec = codec_of agg_again agg_takes

-- ---- timestamps alone

number_alone : (n : ℕ) → n < 2 ^ 64 → number_at w64 (to_be_bytes w64 n) ≡ Some (n, [])
number_alone n lt = ap (number_at w64) (sym (append-nil (to_be_bytes w64 n))) ∙ number_again w64 (2 ^ 64) wide64 n [] lt

time_takes : (bytes : List ℕ) (t : ℕ) → IsBytes bytes → time_from bytes ≡ Some t → (t < 2 ^ 64) × (bytes ≡ time_bytes t)
unfolding time_from
time_takes bytes t fits e =
    let a = bind_some (number_at w64 bytes) whole t e in
    let u = number_takes w64 (2 ^ 64) wide64 bytes a.0.0 a.0.1 fits a.1 in
    let k = at_end bytes (time_bytes a.0.0) a.0.1 a.0.0 t u.0 a.2 in
    subst (λ (v : ℕ). (v < 2 ^ 64) × (bytes ≡ time_bytes v)) k.1 (u.1, k.0)

time_again : (t : ℕ) → t < 2 ^ 64 → time_from (time_bytes t) ≡ Some t
unfolding time_from
time_again t lt = ap (λ r. r >>= whole) (number_alone t lt)

pub time_codec : IsCodec time_from time_bytes (λ t. t < 2 ^ 64)
time_codec = codec_of time_again time_takes

-- ---- subscribers

parts_take : (bytes : List ℕ) (o : Option ℕ) → IsBytes bytes → part_or_none bytes ≡ Some o → (bytes ≡ part_or_nothing o) × IsPart o
unfolding part_or_none
parts_take [] o fits e = subst (λ (v : Option ℕ). ([] ≡ part_or_nothing v) × IsPart v) (some_is None o e) (refl, tt)
parts_take (b ∷ bytes) o fits e =
    let a = mapped Some (part_from (b ∷ bytes)) o e in
    subst (λ (v : Option ℕ). (b ∷ bytes ≡ part_or_nothing v) × IsPart v) a.2 (part_takes (b ∷ bytes) a.0 fits a.1)

of_part : (bytes : List ℕ) (i : ℕ) → 0 < length bytes → part_from bytes ≡ Some i → part_or_none bytes ≡ Some (Some i)
unfolding part_or_none
of_part [] i some e = absurd (omega (arith, some))
of_part (b ∷ bytes) i some e = ap (option_map Some) e

parts_again : (o : Option ℕ) → IsPart o → part_or_none (part_or_nothing o) ≡ Some o
unfolding part_or_none
parts_again None fits = refl
parts_again (Some i) fits = of_part (to_be_bytes w32 i) i (omega (arith, wide32.len i)) (part_again i fits)

subscriber_takes : (bytes : List ℕ) (s : Subscriber) → IsBytes bytes → subscriber_from bytes ≡ Some s → FitsSubscriber s × (bytes ≡ subscriber_bytes s)
unfolding subscriber_from subscriber_bytes
subscriber_takes bytes s fits e =
    let a = bind_some (number_at w128 bytes) (λ hash. part_or_none hash.1 >>= λ part. Some (record { hash = hash.0; part = part })) s e in
    let b = bind_some (part_or_none a.0.1) (λ part. Some (record { hash = a.0.0; part = part })) s a.2 in
    let t = number_takes w128 (2 ^ 128) wide128 bytes a.0.0 a.0.1 fits a.1 in
    let k = parts_take a.0.1 b.0 t.0.rest_fits b.1 in
    let made : Subscriber = record { hash = a.0.0; part = b.0 } in
    subst (λ (v : Subscriber). FitsSubscriber v × (bytes ≡ subscriber_bytes v)) (some_is made s b.2) (record { hash = t.1; part = k.1 }, t.0.parts ∙ ap (λ (x : List ℕ). hash_bytes a.0.0 ++ x) k.0)

subscriber_again : (s : Subscriber) → FitsSubscriber s → subscriber_from (subscriber_bytes s) ≡ Some s
unfolding subscriber_from subscriber_bytes
subscriber_again s fits =
    ap (λ r. r >>= λ hash. part_or_none hash.1 >>= λ part. Some (record { hash = hash.0; part = part })) (number_again w128 (2 ^ 128) wide128 s.hash (part_or_nothing s.part) fits.hash)
    ∙ ap (λ r. r >>= λ part. Some (record { hash = s.hash; part = part })) (parts_again s.part fits.part)

pub subscriber_codec : IsCodec subscriber_from subscriber_bytes FitsSubscriber
subscriber_codec = codec_of subscriber_again subscriber_takes

-- ---- keys of stores

long_key_takes : (bytes key rest : List ℕ) → IsBytes bytes → long_key_at bytes ≡ Some (key, rest) → Takes bytes (long_key key) rest × IsKey key
unfolding long_key_at
long_key_takes bytes key rest fits e =
    let a = bind_some (number_at w32 bytes) (λ n. bytes_at n.0 n.1 >>= λ front. key_from front.0 >>= λ key. Some (key, front.1)) (key, rest) e in
    let b = bind_some (bytes_at a.0.0 a.0.1) (λ front. key_from front.0 >>= λ key. Some (key, front.1)) (key, rest) a.2 in
    let d = bind_some (key_from b.0.0) (λ key. Some (key, b.0.1)) (key, rest) b.2 in
    let t0 = number_takes w32 (2 ^ 32) wide32 bytes a.0.0 a.0.1 fits a.1 in
    let t1 = bytes_take a.0.0 a.0.1 b.0.0 b.0.1 t0.0.rest_fits b.1 in
    let k = key_takes b.0.0 d.0 d.1 in
    let both = Takes-then bytes (to_be_bytes w32 a.0.0) a.0.1 b.0.0 b.0.1 t0.0 t1.0 in
    let sized : Takes bytes (long_key b.0.0) b.0.1 = subst (λ (n : ℕ). Takes bytes (to_be_bytes w32 n ++ b.0.0) b.0.1) (sym t1.1) both in
    let same : (b.0.0, b.0.1) ≡ (key, rest) = paired b.0.0 d.0 key b.0.1 rest k.0 (some_is (d.0, b.0.1) (key, rest) d.2) in
    subst (λ (x : List ℕ × List ℕ). Takes bytes (long_key x.0) x.1 × IsKey x.0) same (sized, k.1)

long_key_again : (key rest : List ℕ) → IsKey key → long_key_at (long_key key ++ rest) ≡ Some (key, rest)
unfolding long_key_at
long_key_again key rest k =
    let regrouped : long_key key ++ rest ≡ to_be_bytes w32 (length key) ++ (key ++ rest) = append_assoc (to_be_bytes w32 (length key)) key rest in
    let lt : length key < 2 ^ 32 = omega (arith, k.most) in
    ap long_key_at regrouped ∙ rw (number_again w32 (2 ^ 32) wide32 (length key) (key ++ rest) lt, bytes_again key rest, key_again key k) refl

keys_take : (bytes : List ℕ) (p : List ℕ × List ℕ) → IsBytes bytes → subscription_key_from bytes ≡ Some p → FitsKeys p × (bytes ≡ subscription_key p.0 p.1)
unfolding subscription_key_from subscription_key
keys_take bytes p fits e =
    let a = bind_some (long_key_at bytes) (λ foreign. key_from foreign.1 >>= λ left. Some (foreign.0, left)) p e in
    let b = bind_some (key_from a.0.1) (λ left. Some (a.0.0, left)) p a.2 in
    let t = long_key_takes bytes a.0.0 a.0.1 fits a.1 in
    let k = key_takes a.0.1 b.0 b.1 in
    let made : List ℕ × List ℕ = (a.0.0, b.0) in
    subst (λ (v : List ℕ × List ℕ). FitsKeys v × (bytes ≡ subscription_key v.0 v.1)) (some_is made p b.2) ((t.1, subst IsKey k.0 k.1), t.0.parts ∙ ap (λ (x : List ℕ). long_key a.0.0 ++ x) k.0)

keys_again : (p : List ℕ × List ℕ) → FitsKeys p → subscription_key_from (subscription_key p.0 p.1) ≡ Some p
unfolding subscription_key_from subscription_key
keys_again p fits = rw (long_key_again p.0 p.1 fits.0, key_again p.1 fits.1) refl

pub subscription_key_codec : IsCodec subscription_key_from (λ p. subscription_key p.0 p.1) FitsKeys
subscription_key_codec = codec_of keys_again keys_take

window_takes : (bytes : List ℕ) (p : List ℕ × ℕ) → IsBytes bytes → window_key_from bytes ≡ Some p → FitsWindow p × (bytes ≡ window_key p.0 p.1)
unfolding window_key_from window_key
window_takes bytes p fits e =
    let a = bind_some (long_key_at bytes) (λ key. number_at w64 key.1 >>= λ start. whole ((key.0, start.0), start.1)) p e in
    let b = bind_some (number_at w64 a.0.1) (λ start. whole ((a.0.0, start.0), start.1)) p a.2 in
    let t = long_key_takes bytes a.0.0 a.0.1 fits a.1 in
    let u = number_takes w64 (2 ^ 64) wide64 a.0.1 b.0.0 b.0.1 t.0.rest_fits b.1 in
    let made : List ℕ × ℕ = (a.0.0, b.0.0) in
    let k = at_end bytes (long_key a.0.0 ++ to_be_bytes w64 b.0.0) b.0.1 made p (Takes-then bytes (long_key a.0.0) a.0.1 (to_be_bytes w64 b.0.0) b.0.1 t.0 u.0) b.2 in
    subst (λ (v : List ℕ × ℕ). FitsWindow v × (bytes ≡ window_key v.0 v.1)) k.1 ((t.1, u.1), k.0)

key_and_start : (bytes after key : List ℕ) (start : ℕ) → long_key_at bytes ≡ Some (key, after) → number_at w64 after ≡ Some (start, []) → window_key_from bytes ≡ Some (key, start)
unfolding window_key_from
key_and_start bytes after key start e f =
    ap (λ r. r >>= λ k. number_at w64 k.1 >>= λ s. whole ((k.0, s.0), s.1)) e ∙ ap (λ r. r >>= λ s. whole ((key, s.0), s.1)) f

window_again : (p : List ℕ × ℕ) → FitsWindow p → window_key_from (window_key p.0 p.1) ≡ Some p
unfolding window_key
window_again p fits = key_and_start (window_key p.0 p.1) (to_be_bytes w64 p.1) p.0 p.1 (long_key_again p.0 (to_be_bytes w64 p.1) fits.0) (number_alone p.1 fits.1)

pub window_key_codec : IsCodec window_key_from (λ p. window_key p.0 p.1) FitsWindow
window_key_codec = codec_of window_again window_takes
