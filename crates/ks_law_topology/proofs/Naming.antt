-- What a written subscription, and a written subscriber, are read as: where the partition that they name is one of 64, it is read again, and so is
-- the left key, whatever the hash.
use Rattle.std.proofs.Common.{◌≡◌, ℕ, zero, suc, ◌+◌, ◌-◌, ◌%◌, ◌^◌, ◌<◌, ◌≤◌, Bool, true, false, cond, leb, ltb, List, [], ◌∷◌, ◌++◌, length, take, drop, get_or, fold, Option, Some, None, refl, sym, ap, ap₂, subst, ◌∙◌, append_assoc, length-append, arith, ⊎_elim}
use Rattle.std.specs.Prelude.{IfSome, option_map, option_and_then}
use Rattle.std.specs.Int.{Width, w32, w128, byte_len, from_be_bytes, to_be_bytes}
use Rattle.std.proofs.lemmas.Bool.{leb-true, le-leb, cases_lt}
use Rattle.std.proofs.lemmas.List.{append-nil, get_or_past}
use Rattle.ks_record.specs.Texts.{IsKey, key_from}
use Rattle.ks_row.specs.Reading.{◌>>=◌, bytes_at, number_at}
use Rattle.ks_row.proofs.Fields.{bind_some, test_some, some_is, wide32, bytes_again, number_again}
use Rattle.ks_row.proofs.Spelled.{key_takes}
use Rattle.ks_wire.specs.Values.{SubscriptionValue, IsPart}
use Rattle.ks_wire.specs.declared.values.Subscriber.{Subscriber}
use Rattle.ks_wire.specs.Spelling.{hash_flag, version_of, part_or_nothing, hash_or_nothing, hash_bytes, subscription_bytes, subscriber_bytes}
use Rattle.ks_wire.specs.Reading.{whole, hash_at, part_from, named_from, subscription_from, part_or_none, subscriber_from}
use Rattle.ks_wire.proofs.Wide.{wide128}
use Rattle.ks_plan.specs.Plan.{Plan, Kind, wiring_of}
use Rattle.ks_plan.specs.Layout.{with_origin, wired_origin, origin_at, node_origins, before_of}

-- ---- options
mapped : {A B : Type 0} (f : A → B) (r : Option A) (y : B) → option_map f r ≡ Some y → (x : A) × (r ≡ Some x) × (f x ≡ y)
mapped f (Some x) y e = (x, refl, some_is (f x) y e)
mapped f None y e = absurd cc

-- ---- hashes, which are passed over
number_is : (w : Width) (bytes : List ℕ) → number_at w bytes ≡ option_map (λ (x : List ℕ × List ℕ). (from_be_bytes w x.0, x.1)) (bytes_at (byte_len w) bytes)
number_is w bytes = by (ltb (length bytes) (byte_len w))
  where
    by : (b : Bool) → cond {A = Option (ℕ × List ℕ)} b None (Some (from_be_bytes w (take (byte_len w) bytes), drop (byte_len w) bytes))
        ≡ option_map (λ (x : List ℕ × List ℕ). (from_be_bytes w x.0, x.1)) (cond {A = Option (List ℕ × List ℕ)} b None (Some (take (byte_len w) bytes, drop (byte_len w) bytes)))
    by true = refl
    by false = refl

hash_there : (h : ℕ) (rest : List ℕ) → number_at w128 (hash_bytes h ++ rest) ≡ Some (from_be_bytes w128 (hash_bytes h), rest)
hash_there h rest =
    number_is w128 (hash_bytes h ++ rest)
    ∙ ap (option_map (λ (x : List ℕ × List ℕ). (from_be_bytes w128 x.0, x.1))) (ap (λ n. bytes_at n (hash_bytes h ++ rest)) (sym (wide128.len h)) ∙ bytes_again (hash_bytes h) rest)

after_number : (h : ℕ) (rest : List ℕ) (x : ℕ × List ℕ) → number_at w128 (hash_bytes h ++ rest) ≡ Some x → x.1 ≡ rest
after_number h rest x e = ap (λ (y : ℕ × List ℕ). y.1) (some_is x (from_be_bytes w128 (hash_bytes h), rest) (sym e ∙ hash_there h rest))

after_hash : (h : Option ℕ) (rest : List ℕ) (x : Option ℕ × List ℕ) → hash_at (hash_flag h) (hash_or_nothing h ++ rest) ≡ Some x → x.1 ≡ rest
unfolding hash_at
after_hash None rest x e = ap (λ (y : Option ℕ × List ℕ). y.1) (some_is x (None, rest) (sym e))
after_hash (Some h) rest x e =
    let a = mapped (λ (y : ℕ × List ℕ). (Some y.0, y.1)) (number_at w128 (hash_bytes h ++ rest)) x e in
    ap (λ (y : Option ℕ × List ℕ). y.1) (sym a.2) ∙ after_number h rest a.0 a.1

-- ---- partitions
part_again : (i : ℕ) → i ≤ 63 → part_from (to_be_bytes w32 i) ≡ Some i
unfolding part_from
part_again i le =
    let lt : i < 2 ^ 32 = omega (arith, le) in
    let alone : number_at w32 (to_be_bytes w32 i) ≡ Some (i, []) = ap (number_at w32) (sym (append-nil (to_be_bytes w32 i))) ∙ number_again w32 (2 ^ 32) wide32 i [] lt in
    ap (λ r. r >>= λ n. whole n >>= λ part. cond (leb part 63) (Some part) None) alone ∙ ap (λ b. cond b (Some i) None) (le-leb _ _ le)

of_part : (bytes : List ℕ) (i : ℕ) → 0 < length bytes → part_from bytes ≡ Some i → part_or_none bytes ≡ Some (Some i)
unfolding part_or_none
of_part [] i some e = absurd (omega (arith, some))
of_part (b ∷ bytes) i some e = ap (option_map Some) e

parts_again : (o : Option ℕ) → IsPart o → part_or_none (part_or_nothing o) ≡ Some o
unfolding part_or_none
parts_again None fits = refl
parts_again (Some i) fits = of_part (to_be_bytes w32 i) i (omega (arith, wide32.len i)) (part_again i fits)

-- ---- subscriptions
named_same : (left : List ℕ) (part : Option ℕ) → IsPart part → (x : List ℕ × Option ℕ) → named_from (version_of part) (left ++ part_or_nothing part) ≡ Some x → (x.0 ≡ left) × (x.1 ≡ part)
unfolding named_from
named_same left None fits x e =
    let a = mapped (λ (k : List ℕ). (k, None)) (key_from (left ++ [])) x e in
    let k = key_takes (left ++ []) a.0 a.1 in
    (ap (λ (y : List ℕ × Option ℕ). y.0) (sym a.2) ∙ sym k.0 ∙ append-nil left, ap (λ (y : List ℕ × Option ℕ). y.1) (sym a.2))
named_same left (Some i) fits x e =
    let four : length (to_be_bytes w32 i) ≡ 4 = wide32.len i in
    let cut : length (left ++ to_be_bytes w32 i) - 4 ≡ length left = omega (arith, four, length-append left (to_be_bytes w32 i)) in
    let read : bytes_at (length (left ++ to_be_bytes w32 i) - 4) (left ++ to_be_bytes w32 i) ≡ Some (left, to_be_bytes w32 i) = ap (λ n. bytes_at n (left ++ to_be_bytes w32 i)) cut ∙ bytes_again left (to_be_bytes w32 i) in
    let a = bind_some (key_from left) (λ key. part_from (to_be_bytes w32 i) >>= λ j. Some (key, Some j)) x (ap (λ r. r >>= λ front. key_from front.0 >>= λ key. part_from front.1 >>= λ j. Some (key, Some j)) (sym read) ∙ e) in
    let k = key_takes left a.0 a.1 in
    let is : Some (a.0, Some i) ≡ Some x = ap (λ r. r >>= λ j. Some (a.0, Some j)) (sym (part_again i fits)) ∙ a.2 in
    let same : (a.0, Some i) ≡ x = some_is (a.0, Some i) x is in
    (ap (λ (y : List ℕ × Option ℕ). y.0) (sym same) ∙ sym k.0, ap (λ (y : List ℕ × Option ℕ). y.1) (sym same))

flag_parts : (h part : Option ℕ) → ((hash_flag h + version_of part) % 2 ≡ version_of part) × (hash_flag h + version_of part - (hash_flag h + version_of part) % 2 ≡ hash_flag h)
flag_parts None None = (refl, refl)
flag_parts None (Some i) = (refl, refl)
flag_parts (Some h) None = (refl, refl)
flag_parts (Some h) (Some i) = (refl, refl)

abbrev last : ℕ → Option ℕ → List ℕ × Option ℕ → Option SubscriptionValue
last i h n = cond (leb i 3) (Some (record { hash = h; instruction = i; left = n.0; part = n.1 })) None

pub subscription_same : (s : SubscriptionValue) → IsPart s.part → (v : SubscriptionValue) → subscription_from (subscription_bytes s) ≡ Some v → (v.left ≡ s.left) × (v.part ≡ s.part)
unfolding subscription_from subscription_bytes
subscription_same s fits v e =
    let flag = flag_parts s.hash s.part in
    let rest = hash_or_nothing s.hash ++ s.left ++ part_or_nothing s.part in
    let f : ℕ = hash_flag s.hash + version_of s.part in
    let a = bind_some (hash_at (f - f % 2) rest) (λ hash. named_from (f % 2) hash.1 >>= last s.instruction hash.0) v e in
    let b = bind_some (named_from (f % 2) a.0.1) (last s.instruction a.0.0) v a.2 in
    let g = test_some (leb s.instruction 3) (Some (record { hash = a.0.0; instruction = s.instruction; left = b.0.0; part = b.0.1 })) v b.2 in
    let past : a.0.1 ≡ s.left ++ part_or_nothing s.part =
    after_hash s.hash (s.left ++ part_or_nothing s.part) a.0 (ap₂ hash_at (sym flag.1) (sym (append_assoc (hash_or_nothing s.hash) s.left (part_or_nothing s.part))) ∙ a.1) in
    let names = named_same s.left s.part fits b.0 (ap₂ named_from (sym flag.0) (sym past) ∙ b.1) in
    let is : record { hash = a.0.0; instruction = s.instruction; left = b.0.0; part = b.0.1 } ≡ v = some_is _ v g.1 in
    (ap (λ (w : SubscriptionValue). w.left) (sym is) ∙ names.0, ap (λ (w : SubscriptionValue). w.part) (sym is) ∙ names.1)

-- the left key that is read is a key
named_key : (version : ℕ) (bytes : List ℕ) (x : List ℕ × Option ℕ) → named_from version bytes ≡ Some x → IsKey x.0
unfolding named_from
named_key zero bytes x e =
    let a = mapped (λ (k : List ℕ). (k, None)) (key_from bytes) x e in
    let k = key_takes bytes a.0 a.1 in
    subst IsKey (k.0 ∙ ap (λ (y : List ℕ × Option ℕ). y.0) a.2) k.1
named_key (suc n) bytes x e =
    let a = bind_some (bytes_at (length bytes - 4) bytes) (λ front. key_from front.0 >>= λ key. part_from front.1 >>= λ j. Some (key, Some j)) x e in
    let b = bind_some (key_from a.0.0) (λ key. part_from a.0.1 >>= λ j. Some (key, Some j)) x a.2 in
    let d = bind_some (part_from a.0.1) (λ j. Some (b.0, Some j)) x b.2 in
    let k = key_takes a.0.0 b.0 b.1 in
    subst IsKey (k.0 ∙ ap (λ (y : List ℕ × Option ℕ). y.0) (some_is (b.0, Some d.0) x d.2)) k.1

pub subscription_left : (bytes : List ℕ) (v : SubscriptionValue) → subscription_from bytes ≡ Some v → IsKey v.left
unfolding subscription_from
subscription_left [] v e = absurd cc
subscription_left (flag ∷ []) v e = absurd cc
subscription_left (flag ∷ i ∷ rest) v e =
    let a = bind_some (hash_at (flag - flag % 2) rest) (λ hash. named_from (flag % 2) hash.1 >>= last i hash.0) v e in
    let b = bind_some (named_from (flag % 2) a.0.1) (last i a.0.0) v a.2 in
    let g = test_some (leb i 3) (Some (record { hash = a.0.0; instruction = i; left = b.0.0; part = b.0.1 })) v b.2 in
    let is : record { hash = a.0.0; instruction = i; left = b.0.0; part = b.0.1 } ≡ v = some_is _ v g.1 in
    subst IsKey (ap (λ (w : SubscriptionValue). w.left) is) (named_key (flag % 2) a.0.1 b.0 b.1)

-- ---- subscribers
pub subscriber_same : (s : Subscriber) → IsPart s.part → (v : Subscriber) → subscriber_from (subscriber_bytes s) ≡ Some v → v.part ≡ s.part
unfolding subscriber_from subscriber_bytes
subscriber_same s fits v e =
    let a = bind_some (number_at w128 (hash_bytes s.hash ++ part_or_nothing s.part)) (λ hash. part_or_none hash.1 >>= λ part. Some (record { hash = hash.0; part = part })) v e in
    let b = bind_some (part_or_none a.0.1) (λ part. Some (record { hash = a.0.0; part = part })) v a.2 in
    let past : a.0.1 ≡ part_or_nothing s.part = after_number s.hash (part_or_nothing s.part) a.0 a.1 in
    let part : b.0 ≡ s.part = some_is b.0 s.part (sym b.1 ∙ ap part_or_none past ∙ parts_again s.part fits) in
    ap (λ (w : Subscriber). w.part) (sym (some_is (record { hash = a.0.0; part = b.0 }) v b.2)) ∙ part

-- ---- a node beyond those of the plan has no origin, and so no front part
origins_count : (os : List (Option ℕ)) (ks : List Kind) → length (fold (λ (xs : List (Option ℕ)) k. with_origin xs (wiring_of k)) os ks) ≡ length os + length ks
origins_count os [] = omega arith
origins_count os (k ∷ ks) = omega (arith, origins_count (with_origin os (wiring_of k)) ks, length-append os (wired_origin os (wiring_of k) ∷ []))

pub beyond_whole : (p : Plan) (n : ℕ) → length p.kinds ≤ n → before_of p n ≡ None
beyond_whole p n le = ap (λ o. option_and_then (λ t. get_or p.befores t None) o) (get_or_past (node_origins p.kinds) n None (omega (arith, le, origins_count [] p.kinds)))
