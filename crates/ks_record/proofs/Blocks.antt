-- Records whose bytes stand in one block: what more bytes behind them leave, and what one more record adds.
use Rattle.std.proofs.Common.{◌≡◌, ℕ, zero, suc, ◌+◌, ◌-◌, ◌<◌, ◌≤◌, cond, List, [], ◌∷◌, ◌++◌, length, get_or, take, drop, Option, Some, None, refl, sym, ap, ap₂, subst, ◌∙◌, append_assoc, arith}
use Rattle.std.specs.Prelude.{slice_range}
use Rattle.std.proofs.lemmas.List.{take_at, drop_at, take_all, take-append-le, drop-append-le, length-append, length-drop, length-take-le, map_push, get_or-map, get_or_default}
use Rattle.std.proofs.lemmas.List.Folds.{drop_split}
use Rattle.std.proofs.Math.Seq.{take-append-add}
use Rattle.std.proofs.lemmas.List.Elements.{All-weaker, All-push, All-head, All-tail, All-get_or}
use Rattle.ks_record.specs.declared.record.PartId.{PartId}
use Rattle.ks_record.specs.declared.records.Ends.{Ends}
use Rattle.ks_record.specs.Records.{Record, bytes_or_none, record_bytes, rec_at, recs_in, ends_behind, ends_moved, IsCopy, IsWithin, AreWithin, no_rec, no_part, rec_of_list, placed_in, part_of_list, placed_of_list}

-- ---- bytes behind a block

range_more : (start end : ℕ) (block more : List ℕ) → start ≤ end → end ≤ length block → slice_range (block ++ more) start end ≡ slice_range block start end
range_more start end block more le in' =
    ap (take (end - start)) (drop-append-le start block more (omega arith))
    ∙ take-append-le (end - start) (drop start block) more (omega (arith, length-drop start block))

abbrev of_ranges : Ends → List ℕ → List ℕ → Record
of_ranges e k v = record { key = cond e.has_key (Some k) None; value = cond e.has_value (Some v) None; ts = e.ts }

rec_more : (block more : List ℕ) (e : Ends) → IsWithin block e → rec_at (block ++ more) e ≡ rec_at block e
rec_more block more e w =
    ap₂ (of_ranges e)
    (range_more e.start e.middle block more w.key (omega (arith, w.value, w.inside)))
    (range_more e.middle e.end block more w.value w.inside)

recs_more : (block more : List ℕ) (es : List Ends) → AreWithin block es → recs_in (block ++ more) es ≡ recs_in block es
recs_more block more [] w = refl
recs_more block more (e ∷ es) w =
    ap₂ (λ (r : Record) (rs : List Record). r ∷ rs) (rec_more block more e (All-head (IsWithin block) e es w)) (recs_more block more es (All-tail (IsWithin block) e es w))

longer : (block more : List ℕ) (e : Ends) → IsWithin block e → IsWithin (block ++ more) e
longer block more e w = record { key = w.key; value = w.value; inside = omega (arith, w.inside, length-append block more) }

-- ---- one more record

key_there : (block k v : List ℕ) → slice_range (block ++ (k ++ v)) (length block) (length block + length k) ≡ k
key_there block k v =
    let n : (length block + length k) - length block ≡ length k = omega arith in
    ap₂ (λ (m : ℕ) (xs : List ℕ). take m xs) n (drop_at block (k ++ v) (length block) refl) ∙ take_at k v (length k) refl

value_there : (block k v : List ℕ) → slice_range (block ++ (k ++ v)) (length block + length k) (length block + length k + length v) ≡ v
value_there block k v =
    let n : (length block + length k + length v) - (length block + length k) ≡ length v = omega arith in
    let d : drop (length block + length k) (block ++ (k ++ v)) ≡ v = ap (drop (length block + length k)) (sym (append_assoc block k v)) ∙ drop_at (block ++ k) v (length block + length k) (length-append block k) in
    ap₂ (λ (m : ℕ) (xs : List ℕ). take m xs) n d ∙ take_all (length v) v (omega arith)

abbrev of_parts : Option (List ℕ) → Option (List ℕ) → ℕ → Record
of_parts k v ts = record { key = k; value = v; ts = ts }

there : (block : List ℕ) (r : Record) → rec_at (block ++ record_bytes r) (ends_behind (length block) r) ≡ r
there block r = by r.key r.value r.ts
  where
    by : (key value : Option (List ℕ)) (ts : ℕ) → rec_at (block ++ record_bytes (of_parts key value ts)) (ends_behind (length block) (of_parts key value ts)) ≡ of_parts key value ts
    by None None ts = refl
    by (Some k) None ts = ap (λ (x : List ℕ). of_parts (Some x) None ts) (key_there block k [])
    by None (Some v) ts = ap (λ (x : List ℕ). of_parts None (Some x) ts) (value_there block [] v)
    by (Some k) (Some v) ts = ap₂ (λ (x y : List ℕ). of_parts (Some x) (Some y) ts) (key_there block k v) (value_there block k v)

behind : (block : List ℕ) (r : Record) → IsWithin (block ++ record_bytes r) (ends_behind (length block) r)
behind block r = record {
  key = omega arith;
  value = omega arith;
  inside = omega (arith, length-append block (record_bytes r), length-append (bytes_or_none r.key) (bytes_or_none r.value));
}

pub one_more : (block : List ℕ) (es : List Ends) (r : Record) → AreWithin block es → recs_in (block ++ record_bytes r) (es ++ ends_behind (length block) r ∷ []) ≡ recs_in block es ++ r ∷ []
one_more block es r w =
    map_push (rec_at (block ++ record_bytes r)) es (ends_behind (length block) r)
    ∙ ap₂ (λ (rs : List Record) (x : Record). rs ++ x ∷ []) (recs_more block (record_bytes r) es w) (there block r)

pub within_more : (block : List ℕ) (es : List Ends) (r : Record) → AreWithin block es → AreWithin (block ++ record_bytes r) (es ++ ends_behind (length block) r ∷ [])
within_more block es r w =
    All-push (IsWithin (block ++ record_bytes r)) es (ends_behind (length block) r)
    (All-weaker (IsWithin block) (IsWithin (block ++ record_bytes r)) (longer block (record_bytes r)) es w)
    (behind block r)

-- ---- a copy of a record that stands in another block

both_parts : (from : List ℕ) (s m e : ℕ) → s ≤ m → m ≤ e → m ≤ length from → slice_range from s e ≡ slice_range from s m ++ slice_range from m e
both_parts from s m e a b c =
    let k = slice_range from s m in
    let long : length k ≡ m - s = length-take-le (m - s) (drop s from) (omega (arith, length-drop s from, c)) in
    let n : e - s ≡ length k + (e - m) = omega (arith, long, a, b) in
    ap₂ (λ (i : ℕ) (xs : List ℕ). take i xs) n (drop_split from s m a) ∙ take-append-add k (drop m from) (e - m)

range_long : (from : List ℕ) (s m : ℕ) → s ≤ m → m ≤ length from → length (slice_range from s m) ≡ m - s
range_long from s m a c = length-take-le (m - s) (drop s from) (omega (arith, length-drop s from, c))

copied : (from block : List ℕ) (e : Ends) → IsWithin from e → rec_at (block ++ slice_range from e.start e.end) (ends_moved (length block) e) ≡ rec_at from e
copied from block e w =
    let k = slice_range from e.start e.middle in
    let v = slice_range from e.middle e.end in
    let n = length block in
    let lk : length k ≡ e.middle - e.start = range_long from e.start e.middle w.key (omega (arith, w.value, w.inside)) in
    let lv : length v ≡ e.end - e.middle = range_long from e.middle e.end w.value w.inside in
    let bytes : block ++ slice_range from e.start e.end ≡ block ++ (k ++ v) = ap (λ (xs : List ℕ). block ++ xs) (both_parts from e.start e.middle e.end w.key w.value (omega (arith, w.value, w.inside))) in
    let mid : n + (e.middle - e.start) ≡ n + length k = omega (arith, lk) in
    let end : n + (e.end - e.start) ≡ n + length k + length v = omega (arith, lk, lv, w.key, w.value) in
    ap₂ (of_ranges e)
    (ap₂ (λ (xs : List ℕ) (i : ℕ). slice_range xs n i) bytes mid ∙ key_there block k v)
    (ap₂ (λ (xs : List ℕ) (i : ℕ). slice_range xs i (n + (e.end - e.start))) bytes mid ∙ (ap (λ (i : ℕ). slice_range (block ++ (k ++ v)) (n + length k) i) end ∙ value_there block k v))

copied_within : (from block : List ℕ) (e : Ends) → IsWithin from e → IsWithin (block ++ slice_range from e.start e.end) (ends_moved (length block) e)
copied_within from block e w = record {
  key = omega arith;
  value = omega (arith, w.key, w.value);
  inside = omega (arith, length-append block (slice_range from e.start e.end), range_long from e.start e.end (omega (arith, w.key, w.value)) w.inside);
}

pub is_copy : (from : List ℕ) (e : Ends) (r : Record) → IsWithin from e → rec_at from e ≡ r → IsCopy e (slice_range from e.start e.end) r
is_copy from e r w is = record {
  same = λ block. copied from block e w ∙ is;
  within = λ block. copied_within from block e w;
}

pub one_copied : (block bytes : List ℕ) (es : List Ends) (e : Ends) (r : Record) → AreWithin block es → IsCopy e bytes r → recs_in (block ++ bytes) (es ++ ends_moved (length block) e ∷ []) ≡ recs_in block es ++ r ∷ []
one_copied block bytes es e r w copy =
    map_push (rec_at (block ++ bytes)) es (ends_moved (length block) e)
    ∙ ap₂ (λ (rs : List Record) (x : Record). rs ++ x ∷ []) (recs_more block bytes es w) (copy.same block)

pub within_copied : (block bytes : List ℕ) (es : List Ends) (e : Ends) (r : Record) → AreWithin block es → IsCopy e bytes r → AreWithin (block ++ bytes) (es ++ ends_moved (length block) e ∷ [])
within_copied block bytes es e r w copy =
    All-push (IsWithin (block ++ bytes)) es (ends_moved (length block) e)
    (All-weaker (IsWithin block) (IsWithin (block ++ bytes)) (longer block bytes) es w)
    (copy.within block)

-- ---- by place

pub rec_there : (block : List ℕ) (es : List Ends) (n : ℕ) (e : Ends) → n < length es → e ≡ get_or es n e → rec_at block e ≡ rec_of_list (recs_in block es) n
rec_there block es n e lt is = ap (rec_at block) is ∙ sym (get_or-map (rec_at block) es n e no_rec lt)

pub within_there : (block : List ℕ) (es : List Ends) (n : ℕ) (e : Ends) → n < length es → e ≡ get_or es n e → AreWithin block es → IsWithin block e
within_there block es n e lt is w = subst (λ (x : Ends). IsWithin block x) (sym is) (All-get_or (IsWithin block) es n e lt w)

-- ---- with their partitions

pub placed_long : (ps : List PartId) (rs : List Record) → length ps ≡ length rs → length (placed_in ps rs) ≡ length ps
placed_long [] rs e = refl
placed_long (p ∷ ps) [] e = absurd (omega (arith, e))
placed_long (p ∷ ps) (r ∷ rs) e = let more : length (placed_in ps rs) ≡ length ps = placed_long ps rs (omega (arith, e)) in omega (arith, more)

pub one_placed : (ps : List PartId) (rs : List Record) (p : PartId) (r : Record) → length ps ≡ length rs → placed_in (ps ++ p ∷ []) (rs ++ r ∷ []) ≡ placed_in ps rs ++ (p, r) ∷ []
one_placed [] [] p r e = refl
one_placed [] (s ∷ rs) p r e = absurd (omega (arith, e))
one_placed (q ∷ ps) [] p r e = absurd (omega (arith, e))
one_placed (q ∷ ps) (s ∷ rs) p r e = ap (λ (xs : List (PartId × Record)). (q, s) ∷ xs) (one_placed ps rs p r (omega (arith, e)))

pub placed_at : (ps : List PartId) (rs : List Record) (n : ℕ) → length ps ≡ length rs → n < length ps → get_or (placed_in ps rs) n (no_part, no_rec) ≡ (get_or ps n no_part, get_or rs n no_rec)
placed_at [] rs n e lt = absurd (omega (arith, lt))
placed_at (p ∷ ps) [] n e lt = absurd (omega (arith, e))
placed_at (p ∷ ps) (r ∷ rs) zero e lt = refl
placed_at (p ∷ ps) (r ∷ rs) (suc n) e lt = placed_at ps rs n (omega (arith, e)) (omega (arith, lt))

pub part_there : (ps : List PartId) (rs : List Record) (n : ℕ) (p : PartId) → length ps ≡ length rs → n < length ps → p ≡ get_or ps n p → p ≡ part_of_list (placed_in ps rs) n
part_there ps rs n p e lt is = is ∙ (get_or_default ps n p no_part lt ∙ sym (ap (λ (x : PartId × Record). x.0) (placed_at ps rs n e lt)))

pub placed_there : (ps : List PartId) (rs : List Record) (n : ℕ) → length ps ≡ length rs → n < length ps → rec_of_list rs n ≡ placed_of_list (placed_in ps rs) n
placed_there ps rs n e lt = sym (ap (λ (x : PartId × Record). x.1) (placed_at ps rs n e lt))
