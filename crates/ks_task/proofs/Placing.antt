-- Records at their places, one after another.
use Rattle.std.proofs.Common.{◌≡◌, ℕ, suc, ◌+◌, ◌<◌, ◌≤◌, true, false, cond, List, [], ◌∷◌, ◌++◌, length, drop, refl, sym, ap, ap₂, ◌∙◌, arith, zero, Option, Some, None}
use Rattle.std.proofs.Math.Seq.{drop-append_seam}
use Rattle.std.proofs.lemmas.List.{drop_more}
use Rattle.ks_record.specs.Records.{Record as Rec, no_part, no_rec, part_of_list, placed_of_list}
use Rattle.ks_record.specs.declared.record.PartId.{PartId}
use Rattle.ks_record.specs.Parts.{same_part}
use Rattle.ks_def_runs.specs.Bytes.{Store}
use Rattle.ks_def_tasks.specs.Bytes.{keep_bytes, keep_all, records_at}
use Rattle.ks_history.specs.Machine.{applied}
use Rattle.ks_cache.specs.Kept.{Kept, kept_with}
use Rattle.ks_cache.specs.Lists.{cached_with, cached_after}
use Rattle.ks_task.specs.Views.{with_records, grouped, with_output}

abbrev pub placed_at : List (PartId × Rec) → ℕ → PartId × Rec
placed_at made place = (part_of_list made place, placed_of_list made place)

-- what is left from a place on: the record there, and the others
pub placed_more : (made : List (PartId × Rec)) (i : ℕ) → i < length made → drop i made ≡ placed_at made i ∷ drop (i + 1) made
placed_more made i lt = drop_more made i (no_part, no_rec) lt

pub none_left : {A : Type 0} (xs : List A) (i : ℕ) → length xs ≤ i → drop i xs ≡ []
none_left [] zero le = refl
none_left [] (suc i) le = refl
none_left (x ∷ xs) zero le = absurd (omega (arith, le))
none_left (x ∷ xs) (suc i) le = none_left xs i (omega (arith, le))

-- ---- into a store
applied_bytes : (m : Store) (key value : Option (List ℕ)) → applied m key value ≡ keep_bytes m key value
applied_bytes m None value = refl
applied_bytes m (Some key) value = refl

pub kept_own : (old new : Kept) (part : PartId) (x : PartId × Rec) → same_part part x.0 ≡ true → new ≡ kept_with old x.1.key x.1.value →
    (rest : List (PartId × Rec)) → with_records new (records_at part rest) ≡ with_records old (records_at part (x ∷ rest))
kept_own old new part x own kept rest =
    let held = cached_after old.capacity (cached_with old.capacity x.1.key x.1.value old.cached) (records_at part rest) in
    ap (λ (s : Kept). with_records s (records_at part rest)) kept
    ∙ (ap (λ (m : Store). record { whole = keep_all m (records_at part rest); cached = held; capacity = old.capacity }) (applied_bytes old.whole x.1.key x.1.value)
    ∙ sym (ap (λ b. with_records old (cond b (x.1 ∷ records_at part rest) (records_at part rest))) own))

pub passed_own : (old : Kept) (part : PartId) (x : PartId × Rec) → same_part part x.0 ≡ false →
    (rest : List (PartId × Rec)) → with_records old (records_at part rest) ≡ with_records old (records_at part (x ∷ rest))
passed_own old part x other rest = sym (ap (λ b. with_records old (cond b (x.1 ∷ records_at part rest) (records_at part rest))) other)

-- one more from a place on, and none once they are through
pub kept_more : (part : PartId) (made : List (PartId × Rec)) (i : ℕ) (q : PartId) (r : Rec) (old new all : Kept) → i < length made → q ≡ part_of_list made i → r ≡ placed_of_list made i →
    ((rest : List (PartId × Rec)) → with_records new (records_at part rest) ≡ with_records old (records_at part ((q, r) ∷ rest))) →
    with_records old (records_at part (drop i made)) ≡ all → with_records new (records_at part (drop (i + 1) made)) ≡ all
kept_more part made i q r old new all lt at is one so_far =
    one (drop (i + 1) made)
    ∙ (ap₂ (λ (p : PartId) (x : Rec). with_records old (records_at part ((p, x) ∷ drop (i + 1) made))) at is
    ∙ (ap (λ (xs : List (PartId × Rec)). with_records old (records_at part xs)) (sym (placed_more made i lt)) ∙ so_far))

pub kept_through : (part : PartId) (made : List (PartId × Rec)) (i : ℕ) (new all : Kept) → length made ≤ i →
    with_records new (records_at part (drop i made)) ≡ all → new ≡ all
kept_through part made i new all le so_far = sym (ap (λ (xs : List (PartId × Rec)). with_records new (records_at part xs)) (none_left made i le)) ∙ so_far

-- ---- by partition
pub grouped_more : (made : List (PartId × Rec)) (i : ℕ) (q : PartId) (r : Rec) (old new all : List (PartId × List Rec)) → i < length made → q ≡ part_of_list made i → r ≡ placed_of_list made i →
    new ≡ with_output q r old → grouped old (drop i made) ≡ all → grouped new (drop (i + 1) made) ≡ all
grouped_more made i q r old new all lt at is one so_far =
    ap (λ (outs : List (PartId × List Rec)). grouped outs (drop (i + 1) made)) (one ∙ ap₂ (λ (p : PartId) (x : Rec). with_output p x old) at is)
    ∙ (ap (grouped old) (sym (placed_more made i lt)) ∙ so_far)

pub grouped_through : (made : List (PartId × Rec)) (i : ℕ) (new all : List (PartId × List Rec)) → length made ≤ i → grouped new (drop i made) ≡ all → new ≡ all
grouped_through made i new all le so_far = sym (ap (grouped new) (none_left made i le)) ∙ so_far

-- what stands behind the first ones
pub after_first : {A : Type 0} (old more all : List A) (n : ℕ) → n ≡ length old → all ≡ old ++ more → drop n all ≡ more
after_first old more all n e is = ap (λ (k : ℕ). drop k all) e ∙ (ap (drop (length old)) is ∙ drop-append_seam old more)
