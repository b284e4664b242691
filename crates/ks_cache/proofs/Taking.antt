-- The first records of a changelog that a task's store takes, and one more.
use Rattle.std.proofs.Common.{◌≡◌, ℕ, ◌+◌, ◌<◌, List, [], ◌∷◌, ◌++◌, length, get_or, take, Option, Some, None, refl, sym, ap, ap₂, ◌∙◌, arith}
use Rattle.std.proofs.lemmas.List.{get_or-map, length-map, take_more}
use Rattle.ks_record.specs.Records.{Record as Rec}
use Rattle.ks_def_runs.specs.Bytes.{Store}
use Rattle.ks_history.specs.Machine.{latest_from}
use Rattle.ks_store.specs.Restored.{records_of}
use Rattle.ks_store.proofs.Applied.{latest_from-append}
use Rattle.ks_cache.specs.Lists.{Pairs, cached_with, cached_after}
use Rattle.ks_cache.specs.Kept.{Kept, kept_plain, kept_with, kept_after}

pub cached_after-append : (capacity : ℕ) (es : Pairs) (rs ss : List Rec) → cached_after capacity es (rs ++ ss) ≡ cached_after capacity (cached_after capacity es rs) ss
cached_after-append capacity es [] ss = refl
cached_after-append capacity es (r ∷ rs) ss = cached_after-append capacity (cached_with capacity r.key r.value es) rs ss

pub kept_after-more : (s : Kept) (rs : List Rec) (r : Rec) → kept_after s (rs ++ r ∷ []) ≡ kept_with (kept_after s rs) r.key r.value
kept_after-more s rs r =
    ap₂ (λ m es. record { whole = m; cached = es; capacity = s.capacity }) (latest_from-append s.whole rs (r ∷ [])) (cached_after-append s.capacity s.cached rs (r ∷ []))

length-records_of : (recs : List (ℕ × Rec)) → length (records_of recs) ≡ length recs
length-records_of recs = simp length-map

pub one_more : (s n new : Kept) (recs : List (ℕ × Rec)) (i : ℕ) (x : ℕ × Rec) → i < length recs → x ≡ get_or recs i x → n ≡ kept_after s (take i (records_of recs)) → new ≡ kept_with n x.1.key x.1.value →
    new ≡ kept_after s (take (i + 1) (records_of recs))
one_more s n new recs i x lt is so_far e =
    let here : get_or (records_of recs) i x.1 ≡ x.1 = get_or-map (λ (r : ℕ × Rec). r.1) recs i x x.1 lt ∙ ap (λ (r : ℕ × Rec). r.1) (sym is) in
    let next : take (i + 1) (records_of recs) ≡ take i (records_of recs) ++ x.1 ∷ [] =
    take_more (records_of recs) i x.1 (omega (arith, length-records_of recs)) ∙ ap (λ (r : Rec). take i (records_of recs) ++ r ∷ []) here in
    e ∙ (ap (λ (k : Kept). kept_with k x.1.key x.1.value) so_far ∙ (sym (kept_after-more s (take i (records_of recs)) x.1) ∙ ap (kept_after s) (sym next)))

-- ---- without a cache nothing is held back
none_cached : (key value : Option (List ℕ)) → cached_with 0 key value [] ≡ []
none_cached None value = refl
none_cached (Some k) (Some v) = refl
none_cached (Some k) None = refl

none_after : (rs : List Rec) → cached_after 0 [] rs ≡ []
none_after [] = refl
none_after (r ∷ rs) = ap (λ (es : Pairs). cached_after 0 es rs) (none_cached r.key r.value) ∙ none_after rs

pub restored_plain : (m new : Store) (rs : List Rec) → new ≡ latest_from m rs → kept_plain new ≡ kept_after (kept_plain m) rs
restored_plain m new rs e = ap₂ (λ (s : Store) (es : Pairs). record { whole = s; cached = es; capacity = 0 }) e (sym (none_after rs))
