-- The place of a name among members where they stand, and a member put there.
use Rattle.std.proofs.Common.{◌≡◌, ℕ, ◌+◌, ◌<◌, ◌≤◌, true, false, List, ◌∷◌, ◌++◌, length, map, get_or, take, drop, insert, Option, Some, None, Ordering, Less, Equal, Greater, refl, sym, ap, ap₂, ◌∙◌, arith}
use Rattle.std.specs.Borrow.{Bor}
use Rattle.std.specs.Ordering.{nat_cmp, match_ordering, ordering_reverse, is_lt}
use Rattle.std.specs.Cmp.Lexicographic.{slice_cmp}
use Rattle.std.proofs.lemmas.Cmp.{nat_list_cmp_total}
use Rattle.std.proofs.lemmas.List.{map-append, take-map, drop-map, drop_more, drop_all, length-map, get_or-map}
use Rattle.ks_row.specs.declared.field_ref.FieldRef.{FieldRef}
use Rattle.ks_row.specs.Rows.{Member}
use Rattle.ks_row.specs.Fields.{member_seen}
use Rattle.ks_job_record.specs.PlainRows.{place_among}

abbrev Ref : Type 0
Ref = Bor (List ℕ) × FieldRef

as_long : (fs : List Ref) → length (map member_seen fs) ≡ length fs
as_long fs = length-map fs member_seen

-- ---- a turn of the loop, at a member below the name, with it, or above it
at : (fs : List Ref) (i : ℕ) (d : Ref) (name : List ℕ) → i < length fs →
    place_among i name (drop i (map member_seen fs)) ≡ match_ordering (slice_cmp nat_cmp name (get_or fs i d).0.now) (Some i) None (place_among (i + 1) name (drop (i + 1) (map member_seen fs)))
at fs i d name lt =
    let ms : List Member = map member_seen fs in
    let own : get_or ms i (member_seen d) ≡ member_seen (get_or fs i d) = get_or-map member_seen fs i d (member_seen d) lt in
    ap (place_among i name) (drop_more ms i (member_seen d) (omega (arith, lt, as_long fs)) ∙ ap (λ (m : Member). m ∷ drop (i + 1) ms) own)

less : (o : Ordering) → is_lt o ≡ true → o ≡ Less
less Less e = refl
less Equal e = absurd cc
less Greater e = absurd cc

same : (o p : Ordering) → p ≡ ordering_reverse o → is_lt o ≡ false → is_lt p ≡ false → o ≡ Equal
same Less p e f g = absurd cc
same Equal p e f g = refl
same Greater p e f g = absurd cc

more : (o p : Ordering) → p ≡ ordering_reverse o → is_lt p ≡ true → o ≡ Greater
more Less p e g = absurd cc
more Equal p e g = absurd cc
more Greater p e g = refl

chosen : {A : Type 0} (o p : Ordering) (a b c : A) → o ≡ p → match_ordering o a b c ≡ match_ordering p a b c
chosen o p a b c e = ap (λ q. match_ordering q a b c) e

pub place_here : (fs : List Ref) (i : ℕ) (d : Ref) (name : List ℕ) (all : Option ℕ) → i < length fs → is_lt (slice_cmp nat_cmp name (get_or fs i d).0.now) ≡ true → place_among i name (drop i (map member_seen fs)) ≡ all → Some i ≡ all
place_here fs i d name all lt below so_far =
    let x : List ℕ = (get_or fs i d).0.now in
    sym (at fs i d name lt ∙ chosen _ Less _ _ _ (less (slice_cmp nat_cmp name x) below)) ∙ so_far

pub no_place : (fs : List Ref) (i : ℕ) (d : Ref) (name : List ℕ) (all : Option ℕ) → i < length fs → is_lt (slice_cmp nat_cmp name (get_or fs i d).0.now) ≡ false → is_lt (slice_cmp nat_cmp (get_or fs i d).0.now name) ≡ false →
    place_among i name (drop i (map member_seen fs)) ≡ all → None ≡ all
no_place fs i d name all lt below above so_far =
    let x : List ℕ = (get_or fs i d).0.now in
    sym (at fs i d name lt ∙ chosen _ Equal _ _ _ (same (slice_cmp nat_cmp name x) (slice_cmp nat_cmp x name) (nat_list_cmp_total.antisymm x name) below above)) ∙ so_far

pub place_on : (fs : List Ref) (i : ℕ) (d : Ref) (name : List ℕ) (all : Option ℕ) → i < length fs → is_lt (slice_cmp nat_cmp (get_or fs i d).0.now name) ≡ true →
    place_among i name (drop i (map member_seen fs)) ≡ all → place_among (i + 1) name (drop (i + 1) (map member_seen fs)) ≡ all
place_on fs i d name all lt above so_far =
    let x : List ℕ = (get_or fs i d).0.now in
    sym (at fs i d name lt ∙ chosen _ Greater _ _ _ (more (slice_cmp nat_cmp name x) (slice_cmp nat_cmp x name) (nat_list_cmp_total.antisymm x name) above)) ∙ so_far

pub place_end : (fs : List Ref) (i : ℕ) (name : List ℕ) (all : Option ℕ) → length fs ≤ i → i ≤ length fs → place_among i name (drop i (map member_seen fs)) ≡ all → Some (length fs) ≡ all
place_end fs i name all le ge so_far =
    let n : length fs ≡ i = omega arith in
    ap Some n ∙ sym (ap (place_among i name) (drop_all i (map member_seen fs) (omega (arith, le, as_long fs)))) ∙ so_far

-- ---- a member put in
pub put_seen : (fs : List Ref) (i : ℕ) (x : Ref) → map member_seen (insert fs i x) ≡ insert (map member_seen fs) i (member_seen x)
put_seen fs i x =
    map-append member_seen (take i fs) (x ∷ drop i fs)
    ∙ ap₂ (λ (front back : List Member). front ++ member_seen x ∷ back) (sym (take-map member_seen i fs)) (sym (drop-map member_seen i fs))

pub put_within : (fs : List Ref) (i n : ℕ) → i ≤ length (map member_seen fs) → length fs ≡ n → i ≤ n
put_within fs i n le e = omega (arith, le, e, as_long fs)
