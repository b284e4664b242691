-- Members where they stand: their names rise, and they are written one after the other, as loops do.
use Rattle.std.proofs.Common.{◌≡◌, ℕ, ◌+◌, ◌-◌, ◌<◌, ◌≤◌, Bool, true, ◌&&◌, List, ◌++◌, map, length, get_or, drop, sym, ap, ap₂, subst, ◌∙◌, arith}
use Rattle.std.specs.Borrow.{Bor}
use Rattle.std.specs.List.{flat_map, All}
use Rattle.std.specs.Ordering.{nat_cmp, is_lt}
use Rattle.std.specs.Cmp.Lexicographic.{slice_cmp}
use Rattle.std.proofs.lemmas.List.{length-map, get_or-map, get_or_default}
use Rattle.std.proofs.lemmas.List.Elements.{All-from_recursion, recursion_from_All}
use Rattle.ks_row.specs.declared.field_ref.FieldRef.{FieldRef}
use Rattle.ks_row.specs.Rows.{Member, IsRow, names_of, rises}
use Rattle.ks_row.specs.Fields.{member_seen}
use Rattle.ks_row.specs.Spelling.{member_bytes, FitsMember, FitsRow}
use Rattle.ks_row.proofs.Rising.{rises_more, rises_all}
use Rattle.ks_row.proofs.Written.{text_more}

abbrev Ref : Type 0
Ref = Bor (List ℕ) × FieldRef

as_long : (fs : List Ref) → length (map member_seen fs) ≡ length fs
as_long fs = length-map fs member_seen

seen_at : (fs : List Ref) (i : ℕ) (x : Ref) → i < length fs → get_or (map member_seen fs) i (member_seen x) ≡ member_seen (get_or fs i x)
seen_at fs i x lt = get_or-map member_seen fs i x (member_seen x) lt

-- a turn of a loop whose first place is 1
pub refs_more : (fs : List Ref) (i : ℕ) (x y : Ref) (t : Bool) → 1 ≤ i → i < length fs → t ≡ is_lt (slice_cmp nat_cmp (get_or fs (i - 1) x).0.now (get_or fs i y).0.now) →
    rises (drop (i - 1) (names_of (map member_seen fs))) ≡ rises (names_of (map member_seen fs)) → rises (names_of (map member_seen fs)) ≡ t && rises (drop i (names_of (map member_seen fs)))
refs_more fs i x y t one h e so_far =
    rises_more (map member_seen fs) i (member_seen x) (member_seen y) t one (omega (arith, h, as_long fs))
    (e ∙ ap₂ (λ (a b : Member). is_lt (slice_cmp nat_cmp a.0 b.0)) (sym (seen_at fs (i - 1) x (omega arith))) (sym (seen_at fs i y h))) so_far

pub refs_text : (out new : List ℕ) (fs : List Ref) (i : ℕ) (d : Ref) (all : List ℕ) → i < length fs → new ≡ out ++ member_bytes (member_seen (get_or fs i d)) →
    out ++ flat_map member_bytes (drop i (map member_seen fs)) ≡ all → new ++ flat_map member_bytes (drop (i + 1) (map member_seen fs)) ≡ all
refs_text out new fs i d all lt e so_far =
    let x : Ref = get_or fs i d in
    let is : x ≡ get_or fs i x = get_or_default fs i d x lt in
    text_more out new (map member_seen fs) i (member_seen x) all (omega (arith, lt, as_long fs)) (ap member_seen is ∙ sym (seen_at fs i x lt)) e so_far

pub ref_fits : (fs : List Ref) (i : ℕ) (d : Ref) → i < length fs → FitsRow (map member_seen fs) → FitsMember (member_seen (get_or fs i d))
ref_fits fs i d lt fits =
    subst FitsMember (seen_at fs i d lt) (All-from_recursion FitsMember (map member_seen fs) fits.members i (member_seen d) (omega (arith, lt, as_long fs)))

pub refs_fit : (ms : List Member) → All FitsMember ms → IsRow ms → FitsRow ms
refs_fit ms fits row = record { row = row; members = recursion_from_All FitsMember ms fits }

pub refs_all : (fs : List Ref) (i : ℕ) → 1 ≤ i → length fs ≤ i → rises (drop (i - 1) (names_of (map member_seen fs))) ≡ rises (names_of (map member_seen fs)) → true ≡ rises (names_of (map member_seen fs))
refs_all fs i one h e = rises_all (map member_seen fs) i one (omega (arith, h, as_long fs)) e
