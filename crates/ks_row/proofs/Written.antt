-- Writing members one after the other, as a loop does.
use Rattle.std.proofs.Common.{◌≡◌, ℕ, ◌+◌, ◌<◌, ◌≤◌, List, ◌∷◌, ◌++◌, length, get_or, take, drop, sym, ap, ◌∙◌, append_assoc}
use Rattle.std.specs.List.{flat_map, All}
use Rattle.std.proofs.lemmas.List.{drop_more, take_all}
use Rattle.std.proofs.lemmas.List.Concat.{flat_map-cons}
use Rattle.std.proofs.lemmas.List.Elements.{All-more, recursion_from_All}
use Rattle.ks_row.specs.Rows.{Member, IsRow}
use Rattle.ks_row.specs.Spelling.{member_bytes, FitsMember, FitsRow}

pub text_more : (out new : List ℕ) (ms : List Member) (i : ℕ) (m : Member) (all : List ℕ) → i < length ms → m ≡ get_or ms i m → new ≡ out ++ member_bytes m →
    out ++ flat_map member_bytes (drop i ms) ≡ all → new ++ flat_map member_bytes (drop (i + 1) ms) ≡ all
text_more out new ms i m all lt is e so_far =
    let d : drop i ms ≡ m ∷ drop (i + 1) ms = drop_more ms i m lt ∙ ap (λ x. x ∷ drop (i + 1) ms) (sym is) in
    let f : flat_map member_bytes (drop i ms) ≡ member_bytes m ++ flat_map member_bytes (drop (i + 1) ms) = ap (flat_map member_bytes) d ∙ flat_map-cons member_bytes m (drop (i + 1) ms) in
    ap (λ (x : List ℕ). x ++ flat_map member_bytes (drop (i + 1) ms)) e ∙ (append_assoc out (member_bytes m) (flat_map member_bytes (drop (i + 1) ms)) ∙ (ap (λ (x : List ℕ). out ++ x) (sym f) ∙ so_far))

pub fits_more : (ms : List Member) (i : ℕ) (m : Member) → i < length ms → m ≡ get_or ms i m → FitsMember m → All FitsMember (take i ms) → All FitsMember (take (i + 1) ms)
fits_more ms i m lt is fits so_far = All-more FitsMember ms i m lt so_far (rw (← is) fits)

pub row_fits : (ms row : List Member) (i : ℕ) → ms ≡ row → IsRow row → length ms ≤ i → All FitsMember (take i ms) → FitsRow row
row_fits ms row i e is le so_far = record {
  row = is;
  members = rw (← e) (recursion_from_All FitsMember ms (rw (take_all i ms le) at so_far));
}
