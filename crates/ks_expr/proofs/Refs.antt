-- Members where they stand, put one by one into the place of their names.
use Rattle.std.proofs.Common.{◌≡◌, ℕ, suc, ◌+◌, ◌<◌, ◌≤◌, Bool, true, false, List, [], ◌∷◌, ◌++◌, map, length, take, drop, get_or, slice_get, slice_set, Option, option_map, if◌then◌else◌, refl, sym, ap, ap₂, ◌∙◌, arith}
use Rattle.std.specs.Borrow.{Bor}
use Rattle.std.specs.List.{insert, All}
use Rattle.std.specs.Ordering.{nat_cmp, is_lt}
use Rattle.std.specs.Cmp.Lexicographic.{slice_cmp}
use Rattle.std.proofs.lemmas.List.{map-set, map-append, take-map, drop-map, drop_more, drop_all, length-map, get_or_default}
use Rattle.std.proofs.lemmas.List.Elements.{All-cons, All-append, All-take, All-drop, All-set}
use Rattle.std.proofs.lemmas.Option.{slice_get-map}
use Rattle.ks_row.specs.declared.row.Field.{Field}
use Rattle.ks_row.specs.declared.field_ref.FieldRef.{FieldRef}
use Rattle.ks_row.specs.Fields.{member_seen}
use Rattle.ks_row.specs.Spelling.{FitsMember}
use Rattle.ks_expr.specs.declared.terms.Expr.{Expr}
use Rattle.ks_expr.specs.Terms.{term_of, entries_of}
use Rattle.ks_expr.specs.Eval.{Row, eval, put_field, with_field, fields_onto}
use Rattle.ks_expr.specs.Values.{place_for, is_named}
use Rattle.ks_expr.proofs.Projecting.{put_set, put_insert}

abbrev pub Ref : Type 0
Ref = Bor (List ℕ) × FieldRef

pub named_there : (name : List ℕ) (fs : List Ref) (i : ℕ) → is_named name (slice_get (map member_seen fs) i) ≡ is_named name (option_map member_seen (slice_get fs i))
named_there name fs i = ap (is_named name) (slice_get-map member_seen fs i)

pub put_set_there : (name : List ℕ) (f : Field) (fs : List Ref) (x : Ref) → member_seen x ≡ (name, f) → is_named name (slice_get (map member_seen fs) (place_for name (map member_seen fs))) ≡ true
    → map member_seen (slice_set fs (place_for name (map member_seen fs)) x) ≡ put_field name f (map member_seen fs)
put_set_there name f fs x is e =
    map-set member_seen fs (place_for name (map member_seen fs)) x
    ∙ (ap (slice_set (map member_seen fs) (place_for name (map member_seen fs))) is ∙ put_set name f (map member_seen fs) e)

inserted : (fs : List Ref) (i : ℕ) (x : Ref) → map member_seen (insert fs i x) ≡ insert (map member_seen fs) i (member_seen x)
inserted fs i x =
    map-append member_seen (take i fs) (x ∷ drop i fs)
    ∙ ap₂ (λ (front back : Row). front ++ member_seen x ∷ back) (sym (take-map member_seen i fs)) (sym (drop-map member_seen i fs))

pub put_insert_there : (name : List ℕ) (f : Field) (fs : List Ref) (x : Ref) → member_seen x ≡ (name, f) → is_named name (slice_get (map member_seen fs) (place_for name (map member_seen fs))) ≡ false
    → map member_seen (insert fs (place_for name (map member_seen fs)) x) ≡ put_field name f (map member_seen fs)
put_insert_there name f fs x is e =
    inserted fs (place_for name (map member_seen fs)) x
    ∙ (ap (insert (map member_seen fs) (place_for name (map member_seen fs))) is ∙ put_insert name f (map member_seen fs) e)

-- ---- a member that fits, put anywhere

pub set_fits : (fs : List Ref) (i : ℕ) (x : Ref) → FitsMember (member_seen x) → All FitsMember (map member_seen fs) → All FitsMember (map member_seen (slice_set fs i x))
set_fits fs i x own fits = rw (map-set member_seen fs i x) (All-set FitsMember (map member_seen fs) i (member_seen x) own fits)

pub insert_fits : (fs new : List Ref) (i : ℕ) (x : Ref) → new ≡ insert fs i x → FitsMember (member_seen x) → All FitsMember (map member_seen fs) → All FitsMember (map member_seen new)
insert_fits fs new i x is own fits =
    rw (ap (map member_seen) is ∙ inserted fs i x)
    (All-append FitsMember (take i (map member_seen fs)) (member_seen x ∷ drop i (map member_seen fs))
    (All-take FitsMember i (map member_seen fs) fits) (All-cons FitsMember (member_seen x) (drop i (map member_seen fs)) own (All-drop FitsMember i (map member_seen fs) fits)))

-- ---- the search of a place

rest_there : (fs : List Ref) (i : ℕ) (x : Ref) → i < length fs → x ≡ get_or fs i x → drop i (map member_seen fs) ≡ member_seen x ∷ drop (i + 1) (map member_seen fs)
rest_there fs i x lt is =
    drop-map member_seen i fs
    ∙ (ap (map member_seen) (drop_more fs i x lt ∙ ap (λ (y : Ref). y ∷ drop (i + 1) fs) (sym is))
    ∙ ap (λ (ms : Row). member_seen x ∷ ms) (sym (drop-map member_seen (i + 1) fs)))

found_at : (name : List ℕ) (fs : List Ref) (i : ℕ) (d : Ref) (b : Bool) → i < length fs → b ≡ is_lt (slice_cmp nat_cmp (get_or fs i d).0.now name)
    → place_for name (drop i (map member_seen fs)) ≡ (if b then suc (place_for name (drop (i + 1) (map member_seen fs))) else 0)
found_at name fs i d b lt e =
    ap (place_for name) (rest_there fs i (get_or fs i d) lt (get_or_default fs i d (get_or fs i d) lt))
    ∙ ap (λ c. if c then suc (place_for name (drop (i + 1) (map member_seen fs))) else 0) (sym e)

pub place_on : (name : List ℕ) (fs : List Ref) (i place total : ℕ) (d : Ref) (b : Bool) → i < length fs → b ≡ is_lt (slice_cmp nat_cmp (get_or fs i d).0.now name) → b ≡ true
    → place + place_for name (drop i (map member_seen fs)) ≡ total → (place + 1) + place_for name (drop (i + 1) (map member_seen fs)) ≡ total
place_on name fs i place total d b lt e t so_far =
    let here : place_for name (drop i (map member_seen fs)) ≡ suc (place_for name (drop (i + 1) (map member_seen fs))) = found_at name fs i d b lt e ∙ ap (λ c. if c then suc (place_for name (drop (i + 1) (map member_seen fs))) else 0) t in
    omega (arith, here, so_far)

pub place_here : (name : List ℕ) (fs : List Ref) (i place total : ℕ) (d : Ref) (b : Bool) → i < length fs → b ≡ is_lt (slice_cmp nat_cmp (get_or fs i d).0.now name) → b ≡ false
    → place + place_for name (drop i (map member_seen fs)) ≡ total → place ≡ total
place_here name fs i place total d b lt e t so_far =
    let here : place_for name (drop i (map member_seen fs)) ≡ 0 = found_at name fs i d b lt e ∙ ap (λ c. if c then suc (place_for name (drop (i + 1) (map member_seen fs))) else 0) t in
    omega (arith, here, so_far)

pub place_end : (name : List ℕ) (fs : List Ref) (i place total : ℕ) → length fs ≤ i
    → place + place_for name (drop i (map member_seen fs)) ≡ total → place ≡ total
place_end name fs i place total le so_far =
    let none : place_for name (drop i (map member_seen fs)) ≡ 0 = ap (place_for name) (drop_all i (map member_seen fs) (omega (arith, le, length-map fs member_seen))) in
    omega (arith, none, so_far)

-- ---- a turn of a projection

pub projected_on : (old new : Row) (es : List (List ℕ × Expr)) (i : ℕ) (x : List ℕ × Expr) (l r : Option Row) (all : Row) → i < length es → x ≡ get_or es i x → new ≡ with_field x.0 (eval (term_of x.1) l r) old
    → fields_onto old (entries_of (drop i es)) l r ≡ all → fields_onto new (entries_of (drop (i + 1) es)) l r ≡ all
projected_on old new es i x l r all lt is e so_far =
    let rest : drop i es ≡ x ∷ drop (i + 1) es = drop_more es i x lt ∙ ap (λ (y : List ℕ × Expr). y ∷ drop (i + 1) es) (sym is) in
    ap (λ (found : Row). fields_onto found (entries_of (drop (i + 1) es)) l r) e
    ∙ (sym (ap (λ (s : List (List ℕ × Expr)). fields_onto old (entries_of s) l r) rest) ∙ so_far)
