-- A row kept as the bytes that spell it, and its fields where these stand.
use Rattle.std.proofs.Common.{◌≡◌, ℕ, ℤ, zero, suc, ◌-◌, ◌^◌, ◌<◌, ◌==◌, Bool, true, false, cond, List, [], ◌∷◌, ◌++◌, length, Option, Some, None, refl, sym, ap, ◌∙◌, append_assoc, arith}
use Rattle.std.specs.Prelude.{IfSome, is_some}
use Rattle.std.specs.List.{flat_map, AllByRecursion}
use Rattle.std.specs.Int.{w32, w64, to_be_bytes}
use Rattle.std.specs.Int.RustNames.{FitsSigned}
use Rattle.std.specs.Cmp.Lexicographic.{pointwise}
use Rattle.std.proofs.lemmas.Str.{is_utf8-from_IsUtf8}
use Rattle.std.proofs.lemmas.List.{append-nil}
use Rattle.std.proofs.lemmas.List.Concat.{flat_map-cons}
use Rattle.ks_row.specs.declared.row.Field.{Field}
use Rattle.ks_row.specs.declared.row.Field.TheVariants.{Int, Text}
use Rattle.ks_record.specs.Texts.{IsName, IsText, key_of, key_from}
use Rattle.ks_row.specs.Rows.{Member, IsRow, is_row, row_of, field_of}
use Rattle.ks_record.specs.Bytes.{IsBytes}
use Rattle.ks_row.specs.Spelling.{field_bytes, member_bytes, spelling, FitsField, FitsMember, FitsRow}
use Rattle.ks_row.specs.Reading.{◌>>=◌, members_at, row_from, members_from}
use Rattle.ks_row.specs.Judged.{members_of, row_in}
use Rattle.ks_row.specs.Fields.{field_there, member_there, field_among, field_within, number_row}
use Rattle.ks_row.proofs.Fields.{bind_some, test_some, wide32, bytes_again, number_again, int_again}
use Rattle.ks_row.proofs.Spelled.{row_again, row_codec}

-- ---- bytes that spell a row

abbrev pub IsSpelled : List ℕ → Type 0
IsSpelled bytes = FitsRow (row_in bytes) × (bytes ≡ spelling (row_in bytes))

pub kept_row : (bytes : List ℕ) → IsBytes bytes → is_some (row_from bytes) ≡ true → IsSpelled bytes
kept_row bytes fits e = by (row_from bytes) refl e
  where
    by : (o : Option (List Member)) → row_from bytes ≡ o → is_some o ≡ true → FitsRow (members_of o) × (bytes ≡ spelling (members_of o))
    by (Some ms) read t = row_codec.back bytes ms fits read
    by None read t = absurd cc

seen : (o : Option (List Member)) → is_some o ≡ true → Some (members_of o) ≡ o
seen (Some ms) e = refl
seen None e = absurd cc

pub seen_row : (bytes : List ℕ) → is_some (row_from bytes) ≡ true → Some (row_in bytes) ≡ row_from bytes
seen_row bytes e = seen (row_from bytes) e

unseen : (o : Option (List Member)) → is_some o ≡ false → None ≡ o
unseen (Some ms) e = absurd cc
unseen None e = refl

pub no_row : (bytes : List ℕ) → is_some (row_from bytes) ≡ false → None ≡ row_from bytes
no_row bytes e = unseen (row_from bytes) e

pub same_row : (bytes : List ℕ) (ms : List Member) → bytes ≡ spelling ms → FitsRow ms → row_in bytes ≡ ms
same_row bytes ms e fits = ap row_in e ∙ ap members_of (row_again ms fits)

pub made_row : (bytes : List ℕ) (ms : List Member) → bytes ≡ spelling ms → FitsRow ms → IsSpelled bytes
made_row bytes ms e fits = let same = same_row bytes ms e fits in (rw same fits, rw same e)

pub made_of : (bytes : List ℕ) (ms : List Member) → bytes ≡ spelling ms → FitsRow ms → Some (row_in bytes) ≡ row_of ms
made_of bytes ms e fits = ap Some (same_row bytes ms e fits) ∙ rw fits.row refl

-- ---- members that are read again

read_so : (bytes : List ℕ) (ms : List Member) → row_from bytes ≡ Some ms → members_from bytes ≡ Some ms
unfolding row_from members_from
read_so [] ms e = absurd cc
read_so (n ∷ bytes) ms e =
    let a = bind_some (members_at n bytes) (λ x. cond (length x.1 == 0) (row_of x.0) None) ms e in
    let b = test_some (length a.0.1 == 0) (row_of a.0.0) ms a.2 in
    let d = test_some (is_row a.0.0) (Some a.0.0) ms b.1 in
    ap (λ (o : Option (List Member × List ℕ)). o >>= (λ x. cond (length x.1 == 0) (Some x.0) None)) a.1
    ∙ (ap (λ c. cond c (Some a.0.0) None) b.0 ∙ d.1)

pub members_read : (bytes : List ℕ) → IsSpelled bytes → members_from bytes ≡ Some (row_in bytes)
members_read bytes s = read_so bytes (row_in bytes) (ap row_from s.1 ∙ row_again (row_in bytes) s.0)

-- ---- a field where it stands

field_there_again : (f : Field) (rest : List ℕ) → FitsField f → field_there (field_bytes f ++ rest) ≡ Some (f, rest)
unfolding field_there
field_there_again (Int z) rest fits = rw (int_again z rest fits) refl
field_there_again (Text s) rest fits =
    let regrouped : (to_be_bytes w32 (length s) ++ s) ++ rest ≡ to_be_bytes w32 (length s) ++ (s ++ rest) = append_assoc (to_be_bytes w32 (length s)) s rest in
    let lt : length s < 2 ^ 32 = omega (arith, fits.most) in
    ap (λ (w : List ℕ). field_there (1 ∷ w)) regrouped ∙ rw (number_again w32 (2 ^ 32) wide32 (length s) (s ++ rest) lt, bytes_again s rest) refl

member_there_again : (m : Member) (rest : List ℕ) → FitsMember m → member_there (member_bytes m ++ rest) ≡ Some (m, rest)
unfolding member_there member_bytes
member_there_again m rest fits =
    let regrouped : member_bytes m ++ rest ≡ (length m.0 ∷ m.0) ++ (field_bytes m.1 ++ rest) = append_assoc (length m.0 ∷ m.0) (field_bytes m.1) rest in
    ap member_there regrouped ∙ rw (bytes_again m.0 (field_bytes m.1 ++ rest), field_there_again m.1 rest fits.field) refl

among : (name : List ℕ) (ms : List Member) (rest : List ℕ) → AllByRecursion FitsMember ms → field_among name (length ms) (flat_map member_bytes ms ++ rest) ≡ field_of name ms
among name [] rest fits = refl
among name (m ∷ ms) rest fits =
    let regrouped : flat_map member_bytes (m ∷ ms) ++ rest ≡ member_bytes m ++ (flat_map member_bytes ms ++ rest) = ap (λ (x : List ℕ). x ++ rest) (flat_map-cons member_bytes m ms) ∙ append_assoc (member_bytes m) (flat_map member_bytes ms) rest in
    ap (field_among name (suc (length ms))) regrouped
    ∙ (ap (λ (o : Option (Member × List ℕ)). o >>= (λ x. cond (pointwise ◌==◌ x.0.0 name) (Some x.0.1) (field_among name (length ms) x.1))) (member_there_again m (flat_map member_bytes ms ++ rest) fits.0)
    ∙ ap (λ (o : Option Field). cond (pointwise ◌==◌ m.0 name) (Some m.1) o) (among name ms rest fits.1))

within : (name : List ℕ) (ms : List Member) → FitsRow ms → field_within name (spelling ms) ≡ field_of name ms
unfolding spelling
within name ms fits =
    ap (field_among name (length ms)) (sym (append-nil (flat_map member_bytes ms))) ∙ among name ms [] fits.members

pub field_found : (name bytes : List ℕ) → IsSpelled bytes → field_within name bytes ≡ field_of name (row_in bytes)
field_found name bytes s = ap (field_within name) s.1 ∙ within name (row_in bytes) s.0

-- one turn of the search
pub looks_on : (name : List ℕ) (left : ℕ) (rest : List ℕ) (m : Member) (more : List ℕ) (total : Option Field) → 0 < left → Some (m, more) ≡ member_there rest → pointwise ◌==◌ m.0 name ≡ false
    → field_among name left rest ≡ total → field_among name (left - 1) more ≡ total
looks_on name zero rest m more total lt read other so_far = absurd (omega arith)
looks_on name (suc left) rest m more total lt read other so_far =
    let one : suc left - 1 ≡ left = omega arith in
    ap (λ n. field_among name n more) one
    ∙ (sym (ap (λ (o : Option (Member × List ℕ)). o >>= (λ x. cond (pointwise ◌==◌ x.0.0 name) (Some x.0.1) (field_among name left x.1))) (sym read) ∙ ap (λ b. cond b (Some m.1) (field_among name left more)) other) ∙ so_far)

-- ---- what a field of a row fits

field_fits : (name : List ℕ) (ms : List Member) → AllByRecursion FitsMember ms → IfSome (field_of name ms) FitsField
field_fits name [] fits = tt
field_fits name (m ∷ ms) fits = by (pointwise ◌==◌ m.0 name) (field_fits name ms fits.1)
  where
    by : (b : Bool) → IfSome (field_of name ms) FitsField → IfSome (cond b (Some m.1) (field_of name ms)) FitsField
    by true more = fits.0.field
    by false more = more

pub found_fits : (name : List ℕ) (ms : List Member) (o : Option Field) → FitsRow ms → o ≡ field_of name ms → IfSome o FitsField
found_fits name ms o fits e = rw e (field_fits name ms fits.members)

-- ---- members that are given

pub row_given : (ms : List Member) (P : List Member → Type 0) (o : Option (List Member)) → o ≡ row_of ms → P ms → IfSome o (λ r. IsRow r × P r)
row_given ms P o e p = rw e (by (is_row ms) refl)
  where
    by : (b : Bool) → is_row ms ≡ b → IfSome (cond b (Some ms) None) (λ r. IsRow r × P r)
    by true t = (t, p)
    by false t = tt

-- ---- a key of a text

pub key_from_text : (s : List ℕ) → IsText s → key_from s ≡ key_of s
key_from_text s t = rw (is_utf8-from_IsUtf8 s t.utf8) refl

-- ---- the row of one number

pub one_spelled : (m : Member) → spelling (m ∷ []) ≡ 1 ∷ member_bytes m
unfolding spelling
one_spelled m = ap (λ (xs : List ℕ). 1 ∷ xs) (append-nil (member_bytes m))

pub number_fits : (name : List ℕ) (z : ℤ) → IsName name → FitsSigned w64 z → FitsRow (number_row z name)
number_fits name z n fits = record { row = refl; members = (record { name = n; field = fits }, tt) }
