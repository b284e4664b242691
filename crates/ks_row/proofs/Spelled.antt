-- The two laws of a row's bytes: what is read is spelled so, and what is spelled so is read.
use Rattle.std.proofs.Common.{◌≡◌, ℕ, zero, suc, ◌^◌, ◌<◌, ◌≤◌, false, cond, eqb, leb, List, [], ◌∷◌, ◌++◌, length, Some, None, refl, sym, ap, subst, ◌∙◌, append_assoc, arith}
use Rattle.std.specs.List.{flat_map, AllByRecursion}
use Rattle.std.specs.Int.{w32, to_be_bytes}
use Rattle.std.specs.Str.{is_utf8}
use Rattle.std.proofs.lemmas.Str.{IsUtf8-from_is_utf8, is_utf8-from_IsUtf8}
use Rattle.std.proofs.lemmas.Bool.{eqb-true, leb-true, le-leb}
use Rattle.std.proofs.lemmas.Bool.Decides.{nat_tests}
use Rattle.std.proofs.lemmas.List.{append-nil, nil_from_length}
use Rattle.std.proofs.lemmas.List.Concat.{flat_map-cons}
use Rattle.ks_row.specs.declared.row.Field.{Field}
use Rattle.ks_row.specs.declared.row.Field.TheVariants.{Int, Text}
use Rattle.ks_record.specs.Texts.{IsKey, IsName, IsText, key_of, name_of, text_of, key_from, name_from, text_from}
use Rattle.ks_row.specs.Rows.{Member, is_row, row_of}
use Rattle.ks_record.specs.Bytes.{IsBytes}
use Rattle.ks_row.specs.Spelling.{field_bytes, member_bytes, spelling, FitsField, FitsMember, FitsRow}
use Rattle.ks_row.specs.Reading.{◌>>=◌, bytes_at, number_at, int_at, name_at, field_at, member_at, members_at, row_from}
use Rattle.ks_row.specs.Codecs.{IsCodec}
use Rattle.ks_row.proofs.Decoded.{codec_of}
use Rattle.ks_row.proofs.Fields.{bind_some, test_some, some_is, paired, Takes, Takes-then, IsBytes-rest, wide32, bytes_take, bytes_again, number_takes, number_again, int_takes, int_again}

-- ---- keys, names and texts

within : (most : ℕ) (s t : List ℕ) → cond (leb (length s) most) (Some s) None ≡ Some t → (s ≡ t) × (length s ≤ most)
within most s t e = let a = test_some (leb (length s) most) (Some s) t e in (some_is s t a.1, leb-true _ _ a.0)

some_length : (s : List ℕ) → 0 < length s → eqb (length s) 0 ≡ false
some_length s h = grind (arith, nat_tests)

inside : (most : ℕ) (s t : List ℕ) → cond (eqb (length s) 0) None (cond (leb (length s) most) (Some s) None) ≡ Some t → (s ≡ t) × (0 < length s) × (length s ≤ most)
inside most [] t e = absurd cc
inside most (x ∷ s) t e =
    let a = within most (x ∷ s) t (rw (some_length (x ∷ s) (omega arith)) at e) in
    (a.0, omega arith, a.1)

pub key_takes : (bytes key : List ℕ) → key_from bytes ≡ Some key → (bytes ≡ key) × IsKey bytes
key_takes bytes key e =
    let a = test_some (is_utf8 bytes) (key_of bytes) key e in
    let b = inside 1024 bytes key a.1 in
    (b.0, record { some = b.1; most = b.2; utf8 = IsUtf8-from_is_utf8 bytes a.0 })

pub name_takes : (bytes name : List ℕ) → name_from bytes ≡ Some name → (bytes ≡ name) × IsName bytes
name_takes bytes name e =
    let a = test_some (is_utf8 bytes) (name_of bytes) name e in
    let b = inside 64 bytes name a.1 in
    (b.0, record { some = b.1; most = b.2; utf8 = IsUtf8-from_is_utf8 bytes a.0 })

pub text_takes : (bytes text : List ℕ) → text_from bytes ≡ Some text → (bytes ≡ text) × IsText bytes
text_takes bytes text e =
    let a = test_some (is_utf8 bytes) (text_of bytes) text e in
    let b = within 65536 bytes text a.1 in
    (b.0, record { most = b.1; utf8 = IsUtf8-from_is_utf8 bytes a.0 })

pub key_again : (bytes : List ℕ) → IsKey bytes → key_from bytes ≡ Some bytes
key_again bytes k = rw (is_utf8-from_IsUtf8 bytes k.utf8, some_length bytes k.some, le-leb _ _ k.most) refl

pub name_again : (bytes : List ℕ) → IsName bytes → name_from bytes ≡ Some bytes
name_again bytes k = rw (is_utf8-from_IsUtf8 bytes k.utf8, some_length bytes k.some, le-leb _ _ k.most) refl

pub text_again : (bytes : List ℕ) → IsText bytes → text_from bytes ≡ Some bytes
text_again bytes k = rw (is_utf8-from_IsUtf8 bytes k.utf8, le-leb _ _ k.most) refl

-- ---- members

named_takes : (bytes name rest : List ℕ) → IsBytes bytes → name_at bytes ≡ Some (name, rest) → Takes bytes (length name ∷ name) rest × IsName name
unfolding name_at
named_takes [] name rest fits e = absurd cc
named_takes (n ∷ bytes) name rest fits e =
    let a = bind_some (bytes_at n bytes) (λ front. name_from front.0 >>= λ name. Some (name, front.1)) (name, rest) e in
    let b = bind_some (name_from a.0.0) (λ name. Some (name, a.0.1)) (name, rest) a.2 in
    let t = bytes_take n bytes a.0.0 a.0.1 (IsBytes-rest n bytes fits) a.1 in
    let k = name_takes a.0.0 b.0 b.1 in
    let whole : Takes (n ∷ bytes) (length a.0.0 ∷ a.0.0) a.0.1 × IsName a.0.0 = (record { parts = rw t.1 (ap (λ (w : List ℕ). n ∷ w) t.0.parts); rest_fits = t.0.rest_fits }, k.1) in
    let same : (a.0.0, a.0.1) ≡ (name, rest) = paired a.0.0 b.0 name a.0.1 rest k.0 (some_is (b.0, a.0.1) (name, rest) b.2) in
    subst (λ (x : List ℕ × List ℕ). Takes (n ∷ bytes) (length x.0 ∷ x.0) x.1 × IsName x.0) same whole

named_again : (name rest : List ℕ) → IsName name → name_at (length name ∷ name ++ rest) ≡ Some (name, rest)
unfolding name_at
named_again name rest k = rw (bytes_again name rest, name_again name k) refl

field_takes : (bytes : List ℕ) (f : Field) (rest : List ℕ) → IsBytes bytes → field_at bytes ≡ Some (f, rest) → Takes bytes (field_bytes f) rest × FitsField f
unfolding field_at
field_takes [] f rest fits e = absurd cc
field_takes (zero ∷ bytes) f rest fits e =
    let a = bind_some (int_at bytes) (λ n. Some (Int n.0, n.1)) (f, rest) e in
    let t = int_takes bytes a.0.0 a.0.1 (IsBytes-rest 0 bytes fits) a.1 in
    let whole : Takes (0 ∷ bytes) (field_bytes (Int a.0.0)) a.0.1 × FitsField (Int a.0.0) = (record { parts = ap (λ (w : List ℕ). 0 ∷ w) t.0.parts; rest_fits = t.0.rest_fits }, t.1) in
    subst (λ (x : Field × List ℕ). Takes (0 ∷ bytes) (field_bytes x.0) x.1 × FitsField x.0) (some_is (Int a.0.0, a.0.1) (f, rest) a.2) whole
field_takes (suc zero ∷ bytes) f rest fits e =
    let a = bind_some (number_at w32 bytes) (λ n. bytes_at n.0 n.1 >>= λ front. text_from front.0 >>= λ text. Some (Text text, front.1)) (f, rest) e in
    let b = bind_some (bytes_at a.0.0 a.0.1) (λ front. text_from front.0 >>= λ text. Some (Text text, front.1)) (f, rest) a.2 in
    let d = bind_some (text_from b.0.0) (λ text. Some (Text text, b.0.1)) (f, rest) b.2 in
    let t0 = number_takes w32 (2 ^ 32) wide32 bytes a.0.0 a.0.1 (IsBytes-rest 1 bytes fits) a.1 in
    let t1 = bytes_take a.0.0 a.0.1 b.0.0 b.0.1 t0.0.rest_fits b.1 in
    let k = text_takes b.0.0 d.0 d.1 in
    let both = Takes-then bytes (to_be_bytes w32 a.0.0) a.0.1 b.0.0 b.0.1 t0.0 t1.0 in
    let sized : Takes bytes (to_be_bytes w32 (length b.0.0) ++ b.0.0) b.0.1 = subst (λ (n : ℕ). Takes bytes (to_be_bytes w32 n ++ b.0.0) b.0.1) (sym t1.1) both in
    let whole : Takes (1 ∷ bytes) (field_bytes (Text b.0.0)) b.0.1 × FitsField (Text b.0.0) = (record { parts = ap (λ (w : List ℕ). 1 ∷ w) sized.parts; rest_fits = sized.rest_fits }, k.1) in
    let same : (Text b.0.0, b.0.1) ≡ (f, rest) = paired (Text b.0.0) (Text d.0) f b.0.1 rest (ap Text k.0) (some_is (Text d.0, b.0.1) (f, rest) d.2) in
    subst (λ (x : Field × List ℕ). Takes (1 ∷ bytes) (field_bytes x.0) x.1 × FitsField x.0) same whole
field_takes (suc (suc b) ∷ bytes) f rest fits e = absurd cc

field_again : (f : Field) (rest : List ℕ) → FitsField f → field_at (field_bytes f ++ rest) ≡ Some (f, rest)
unfolding field_at
field_again (Int z) rest fits = rw (int_again z rest fits) refl
field_again (Text s) rest fits =
    let regrouped : (to_be_bytes w32 (length s) ++ s) ++ rest ≡ to_be_bytes w32 (length s) ++ (s ++ rest) = append_assoc (to_be_bytes w32 (length s)) s rest in
    let lt : length s < 2 ^ 32 = omega (arith, fits.most) in
    ap (λ (w : List ℕ). field_at (1 ∷ w)) regrouped ∙ rw (number_again w32 (2 ^ 32) wide32 (length s) (s ++ rest) lt, bytes_again s rest, text_again s fits) refl

member_takes : (bytes : List ℕ) (x : Member × List ℕ) → IsBytes bytes → member_at bytes ≡ Some x → Takes bytes (member_bytes x.0) x.1 × FitsMember x.0
unfolding member_at member_bytes
member_takes bytes x fits e =
    let a = bind_some (name_at bytes) (λ name. field_at name.1 >>= λ field. Some ((name.0, field.0), field.1)) x e in
    let b = bind_some (field_at a.0.1) (λ field. Some ((a.0.0, field.0), field.1)) x a.2 in
    let t0 = named_takes bytes a.0.0 a.0.1 fits a.1 in
    let t1 = field_takes a.0.1 b.0.0 b.0.1 t0.0.rest_fits b.1 in
    let both = Takes-then bytes (length a.0.0 ∷ a.0.0) a.0.1 (field_bytes b.0.0) b.0.1 t0.0 t1.0 in
    let made : Member × List ℕ = ((a.0.0, b.0.0), b.0.1) in
    subst (λ (y : Member × List ℕ). Takes bytes (member_bytes y.0) y.1 × FitsMember y.0) (some_is made x b.2) (both, record { name = t0.1; field = t1.1 })

member_again : (m : Member) (rest : List ℕ) → FitsMember m → member_at (member_bytes m ++ rest) ≡ Some (m, rest)
unfolding member_at member_bytes
member_again m rest fits =
    let regrouped : member_bytes m ++ rest ≡ (length m.0 ∷ m.0) ++ (field_bytes m.1 ++ rest) = append_assoc (length m.0 ∷ m.0) (field_bytes m.1) rest in
    ap member_at regrouped ∙ rw (named_again m.0 (field_bytes m.1 ++ rest) fits.name, field_again m.1 rest fits.field) refl

members_take : (n : ℕ) (bytes : List ℕ) (x : List Member × List ℕ) → IsBytes bytes → members_at n bytes ≡ Some x → Takes bytes (flat_map member_bytes x.0) x.1 × (length x.0 ≡ n) × AllByRecursion FitsMember x.0
unfolding members_at
members_take zero bytes x fits e =
    subst (λ (y : List Member × List ℕ). Takes bytes (flat_map member_bytes y.0) y.1 × (length y.0 ≡ 0) × AllByRecursion FitsMember y.0) (some_is ([], bytes) x e) (record { parts = refl; rest_fits = fits }, refl, tt)
members_take (suc n) bytes x fits e =
    let a = bind_some (member_at bytes) (λ first. members_at n first.1 >>= λ others. Some (first.0 ∷ others.0, others.1)) x e in
    let b = bind_some (members_at n a.0.1) (λ others. Some (a.0.0 ∷ others.0, others.1)) x a.2 in
    let first = member_takes bytes a.0 fits a.1 in
    let second = members_take n a.0.1 b.0 first.0.rest_fits b.1 in
    let both = Takes-then bytes (member_bytes a.0.0) a.0.1 (flat_map member_bytes b.0.0) b.0.1 first.0 second.0 in
    let made : List Member × List ℕ = (a.0.0 ∷ b.0.0, b.0.1) in
    subst (λ (y : List Member × List ℕ). Takes bytes (flat_map member_bytes y.0) y.1 × (length y.0 ≡ suc n) × AllByRecursion FitsMember y.0) (some_is made x b.2) (rw flat_map-cons both, ap suc second.1, (first.1, second.2))

members_again : (ms : List Member) (rest : List ℕ) → AllByRecursion FitsMember ms → members_at (length ms) (flat_map member_bytes ms ++ rest) ≡ Some (ms, rest)
unfolding members_at
members_again [] rest fits = refl
members_again (m ∷ ms) rest fits =
    let regrouped : flat_map member_bytes (m ∷ ms) ++ rest ≡ member_bytes m ++ (flat_map member_bytes ms ++ rest) = ap (λ (x : List ℕ). x ++ rest) (flat_map-cons member_bytes m ms) ∙ append_assoc (member_bytes m) (flat_map member_bytes ms) rest in
    ap (members_at (suc (length ms))) regrouped ∙ rw (member_again m (flat_map member_bytes ms ++ rest) fits.0, members_again ms rest fits.1) refl

-- ---- rows

pub row_takes : (bytes : List ℕ) (ms : List Member) → IsBytes bytes → row_from bytes ≡ Some ms → FitsRow ms × (bytes ≡ spelling ms)
unfolding row_from spelling
row_takes [] ms fits e = absurd cc
row_takes (n ∷ bytes) ms fits e =
    let a = bind_some (members_at n bytes) (λ x. cond (eqb (length x.1) 0) (row_of x.0) None) ms e in
    let b = test_some (eqb (length a.0.1) 0) (row_of a.0.0) ms a.2 in
    let d = test_some (is_row a.0.0) (Some a.0.0) ms b.1 in
    let t = members_take n bytes a.0 (IsBytes-rest n bytes fits) a.1 in
    let nothing : a.0.1 ≡ [] = nil_from_length a.0.1 (eqb-true _ _ b.0) in
    let whole : n ∷ bytes ≡ spelling a.0.0 = ap (λ (w : List ℕ). n ∷ w) (t.0.parts ∙ ap (λ (r : List ℕ). flat_map member_bytes a.0.0 ++ r) nothing ∙ append-nil (flat_map member_bytes a.0.0)) ∙ ap (λ (k : ℕ). k ∷ flat_map member_bytes a.0.0) (sym t.1) in
    subst (λ (v : List Member). FitsRow v × (n ∷ bytes ≡ spelling v)) (some_is a.0.0 ms d.1) (record { row = d.0; members = t.2 }, whole)

pub row_again : (ms : List Member) → FitsRow ms → row_from (spelling ms) ≡ Some ms
unfolding row_from spelling
row_again ms fits =
    let rest : members_at (length ms) (flat_map member_bytes ms) ≡ Some (ms, []) = ap (members_at (length ms)) (sym (append-nil (flat_map member_bytes ms))) ∙ members_again ms [] fits.members in
    rw (rest, fits.row) refl

pub row_codec : IsCodec row_from spelling FitsRow
row_codec = codec_of row_again row_takes
