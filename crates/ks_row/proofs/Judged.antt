-- Going through the members of a row once tells whether bytes spell one.
use Rattle.std.proofs.Common.{◌≡◌, ℕ, zero, suc, ◌-◌, ◌<◌, Bool, true, false, cond, ◌&&◌, List, [], ◌∷◌, length, Option, Some, None, refl, sym, ap, ap₂, ◌∙◌, arith}
use Rattle.std.specs.Prelude.{◌==◌, nat_le, option_map, is_some, IfSome}
use Rattle.std.specs.Ordering.{nat_cmp, is_lt}
use Rattle.std.specs.Cmp.Lexicographic.{slice_cmp}
use Rattle.std.proofs.lemmas.Bool.Decides.{Decides-eqb}
use Rattle.ks_row.specs.Rows.{Member, names_of, rises, row_of}
use Rattle.ks_row.specs.Reading.{◌>>=◌, member_at, members_at, row_from}
use Rattle.ks_row.specs.Judged.{named_at, rest_after, whole_rest, is_whole}

pub goes_on : (last : List ℕ) (left : ℕ) (rest name after : List ℕ) (total : Option (List ℕ)) → 0 < left → Some (name, after) ≡ named_at rest → is_lt (slice_cmp nat_cmp last name) ≡ true
    → rest_after last left rest ≡ total → rest_after name (left - 1) after ≡ total
goes_on last zero rest name after total lt read below so_far = absurd (omega arith)
goes_on last (suc left) rest name after total lt read below so_far =
    let one : suc left - 1 ≡ left = omega arith in
    ap (λ n. rest_after name n after) one
    ∙ (sym (ap (λ (o : Option (List ℕ × List ℕ)). o >>= (λ m. cond (is_lt (slice_cmp nat_cmp last m.0)) (rest_after m.0 left m.1) None)) (sym read) ∙ ap (λ b. cond b (rest_after name left after) None) below) ∙ so_far)

abbrev Members : Type 0
Members = Option (List Member × List ℕ)

abbrev named : Option (Member × List ℕ) → Option (List ℕ × List ℕ)
named o = option_map (λ m. (m.0.0, m.1)) o

-- the bytes after these members, where their names rise from this one on
abbrev risen : List ℕ → Members → Option (List ℕ)
risen last o = o >>= (λ ms. cond (rises (last ∷ names_of ms.0)) (Some ms.1) None)

abbrev with_first : Member → Members → Members
with_first m o = o >>= (λ ms. Some (m ∷ ms.0, ms.1))

risen_first : (last : List ℕ) (m : Member) (o : Members) → cond (is_lt (slice_cmp nat_cmp last m.0)) (risen m.0 o) None ≡ risen last (with_first m o)
risen_first last m None = elim (is_lt (slice_cmp nat_cmp last m.0)) as (λ b. ◌≡◌ {A = Option (List ℕ)} (cond b None None) None) [ true ↦ refl | false ↦ refl ]
risen_first last m (Some ms) = elim (is_lt (slice_cmp nat_cmp last m.0)) as (λ b. cond b (cond (rises (m.0 ∷ names_of ms.0)) (Some ms.1) None) None ≡ cond (b && rises (m.0 ∷ names_of ms.0)) (Some ms.1) None) [ true ↦ refl | false ↦ refl ]

risen_all : (last : List ℕ) (n : ℕ) (bytes : List ℕ) → rest_after last n bytes ≡ risen last (members_at n bytes)
unfolding members_at
risen_all last zero bytes = refl
risen_all last (suc n) bytes = by (member_at bytes) (λ name after. risen_all name n after)
  where
    by : (o : Option (Member × List ℕ)) → ((name after : List ℕ) → rest_after name n after ≡ risen name (members_at n after))
        → (named o >>= (λ m. cond (is_lt (slice_cmp nat_cmp last m.0)) (rest_after m.0 n m.1) None)) ≡ risen last (o >>= (λ first. with_first first.0 (members_at n first.1)))
    by None rec = refl
    by (Some x) rec = ap (λ r. cond (is_lt (slice_cmp nat_cmp last x.0.0)) r None) (rec x.0.0 x.1) ∙ risen_first last x.0 (members_at n x.1)

counted : (n : ℕ) (bytes : List ℕ) → IfSome (members_at n bytes) (λ ms. length ms.0 ≡ n)
unfolding members_at
counted zero bytes = refl
counted (suc n) bytes = by (member_at bytes) (λ after. counted n after)
  where
    one_more : (m : Member) (o : Members) → IfSome o (λ ms. length ms.0 ≡ n) → IfSome (with_first m o) (λ ms. length ms.0 ≡ suc n)
    one_more m None h = tt
    one_more m (Some ms) h = ap suc h

    by : (o : Option (Member × List ℕ)) → ((after : List ℕ) → IfSome (members_at n after) (λ ms. length ms.0 ≡ n)) → IfSome (o >>= (λ first. with_first first.0 (members_at n first.1))) (λ ms. length ms.0 ≡ suc n)
    by None rec = tt
    by (Some x) rec = one_more x.0 (members_at n x.1) (rec x.1)

none_left : (n : ℕ) → (suc n == 0) ≡ false
none_left n = by (suc n == 0) refl
  where
    by : (b : Bool) → (suc n == 0) ≡ b → b ≡ false
    by false e = refl
    by true e = let z : suc n ≡ 0 = (Decides-eqb (suc n) 0).0 e in absurd (omega arith)

-- of 1 to 64 members
told_members : (m : Member) (ms : List Member) (rest : List ℕ) (n : ℕ) → length ms ≡ n
    → is_whole (cond (nat_le (suc n) 64) (cond (rises (names_of (m ∷ ms))) (Some rest) None) None) ≡ is_some (cond (length rest == 0) (row_of (m ∷ ms)) None)
told_members m ms rest n e =
    bits (nat_le (suc n) 64) (rises (names_of (m ∷ ms)))
    ∙ sym (ap₂ (λ a b. is_some (cond (length rest == 0) (cond (cond a false (cond b (rises (names_of (m ∷ ms))) false)) (Some (m ∷ ms)) None) None)) (none_left (length ms)) (ap (λ k. nat_le (suc k) 64) e))
  where
    nothing : false ≡ is_some (cond (length rest == 0) (cond false (Some (m ∷ ms)) None) None)
    nothing = elim (length rest == 0) as (λ z. false ≡ is_some (cond z (cond false (Some (m ∷ ms)) None) None)) [ true ↦ refl | false ↦ refl ]

    bits : (few risen : Bool) → is_whole (cond few (cond risen (Some rest) None) None) ≡ is_some (cond (length rest == 0) (cond (cond few risen false) (Some (m ∷ ms)) None) None)
    bits true true = elim (length rest == 0) as (λ z. z ≡ is_some (cond z (Some (m ∷ ms)) None)) [ true ↦ refl | false ↦ refl ]
    bits true false = nothing
    bits false true = nothing
    bits false false = nothing

none_told : (b : Bool) → false ≡ is_whole (cond b None None)
none_told true = refl
none_told false = refl

told_first : (n : ℕ) (m : Member) (o : Members) → IfSome o (λ ms. length ms.0 ≡ n)
    → is_whole (cond (nat_le (suc n) 64) (risen m.0 o) None) ≡ is_some (with_first m o >>= (λ ms. cond (length ms.1 == 0) (row_of ms.0) None))
told_first n m None h = sym (none_told (nat_le (suc n) 64))
told_first n m (Some ms) h = told_members m ms.0 ms.1 n h

told_all : (n : ℕ) (bytes : List ℕ) (o : Option (Member × List ℕ))
    → is_whole (cond (nat_le (suc n) 64) (named o >>= (λ m. rest_after m.0 n m.1)) None) ≡ is_some ((o >>= (λ first. with_first first.0 (members_at n first.1))) >>= (λ ms. cond (length ms.1 == 0) (row_of ms.0) None))
told_all n bytes None = sym (none_told (nat_le (suc n) 64))
told_all n bytes (Some x) =
    ap (λ r. is_whole (cond (nat_le (suc n) 64) r None)) (risen_all x.0.0 n x.1) ∙ told_first n x.0 (members_at n x.1) (counted n x.1)

pub told_row : (bytes : List ℕ) → is_whole (whole_rest bytes) ≡ is_some (row_from bytes)
unfolding row_from members_at
told_row [] = refl
told_row (zero ∷ bytes) = elim (length bytes == 0) as (λ b. false ≡ is_some (cond b (row_of []) None)) [ true ↦ refl | false ↦ refl ]
told_row (suc n ∷ bytes) =
    let one : suc n - 1 ≡ n = omega arith in
    ap₂ (λ z k. is_whole (cond z None (cond (nat_le (suc n) 64) (named_at bytes >>= (λ m. rest_after m.0 k m.1)) None))) (none_left n) one
    ∙ told_all n bytes (member_at bytes)
