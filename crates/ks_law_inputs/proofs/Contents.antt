-- The content of a string in a text of UTF-8 is UTF-8.
use Rattle.std.proofs.Common.{◌≡◌, ℕ, ◌+◌, ◌*◌, ◌<◌, ◌≤◌, Bool, true, false, cond, ◌&&◌, ◌||◌, ◌==◌, nat_lt, nat_le, List, [], ◌∷◌, ◌++◌, length, get_or, Option, Some, None, option_and_then, ◌⊎◌, inl, inr, refl, sym, ap, ◌∙◌, subst, arith, append_assoc, append-nil}
use Rattle.std.proofs.Math.Seq.{take-append_seam, drop-append_seam}
use Rattle.std.proofs.lemmas.List.{length-append}
use Rattle.std.proofs.lemmas.Bool.{ltb-true, ltb-false, le-ltb, lt-ltb, le-leb, leb-true, leb-false}
use Rattle.std.proofs.lemmas.Bool.Decides.{Decides-eqb}
use Rattle.std.proofs.lemmas.Str.{IsUtf8-append, IsUtf8-take, IsUtf8-drop, IsUtf8-encode, IsCharBoundary-before_ascii, IsCharBoundary-after_ascii, encode_ascii}
use Rattle.std.specs.Str.{IsUtf8, IsCharBoundary}
use Rattle.std.specs.Char.{is_digit, digit_value, encode_utf8, IsScalar}
use Rattle.json.specs.Text.{code_unit, short_escape, is_high_surrogate, is_low_surrogate, surrogate_pair, Within, plain, after_backslash, after_u, after_high, prepend, content}

-- ---- cuts at a byte of ASCII
at_front : (front : List ℕ) (x : ℕ) (xs : List ℕ) → get_or (front ++ x ∷ xs) (length front) 0 ≡ x
at_front [] x xs = refl
at_front (y ∷ front) x xs = at_front front x xs

boundary : (front : List ℕ) (x : ℕ) (xs : List ℕ) → x < 128 → IsCharBoundary (front ++ x ∷ xs) (length front)
boundary front x xs a = IsCharBoundary-before_ascii (front ++ x ∷ xs) (length front) (omega (arith, length-append front (x ∷ xs))) (omega (arith, at_front front x xs))

pub front_of : (front : List ℕ) (x : ℕ) (xs : List ℕ) → x < 128 → IsUtf8 (front ++ x ∷ xs) → IsUtf8 front
front_of front x xs a u = subst IsUtf8 (take-append_seam front (x ∷ xs)) (IsUtf8-take (front ++ x ∷ xs) (length front) u (boundary front x xs a))

rest_of : (front : List ℕ) (x : ℕ) (xs : List ℕ) → x < 128 → IsUtf8 (front ++ x ∷ xs) → IsUtf8 (x ∷ xs)
rest_of front x xs a u = subst IsUtf8 (drop-append_seam front (x ∷ xs)) (IsUtf8-drop (front ++ x ∷ xs) (length front) u (boundary front x xs a))

pub past_ascii : (x : ℕ) (xs : List ℕ) → x < 128 → IsUtf8 (x ∷ xs) → IsUtf8 xs
past_ascii x xs a u = IsUtf8-drop (x ∷ xs) 1 u (IsCharBoundary-after_ascii (x ∷ xs) 0 u (omega arith) a)

pub after_front : (front : List ℕ) (x : ℕ) (xs : List ℕ) → x < 128 → IsUtf8 (front ++ x ∷ xs) → IsUtf8 xs
after_front front x xs a u = past_ascii x xs a (rest_of front x xs a u)

-- ---- tests
is_number : (m n : ℕ) → (m == n) ≡ true → m ≡ n
is_number m n e = (Decides-eqb m n).0 e

both : (a b : Bool) → a && b ≡ true → (a ≡ true) × (b ≡ true)
both true b e = (refl, e)
both false b e = absurd (cc)

yes : {A : Type 0} (b : Bool) (x y : Option A) (z : A) → cond b x y ≡ Some z → ((b ≡ true) × (x ≡ Some z)) ⊎ ((b ≡ false) × (y ≡ Some z))
yes true x y z e = inl (refl, e)
yes false x y z e = inr (refl, e)

bound : {A B : Type 0} (o : Option A) (f : A → Option B) (y : B) → option_and_then f o ≡ Some y → (x : A) × (o ≡ Some x) × (f x ≡ Some y)
bound None f y e = absurd (cc)
bound (Some x) f y e = (x, refl, e)

pub prepended : (bytes s : List ℕ) (r : Option (List ℕ)) → prepend bytes r ≡ Some s → (t : List ℕ) × (r ≡ Some t) × (bytes ++ t ≡ s)
prepended bytes s None e = absurd (cc)
prepended bytes s (Some t) e = (t, refl, cc)

-- ---- escapes
digit_big : (c : ℕ) → 128 ≤ c → digit_value c ≡ 36
digit_big c h = rw (le-ltb c 48 (omega arith), le-ltb c 58 (omega arith), le-ltb c 65 (omega arith), le-ltb c 91 (omega arith), le-ltb c 97 (omega arith), le-ltb c 123 (omega arith)) refl

digit_is : (c : ℕ) → digit_value c < 16 → c < 128
digit_is c h = by (not_below (nat_lt c 128) refl)
  where
    not_below : (b : Bool) → nat_lt c 128 ≡ b → (c < 128) ⊎ (128 ≤ c)
    not_below true e = inl (ltb-true c 128 e)
    not_below false e = inr (ltb-false c 128 e)

    by : (c < 128) ⊎ (128 ≤ c) → c < 128
    by (inl l) = l
    by (inr l) = omega (arith, digit_big c l)

record IsUnit (a b c d u : ℕ) : Type 0 where
  pub first : a < 128
  pub second : b < 128
  pub third : c < 128
  pub fourth : d < 128
  pub small : u < 65536

unit_within : (a b c d u : ℕ) → a < 16 → b < 16 → c < 16 → d < 16 → a * 4096 + b * 256 + c * 16 + d ≡ u → u < 65536
unit_within a b c d u ha hb hc hd e = omega arith

four : (a b c d : Bool) → a && b && c && d ≡ true → (a ≡ true) × (b ≡ true) × (c ≡ true) × (d ≡ true)
four true true true true e = (refl, refl, refl, refl)
four true true true false e = absurd (cc)
four true true false d e = absurd (cc)
four true false c d e = absurd (cc)
four false b c d e = absurd (cc)

unit_at : (a b c d u : ℕ) (t : Bool) → is_digit a 16 && is_digit b 16 && is_digit c 16 && is_digit d 16 ≡ t →
    cond t (Some (digit_value a * 4096 + digit_value b * 256 + digit_value c * 16 + digit_value d)) None ≡ Some u → IsUnit a b c d u
unit_at a b c d u true t e =
    let h = four (is_digit a 16) (is_digit b 16) (is_digit c 16) (is_digit d 16) t in
    let ha = ltb-true (digit_value a) 16 h.0 in
    let hb = ltb-true (digit_value b) 16 h.1 in
    let hc = ltb-true (digit_value c) 16 h.2 in
    let hd = ltb-true (digit_value d) 16 h.3 in
    record { first = digit_is a ha; second = digit_is b hb; third = digit_is c hc; fourth = digit_is d hd; small = unit_within _ _ _ _ u ha hb hc hd (cc) }
unit_at a b c d u false t e = absurd (cc)

unit_is : (a b c d u : ℕ) → code_unit a b c d ≡ Some u → IsUnit a b c d u
unfolding code_unit
unit_is a b c d u e = unit_at a b c d u _ refl e

low_is : (c : ℕ) → c < 55296 → IsScalar c
low_is c h = rw (lt-ltb c 55296 h) refl

high_is : (c : ℕ) → 57344 ≤ c → c < 1114112 → IsScalar c
high_is c l h = rw (le-ltb c 55296 (omega arith), le-leb 57344 c l, lt-ltb c 1114112 h) refl

pair_scalar : (h l : ℕ) → is_high_surrogate h ≡ true → is_low_surrogate l ≡ true → IsScalar (surrogate_pair h l)
pair_scalar h l p q =
    let a = both (nat_le 0xd800 h) (nat_lt h 0xdc00) p in
    let b = both (nat_le 0xdc00 l) (nat_lt l 0xe000) q in
    let a0 = leb-true 0xd800 h a.0 in
    let a1 = ltb-true h 0xdc00 a.1 in
    let b0 = leb-true 0xdc00 l b.0 in
    let b1 = ltb-true l 0xe000 b.1 in
    high_is (surrogate_pair h l) (omega arith) (omega arith)

unit_scalar_at : (u : ℕ) (a b c d : Bool) → nat_le 0xd800 u ≡ a → nat_lt u 0xdc00 ≡ b → nat_le 0xdc00 u ≡ c → nat_lt u 0xe000 ≡ d → u < 65536 → a && b ≡ false → c && d ≡ false → IsScalar u
unit_scalar_at u false b c d ea eb ec ed s p q = low_is u (let l = leb-false 0xd800 u ea in omega arith)
unit_scalar_at u true true c d ea eb ec ed s p q = absurd (cc)
unit_scalar_at u true false false d ea eb ec ed s p q = let l = leb-false 0xdc00 u ec in let m = ltb-false u 0xdc00 eb in let no : ⊥ = omega arith in absurd no
unit_scalar_at u true false true true ea eb ec ed s p q = absurd (cc)
unit_scalar_at u true false true false ea eb ec ed s p q = let l = ltb-false u 0xe000 ed in high_is u (omega arith) (omega arith)

unit_scalar : (u : ℕ) → u < 65536 → is_high_surrogate u ≡ false → is_low_surrogate u ≡ false → IsScalar u
unit_scalar u s p q = unit_scalar_at u _ _ _ _ refl refl refl refl s p q

-- an escape of one letter, and what it stands for
short_at : (x c : ℕ) (q b s lb lf ln lr lt : Bool) → (x == 34) ≡ q → (x == 92) ≡ b → (x == 47) ≡ s → (x == 98) ≡ lb → (x == 102) ≡ lf → (x == 110) ≡ ln → (x == 114) ≡ lr → (x == 116) ≡ lt →
    cond (q || b || s) (Some x) (cond lb (Some 8) (cond lf (Some 12) (cond ln (Some 10) (cond lr (Some 13) (cond lt (Some 9) None))))) ≡ Some c → (x < 128) × (c < 128)
short_at x c true b s lb lf ln lr lt e0 e1 e2 e3 e4 e5 e6 e7 e = let h = is_number x 34 e0 in let k : x ≡ c = cc in (omega arith, omega arith)
short_at x c false true s lb lf ln lr lt e0 e1 e2 e3 e4 e5 e6 e7 e = let h = is_number x 92 e1 in let k : x ≡ c = cc in (omega arith, omega arith)
short_at x c false false true lb lf ln lr lt e0 e1 e2 e3 e4 e5 e6 e7 e = let h = is_number x 47 e2 in let k : x ≡ c = cc in (omega arith, omega arith)
short_at x c false false false true lf ln lr lt e0 e1 e2 e3 e4 e5 e6 e7 e = let h = is_number x 98 e3 in let k : 8 ≡ c = cc in (omega arith, omega arith)
short_at x c false false false false true ln lr lt e0 e1 e2 e3 e4 e5 e6 e7 e = let h = is_number x 102 e4 in let k : 12 ≡ c = cc in (omega arith, omega arith)
short_at x c false false false false false true lr lt e0 e1 e2 e3 e4 e5 e6 e7 e = let h = is_number x 110 e5 in let k : 10 ≡ c = cc in (omega arith, omega arith)
short_at x c false false false false false false true lt e0 e1 e2 e3 e4 e5 e6 e7 e = let h = is_number x 114 e6 in let k : 13 ≡ c = cc in (omega arith, omega arith)
short_at x c false false false false false false false true e0 e1 e2 e3 e4 e5 e6 e7 e = let h = is_number x 116 e7 in let k : 9 ≡ c = cc in (omega arith, omega arith)
short_at x c false false false false false false false false e0 e1 e2 e3 e4 e5 e6 e7 e = absurd (cc)

short_is : (x c : ℕ) → short_escape x ≡ Some c → (x < 128) × (c < 128)
unfolding short_escape
short_is x c e = short_at x c _ _ _ _ _ _ _ _ refl refl refl refl refl refl refl refl e

-- ---- contents
one_ascii : (c : ℕ) → c < 128 → IsUtf8 (c ∷ [])
one_ascii c h = subst IsUtf8 (encode_ascii c h) (IsUtf8-encode c (low_is c (omega arith)))

-- what stands before the place where reading stands is UTF-8, and so is what follows it
abbrev pub Stands : Within → List ℕ → List ℕ → Type 0
Stands plain front xs = IsUtf8 (front ++ xs)
Stands after_backslash front xs = IsUtf8 front × IsUtf8 xs
Stands after_u front xs = IsUtf8 front × IsUtf8 xs
Stands (after_high h) front xs = IsUtf8 front × IsUtf8 xs × (is_high_surrogate h ≡ true)

shifted : (front bytes xs : List ℕ) → IsUtf8 (front ++ (bytes ++ xs)) → IsUtf8 ((front ++ bytes) ++ xs)
shifted front bytes xs u = subst IsUtf8 (sym (append_assoc front bytes xs)) u

-- some bytes, and then what the rest gives
onto : (front bytes xs s : List ℕ) (r : Option (List ℕ)) → ((t : List ℕ) → r ≡ Some t → IsUtf8 ((front ++ bytes) ++ t)) → prepend bytes r ≡ Some s → IsUtf8 (front ++ s)
onto front bytes xs s r ih e = let p = prepended bytes s r e in subst IsUtf8 (append_assoc front bytes p.0 ∙ ap (λ l. front ++ l) p.2) (ih p.0 p.1)

plain_at : (front : List ℕ) (x : ℕ) (xs s : List ℕ) (q b c : Bool) → (x == 34) ≡ q → (x == 92) ≡ b → IsUtf8 (front ++ x ∷ xs) →
    ((t : List ℕ) → content plain xs ≡ Some t → IsUtf8 ((front ++ x ∷ []) ++ t)) → (IsUtf8 front × IsUtf8 xs → content after_backslash xs ≡ Some s → IsUtf8 (front ++ s)) →
    cond q (Some []) (cond b (content after_backslash xs) (cond c None (prepend (x ∷ []) (content plain xs)))) ≡ Some s → IsUtf8 (front ++ s)
plain_at front x xs s true b c e0 e1 u go esc e = let h = is_number x 34 e0 in subst (λ t. IsUtf8 (front ++ t)) (some_is e) (subst IsUtf8 (sym (append-nil front)) (front_of front x xs (omega arith) u))
  where
    some_is : {z : List ℕ} → Some [] ≡ Some z → [] ≡ z
    some_is k = cc
plain_at front x xs s false true c e0 e1 u go esc e = let h = is_number x 92 e1 in esc (front_of front x xs (omega arith) u, after_front front x xs (omega arith) u) e
plain_at front x xs s false false true e0 e1 u go esc e = absurd (cc)
plain_at front x xs s false false false e0 e1 u go esc e = onto front (x ∷ []) xs s (content plain xs) go e

escape_at : (front : List ℕ) (x : ℕ) (xs s : List ℕ) (b : Bool) → (x == 117) ≡ b → IsUtf8 front → IsUtf8 (x ∷ xs) →
    ((IsUtf8 front × IsUtf8 xs) → content after_u xs ≡ Some s → IsUtf8 (front ++ s)) → ((c : ℕ) (t : List ℕ) → IsUtf8 ((front ++ c ∷ []) ++ xs) → content plain xs ≡ Some t → IsUtf8 ((front ++ c ∷ []) ++ t)) →
    cond b (content after_u xs) (option_and_then (λ c. prepend (c ∷ []) (content plain xs)) (short_escape x)) ≡ Some s → IsUtf8 (front ++ s)
escape_at front x xs s true e0 f u unit go e = let h = is_number x 117 e0 in unit (f, past_ascii x xs (omega arith) u) e
escape_at front x xs s false e0 f u unit go e =
    let o = bound (short_escape x) (λ c. prepend (c ∷ []) (content plain xs)) s e in
    let h = short_is x o.0 o.1 in
    let ready : IsUtf8 ((front ++ o.0 ∷ []) ++ xs) = IsUtf8-append _ _ (IsUtf8-append _ _ f (one_ascii o.0 h.1)) (past_ascii x xs h.0 u) in
    onto front (o.0 ∷ []) xs s (content plain xs) (λ t k. go o.0 t ready k) o.2

past_four : (a b c d : ℕ) (xs : List ℕ) (u : ℕ) → IsUnit a b c d u → IsUtf8 (a ∷ b ∷ c ∷ d ∷ xs) → IsUtf8 xs
past_four a b c d xs u h k = past_ascii d xs h.fourth (past_ascii c _ h.third (past_ascii b _ h.second (past_ascii a _ h.first k)))

unit_cases : (front xs s : List ℕ) (u : ℕ) (hi lo : Bool) → is_high_surrogate u ≡ hi → is_low_surrogate u ≡ lo → u < 65536 → IsUtf8 front → IsUtf8 xs →
    ((IsUtf8 front × IsUtf8 xs × (is_high_surrogate u ≡ true)) → content (after_high u) xs ≡ Some s → IsUtf8 (front ++ s)) →
    ((bytes t : List ℕ) → IsUtf8 ((front ++ bytes) ++ xs) → content plain xs ≡ Some t → IsUtf8 ((front ++ bytes) ++ t)) →
    cond hi (content (after_high u) xs) (cond lo None (prepend (encode_utf8 u) (content plain xs))) ≡ Some s → IsUtf8 (front ++ s)
unit_cases front xs s u true lo e0 e1 small f k high go e = high (f, k, e0) e
unit_cases front xs s u false true e0 e1 small f k high go e = absurd (cc)
unit_cases front xs s u false false e0 e1 small f k high go e =
    let ready : IsUtf8 ((front ++ encode_utf8 u) ++ xs) = IsUtf8-append _ _ (IsUtf8-append _ _ f (IsUtf8-encode u (unit_scalar u small e0 e1))) k in
    onto front (encode_utf8 u) xs s (content plain xs) (λ t r. go (encode_utf8 u) t ready r) e

low_cases : (front xs s : List ℕ) (h l : ℕ) (lo : Bool) → is_high_surrogate h ≡ true → is_low_surrogate l ≡ lo → IsUtf8 front → IsUtf8 xs →
    ((bytes t : List ℕ) → IsUtf8 ((front ++ bytes) ++ xs) → content plain xs ≡ Some t → IsUtf8 ((front ++ bytes) ++ t)) →
    cond lo (prepend (encode_utf8 (surrogate_pair h l)) (content plain xs)) None ≡ Some s → IsUtf8 (front ++ s)
low_cases front xs s h l true p q f k go e =
    let bytes = encode_utf8 (surrogate_pair h l) in
    let ready : IsUtf8 ((front ++ bytes) ++ xs) = IsUtf8-append _ _ (IsUtf8-append _ _ f (IsUtf8-encode (surrogate_pair h l) (pair_scalar h l p q))) k in
    onto front bytes xs s (content plain xs) (λ t r. go bytes t ready r) e
low_cases front xs s h l false p q f k go e = absurd (cc)

pair_at : (front xs s : List ℕ) (h x y a b c d : ℕ) (t : Bool) → (x == 92) && (y == 117) ≡ t → is_high_surrogate h ≡ true → IsUtf8 front → IsUtf8 (x ∷ y ∷ a ∷ b ∷ c ∷ d ∷ xs) →
    ((bytes t : List ℕ) → IsUtf8 ((front ++ bytes) ++ xs) → content plain xs ≡ Some t → IsUtf8 ((front ++ bytes) ++ t)) →
    cond t (option_and_then (λ l. cond (is_low_surrogate l) (prepend (encode_utf8 (surrogate_pair h l)) (content plain xs)) None) (code_unit a b c d)) None ≡ Some s → IsUtf8 (front ++ s)
pair_at front xs s h x y a b c d true e0 hi f k go e =
    let two = both (x == 92) (y == 117) e0 in
    let hx = is_number x 92 two.0 in
    let hy = is_number y 117 two.1 in
    let o = bound (code_unit a b c d) (λ l. cond (is_low_surrogate l) (prepend (encode_utf8 (surrogate_pair h l)) (content plain xs)) None) s e in
    let unit = unit_is a b c d o.0 o.1 in
    low_cases front xs s h o.0 _ hi refl f (past_four a b c d xs o.0 unit (past_ascii y _ (omega arith) (past_ascii x _ (omega arith) k))) go o.2
pair_at front xs s h x y a b c d false e0 hi f k go e = absurd (cc)

pub content_utf8 : (w : Within) (front xs s : List ℕ) → Stands w front xs → content w xs ≡ Some s → IsUtf8 (front ++ s)
unfolding content
content_utf8 plain front [] s u e = absurd (cc)
content_utf8 plain front (x ∷ xs) s u e =
    plain_at front x xs s _ _ _ refl refl u (λ t r. content_utf8 plain (front ++ x ∷ []) xs t (shifted front (x ∷ []) xs u) r) (λ p r. content_utf8 after_backslash front xs s p r) e
content_utf8 after_backslash front [] s u e = absurd (cc)
content_utf8 after_backslash front (x ∷ xs) s u e =
    escape_at front x xs s _ refl u.0 u.1 (λ p r. content_utf8 after_u front xs s p r) (λ c t p r. content_utf8 plain (front ++ c ∷ []) xs t p r) e
content_utf8 after_u front [] s u e = absurd (cc)
content_utf8 after_u front (a ∷ []) s u e = absurd (cc)
content_utf8 after_u front (a ∷ b ∷ []) s u e = absurd (cc)
content_utf8 after_u front (a ∷ b ∷ c ∷ []) s u e = absurd (cc)
content_utf8 after_u front (a ∷ b ∷ c ∷ d ∷ xs) s u e =
    let o = bound (code_unit a b c d) (λ v. cond (is_high_surrogate v) (content (after_high v) xs) (cond (is_low_surrogate v) None (prepend (encode_utf8 v) (content plain xs)))) s e in
    let unit = unit_is a b c d o.0 o.1 in
    unit_cases front xs s o.0 _ _ refl refl unit.small u.0 (past_four a b c d xs o.0 unit u.1) (λ p r. content_utf8 (after_high o.0) front xs s p r) (λ bytes t p r. content_utf8 plain (front ++ bytes) xs t p r) o.2
content_utf8 (after_high h) front [] s u e = absurd (cc)
content_utf8 (after_high h) front (x ∷ []) s u e = absurd (cc)
content_utf8 (after_high h) front (x ∷ y ∷ []) s u e = absurd (cc)
content_utf8 (after_high h) front (x ∷ y ∷ a ∷ []) s u e = absurd (cc)
content_utf8 (after_high h) front (x ∷ y ∷ a ∷ b ∷ []) s u e = absurd (cc)
content_utf8 (after_high h) front (x ∷ y ∷ a ∷ b ∷ c ∷ []) s u e = absurd (cc)
content_utf8 (after_high h) front (x ∷ y ∷ a ∷ b ∷ c ∷ d ∷ xs) s u e = pair_at front xs s h x y a b c d _ refl u.2 u.0 u.1 (λ bytes t p r. content_utf8 plain (front ++ bytes) xs t p r) e

pub text_utf8 : (xs s : List ℕ) → IsUtf8 xs → content plain xs ≡ Some s → IsUtf8 s
text_utf8 xs s u e = content_utf8 plain [] xs s u e
