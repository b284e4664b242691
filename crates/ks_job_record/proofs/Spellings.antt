-- The pieces of a plain line, put together.
use Rattle.std.proofs.Common.{◌≡◌, ℕ, suc, ◌+◌, ◌*◌, ◌/◌, ◌%◌, ◌<◌, ◌&&◌, Bool, true, false, cond, List, [], ◌∷◌, ◌++◌, length, take, drop, decimal, refl, ◌==◌, Option, Some, None, MatchOption, IfSome, Bor, sym, ap, ap₂, subst, ◌∙◌, arith, append_assoc, take-append-drop}
use Rattle.std.proofs.lemmas.Bool.Decides.{Decides-eqb}
use Rattle.std.proofs.lemmas.Slice.Eq.{strip_prefix_is}
use Rattle.std.specs.Cmp.Lexicographic.{pointwise}
use Rattle.std.proofs.lemmas.Fmt.{decimal_digit, decimal_step}
use Rattle.std.specs.List.{prefix_len, list_all}
use Rattle.ks_job_record.specs.Plain.{is_plain_byte, is_plain, IsQuoted, IsDigit, IsDigits}

-- ---- a text
front_passes : (p : ℕ → Bool) (x : ℕ) (xs : List ℕ) (n : ℕ) (b : Bool) → p x ≡ b → list_all p (take n xs) ≡ true → list_all p (take (cond b (1 + n) 0) (x ∷ xs)) ≡ true
front_passes p x xs n true e h =
    let up : suc n ≡ 1 + n = omega arith in
    subst (λ k. list_all p (take k (x ∷ xs)) ≡ true) up (ap (λ b. b && list_all p (take n xs)) e ∙ h)
front_passes p x xs n false e h = refl

all_in_front : (p : ℕ → Bool) (xs : List ℕ) → list_all p (take (prefix_len p xs) xs) ≡ true
all_in_front p [] = refl
all_in_front p (x ∷ xs) = front_passes p x xs (prefix_len p xs) (p x) refl (all_in_front p xs)

pub quoted : (bytes text rest behind : List ℕ) (n : ℕ) → n ≡ prefix_len is_plain_byte bytes → text ≡ take n bytes → rest ≡ drop n bytes → rest ≡ 34 ∷ behind → IsQuoted bytes text behind
quoted bytes text rest behind n e front back next =
    record { spelled = sym (take-append-drop n bytes) ∙ ap₂ (λ (a b : List ℕ). a ++ b) (sym front) (sym back) ∙ ap (λ r. text ++ r) next; plain = ap is_plain (front ∙ ap (λ k. take k bytes) e) ∙ all_in_front is_plain_byte bytes }

-- ---- digits
pub one_digit : (bytes : List ℕ) (n : ℕ) (rest : List ℕ) → IsDigit bytes n rest → IsDigits bytes n rest
one_digit bytes n rest d = record { spelled = d.spelled ∙ ap (λ l. l ++ rest) (sym (decimal_digit n d.small)); small = omega (arith, d.small) }

longer : (n d : ℕ) → 0 < n → n < 100000000000000000 → d < 10 → decimal (n * 10 + d) ≡ decimal n ++ (48 + d) ∷ []
longer n d some small digit =
    let quotient : (n * 10 + d) / 10 ≡ n = omega arith in
    let last : (n * 10 + d) % 10 ≡ d = omega arith in
    decimal_step (n * 10 + d) (omega arith) (omega arith) ∙ ap₂ (λ a b. decimal a ++ (48 + b) ∷ []) quotient last

pub one_more_digit : (bytes : List ℕ) (n : ℕ) (rest : List ℕ) (d : ℕ) (more : List ℕ) → 0 < n → n < 100000000000000000 → IsDigits bytes n rest → IsDigit rest d more → IsDigits bytes (n * 10 + d) more
one_more_digit bytes n rest d more some small h k =
    let digit = k.small in
    record {
      spelled = h.spelled ∙ ap (λ r. decimal n ++ r) k.spelled ∙ sym (append_assoc (decimal n) ((48 + d) ∷ []) more) ∙ ap (λ l. l ++ more) (sym (longer n d some small digit));
      small = omega arith;
    }

-- ---- the front of a slice
pub stripped : (bytes front : List ℕ) (r : Option (Bor (List ℕ))) → MatchOption r (pointwise ◌==◌ (take (length front) bytes) front ≡ false) (λ x. (pointwise ◌==◌ (take (length front) bytes) front ≡ true) × (x.now ≡ drop (length front) bytes) × (length x.now + length front ≡ length bytes)) → IfSome r (λ x. bytes ≡ front ++ x.now)
stripped bytes front None m = tt
stripped bytes front (Some x) m = strip_prefix_is Decides-eqb bytes front (Some x) m
