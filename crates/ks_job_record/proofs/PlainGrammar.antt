-- The pieces of a plain line are what its grammar finds.
use Rattle.std.proofs.Common.{◌≡◌, ◌⊎◌, inl, inr, ℕ, zero, suc, ◌-◌, ◌+◌, ◌*◌, ◌<◌, ◌≤◌, ◌==◌, ◌&&◌, ◌||◌, not, nat_lt, nat_le, ℤ, Bool, true, false, cond, List, [], ◌∷◌, length, get_or, take, drop, insert, Option, Some, None, option_map, MatchOption, Bor, codes, refl, sym, ap, ap₂, ◌∙◌, arith, le-leb, lt-ltb, ne_eqb}
use Rattle.std.specs.Prelude.{is_some}
use Rattle.std.specs.Option.{option_or}
use Rattle.std.specs.Str.{is_utf8}
use Rattle.std.specs.Char.{is_ascii_digit, digit_value}
use Rattle.std.specs.List.{prefix_len, take_while}
use Rattle.std.specs.Str.Parse.{digits_value, digits_value_after}
use Rattle.std.specs.Cmp.Lexicographic.{pointwise}
use Rattle.std.proofs.lemmas.Str.{digit_value_digit}
use Rattle.std.proofs.lemmas.Bool.{le-ltb}
use Rattle.std.proofs.lemmas.List.{take_all}
use Rattle.std.proofs.lemmas.List.Sums.{take_while-cons}
use Rattle.ks_record.specs.Texts.{key_of, name_from}
use Rattle.ks_row.specs.Reading.{◌>>=◌}
use Rattle.ks_row.specs.Rows.{Member}
use Rattle.ks_row.specs.declared.row.Field.{Field}
use Rattle.ks_row.specs.declared.row.Field.TheVariants.{Text}
use Rattle.ks_job_record.specs.Record.{number_of}
use Rattle.ks_job_record.specs.Plain.{is_plain_byte, IsDigit}
use Rattle.ks_job_record.specs.PlainGrammar.{without_first, without_front, quoted_at, digit_at, is_number, number_at, natural_at, negative_at, integer_at, text_at, whole_at, field_at, fit_field, with_one, one_at, members_at, front_at}
use Rattle.ks_job_record.specs.PlainRows.{place_among}
use Rattle.ks_job_record.proofs.PlainFronts.{key_fits}

-- ---- the front of a slice, and a text
pub front_found : (bytes front : List ℕ) (r : Option (Bor (List ℕ))) → MatchOption r (pointwise ◌==◌ (take (length front) bytes) front ≡ false) (λ x. (pointwise ◌==◌ (take (length front) bytes) front ≡ true) × (x.now ≡ drop (length front) bytes) × (length x.now + length front ≡ length bytes)) → option_map (λ x. x.now) r ≡ without_front front bytes
unfolding without_front
front_found bytes front None m = sym (ap (λ b. cond b (Some (drop (length front) bytes)) None) m)
front_found bytes front (Some x) m = ap Some m.1 ∙ sym (ap (λ b. cond b (Some (drop (length front) bytes)) None) m.0)

pub quoted_found : (bytes text rest : List ℕ) (n : ℕ) (behind : Option (List ℕ)) → n ≡ prefix_len is_plain_byte bytes → text ≡ take n bytes → rest ≡ drop n bytes → behind ≡ without_first 34 rest → option_map (λ r. (text, r)) behind ≡ quoted_at bytes
unfolding quoted_at
quoted_found bytes text rest n None e front back next =
    ap (λ o. o >>= λ r. Some (take_while is_plain_byte bytes, r)) (next ∙ ap (without_first 34) (back ∙ ap (λ k. drop k bytes) e))
quoted_found bytes text rest n (Some r) e front back next =
    ap (λ t. Some (t, r)) (front ∙ ap (λ k. take k bytes) e)
    ∙ ap (λ o. o >>= λ r. Some (take_while is_plain_byte bytes, r)) (next ∙ ap (without_first 34) (back ∙ ap (λ k. drop k bytes) e))

-- ---- the digits in front
digit_passes : (d : ℕ) → d < 10 → is_ascii_digit (48 + d) ≡ true
digit_passes d h = ap₂ (λ a b. a && b) (le-leb 48 (48 + d) (omega arith)) (le-leb (48 + d) 57 (omega arith))

digit_is : (d : ℕ) → d < 10 → digit_value (48 + d) ≡ d
digit_is d h = omega (arith, digit_value_digit (48 + d) (omega arith, omega arith))

more_digits : (d : ℕ) (more : List ℕ) → d < 10 → take_while is_ascii_digit ((48 + d) ∷ more) ≡ (48 + d) ∷ take_while is_ascii_digit more
more_digits d more h = take_while-cons is_ascii_digit (48 + d) more ∙ ap (λ b. cond b ((48 + d) ∷ take_while is_ascii_digit more) []) (digit_passes d h)

none_is : {A : Type 0} (b : Bool) (a : A) → None ≡ cond b (Some a) None → b ≡ false
none_is true a e = absurd cc
none_is false a e = refl

no_digits : (bytes : List ℕ) → None ≡ digit_at bytes → take_while is_ascii_digit bytes ≡ []
no_digits [] e = refl
no_digits (x ∷ more) e = take_while-cons is_ascii_digit x more ∙ ap (λ b. cond b (x ∷ take_while is_ascii_digit more) []) (none_is (is_ascii_digit x) _ e)

rest_is : (x : ℕ) (more : List ℕ) → take (length (x ∷ more) - 1) more ≡ more
rest_is x more = take_all (length (x ∷ more) - 1) more (omega arith)

pub digit_found : (bytes : List ℕ) (b : Bool) → 1 ≤ length bytes → b ≡ is_ascii_digit (get_or bytes 0 0) → cond b (Some (get_or bytes 0 0 - 48, take (length bytes - 1) (drop 1 bytes))) None ≡ digit_at bytes
digit_found [] b h e = absurd (omega arith)
digit_found (x ∷ more) b h e =
    ap (λ l. cond b (Some (x - 48, l)) None) (rest_is x more) ∙ ap (λ c. cond c (Some (x - 48, more)) None) e

pub digit_missing : (bytes : List ℕ) → length bytes < 1 → None ≡ digit_at bytes
digit_missing [] h = refl
digit_missing (x ∷ more) h = absurd (omega arith)

-- ---- a number below most, where the digits of n were read and these stand in front of the bytes
number_by : ℕ → ℕ → List ℕ → List ℕ → Option (ℕ × List ℕ)
number_by most n digits bytes = cond (n == 0 && not (length digits == 0)) None (cond (nat_lt (digits_value_after 10 n digits) most) (Some (digits_value_after 10 n digits, drop (length digits) bytes)) None)

pub read_on : ℕ → ℕ → List ℕ → Option (ℕ × List ℕ)
read_on most n bytes = number_by most n (take_while is_ascii_digit bytes) bytes

and_false : (b : Bool) → b && false ≡ false
and_false true = refl
and_false false = refl

both_same : {A : Type 0} (b : Bool) (x : A) → cond b x x ≡ x
both_same true x = refl
both_same false x = refl

pub at_end : (most n : ℕ) (bytes : List ℕ) → None ≡ digit_at bytes → n < most → Some (n, bytes) ≡ read_on most n bytes
unfolding read_on number_by
at_end most n bytes e small =
    sym (ap (λ ds. number_by most n ds bytes) (no_digits bytes e)
    ∙ ap (λ b. cond b None (cond (nat_lt n most) (Some (n, bytes)) None)) (and_false (n == 0))
    ∙ ap (λ b. cond b (Some (n, bytes)) None) (lt-ltb n most small))

after_0 : (most : ℕ) (bytes : List ℕ) (d : ℕ) (more : List ℕ) → IsDigit bytes d more → None ≡ read_on most 0 bytes
unfolding read_on number_by
after_0 most bytes d more h =
    let all = (48 + d) ∷ take_while is_ascii_digit more in
    sym (ap (read_on most 0) h.spelled
    ∙ ap (λ ds. number_by most 0 ds ((48 + d) ∷ more)) (more_digits d more h.small)
    ∙ ap (λ b. cond (not b) None (cond (nat_lt (digits_value_after 10 0 all) most) (Some (digits_value_after 10 0 all, drop (length all) ((48 + d) ∷ more))) None)) (ne_eqb (length all) 0 (λ e. omega arith)))

grows : (n : ℕ) (digits : List ℕ) → n ≤ digits_value_after 10 n digits
grows n [] = omega arith
grows n (c ∷ cs) = omega (arith, grows (n * 10 + digit_value c) cs)

too_long : (most n : ℕ) (bytes : List ℕ) (d : ℕ) (more : List ℕ) → IsDigit bytes d more → most ≤ n * 10 → None ≡ read_on most n bytes
unfolding read_on number_by
too_long most n bytes d more h big =
    let ds = take_while is_ascii_digit more in
    let all = (48 + d) ∷ ds in
    let above : most ≤ digits_value_after 10 n all = omega (arith, grows (n * 10 + digit_value (48 + d)) ds) in
    sym (ap (read_on most n) h.spelled
    ∙ ap (λ l. number_by most n l ((48 + d) ∷ more)) (more_digits d more h.small)
    ∙ ap (λ b. cond (n == 0 && not (length all == 0)) None (cond b (Some (digits_value_after 10 n all, drop (length all) ((48 + d) ∷ more))) None)) (le-ltb (digits_value_after 10 n all) most above)
    ∙ both_same (n == 0 && not (length all == 0)) None)

pub stops : (n : ℕ) (bytes : List ℕ) (d : ℕ) (more : List ℕ) → (n ≡ 0) ⊎ ((n ≡ 0 → ⊥) × (100000000000000000 ≤ n)) → IsDigit bytes d more → None ≡ read_on 1000000000000000000 n bytes
stops n bytes d more (inl e) h = after_0 1000000000000000000 bytes d more h ∙ ap (λ k. read_on 1000000000000000000 k bytes) (sym e)
stops n bytes d more (inr e) h =
    let big = e.1 in
    too_long 1000000000000000000 n bytes d more h (omega arith)

not_0 : {A : Type 0} (n : ℕ) (b : Bool) (x : Option A) → 0 < n → cond (n == 0 && b) None x ≡ x
not_0 n b x some = ap (λ z. cond (z && b) None x) (ne_eqb n 0 (λ e. omega arith))

pub one_more : (most n : ℕ) (bytes : List ℕ) (d : ℕ) (more : List ℕ) → 0 < n → IsDigit bytes d more → read_on most (n * 10 + d) more ≡ read_on most n bytes
unfolding read_on number_by
one_more most n bytes d more some h =
    let ds = take_while is_ascii_digit more in
    let all = (48 + d) ∷ ds in
    not_0 (n * 10 + d) (not (length ds == 0)) _ (omega arith)
    ∙ ap (λ v. cond (nat_lt (digits_value_after 10 (n * 10 + v) ds) most) (Some (digits_value_after 10 (n * 10 + v) ds, drop (length ds) more)) None) (sym (digit_is d h.small))
    ∙ sym (ap (read_on most n) h.spelled
    ∙ ap (λ l. number_by most n l ((48 + d) ∷ more)) (more_digits d more h.small)
    ∙ not_0 n (not (length all == 0)) _ some)

-- ---- a number from its first digit on
with_0 : {A : Type 0} (p q z b : Bool) (x : Option A) → p ≡ q → cond (q && not z) None (cond b x None) ≡ cond ((not p || z) && b) x None
with_0 true true true b x e = refl
with_0 true true false b x e = refl
with_0 true false z b x e = absurd cc
with_0 false true z b x e = absurd cc
with_0 false false z b x e = refl

is_0 : (d : ℕ) → (48 + d == 48) ≡ (d == 0)
is_0 zero = refl
is_0 (suc d) = ne_eqb (48 + suc d) 48 (λ e. omega arith) ∙ sym (ne_eqb (suc d) 0 (λ e. omega arith))

pub from_first : (bytes : List ℕ) (d : ℕ) (rest : List ℕ) → IsDigit bytes d rest → read_on 1000000000000000000 d rest ≡ number_at bytes
unfolding number_at is_number read_on number_by
from_first bytes d rest h =
    let ds = take_while is_ascii_digit rest in
    let value : d ≡ 0 * 10 + digit_value (48 + d) = omega (arith, digit_is d h.small) in
    with_0 (48 + d == 48) (d == 0) (length ds == 0) (nat_lt (digits_value_after 10 d ds) 1000000000000000000) (Some (digits_value_after 10 d ds, drop (length ds) rest)) (is_0 d)
    ∙ ap (λ v. cond ((not (48 + d == 48) || length ds == 0) && nat_lt (digits_value_after 10 v ds) 1000000000000000000) (Some (digits_value_after 10 v ds, drop (length ds) rest)) None) value
    ∙ sym (ap (λ l. cond (is_number l) (Some (digits_value 10 l, drop (length l) ((48 + d) ∷ rest))) None) (more_digits d rest h.small))
    ∙ sym (ap number_at h.spelled)

pub no_number : (bytes : List ℕ) → None ≡ digit_at bytes → None ≡ number_at bytes
unfolding number_at is_number
no_number bytes e = sym (ap (λ l. cond (is_number l) (Some (digits_value 10 l, drop (length l) bytes)) None) (no_digits bytes e))

-- ---- one way or the other
or_none : {A : Type 0} (o : Option A) → o ≡ option_or o None
or_none None = refl
or_none (Some x) = refl

pub negative_found : (bytes digits : List ℕ) (o : Option (ℤ × List ℕ)) → bytes ≡ 45 ∷ digits → o ≡ negative_at digits → o ≡ integer_at bytes
unfolding integer_at natural_at number_at is_number
negative_found bytes digits o e h = h ∙ or_none (negative_at digits) ∙ ap integer_at (sym e)

pub no_text : (bytes text : List ℕ) → bytes ≡ 34 ∷ text → None ≡ quoted_at text → None ≡ field_at bytes
unfolding field_at text_at whole_at integer_at natural_at number_at is_number
no_text bytes text e none = ap (λ o. option_or (o >>= λ t. Some (Text t.0, t.1)) (whole_at (34 ∷ text))) none ∙ ap field_at (sym e)

-- ---- a member at its place
name_is : (b c d : Bool) (s : List ℕ) → is_some (cond b (cond c None (cond d (Some s) None)) None) ≡ true → cond b (cond c None (cond d (Some s) None)) None ≡ Some s
name_is true true d s e = absurd cc
name_is true false true s e = refl
name_is true false false s e = absurd cc
name_is false c d s e = absurd cc

pub put_found : (name : List ℕ) (field made : Field) (old new : List Member) (place : ℕ) → is_some (name_from name) ≡ true → Some made ≡ fit_field field → Some place ≡ place_among 0 name old → new ≡ insert old place (name, made) → Some new ≡ with_one (name, field) old
unfolding with_one
put_found name field made old new place known fit found put =
    ap Some put
    ∙ ap (λ o. o >>= λ p. Some (insert old p (name, made))) found
    ∙ ap (λ o. o >>= λ (f : Field). place_among 0 name old >>= λ p. Some (insert old p (name, f))) fit
    ∙ sym (ap (λ o. o >>= λ n. fit_field field >>= λ (f : Field). place_among 0 n old >>= λ p. Some (insert old p (n, f))) (name_is (is_utf8 name) (length name == 0) (nat_le (length name) 64) name known))

-- ---- members up to the closing brace, of which i were put
abbrev ending : ℕ → List Member → Option (List ℕ) → Option (List ℕ) → Option (List Member × List ℕ)
ending left found close comma = option_or (option_map (λ rest. (found, rest)) close) (comma >>= members_at left found)

turn : (i : ℕ) (found : List Member) (bytes : List ℕ) → i < 16 → members_at (16 - i) found bytes ≡ (one_at found bytes >>= λ one. ending (16 - (i + 1)) one.0 (without_first 125 one.1) (without_first 44 one.1))
unfolding members_at
turn i found bytes h =
    let left : 16 - i ≡ suc (16 - (i + 1)) = omega arith in
    ap (λ n. members_at n found bytes) left

one_put : (i : ℕ) (found new : List Member) (bytes more : List ℕ) (all : Option (List Member × List ℕ)) → i < 16 → Some (new, more) ≡ one_at found bytes → members_at (16 - i) found bytes ≡ all → ending (16 - (i + 1)) new (without_first 125 more) (without_first 44 more) ≡ all
one_put i found new bytes more all h e so_far =
    ap (λ o. o >>= λ one. ending (16 - (i + 1)) one.0 (without_first 125 one.1) (without_first 44 one.1)) e ∙ sym (turn i found bytes h) ∙ so_far

pub no_member : (i : ℕ) (found : List Member) (bytes : List ℕ) (all : Option (List Member × List ℕ)) → i < 16 → None ≡ one_at found bytes → members_at (16 - i) found bytes ≡ all → None ≡ all
no_member i found bytes all h e so_far =
    ap (λ o. o >>= λ one. ending (16 - (i + 1)) one.0 (without_first 125 one.1) (without_first 44 one.1)) e ∙ sym (turn i found bytes h) ∙ so_far

pub last_put : (i : ℕ) (found new : List Member) (bytes more rest : List ℕ) (all : Option (List Member × List ℕ)) → i < 16 → Some (new, more) ≡ one_at found bytes → Some rest ≡ without_first 125 more → members_at (16 - i) found bytes ≡ all → Some (new, rest) ≡ all
last_put i found new bytes more rest all h e close so_far =
    ap (λ w. ending (16 - (i + 1)) new w (without_first 44 more)) close ∙ one_put i found new bytes more all h e so_far

pub no_comma : (i : ℕ) (found new : List Member) (bytes more : List ℕ) (all : Option (List Member × List ℕ)) → i < 16 → Some (new, more) ≡ one_at found bytes → None ≡ without_first 125 more → None ≡ without_first 44 more → members_at (16 - i) found bytes ≡ all → None ≡ all
no_comma i found new bytes more all h e more_left comma so_far =
    ap₂ (λ w v. ending (16 - (i + 1)) new w v) more_left comma ∙ one_put i found new bytes more all h e so_far

pub next_put : (i : ℕ) (found new : List Member) (bytes more rest : List ℕ) (all : Option (List Member × List ℕ)) → i < 16 → Some (new, more) ≡ one_at found bytes → None ≡ without_first 125 more → Some rest ≡ without_first 44 more → members_at (16 - i) found bytes ≡ all →
    members_at (16 - (i + 1)) new rest ≡ all
next_put i found new bytes more rest all h e more_left comma so_far =
    ap₂ (λ w v. ending (16 - (i + 1)) new w v) more_left comma ∙ one_put i found new bytes more all h e so_far

pub too_many : (i : ℕ) (found : List Member) (bytes : List ℕ) (all : Option (List Member × List ℕ)) → 16 ≤ i → members_at (16 - i) found bytes ≡ all → None ≡ all
unfolding members_at
too_many i found bytes all h so_far =
    let left : 0 ≡ 16 - i = omega arith in
    ap (λ n. members_at n found bytes) left ∙ so_far

-- ---- the front of a line
front_so_far : (topics : List (List ℕ)) (line r0 topic r1 r2 key r3 rest : List ℕ) → Some r0 ≡ without_front (codes "{\"topic\":\"") line → Some (topic, r1) ≡ quoted_at r0 → Some r2 ≡ without_front (codes ",\"key\":\"") r1 →
    Some (key, r3) ≡ quoted_at r2 → Some rest ≡ without_front (codes ",\"value\":") r3 → (number_of topic topics >>= λ n. key_of key >>= λ k. Some ((n, k), rest)) ≡ front_at topics line
unfolding front_at
front_so_far topics line r0 topic r1 r2 key r3 rest e0 q0 e1 q1 e2 =
    let end = λ (t : List ℕ) (q : List ℕ × List ℕ). without_front (codes ",\"value\":") q.1 >>= λ l. number_of t topics >>= λ n. key_of q.0 >>= λ k. Some ((n, k), l) in
    ap (λ o. o >>= λ l. number_of topic topics >>= λ n. key_of key >>= λ k. Some ((n, k), l)) e2
    ∙ ap (λ o. o >>= end topic) q1
    ∙ ap (λ o. o >>= λ l. quoted_at l >>= end topic) e1
    ∙ ap (λ o. o >>= λ (p : List ℕ × List ℕ). without_front (codes ",\"key\":\"") p.1 >>= λ l. quoted_at l >>= end p.0) q0
    ∙ ap (λ o. o >>= λ l. quoted_at l >>= λ (p : List ℕ × List ℕ). without_front (codes ",\"key\":\"") p.1 >>= λ l. quoted_at l >>= end p.0) e0

pub line_front : (topics : List (List ℕ)) (line r0 topic r1 r2 key r3 rest text : List ℕ) (number : ℕ) → Some r0 ≡ without_front (codes "{\"topic\":\"") line → Some (topic, r1) ≡ quoted_at r0 → Some r2 ≡ without_front (codes ",\"key\":\"") r1 →
    Some (key, r3) ≡ quoted_at r2 → Some rest ≡ without_front (codes ",\"value\":") r3 → text ≡ topic → Some number ≡ number_of text topics → 0 < length key → length key ≤ 1024 → Some ((number, key), rest) ≡ front_at topics line
line_front topics line r0 topic r1 r2 key r3 rest text number e0 q0 e1 q1 e2 same known some most =
    ap (λ o. o >>= λ k. Some ((number, k), rest)) (sym (key_fits key some most))
    ∙ ap (λ o. o >>= λ n. key_of key >>= λ k. Some ((n, k), rest)) (known ∙ ap (λ t. number_of t topics) same)
    ∙ front_so_far topics line r0 topic r1 r2 key r3 rest e0 q0 e1 q1 e2
