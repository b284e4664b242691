-- How many records the load job has, and how great their numbers are.
use Rattle.std.proofs.Common.{◌≡◌, ℕ, zero, suc, ◌+◌, ◌*◌, ◌/◌, ◌%◌, ◌^◌, ◌<◌, ◌≤◌, ◌==◌, cond, Bool, true, false, List, [], ◌∷◌, ◌++◌, length, Some, None, refl, ap, ◌∙◌, arith, length-append, mul-add, mul-zero, mod-lt, eqb-true, pos_of_ne-zero}
use Rattle.std.proofs.lemmas.Bool.{eqb-false}
use Rattle.ks_words.specs.declared.load.LoadRecord.{LoadRecord}
use Rattle.ks_words.specs.declared.load.LoadRecord.TheVariants.{Order, Deletion, Customer}
use Rattle.ks_words.specs.declared.load.Section.{Section}
use Rattle.ks_words.specs.declared.load.Section.TheVariants.{Orders, Customers, Raises, Deletions, Moves}
use Rattle.ks_words.specs.Load.{in_section, records_of, section_records, load_records}

-- ---- numbers of at most six digits
abbrev pub Fits : LoadRecord → Type 0
Fits (Order order customer amount) = (order < 10 ^ 6) × (customer < 10 ^ 6) × (amount < 10 ^ 6)
Fits (Deletion order) = order < 10 ^ 6
Fits (Customer customer region) = (customer < 10 ^ 6) × (region < 10 ^ 6)

abbrev pub AllFit : List LoadRecord → Type 0
AllFit [] = Unit {0}
AllFit (r ∷ rs) = Fits r × AllFit rs

fit-append : (rs more : List LoadRecord) → AllFit rs → AllFit more → AllFit (rs ++ more)
fit-append [] more h k = k
fit-append (r ∷ rs) more h k = (h.0, fit-append rs more h.1 k)

if_fits : (b : Bool) (r : LoadRecord) → Fits r → AllFit (records_of (cond b (Some r) None))
if_fits true r h = (h, tt)
if_fits false r h = tt

small : (n m : ℕ) → 0 < m → m ≤ 150000 → n % m < 10 ^ 6
small n m h k = let l = mod-lt n h in omega (arith, l)

one_fits : (s : Section) (customers i : ℕ) → 0 < customers → customers ≤ 150000 → i < 150000 → AllFit (records_of (in_section s customers i))
one_fits Orders customers i h k l = ((omega arith, small (31 * i + 7) customers h k, omega arith), tt)
one_fits Customers customers i h k l = ((omega arith, omega arith), tt)
one_fits Raises customers i h k l = if_fits (i % 5 == 0) _ (omega arith, small (31 * i + 7) customers h k, omega arith)
one_fits Deletions customers i h k l = if_fits (i % 7 == 0) (Deletion i) (omega arith)
one_fits Moves customers i h k l = if_fits (i % 3 == 0) (Customer i ((i + 1) % 4)) (omega arith, omega arith)

section_fits : (s : Section) (customers i left : ℕ) → 0 < customers → customers ≤ 150000 → i + left ≤ 150000 → AllFit (section_records s customers i left)
section_fits s customers i zero h k l = tt
section_fits s customers i (suc left) h k l = fit-append (records_of (in_section s customers i)) _ (one_fits s customers i h k (omega arith)) (section_fits s customers (suc i) left h k (omega arith))

pub all_fit : (orders : ℕ) → orders ≤ 150000 → AllFit (load_records orders)
all_fit orders h =
    let customers = orders / 10 + 1 in
    let some : 0 < orders / 10 + 1 = omega arith in
    let few : orders / 10 + 1 ≤ 150000 = omega arith in
    fit-append _ _ (fit-append _ _ (fit-append _ _ (fit-append _ _ (section_fits Orders customers 0 orders some few (omega arith)) (section_fits Customers customers 0 customers some few (omega arith)))
    (section_fits Raises customers 0 orders some few (omega arith))) (section_fits Deletions customers 0 orders some few (omega arith))) (section_fits Moves customers 0 customers some few (omega arith))

-- ---- their number: a section that has a record for one in k numbers has no more than its share, and what is left of the last k
counted : (s : Section) (customers k : ℕ) (rest : ℕ → ℕ) → ((j : ℕ) → k * length (records_of (in_section s customers j)) + rest (suc j) ≤ 1 + rest j) →
    (i left : ℕ) → k * length (section_records s customers i left) ≤ left + rest i
counted s customers k rest step i zero = omega (arith, mul-zero k)
counted s customers k rest step i (suc left) =
    let here = records_of (in_section s customers i) in
    let more = section_records s customers (suc i) left in
    let sum : k * length (here ++ more) ≡ k * length here + k * length more = ap (λ n. k * n) (length-append here more) ∙ mul-add k (length here) (length more) in
    omega (arith, sum, step i, counted s customers k rest step (suc i) left)

not_zero : (n : ℕ) → (n == 0) ≡ false → 0 < n
not_zero n e = pos_of_ne-zero (eqb-false n 0 e)

fifth : (b : Bool) (r : LoadRecord) (j : ℕ) → (j % 5 == 0) ≡ b → 5 * length (records_of (cond b (Some r) None)) + (suc j + 4) % 5 ≤ 1 + (j + 4) % 5
fifth true r j e = let z = eqb-true (j % 5) 0 e in omega (arith, z)
fifth false r j e = let z = not_zero (j % 5) e in omega (arith, z)

seventh : (b : Bool) (r : LoadRecord) (j : ℕ) → (j % 7 == 0) ≡ b → 7 * length (records_of (cond b (Some r) None)) + (suc j + 6) % 7 ≤ 1 + (j + 6) % 7
seventh true r j e = let z = eqb-true (j % 7) 0 e in omega (arith, z)
seventh false r j e = let z = not_zero (j % 7) e in omega (arith, z)

third : (b : Bool) (r : LoadRecord) (j : ℕ) → (j % 3 == 0) ≡ b → 3 * length (records_of (cond b (Some r) None)) + (suc j + 2) % 3 ≤ 1 + (j + 2) % 3
third true r j e = let z = eqb-true (j % 3) 0 e in omega (arith, z)
third false r j e = let z = not_zero (j % 3) e in omega (arith, z)

pub few_records : (orders : ℕ) → orders ≤ 150000 → length (load_records orders) ≤ 221431
few_records orders h =
    let customers = orders / 10 + 1 in
    let all_orders = counted Orders customers 1 (λ j. 0) (λ j. omega arith) 0 orders in
    let all_customers = counted Customers customers 1 (λ j. 0) (λ j. omega arith) 0 customers in
    let raises = counted Raises customers 5 (λ j. (j + 4) % 5) (λ j. fifth (j % 5 == 0) _ j refl) 0 orders in
    let deletions = counted Deletions customers 7 (λ j. (j + 6) % 7) (λ j. seventh (j % 7 == 0) (Deletion j) j refl) 0 orders in
    let moves = counted Moves customers 3 (λ j. (j + 2) % 3) (λ j. third (j % 3 == 0) _ j refl) 0 customers in
    let a = section_records Orders customers 0 orders in
    let b = section_records Customers customers 0 customers in
    let c = section_records Raises customers 0 orders in
    let d = section_records Deletions customers 0 orders in
    let e = section_records Moves customers 0 customers in
    omega (arith, all_orders, all_customers, raises, deletions, moves, length-append (((a ++ b) ++ c) ++ d) e, length-append ((a ++ b) ++ c) d, length-append (a ++ b) c, length-append a b)
