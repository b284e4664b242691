-- What is at a pair of a shelf.
use Rattle.std.proofs.Common.{◌≡◌, ℕ, zero, suc, ◌+◌, ◌≤◌, ◌<◌, ◌&&◌, Bool, true, false, cond, List, [], ◌∷◌, ◌++◌, length, set, get_or, refl, sym, ap, ap₂, subst, ◌∙◌, arith}
use Rattle.std.specs.Prelude.{◌==◌, Option, None}
use Rattle.std.proofs.lemmas.Bool.{and_parts, and_from, eqb-true, eq-eqb}
use Rattle.ks_record.specs.declared.record.TaskId.{TaskId}
use Rattle.ks_record.specs.Parts.{same_task}
use Rattle.ks_history.proofs.Names.{same_task-is, same_task-refl}
use Rattle.ks_law_exactly_once.proofs.Commits.{eqb_sym}
use Rattle.ks_standby.specs.declared.replica.Replica.{Replica}
use Rattle.ks_standby.specs.declared.parked.Place.{Place}
use Rattle.ks_standby.specs.Shelf.{is_here, parked_in, place_in, placed, put_in}

module _ (instance : ℕ) (t : TaskId) where
  pub there_gives : (xs : List Place) (x : Place) (i : ℕ) → i ≡ place_in instance t xs → i < length xs → x ≡ get_or xs i x → x.replica ≡ parked_in instance t xs
  there_gives [] x i e lt read = absurd (omega (arith, lt))
  there_gives (y ∷ ys) x i e lt read = by (is_here instance t y) i e lt read (λ j f l r. there_gives ys x j f l r)
    where
      by : (b : Bool) (i : ℕ) → i ≡ cond b 0 (place_in instance t ys + 1) → i < length (y ∷ ys) → x ≡ get_or (y ∷ ys) i x → ((j : ℕ) → j ≡ place_in instance t ys → j < length ys → x ≡ get_or ys j x → x.replica ≡ parked_in instance t ys)
          → x.replica ≡ cond b y.replica (parked_in instance t ys)
      by true zero e lt read on = ap (λ (z : Place). z.replica) read
      by true (suc i) e lt read on = absurd (omega (arith, e))
      by false zero e lt read on = absurd (omega (arith, e))
      by false (suc i) e lt read on = on i (omega (arith, e)) (omega (arith, lt)) read

  pub there_placed : (o : Option Replica) (xs : List Place) (x y : Place) (i : ℕ) → i ≡ place_in instance t xs → i < length xs → x ≡ get_or xs i x → y ≡ record x { replica = o } → set xs i y ≡ placed instance t o xs
  there_placed o [] x y i e lt read made = absurd (omega (arith, lt))
  there_placed o (z ∷ zs) x y i e lt read made = by (is_here instance t z) i e lt read (λ j f l r. there_placed o zs x y j f l r made)
    where
      by : (b : Bool) (i : ℕ) → i ≡ cond b 0 (place_in instance t zs + 1) → i < length (z ∷ zs) → x ≡ get_or (z ∷ zs) i x → ((j : ℕ) → j ≡ place_in instance t zs → j < length zs → x ≡ get_or zs j x → set zs j y ≡ placed instance t o zs)
          → set (z ∷ zs) i y ≡ cond b (record z { replica = o } ∷ zs) (z ∷ placed instance t o zs)
      by true zero e lt read on = ap (λ (v : Place). v ∷ zs) (made ∙ ap (λ (v : Place). record v { replica = o }) read)
      by true (suc i) e lt read on = absurd (omega (arith, e))
      by false zero e lt read on = absurd (omega (arith, e))
      by false (suc i) e lt read on = ap (λ l. z ∷ l) (on i (omega (arith, e)) (omega (arith, lt)) read)

  pub none_there : (xs : List Place) → length xs ≤ place_in instance t xs → (None ≡ parked_in instance t xs) × ((o : Option Replica) → xs ≡ placed instance t o xs) × ((o : Option Replica) → xs ++ record { instance = instance; task = t; replica = o } ∷ [] ≡ put_in instance t o xs)
  none_there [] h = (refl, λ o. refl, λ o. refl)
  none_there (y ∷ ys) h = by (is_here instance t y) h (λ k. none_there ys k)
    where
      by : (b : Bool) → length (y ∷ ys) ≤ cond b 0 (place_in instance t ys + 1)
          → (length ys ≤ place_in instance t ys → (None ≡ parked_in instance t ys) × ((o : Option Replica) → ys ≡ placed instance t o ys) × ((o : Option Replica) → ys ++ record { instance = instance; task = t; replica = o } ∷ [] ≡ put_in instance t o ys))
          → (None ≡ cond b y.replica (parked_in instance t ys)) × ((o : Option Replica) → y ∷ ys ≡ cond b (record y { replica = o } ∷ ys) (y ∷ placed instance t o ys)) × ((o : Option Replica) → y ∷ (ys ++ record { instance = instance; task = t; replica = o } ∷ []) ≡ cond b (record y { replica = o } ∷ ys) (y ∷ put_in instance t o ys))
      by true h on = absurd (omega (arith, h))
      by false h on = let more = on (omega (arith, h)) in (more.0, (λ o. ap (λ l. y ∷ l) (more.1 o)), (λ o. ap (λ l. y ∷ l) (more.2 o)))

  pub placed_put : (o : Option Replica) (xs : List Place) → place_in instance t xs < length xs → placed instance t o xs ≡ put_in instance t o xs
  placed_put o [] h = absurd (omega (arith, h))
  placed_put o (y ∷ ys) h = by (is_here instance t y) h (λ k. placed_put o ys k)
    where
      by : (b : Bool) → cond b 0 (place_in instance t ys + 1) < length (y ∷ ys) → (place_in instance t ys < length ys → placed instance t o ys ≡ put_in instance t o ys) → cond b (record y { replica = o } ∷ ys) (y ∷ placed instance t o ys) ≡ cond b (record y { replica = o } ∷ ys) (y ∷ put_in instance t o ys)
      by true h on = refl
      by false h on = ap (λ l. y ∷ l) (on (omega (arith, h)))

-- ---- a finite map
same_sym : (t u : TaskId) → same_task t u ≡ same_task u t
same_sym t u = ap₂ (λ a b. a && b) (eqb_sym t.sub u.sub) (eqb_sym t.part u.part)

-- a place of one pair is one of another exactly where the pairs are the same
same_place : (i j : ℕ) (t u : TaskId) (x : Place) → is_here i t x ≡ true → is_here j u x ≡ (i == j) && same_task t u
same_place i j t u x h =
    let parts = and_parts (i == x.instance) (same_task t x.task) h in
    ap₂ (λ a b. a && b)
    (ap (λ n. j == n) (sym (eqb-true i x.instance parts.0)) ∙ eqb_sym j i)
    (ap (λ v. same_task u v) (sym (same_task-is t x.task parts.1)) ∙ same_sym u t)

other_place : (i j : ℕ) (t u : TaskId) (x : Place) → is_here j u x ≡ true → is_here i t x ≡ false → (i == j) && same_task t u ≡ false
other_place i j t u x h none = ap₂ (λ a b. a && b) (eqb_sym i j) (same_sym t u) ∙ sym (same_place j i u t x h) ∙ none

module _ (i j : ℕ) (t u : TaskId) (o : Option Replica) where
  one_place : (x : Place) (a b : Bool) (new old : Option Replica) → is_here j u x ≡ a → is_here i t x ≡ b → new ≡ cond ((i == j) && same_task t u) o old →
      cond b (cond a o x.replica) (cond a old new) ≡ cond ((i == j) && same_task t u) o (cond b x.replica old)
  one_place x true true new old here mine e = ap (λ c. cond c o x.replica) (sym here ∙ same_place i j t u x mine) ∙ sym (flat _ refl)
    where
      flat : (c : Bool) → (i == j) && same_task t u ≡ c → cond ((i == j) && same_task t u) o x.replica ≡ cond ((i == j) && same_task t u) o x.replica
      flat c is = refl
  one_place x true false new old here mine e = sym (ap (λ c. cond c o old) (other_place i j t u x here mine))
  one_place x false true new old here mine e = sym (ap (λ c. cond c o x.replica) (sym (same_place i j t u x mine) ∙ here))
  one_place x false false new old here mine e = e

  pub after_put : (xs : List Place) → parked_in i t (put_in j u o xs) ≡ cond ((i == j) && same_task t u) o (parked_in i t xs)
  after_put [] = refl
  after_put (x ∷ xs) = by (is_here j u x) refl ∙ one_place x (is_here j u x) (is_here i t x) (parked_in i t (put_in j u o xs)) (parked_in i t xs) refl refl (after_put xs)
    where
      by : (a : Bool) → is_here j u x ≡ a → parked_in i t (cond a (record x { replica = o } ∷ xs) (x ∷ put_in j u o xs)) ≡ cond (is_here i t x) (cond a o x.replica) (cond a (parked_in i t xs) (parked_in i t (put_in j u o xs)))
      by true is = refl
      by false is = refl

pub after_take : (i j : ℕ) (t u : TaskId) (xs : List Place) → parked_in i t (placed j u None xs) ≡ cond ((i == j) && same_task t u) None (parked_in i t xs)
after_take i j t u [] = flat ((i == j) && same_task t u)
  where
    flat : (c : Bool) → None ≡ cond {A = Option Replica} c None None
    flat true = refl
    flat false = refl
after_take i j t u (x ∷ xs) = by (is_here j u x) refl (parked_in i t (placed j u None xs)) refl ∙ one_place i j t u None x (is_here j u x) (is_here i t x) (parked_in i t (placed j u None xs)) (parked_in i t xs) refl refl (after_take i j t u xs)
  where
    by : (a : Bool) → is_here j u x ≡ a → (rest : Option Replica) → parked_in i t (placed j u None xs) ≡ rest → parked_in i t (cond a (record x { replica = None } ∷ xs) (x ∷ placed j u None xs)) ≡ cond (is_here i t x) (cond a None x.replica) (cond a (parked_in i t xs) rest)
    by true is rest e = refl
    by false is rest e = ap (λ r. cond (is_here i t x) x.replica r) e

-- a new empty place
pub place_new : (i j : ℕ) (t u : TaskId) (xs : List Place) → parked_in i t (xs ++ record { instance = j; task = u; replica = None } ∷ []) ≡ parked_in i t xs
place_new i j t u [] = flat (is_here i t (record { instance = j; task = u; replica = None }))
  where
    flat : (c : Bool) → cond {A = Option Replica} c None None ≡ None
    flat true = refl
    flat false = refl
place_new i j t u (x ∷ xs) = ap (λ r. cond (is_here i t x) x.replica r) (place_new i j t u xs)

pub has_new : (i : ℕ) (t : TaskId) (xs : List Place) → place_in i t (xs ++ record { instance = i; task = t; replica = None } ∷ []) < length (xs ++ record { instance = i; task = t; replica = None } ∷ [])
has_new i t [] = subst (λ c. cond c 0 1 < 1) (sym (and_from (i == i) (same_task t t) (eq-eqb i i refl) (same_task-refl t))) (omega arith)
has_new i t (x ∷ xs) = by (is_here i t x) (has_new i t xs)
  where
    by : (b : Bool) → place_in i t (xs ++ record { instance = i; task = t; replica = None } ∷ []) < length (xs ++ record { instance = i; task = t; replica = None } ∷ [])
        → cond b 0 (place_in i t (xs ++ record { instance = i; task = t; replica = None } ∷ []) + 1) < length (x ∷ (xs ++ record { instance = i; task = t; replica = None } ∷ []))
    by true h = omega arith
    by false h = omega (arith, h)
