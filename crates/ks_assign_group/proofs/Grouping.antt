-- The clients of a group meet what the assignor asks of them.
use Rattle.std.proofs.Common.{◌≡◌, ◌⊎◌, ◌≤◌, ◌<◌, ◌/◌, ◌||◌, ◌++◌, ◌==◌, ℕ, zero, suc, not, Bool, true, false, cond, nat_le, nat_lt, List, [], ◌∷◌, length, inl, inr, refl, sym, ap, subst, ◌∙◌, arith}
use Rattle.std.specs.List.{list_all, list_any}
use Rattle.std.proofs.lemmas.Bool.Decides.{eqb_tells, nat_tests}
use Rattle.ks_assign.specs.declared.clients.Client.{Client}
use Rattle.ks_assign.specs.Placement.{AreClients, employs, has_worker, has_instance, home, workers_apart, instances_apart}
use Rattle.ks_assign.proofs.Homes.{and_left, and_right, and_both, false_not_true, all_has}
use Rattle.ks_assign.proofs.Even.{all_from, true_le}
use Rattle.ks_assign_group.specs.Groups.{is_at, workers_at, client_of, clients_below}

-- ---- tests
pub or_cases : (a b : Bool) → (a || b) ≡ true → (a ≡ true) ⊎ (b ≡ true)
or_cases true b h = inl refl
or_cases false b h = inr h

or_none : (a b : Bool) → a ≡ false → b ≡ false → (a || b) ≡ false
or_none true b h k = absurd (false_not_true (sym h))
or_none false b h k = k

pub is_not : (a : Bool) → (a ≡ true → ⊥) → a ≡ false
is_not true h = absurd (h refl)
is_not false h = refl

pub equal_is : (a b : ℕ) → (a == b) ≡ true → a ≡ b
equal_is a b h = elim (eqb_tells a b) [ inl e ↦ e.1 | inr e ↦ absurd (false_not_true (sym e.0 ∙ h)) ]

pub any_append : {X : Type 0} (p : X → Bool) (xs ys : List X) → list_any p (xs ++ ys) ≡ (list_any p xs || list_any p ys)
any_append p [] ys = refl
any_append p (x ∷ xs) ys = elim (p x) as (λ b. (b || list_any p (xs ++ ys)) ≡ ((b || list_any p xs) || list_any p ys)) [ true ↦ refl | false ↦ any_append p xs ys ]

all_append : {X : Type 0} (p : X → Bool) (xs ys : List X) → list_all p xs ≡ true → list_all p ys ≡ true → list_all p (xs ++ ys) ≡ true
all_append p [] ys a b = b
all_append p (x ∷ xs) ys a b = and_both (p x) (list_all p (xs ++ ys)) (and_left (p x) (list_all p xs) a) (all_append p xs ys (and_right (p x) (list_all p xs) a) b)

-- ---- one instance
-- the workers of an instance are at it
workers_hold : (threads n : ℕ) (members : List ℕ) (w : ℕ) → has_worker w (workers_at threads n members) ≡ true → is_at threads n w ≡ true
workers_hold threads n [] w h = absurd (false_not_true h)
workers_hold threads n (v ∷ members) w h =
    elim (is_at threads n v) as (λ b. is_at threads n v ≡ b → has_worker w (cond b (v ∷ workers_at threads n members) (workers_at threads n members)) ≡ true → is_at threads n w ≡ true) [
      | true ↦ λ at some. elim (eqb_tells v w) [
        | inl e ↦ subst (λ x. is_at threads n x ≡ true) e.1 at
        | inr e ↦ workers_hold threads n members w (subst (λ b. (b || has_worker w (workers_at threads n members)) ≡ true) e.0 some)
      ]
      | false ↦ λ _ some. workers_hold threads n members w some
    ] refl h

client_employs : (n : ℕ) (ws : List ℕ) (w : ℕ) → employs w (client_of n ws) ≡ true → has_worker w ws ≡ true
client_employs n [] w h = absurd (false_not_true h)
client_employs n (v ∷ vs) w h = elim (or_cases (has_worker w (v ∷ vs)) false h) [ inl e ↦ e | inr e ↦ absurd (false_not_true e) ]

client_instance : (n : ℕ) (ws : List ℕ) (i : ℕ) → has_instance i (client_of n ws) ≡ true → n ≡ i
client_instance n [] i h = absurd (false_not_true h)
client_instance n (v ∷ vs) i h = elim (or_cases (n == i) false h) [ inl e ↦ equal_is n i e | inr e ↦ absurd (false_not_true e) ]

positive : (n : ℕ) → nat_lt 0 (suc n) ≡ true
positive n = grind (arith, nat_tests)

client_manned : (n : ℕ) (ws : List ℕ) → list_all (λ c. nat_lt 0 (length c.workers)) (client_of n ws) ≡ true
client_manned n [] = refl
client_manned n (v ∷ vs) = and_both (nat_lt 0 (suc (length vs))) true (positive (length vs)) refl

client_apart : (n : ℕ) (ws : List ℕ) → workers_apart (client_of n ws) ≡ true
client_apart n [] = refl
client_apart n (v ∷ vs) = and_both (list_all (λ w. not (employs w [])) (v ∷ vs)) true (all_from (λ w. not (employs w [])) (v ∷ vs) (λ w h. refl)) refl

client_alone : (n : ℕ) (ws : List ℕ) → instances_apart (client_of n ws) ≡ true
client_alone n [] = refl
client_alone n (v ∷ vs) = refl

-- ---- all instances
-- a client's worker is one of an instance below, and of the workers 0 to 16
pub employed_in : (n threads : ℕ) (members : List ℕ) (w : ℕ) → employs w (clients_below n threads members) ≡ true → ((w / threads) < n) × (w ≤ 16)
employed_in zero threads members w h = absurd (false_not_true h)
employed_in (suc n) threads members w h =
    let cs : List Client = clients_below n threads members in
    let ws : List ℕ = workers_at threads n members in
    elim (or_cases (employs w cs) (employs w (client_of n ws)) (sym (any_append (λ c. has_worker w c.workers) cs (client_of n ws)) ∙ h)) [
      | inl e ↦ let b = employed_in n threads members w e in (omega (arith, b.0), b.1)
      | inr e ↦
          let at : is_at threads n w ≡ true = workers_hold threads n members w (client_employs n ws w e) in
          let same : (w / threads) ≡ n = equal_is (w / threads) n (and_right (nat_le w 16) ((w / threads) == n) at) in
          (omega (arith, same), true_le w 16 (and_left (nat_le w 16) ((w / threads) == n) at))
    ]

instance_in : (n threads : ℕ) (members : List ℕ) (i : ℕ) → has_instance i (clients_below n threads members) ≡ true → i < n
instance_in zero threads members i h = absurd (false_not_true h)
instance_in (suc n) threads members i h =
    let cs : List Client = clients_below n threads members in
    let ws : List ℕ = workers_at threads n members in
    elim (or_cases (has_instance i cs) (has_instance i (client_of n ws)) (sym (any_append (λ c. c.instance == i) cs (client_of n ws)) ∙ h)) [
      | inl e ↦ let b = instance_in n threads members i e in omega (arith, b)
      | inr e ↦ let same : n ≡ i = client_instance n ws i e in omega (arith, same)
    ]

free_append : (xs ys : List Client) (ws : List ℕ) → list_all (λ w. not (employs w xs)) ws ≡ true → ((w : ℕ) → has_worker w ws ≡ true → employs w ys ≡ false) → list_all (λ w. not (employs w (xs ++ ys))) ws ≡ true
free_append xs ys ws free none = all_from (λ w. not (employs w (xs ++ ys))) ws one
  where
    not_is : (b : Bool) → not b ≡ true → b ≡ false
    not_is true h = absurd (false_not_true h)
    not_is false h = refl

    one : (w : ℕ) → has_worker w ws ≡ true → not (employs w (xs ++ ys)) ≡ true
    one w h = ap not (any_append (λ c. has_worker w c.workers) xs ys ∙ or_none (employs w xs) (employs w ys) (not_is (employs w xs) (all_has (λ v. not (employs v xs)) ws w free h)) (none w h))

workers_append : (xs ys : List Client) → workers_apart xs ≡ true → workers_apart ys ≡ true → ((w : ℕ) → employs w xs ≡ true → employs w ys ≡ false) → workers_apart (xs ++ ys) ≡ true
workers_append [] ys a b none = b
workers_append (x ∷ xs) ys a b none =
    and_both (list_all (λ w. not (employs w (xs ++ ys))) x.workers) (workers_apart (xs ++ ys))
    (free_append xs ys x.workers (and_left (list_all (λ w. not (employs w xs)) x.workers) (workers_apart xs) a) (λ w h. none w (ap (λ b. b || employs w xs) h)))
    (workers_append xs ys (and_right (list_all (λ w. not (employs w xs)) x.workers) (workers_apart xs) a) b (λ w h. none w (later w h)))
  where
    later : (w : ℕ) → employs w xs ≡ true → employs w (x ∷ xs) ≡ true
    later w h = elim (has_worker w x.workers) as (λ c. (c || employs w xs) ≡ true) [ true ↦ refl | false ↦ h ]

instances_append : (xs ys : List Client) → instances_apart xs ≡ true → instances_apart ys ≡ true → ((i : ℕ) → has_instance i xs ≡ true → has_instance i ys ≡ false) → instances_apart (xs ++ ys) ≡ true
instances_append [] ys a b none = b
instances_append (x ∷ xs) ys a b none =
    and_both (not (has_instance x.instance (xs ++ ys))) (instances_apart (xs ++ ys))
    (ap not (any_append (λ c. c.instance == x.instance) xs ys ∙ or_none (has_instance x.instance xs) (has_instance x.instance ys) (not_is (has_instance x.instance xs) (and_left (not (has_instance x.instance xs)) (instances_apart xs) a)) (none x.instance here)))
    (instances_append xs ys (and_right (not (has_instance x.instance xs)) (instances_apart xs) a) b (λ i h. none i (later i h)))
  where
    not_is : (b : Bool) → not b ≡ true → b ≡ false
    not_is true h = absurd (false_not_true h)
    not_is false h = refl

    here : has_instance x.instance (x ∷ xs) ≡ true
    here = elim (eqb_tells x.instance x.instance) [ inl e ↦ ap (λ b. b || has_instance x.instance xs) e.0 | inr e ↦ absurd (e.1 refl) ]

    later : (i : ℕ) → has_instance i xs ≡ true → has_instance i (x ∷ xs) ≡ true
    later i h = elim (x.instance == i) as (λ c. (c || has_instance i xs) ≡ true) [ true ↦ refl | false ↦ h ]

below_manned : (n threads : ℕ) (members : List ℕ) → list_all (λ c. nat_lt 0 (length c.workers)) (clients_below n threads members) ≡ true
below_manned zero threads members = refl
below_manned (suc n) threads members = all_append (λ c. nat_lt 0 (length c.workers)) (clients_below n threads members) (client_of n (workers_at threads n members)) (below_manned n threads members) (client_manned n (workers_at threads n members))

below_apart : (n threads : ℕ) (members : List ℕ) → workers_apart (clients_below n threads members) ≡ true
below_apart zero threads members = refl
below_apart (suc n) threads members = workers_append (clients_below n threads members) (client_of n (workers_at threads n members)) (below_apart n threads members) (client_apart n (workers_at threads n members)) none
  where
    none : (w : ℕ) → employs w (clients_below n threads members) ≡ true → employs w (client_of n (workers_at threads n members)) ≡ false
    none w h = is_not _ (λ k.
        let before = employed_in n threads members w h in
        let at : is_at threads n w ≡ true = workers_hold threads n members w (client_employs n (workers_at threads n members) w k) in
        let same : (w / threads) ≡ n = equal_is (w / threads) n (and_right (nat_le w 16) ((w / threads) == n) at) in
        absurd (omega (arith, before.0, same)))

below_alone : (n threads : ℕ) (members : List ℕ) → instances_apart (clients_below n threads members) ≡ true
below_alone zero threads members = refl
below_alone (suc n) threads members = instances_append (clients_below n threads members) (client_of n (workers_at threads n members)) (below_alone n threads members) (client_alone n (workers_at threads n members)) none
  where
    none : (i : ℕ) → has_instance i (clients_below n threads members) ≡ true → has_instance i (client_of n (workers_at threads n members)) ≡ false
    none i h = is_not _ (λ k.
        let before = instance_in n threads members i h in
        let same : n ≡ i = client_instance n (workers_at threads n members) i k in
        absurd (omega (arith, before, same)))

pub are_clients : (threads : ℕ) (members : List ℕ) → 0 < length (clients_below 17 threads members) → AreClients (clients_below 17 threads members)
are_clients threads members some = record {
  some = some;
  manned = below_manned 17 threads members;
  workers = below_apart 17 threads members;
  instances = below_alone 17 threads members;
}

-- a worker whose home is a client is employed
pub home_employs : (cs : List Client) (w : ℕ) → nat_lt (home cs w) 256 ≡ true → employs w cs ≡ true
home_employs [] w h = absurd (false_not_true h)
home_employs (c ∷ cs) w h = by (has_worker w c.workers) refl h (home_employs cs w)
  where
    by : (b : Bool) → has_worker w c.workers ≡ b → nat_lt (cond b c.instance (home cs w)) 256 ≡ true → (nat_lt (home cs w) 256 ≡ true → employs w cs ≡ true) → (has_worker w c.workers || employs w cs) ≡ true
    by true e k later = ap (λ b. b || employs w cs) e
    by false e k later = ap (λ b. b || employs w cs) e ∙ later k
